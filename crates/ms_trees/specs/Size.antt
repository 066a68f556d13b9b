-- How large a tree is.
use Rattle.std.specs.Prelude.{ℕ, ◌+◌, max, List, [], ◌∷◌, length, sum, sum_by}
use Rattle.ms_trees.specs.declared.tree.Ground.{Ground, fold-Ground}
use Rattle.ms_trees.specs.declared.tree.Ground.TheOpen.{Ground-F, Num, Undef, Var, Add, Sub, Mul, Div, Mod, Neg, Abs, Sum, Least, Greatest, ToInt, Elem, Elem2, Count, IteI, True, False, BVar, And, Or, Not, Iff, Imp, Xor, Eq, Ne, Lt, Le, IteB, In, AllDiff, Table}

abbrev pub size_step : Ground-F ℕ → ℕ
size_step (Num n) = 1
size_step Undef = 1
size_step (Var v) = 1
size_step (Add x y) = 1 + x + y
size_step (Sub x y) = 1 + x + y
size_step (Mul x y) = 1 + x + y
size_step (Div x y) = 1 + x + y
size_step (Mod x y) = 1 + x + y
size_step (Neg x) = 1 + x
size_step (Abs x) = 1 + x
size_step (Sum xs) = 1 + sum xs
size_step (Least xs) = 1 + sum xs
size_step (Greatest xs) = 1 + sum xs
size_step (ToInt x) = 1 + x
size_step (Elem low xs i) = 1 + sum xs + i
size_step (Elem2 k l w xs i j) = 1 + sum xs + i + j
size_step (Count xs y) = 1 + sum xs + y
size_step (IteI c x y) = 1 + c + x + y
size_step True = 1
size_step False = 1
size_step (BVar v) = 1
size_step (And xs) = 1 + sum xs
size_step (Or xs) = 1 + sum xs
size_step (Not x) = 1 + x
size_step (Iff x y) = 1 + x + y
size_step (Imp x y) = 1 + x + y
size_step (Xor x y) = 1 + x + y
size_step (Eq x y) = 1 + x + y
size_step (Ne x y) = 1 + x + y
size_step (Lt x y) = 1 + x + y
size_step (Le x y) = 1 + x + y
size_step (IteB c x y) = 1 + c + x + y
size_step (In x rs) = 1 + x + length rs
size_step (AllDiff xs) = 1 + sum xs
size_step (Table xs rows) = 1 + sum xs + sum_by length rows

-- the number of nodes, and one more for each range of a set and each number of a table
abbrev pub size_of : Ground → ℕ
size_of = fold-Ground ℕ size_step

abbrev pub deepest : List ℕ → ℕ
deepest [] = 0
deepest (n ∷ ns) = max n (deepest ns)

abbrev pub nesting_step : Ground-F ℕ → ℕ
nesting_step (Num n) = 1
nesting_step Undef = 1
nesting_step (Var v) = 1
nesting_step (Add x y) = 1 + max x y
nesting_step (Sub x y) = 1 + max x y
nesting_step (Mul x y) = 1 + max x y
nesting_step (Div x y) = 1 + max x y
nesting_step (Mod x y) = 1 + max x y
nesting_step (Neg x) = 1 + x
nesting_step (Abs x) = 1 + x
nesting_step (Sum xs) = 1 + deepest xs
nesting_step (Least xs) = 1 + deepest xs
nesting_step (Greatest xs) = 1 + deepest xs
nesting_step (ToInt x) = 1 + x
nesting_step (Elem low xs i) = 1 + max (deepest xs) (i)
nesting_step (Elem2 k l w xs i j) = 1 + max (max (deepest xs) i) (j)
nesting_step (Count xs y) = 1 + max (deepest xs) (y)
nesting_step (IteI c x y) = 1 + max (max c x) (y)
nesting_step True = 1
nesting_step False = 1
nesting_step (BVar v) = 1
nesting_step (And xs) = 1 + deepest xs
nesting_step (Or xs) = 1 + deepest xs
nesting_step (Not x) = 1 + x
nesting_step (Iff x y) = 1 + max x y
nesting_step (Imp x y) = 1 + max x y
nesting_step (Xor x y) = 1 + max x y
nesting_step (Eq x y) = 1 + max x y
nesting_step (Ne x y) = 1 + max x y
nesting_step (Lt x y) = 1 + max x y
nesting_step (Le x y) = 1 + max x y
nesting_step (IteB c x y) = 1 + max (max c x) (y)
nesting_step (In x rs) = 1 + x
nesting_step (AllDiff xs) = 1 + deepest xs
nesting_step (Table xs rows) = 1 + deepest xs

-- how many nodes stand one in another: 1 for a leaf
abbrev pub nesting_of : Ground → ℕ
nesting_of = fold-Ground ℕ nesting_step
