-- The variables that a tree names, and those of a primitive.
use Rattle.std.specs.Prelude.{ℕ, nat_eq, List, [], ◌∷◌, ◌++◌, Bool}
use Rattle.std.specs.List.{list_any}
use Rattle.ms_trees.specs.declared.tree.Ground.{Ground, fold-Ground}
use Rattle.ms_trees.specs.declared.tree.Ground.TheOpen.{Ground-F, Num, Undef, Var, Add, Sub, Mul, Div, Mod, Neg, Abs, Sum, Least, Greatest, ToInt, Elem, Elem2, Count, IteI, True, False, BVar, And, Or, Not, Iff, Imp, Xor, Eq, Ne, Lt, Le, IteB, In, AllDiff, Table}
use Rattle.ms_prim.specs.declared.pieces.Tie.{Tie}
use Rattle.ms_prim.specs.declared.pieces.Tie.TheVariants as t
use Rattle.ms_prim.specs.declared.primitive.Primitive.{Primitive}
use Rattle.ms_prim.specs.Constraints.{tree_of}

-- the lists, one after another
abbrev pub joined : List (List ℕ) → List ℕ
joined [] = []
joined (x ∷ xs) = x ++ joined xs

abbrev pub variables_step : Ground-F (List ℕ) → List ℕ
variables_step (Num n) = []
variables_step Undef = []
variables_step (Var v) = v ∷ []
variables_step (Add x y) = x ++ y
variables_step (Sub x y) = x ++ y
variables_step (Mul x y) = x ++ y
variables_step (Div x y) = x ++ y
variables_step (Mod x y) = x ++ y
variables_step (Neg x) = x
variables_step (Abs x) = x
variables_step (Sum xs) = joined xs
variables_step (Least xs) = joined xs
variables_step (Greatest xs) = joined xs
variables_step (ToInt x) = x
variables_step (Elem low xs i) = joined xs ++ i
variables_step (Elem2 k l w xs i j) = joined xs ++ i ++ j
variables_step (Count xs y) = joined xs ++ y
variables_step (IteI c x y) = c ++ x ++ y
variables_step True = []
variables_step False = []
variables_step (BVar v) = v ∷ []
variables_step (And xs) = joined xs
variables_step (Or xs) = joined xs
variables_step (Not x) = x
variables_step (Iff x y) = x ++ y
variables_step (Imp x y) = x ++ y
variables_step (Xor x y) = x ++ y
variables_step (Eq x y) = x ++ y
variables_step (Ne x y) = x ++ y
variables_step (Lt x y) = x ++ y
variables_step (Le x y) = x ++ y
variables_step (IteB c x y) = c ++ x ++ y
variables_step (In x set) = x
variables_step (AllDiff xs) = joined xs
variables_step (Table xs rows) = joined xs

-- the variables of a tree, in the order of its leaves
abbrev pub variables : Ground → List ℕ
variables = fold-Ground (List ℕ) variables_step

-- the truth variable of a tie
abbrev pub tied : Tie → List ℕ
tied t.Holds = []
tied (t.Iff v) = v ∷ []

-- the variables that a primitive names
abbrev pub names_of : Primitive → List ℕ
names_of p = variables (tree_of p)

abbrev pub is_named : Primitive → ℕ → Bool
is_named p v = list_any (λ w. nat_eq w v) (names_of p)
