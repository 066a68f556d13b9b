-- What a tree means on an assignment.
use Rattle.std.specs.Prelude.{ℕ, suc, ◌/◌, ◌%◌, List, [], ◌∷◌, Option, Some, None, Bool, true, false, not, ◌&&◌, ◌||◌, ℤ, pos, ◌+ℤ◌, int_lt, int_le, nat_lt, slice_index_or, length, is_some, if◌then◌else◌}
use Rattle.std.specs.List.{list_any, list_all}
use Rattle.ms_num.specs.Numbers.{int_eq, neg_at, abs_at, add_at, sub_at, mul_at, div_at, mod_at, min_at, max_at}
use Rattle.ms_num.specs.Ranges.{is_member}
use Rattle.ms_trees.specs.declared.tree.Ground.{Ground, fold-Ground}
use Rattle.ms_trees.specs.declared.tree.Ground.TheOpen.{Ground-F, Num, Undef, Var, Add, Sub, Mul, Div, Mod, Neg, Abs, Sum, Least, Greatest, ToInt, Elem, Elem2, Count, IteI, True, False, BVar, And, Or, Not, Iff, Imp, Xor, Eq, Ne, Lt, Le, IteB, In, AllDiff, Table}

-- a number or undefined, for an integer tree; a truth value, for a Boolean one
pub record Meaning : Type 0 where
  pub number : Option ℤ
  pub truth : Bool

abbrev pub numeric_meaning : Option ℤ → Meaning
numeric_meaning o = record { number = o; truth = false }

abbrev pub boolean_meaning : Bool → Meaning
boolean_meaning b = record { number = None; truth = b }

-- ---- operations and comparisons

-- two numbers, where both are defined
abbrev pub pair : Option ℤ → Option ℤ → Option (ℤ × ℤ)
pair None n = None
pair (Some x) None = None
pair (Some x) (Some y) = Some (x, y)

abbrev pub apply : (ℤ → ℤ → Option ℤ) → Option (ℤ × ℤ) → Option ℤ
apply f None = None
apply f (Some p) = f p.0 p.1

abbrev pub passes : (ℤ → ℤ → Bool) → Option (ℤ × ℤ) → Bool
passes f None = false
passes f (Some p) = f p.0 p.1

-- an operation is undefined where a part is
abbrev pub both : (ℤ → ℤ → Option ℤ) → Option ℤ → Option ℤ → Option ℤ
both f m n = apply f (pair m n)

abbrev pub image : (ℤ → Option ℤ) → Option ℤ → Option ℤ
image f None = None
image f (Some x) = f x

-- a comparison is false where a part is undefined
abbrev pub compare : (ℤ → ℤ → Bool) → Option ℤ → Option ℤ → Bool
compare f m n = passes f (pair m n)

-- a test of a number is false where it is undefined
abbrev pub test : (ℤ → Bool) → Option ℤ → Bool
test f None = false
test f (Some x) = f x

abbrev pub int_ne : ℤ → ℤ → Bool
int_ne x y = not (int_eq x y)

abbrev pub iff : Bool → Bool → Bool
iff true b = b
iff false b = not b

abbrev pub imp : Bool → Bool → Bool
imp true b = b
imp false b = true

abbrev pub xor : Bool → Bool → Bool
xor true b = not b
xor false b = b

abbrev pub bit : Bool → ℤ
bit true = pos 1
bit false = pos 0

-- ---- lists of parts

-- the operation from the left
abbrev pub folded : (ℤ → ℤ → Option ℤ) → Option ℤ → List Meaning → Option ℤ
folded f o [] = o
folded f o (m ∷ ms) = folded f (both f o m.number) ms

-- the least or the greatest, by the operation on two numbers; an empty list has none
abbrev pub extreme : (ℤ → ℤ → Option ℤ) → List Meaning → Option ℤ
extreme f [] = None
extreme f (m ∷ ms) = folded f m.number ms

abbrev pub all_true : List Meaning → Bool
all_true [] = true
all_true (m ∷ ms) = m.truth && all_true ms

abbrev pub any_true : List Meaning → Bool
any_true [] = false
any_true (m ∷ ms) = m.truth || any_true ms

abbrev pub all_defined : List Meaning → Bool
all_defined ms = list_all (λ m. is_some m.number) ms

-- how many pass the test
abbrev pub how_many : {X : Type 0} → (X → Bool) → List X → ℕ
how_many p [] = 0
how_many p (x ∷ xs) = if p x then suc (how_many p xs) else how_many p xs

-- how many of the numbers are the one, where all are defined
abbrev pub counted : List Meaning → Option ℤ → Option ℤ
counted ms n = if all_defined ms && is_some n then Some (pos (how_many (λ m. compare int_eq m.number n) ms)) else None

-- the first is a number, and no later one is the same
abbrev pub first_differs : List Meaning → Bool
first_differs [] = true
first_differs (m ∷ ms) = is_some m.number && list_all (λ n. compare int_ne m.number n.number) ms

-- no two are the same number, and each is one
abbrev pub are_distinct : List Meaning → Bool
are_distinct [] = true
are_distinct (m ∷ ms) = first_differs (m ∷ ms) && are_distinct ms

-- the parts are the numbers of the row
abbrev pub is_row : List Meaning → List ℤ → Bool
is_row [] [] = true
is_row [] (z ∷ zs) = false
is_row (m ∷ ms) [] = false
is_row (m ∷ ms) (z ∷ zs) = test (λ x. int_eq x z) m.number && is_row ms zs

-- ---- access by index

-- the index is that of the place, where the first place has the lowest index
abbrev pub is_place : ℤ → Option ℤ → ℕ → Bool
is_place low i p = test (λ z. int_eq z (low +ℤ pos p)) i

-- the indices are those of the place, where the whole rows of w out of n places follow each other
abbrev pub is_place2 : ℤ → ℤ → ℕ → ℕ → Option ℤ → Option ℤ → ℕ → Bool
is_place2 k l w n i j p = is_place k i (p / w) && is_place l j (p % w) && nat_lt (p / w) (n / w)

-- the part at the place that passes, where the first place is p; a part at another place is not looked at
abbrev pub selected : (ℕ → Bool) → ℕ → List Meaning → Option ℤ
selected at p [] = None
selected at p (m ∷ ms) = if at p then m.number else selected at (suc p) ms

-- ---- the value

abbrev pub value_step : List ℤ → Ground-F Meaning → Meaning
value_step a (Num n) = numeric_meaning (Some n)
value_step a Undef = numeric_meaning None
value_step a (Var v) = numeric_meaning (Some (slice_index_or a v (pos 0)))
value_step a (Add x y) = numeric_meaning (both add_at x.number y.number)
value_step a (Sub x y) = numeric_meaning (both sub_at x.number y.number)
value_step a (Mul x y) = numeric_meaning (both mul_at x.number y.number)
value_step a (Div x y) = numeric_meaning (both div_at x.number y.number)
value_step a (Mod x y) = numeric_meaning (both mod_at x.number y.number)
value_step a (Neg x) = numeric_meaning (image neg_at x.number)
value_step a (Abs x) = numeric_meaning (image abs_at x.number)
value_step a (Sum xs) = numeric_meaning (folded add_at (Some (pos 0)) xs)
value_step a (Least xs) = numeric_meaning (extreme min_at xs)
value_step a (Greatest xs) = numeric_meaning (extreme max_at xs)
value_step a (ToInt x) = numeric_meaning (Some (bit x.truth))
value_step a (Elem low xs i) = numeric_meaning (selected (is_place low i.number) 0 xs)
value_step a (Elem2 k l w xs i j) = numeric_meaning (selected (is_place2 k l w (length xs) i.number j.number) 0 xs)
value_step a (Count xs y) = numeric_meaning (counted xs y.number)
value_step a (IteI c x y) = numeric_meaning (if c.truth then x.number else y.number)
value_step a True = boolean_meaning true
value_step a False = boolean_meaning false
value_step a (BVar v) = boolean_meaning (int_eq (slice_index_or a v (pos 0)) (pos 1))
value_step a (And xs) = boolean_meaning (all_true xs)
value_step a (Or xs) = boolean_meaning (any_true xs)
value_step a (Not x) = boolean_meaning (not x.truth)
value_step a (Iff x y) = boolean_meaning (iff x.truth y.truth)
value_step a (Imp x y) = boolean_meaning (imp x.truth y.truth)
value_step a (Xor x y) = boolean_meaning (xor x.truth y.truth)
value_step a (Eq x y) = boolean_meaning (compare int_eq x.number y.number)
value_step a (Ne x y) = boolean_meaning (compare int_ne x.number y.number)
value_step a (Lt x y) = boolean_meaning (compare int_lt x.number y.number)
value_step a (Le x y) = boolean_meaning (compare int_le x.number y.number)
value_step a (IteB c x y) = boolean_meaning (if c.truth then x.truth else y.truth)
value_step a (In x rs) = boolean_meaning (test (is_member rs) x.number)
value_step a (AllDiff xs) = boolean_meaning (are_distinct xs)
value_step a (Table xs rows) = boolean_meaning (list_any (is_row xs) rows)

-- the meaning of a tree on an assignment
abbrev pub value : List ℤ → Ground → Meaning
value a = fold-Ground Meaning (value_step a)
