-- Reading is what is asked, on trees that are fit.
use Rattle.std.proofs.Common.{◌≡◌, refl, ap, sym, ◌∙◌, Bool, true, Some, List, [], ◌∷◌, map}
use Rattle.std.specs.Prelude.{ℤ, if◌then◌else◌}
use Rattle.std.specs.List.{list_all}
use Rattle.std.proofs.lemmas.Bool.{false≢true}
use Rattle.ms_num.specs.Span.{Span, is_within, if_within}
use Rattle.ms_trees.specs.Value.{Meaning, value, value_step}
use Rattle.ms_trees.specs.Enclosure.{enclosure}
use Rattle.ms_trees.specs.WellFormed.{is_well_formed, is_numeric, numeric_layer}
use Rattle.ms_trees.specs.declared.tree.Ground.{Ground, map-Ground, out-Ground, fold_out-Ground}
use Rattle.ms_trees.specs.declared.tree.Ground.TheOpen.{Ground-F, Num, Undef, True, False, Var, Add, Sub, Mul, Div, Mod, Neg, Abs, Sum, Least, Greatest, ToInt, Elem, Elem2, Count, IteI, BVar, And, Or, Not, Iff, Imp, Xor, Eq, Ne, Lt, Le, IteB, In, AllDiff, Table}
use Rattle.ms_trees.proofs.Bools.{ap2, and_left, and_right}
use Rattle.ms_values.specs.declared.operand.Operand.{Operand}
use Rattle.ms_values.specs.declared.operand.Operand.TheVariants as x
use Rattle.ms_ground.specs.Known.{known}
use Rattle.ms_rules.specs.Operands as o
use Rattle.ms_placing.specs.Values as v
use Rattle.ms_exchange.specs.Fit.{is_leaf, leaf_layer}
use Rattle.ms_exchange.specs.Read as r

-- ---- leaves

pub number_within : (z : ℤ) → is_within z ≡ true → if_within z ≡ Some z
number_within z h = rw h refl

-- what a leaf is read as
abbrev leaf : Bool → Meaning → Operand
leaf n m = if n then x.Number m.number else x.Truth m.truth

abbrev leaf_of : Ground-F Ground → Operand
leaf_of d = leaf (numeric_layer (map-Ground Ground Bool is_numeric d)) (value_step [] (map-Ground Ground Meaning (value []) d))

number_leaf : (d : Ground-F Ground) → leaf_layer d ≡ true → r.number_layer d ≡ o.number_of (leaf_of d)
number_leaf (Num n) h = number_within n h
number_leaf Undef h = refl
number_leaf True h = refl
number_leaf False h = refl
number_leaf (Var v) h = absurd (false≢true h)
number_leaf (Add x y) h = absurd (false≢true h)
number_leaf (Sub x y) h = absurd (false≢true h)
number_leaf (Mul x y) h = absurd (false≢true h)
number_leaf (Div x y) h = absurd (false≢true h)
number_leaf (Mod x y) h = absurd (false≢true h)
number_leaf (Neg x) h = absurd (false≢true h)
number_leaf (Abs x) h = absurd (false≢true h)
number_leaf (Sum xs) h = absurd (false≢true h)
number_leaf (Least xs) h = absurd (false≢true h)
number_leaf (Greatest xs) h = absurd (false≢true h)
number_leaf (ToInt x) h = absurd (false≢true h)
number_leaf (Elem low xs i) h = absurd (false≢true h)
number_leaf (Elem2 k l w xs i j) h = absurd (false≢true h)
number_leaf (Count xs y) h = absurd (false≢true h)
number_leaf (IteI c x y) h = absurd (false≢true h)
number_leaf (BVar v) h = absurd (false≢true h)
number_leaf (And xs) h = absurd (false≢true h)
number_leaf (Or xs) h = absurd (false≢true h)
number_leaf (Not x) h = absurd (false≢true h)
number_leaf (Iff x y) h = absurd (false≢true h)
number_leaf (Imp x y) h = absurd (false≢true h)
number_leaf (Xor x y) h = absurd (false≢true h)
number_leaf (Eq x y) h = absurd (false≢true h)
number_leaf (Ne x y) h = absurd (false≢true h)
number_leaf (Lt x y) h = absurd (false≢true h)
number_leaf (Le x y) h = absurd (false≢true h)
number_leaf (IteB c x y) h = absurd (false≢true h)
number_leaf (In x rs) h = absurd (false≢true h)
number_leaf (AllDiff xs) h = absurd (false≢true h)
number_leaf (Table xs rows) h = absurd (false≢true h)

truth_leaf : (d : Ground-F Ground) → leaf_layer d ≡ true → r.truth_layer d ≡ o.truth_of (leaf_of d)
truth_leaf (Num n) h = refl
truth_leaf Undef h = refl
truth_leaf True h = refl
truth_leaf False h = refl
truth_leaf (Var v) h = absurd (false≢true h)
truth_leaf (Add x y) h = absurd (false≢true h)
truth_leaf (Sub x y) h = absurd (false≢true h)
truth_leaf (Mul x y) h = absurd (false≢true h)
truth_leaf (Div x y) h = absurd (false≢true h)
truth_leaf (Mod x y) h = absurd (false≢true h)
truth_leaf (Neg x) h = absurd (false≢true h)
truth_leaf (Abs x) h = absurd (false≢true h)
truth_leaf (Sum xs) h = absurd (false≢true h)
truth_leaf (Least xs) h = absurd (false≢true h)
truth_leaf (Greatest xs) h = absurd (false≢true h)
truth_leaf (ToInt x) h = absurd (false≢true h)
truth_leaf (Elem low xs i) h = absurd (false≢true h)
truth_leaf (Elem2 k l w xs i j) h = absurd (false≢true h)
truth_leaf (Count xs y) h = absurd (false≢true h)
truth_leaf (IteI c x y) h = absurd (false≢true h)
truth_leaf (BVar v) h = absurd (false≢true h)
truth_leaf (And xs) h = absurd (false≢true h)
truth_leaf (Or xs) h = absurd (false≢true h)
truth_leaf (Not x) h = absurd (false≢true h)
truth_leaf (Iff x y) h = absurd (false≢true h)
truth_leaf (Imp x y) h = absurd (false≢true h)
truth_leaf (Xor x y) h = absurd (false≢true h)
truth_leaf (Eq x y) h = absurd (false≢true h)
truth_leaf (Ne x y) h = absurd (false≢true h)
truth_leaf (Lt x y) h = absurd (false≢true h)
truth_leaf (Le x y) h = absurd (false≢true h)
truth_leaf (IteB c x y) h = absurd (false≢true h)
truth_leaf (In x rs) h = absurd (false≢true h)
truth_leaf (AllDiff xs) h = absurd (false≢true h)
truth_leaf (Table xs rows) h = absurd (false≢true h)

leaf_out : (t : Ground) → v.leaf_in t ≡ leaf_of (out-Ground t)
leaf_out t = ap2 leaf (fold_out-Ground Bool numeric_layer t) (fold_out-Ground Meaning (value_step []) t)

number_is : (t : Ground) → is_leaf t ≡ true → r.number_read t ≡ o.number_of (v.leaf_in t)
number_is t h = number_leaf (out-Ground t) h ∙ ap o.number_of (sym (leaf_out t))

truth_is : (t : Ground) → is_leaf t ≡ true → r.truth_read t ≡ o.truth_of (v.leaf_in t)
truth_is t h = truth_leaf (out-Ground t) h ∙ ap o.truth_of (sym (leaf_out t))

-- ---- trees

pub tree_is : (sets : List Span) (t : Ground) → is_well_formed sets t ≡ true → r.tree_read sets t ≡ v.tree_in sets t
tree_is sets t h = ap (λ k. r.tree_known t (known k (enclosure sets t))) h

-- ---- lists

map_on : {X : Type 0} (p : Ground → Bool) (f g : Ground → X) → ((t : Ground) → p t ≡ true → f t ≡ g t) → (ts : List Ground) → list_all p ts ≡ true → map f ts ≡ map g ts
map_on p f g k [] h = refl
map_on p f g k (t ∷ ts) h = ap2 (λ y ys. y ∷ ys) (k t (and_left (p t) (list_all p ts) h)) (map_on p f g k ts (and_right (p t) (list_all p ts) h))

pub numbers_are : (ts : List Ground) → list_all is_leaf ts ≡ true → map r.number_read ts ≡ map (λ t. o.number_of (v.leaf_in t)) ts
numbers_are = map_on is_leaf r.number_read (λ t. o.number_of (v.leaf_in t)) number_is

pub truths_are : (ts : List Ground) → list_all is_leaf ts ≡ true → map r.truth_read ts ≡ map (λ t. o.truth_of (v.leaf_in t)) ts
truths_are = map_on is_leaf r.truth_read (λ t. o.truth_of (v.leaf_in t)) truth_is

pub integers_are : (sets : List Span) (ts : List Ground) → list_all (is_well_formed sets) ts ≡ true
    → map (λ t. o.integer_of (r.tree_read sets t)) ts ≡ map (λ t. o.integer_of (v.tree_in sets t)) ts
integers_are sets = map_on (is_well_formed sets) (λ t. o.integer_of (r.tree_read sets t)) (λ t. o.integer_of (v.tree_in sets t)) (λ t h. ap o.integer_of (tree_is sets t h))

pub conditions_are : (sets : List Span) (ts : List Ground) → list_all (is_well_formed sets) ts ≡ true
    → map (λ t. o.condition_of (r.tree_read sets t)) ts ≡ map (λ t. o.condition_of (v.tree_in sets t)) ts
conditions_are sets = map_on (is_well_formed sets) (λ t. o.condition_of (r.tree_read sets t)) (λ t. o.condition_of (v.tree_in sets t)) (λ t h. ap o.condition_of (tree_is sets t h))
