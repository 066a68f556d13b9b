-- Induction over trees, and the equations of the definitions by layers.
use Rattle.std.proofs.Common.{◌≡◌, List, [], ◌∷◌, Bool, map, refl, sym, ap, ◌∙◌, subst}
use Rattle.ms_num.specs.Span.{Span}
use Rattle.ms_trees.specs.WellFormed.{Checked, well_formed_rule, well_formed_step, is_well_formed, is_sorted, sorts_step, sorted_step, sort_checked, is_numeric, checked_of, numeric_layer}
use Rattle.ms_trees.specs.WellFormed.{checked}
use Rattle.ms_trees.specs.declared.tree.Ground.{Ground, roll-Ground, map-Ground, ind-Ground, out-Ground, roll-out-Ground, para-roll-Ground, fold-Ground, fold-roll-Ground}
use Rattle.ms_trees.specs.declared.tree.Ground.TheOpen.{Ground-F, Num, Undef, Var, Add, Sub, Mul, Div, Mod, Neg, Abs, Sum, Least, Greatest, ToInt, Elem, Elem2, Count, IteI, True, False, BVar, And, Or, Not, Iff, Imp, Xor, Eq, Ne, Lt, Le, IteB, In, AllDiff, Table}

-- what holds of a node where it holds of its parts holds of each tree
pub induct : (P : Ground → Type 0) → ((y : Ground-F ((g : Ground) × P g)) → P (roll-Ground (map-Ground ((g : Ground) × P g) Ground (λ e. e.0) y))) → (g : Ground) → P g
induct P step = ind-Ground P (λ x y is. subst (λ z. P (roll-Ground z)) is (step y))

pub list_twice : {X Y Z : Type 0} (f : X → Y) (g : Y → Z) (xs : List X) → map g (map f xs) ≡ map (λ x. g (f x)) xs
list_twice f g [] = refl
list_twice f g (x ∷ xs) = ap (λ ys. g (f x) ∷ ys) (list_twice f g xs)

-- a layer mapped twice is mapped once
pub twice : {X Y Z : Type 0} (f : X → Y) (g : Y → Z) (d : Ground-F X) → map-Ground Y Z g (map-Ground X Y f d) ≡ map-Ground X Z (λ x. g (f x)) d
twice f g (Num n) = refl
twice f g Undef = refl
twice f g (Var v) = refl
twice f g (Add x y) = refl
twice f g (Sub x y) = refl
twice f g (Mul x y) = refl
twice f g (Div x y) = refl
twice f g (Mod x y) = refl
twice f g (Neg x) = refl
twice f g (Abs x) = refl
twice f g (Sum xs) = ap Sum (list_twice f g xs)
twice f g (Least xs) = ap Least (list_twice f g xs)
twice f g (Greatest xs) = ap Greatest (list_twice f g xs)
twice f g (ToInt x) = refl
twice f g (Elem low xs i) = ap (λ ys. Elem low ys (g (f i))) (list_twice f g xs)
twice f g (Elem2 k l w xs i j) = ap (λ ys. Elem2 k l w ys (g (f i)) (g (f j))) (list_twice f g xs)
twice f g (Count xs y) = ap (λ ys. Count ys (g (f y))) (list_twice f g xs)
twice f g (IteI c x y) = refl
twice f g True = refl
twice f g False = refl
twice f g (BVar v) = refl
twice f g (And xs) = ap And (list_twice f g xs)
twice f g (Or xs) = ap Or (list_twice f g xs)
twice f g (Not x) = refl
twice f g (Iff x y) = refl
twice f g (Imp x y) = refl
twice f g (Xor x y) = refl
twice f g (Eq x y) = refl
twice f g (Ne x y) = refl
twice f g (Lt x y) = refl
twice f g (Le x y) = refl
twice f g (IteB c x y) = refl
twice f g (In x rs) = refl
twice f g (AllDiff xs) = ap AllDiff (list_twice f g xs)
twice f g (Table xs rows) = ap (λ ys. Table ys rows) (list_twice f g xs)

pub fit_roll : (b : List Span) (d : Ground-F Ground) → is_well_formed b (roll-Ground d) ≡ well_formed_rule b (map-Ground Ground Checked (checked b) d)
unfolding is_well_formed
fit_roll b d = para-roll-Ground Bool (well_formed_step b) d ∙ ap (well_formed_rule b) (twice (λ y. (y, is_well_formed b y)) (checked_of b) d)

pub sorted_roll : (b : List Span) (d : Ground-F Ground) → is_sorted b (roll-Ground d) ≡ sorted_step b (map-Ground Ground Checked (sort_checked b) d)
unfolding is_sorted
sorted_roll b d = para-roll-Ground Bool (sorts_step b) d ∙ ap (sorted_step b) (twice (λ y. (y, is_sorted b y)) (checked_of b) d)

-- a fold at a node whose parts are given by p
pub fold_at : (A : Type 0) (step : Ground-F A → A) {E : Type 0} (p : E → Ground) (y : Ground-F E) → fold-Ground A step (roll-Ground (map-Ground E Ground p y)) ≡ step (map-Ground E A (λ e. fold-Ground A step (p e)) y)
fold_at A step p y = fold-roll-Ground A step (map-Ground _ _ p y) ∙ ap step (twice p (fold-Ground A step) y)

pub layer_map : {X Y : Type 0} (f : X → Y) (d : Ground-F X) → numeric_layer (map-Ground X Y f d) ≡ numeric_layer d
layer_map f (Num n) = refl
layer_map f Undef = refl
layer_map f (Var v) = refl
layer_map f (Add x y) = refl
layer_map f (Sub x y) = refl
layer_map f (Mul x y) = refl
layer_map f (Div x y) = refl
layer_map f (Mod x y) = refl
layer_map f (Neg x) = refl
layer_map f (Abs x) = refl
layer_map f (Sum xs) = refl
layer_map f (Least xs) = refl
layer_map f (Greatest xs) = refl
layer_map f (ToInt x) = refl
layer_map f (Elem low xs i) = refl
layer_map f (Elem2 k l w xs i j) = refl
layer_map f (Count xs y) = refl
layer_map f (IteI c x y) = refl
layer_map f True = refl
layer_map f False = refl
layer_map f (BVar v) = refl
layer_map f (And xs) = refl
layer_map f (Or xs) = refl
layer_map f (Not x) = refl
layer_map f (Iff x y) = refl
layer_map f (Imp x y) = refl
layer_map f (Xor x y) = refl
layer_map f (Eq x y) = refl
layer_map f (Ne x y) = refl
layer_map f (Lt x y) = refl
layer_map f (Le x y) = refl
layer_map f (IteB c x y) = refl
layer_map f (In x rs) = refl
layer_map f (AllDiff xs) = refl
layer_map f (Table xs rows) = refl

pub is_numeric_roll : {E : Type 0} (p : E → Ground) (y : Ground-F E) → is_numeric (roll-Ground (map-Ground E Ground p y)) ≡ numeric_layer y
is_numeric_roll p y = fold_at Bool numeric_layer p y ∙ layer_map (λ e. is_numeric (p e)) y

pub fit_out : (b : List Span) (g : Ground) → is_well_formed b g ≡ well_formed_rule b (map-Ground Ground Checked (checked b) (out-Ground g))
fit_out b g = ap (is_well_formed b) (sym (roll-out-Ground g)) ∙ fit_roll b (out-Ground g)
