-- What the fold of a walk finds of a tree is what the tree may mean, where it is well formed.
use Rattle.std.proofs.Common.{◌≡◌, List, [], ◌∷◌, Bool, true, false, not, ◌&&◌, ◌||◌, Option, Some, None, map, refl, sym, ap, ◌∙◌}
use Rattle.std.proofs.Math.Path.{fun_ext}
use Rattle.ms_num.specs.Span.{Span, add_span, sub_span, mul_span, div_span, mod_span, neg_span, abs_span, min_span, max_span}
use Rattle.ms_trees.specs.Value.{iff, imp, xor}
use Rattle.ms_trees.specs.Enclosure as r
use Rattle.ms_trees.specs.Enclosure.{enclosure, enclosure_step, operation, division, image_enclosure, comparison, combined, either_number, either_truth}
use Rattle.ms_trees.specs.WellFormed.{Checked, checked, well_formed_rule, sorted_step, is_numeric, numeric_layer, is_number, is_truth, are_numbers, are_truths, enclosure_of, fits}
use Rattle.ms_trees.specs.declared.tree.Enclosure.{Enclosure}
use Rattle.ms_trees.specs.declared.tree.Ground.{Ground, map-Ground, roll-Ground}
use Rattle.ms_trees.specs.declared.tree.Ground.TheOpen.{Ground-F, Num, Undef, Var, Add, Sub, Mul, Div, Mod, Neg, Abs, Sum, Least, Greatest, ToInt, Elem, Elem2, Count, IteI, True, False, BVar, And, Or, Not, Iff, Imp, Xor, Eq, Ne, Lt, Le, IteB, In, AllDiff, Table}
use Rattle.ms_trees.proofs.Bools.{ap2, and_one}
use Rattle.ms_trees.proofs.Layers.{induct, twice, fit_roll, fold_at, is_numeric_roll, layer_map}
use Rattle.ms_ground.specs.Known.{known, within_limits}
use Rattle.ms_ground.proofs.Known.{truth_of_some}
use Rattle.ms_evaluator.specs.Lists.{total, extreme, element, element_of_grid, count}
use Rattle.ms_evaluator.specs.Findings.{Finding, as_number, as_truth, on_one, on_two, on_three, on_list, before, all_numbers, all_truths, finding_step, findings}

-- ---- what is known of a part, and of a node

abbrev pub found_of : Checked → Finding
found_of c = record { number = known (is_number c) c.enclosure; truth = known (is_truth c) c.enclosure }

-- what is known of a list
abbrev known_list : Bool → List Enclosure → Option (List Enclosure)
known_list true ps = Some ps
known_list false ps = None

-- an integer node, and a Boolean one
number_found : (w : Bool) (e : Enclosure) → as_number (known w e) ≡ found_of (record { fit = w; numeric = true; enclosure = e })
number_found true e = refl
number_found false e = refl

truth_found : (w : Bool) (e : Enclosure) → as_truth (known w e) ≡ found_of (record { fit = w; numeric = false; enclosure = e })
truth_found true e = refl
truth_found false e = refl

-- ---- nodes over parts that are known

one_known : (f : Enclosure → Option Enclosure) (p k : Bool) (x e : Enclosure) → f x ≡ known k e → on_one f (known p x) ≡ known (p && k) e
one_known f true k x e h = h
one_known f false k x e h = refl

two_known : (f : Enclosure → Enclosure → Option Enclosure) (p q k : Bool) (x y e : Enclosure) → f x y ≡ known k e → on_two f (known p x) (known q y) ≡ known (p && q && k) e
two_known f true true k x y e h = h
two_known f true false k x y e h = refl
two_known f false q k x y e h = refl

three_known : (f : Enclosure → Enclosure → Enclosure → Option Enclosure) (o p q k : Bool) (c x y e : Enclosure) → f c x y ≡ known k e → on_three f (known o c) (known p x) (known q y) ≡ known (o && p && q && k) e
three_known f true p q k c x y e h = two_known (f c) p q k x y e h
three_known f false p q k c x y e h = refl

list_known : (f : List Enclosure → Option Enclosure) (p k : Bool) (ps : List Enclosure) (e : Enclosure) → f ps ≡ known k e → on_list f (known_list p ps) ≡ known (p && k) e
list_known f true k ps e h = h
list_known f false k ps e h = refl

-- a part is asked before the list
after_known : (f : List Enclosure → Enclosure → Option Enclosure) (p q k : Bool) (ps : List Enclosure) (x e : Enclosure) → f ps x ≡ known k e → on_one (λ y. on_list (λ qs. f qs y) (known_list p ps)) (known q x) ≡ known (p && q && k) e
after_known f true true k ps x e h = h
after_known f true false k ps x e h = refl
after_known f false true k ps x e h = refl
after_known f false false k ps x e h = refl

after_two_known : (f : List Enclosure → Enclosure → Enclosure → Option Enclosure) (o p q k : Bool) (ps : List Enclosure) (x y e : Enclosure) → f ps x y ≡ known k e → on_two (λ u v. on_list (λ qs. f qs u v) (known_list o ps)) (known p x) (known q y) ≡ known (o && p && q && k) e
after_two_known f true true true k ps x y e h = h
after_two_known f true true false k ps x y e h = refl
after_two_known f true false q k ps x y e h = refl
after_two_known f false true true k ps x y e h = refl
after_two_known f false true false k ps x y e h = refl
after_two_known f false false q k ps x y e h = refl

before_known : (p q : Bool) (x : Enclosure) (ps : List Enclosure) → before (known p x) (known_list q ps) ≡ known_list (p && q) (x ∷ ps)
before_known true true x ps = refl
before_known true false x ps = refl
before_known false q x ps = refl

numbers_known : (xs : List Checked) → all_numbers (map found_of xs) ≡ known_list (are_numbers xs) (map enclosure_of xs)
numbers_known [] = refl
numbers_known (x ∷ xs) = ap (before (known (is_number x) x.enclosure)) (numbers_known xs) ∙ before_known (is_number x) (are_numbers xs) x.enclosure (map enclosure_of xs)

truths_known : (xs : List Checked) → all_truths (map found_of xs) ≡ known_list (are_truths xs) (map enclosure_of xs)
truths_known [] = refl
truths_known (x ∷ xs) = ap (before (known (is_truth x) x.enclosure)) (truths_known xs) ∙ before_known (is_truth x) (are_truths xs) x.enclosure (map enclosure_of xs)

-- ---- a node

-- a Boolean part may mean something
abbrev HasTruths : Ground-F Checked → Type 0
HasTruths (Num n) = Unit {0}
HasTruths Undef = Unit {0}
HasTruths (Var v) = Unit {0}
HasTruths (Add x y) = Unit {0}
HasTruths (Sub x y) = Unit {0}
HasTruths (Mul x y) = Unit {0}
HasTruths (Div x y) = Unit {0}
HasTruths (Mod x y) = Unit {0}
HasTruths (Neg x) = Unit {0}
HasTruths (Abs x) = Unit {0}
HasTruths (Sum xs) = Unit {0}
HasTruths (Least xs) = Unit {0}
HasTruths (Greatest xs) = Unit {0}
HasTruths (ToInt x) = is_truth x ≡ true → (x.enclosure.may_be_true || x.enclosure.may_be_false) ≡ true
HasTruths (Elem low xs i) = Unit {0}
HasTruths (Elem2 k l w xs i j) = Unit {0}
HasTruths (Count xs y) = Unit {0}
HasTruths (IteI c x y) = Unit {0}
HasTruths True = Unit {0}
HasTruths False = Unit {0}
HasTruths (BVar v) = Unit {0}
HasTruths (And xs) = Unit {0}
HasTruths (Or xs) = Unit {0}
HasTruths (Not x) = Unit {0}
HasTruths (Iff x y) = Unit {0}
HasTruths (Imp x y) = Unit {0}
HasTruths (Xor x y) = Unit {0}
HasTruths (Eq x y) = Unit {0}
HasTruths (Ne x y) = Unit {0}
HasTruths (Lt x y) = Unit {0}
HasTruths (Le x y) = Unit {0}
HasTruths (IteB c x y) = Unit {0}
HasTruths (In x rs) = Unit {0}
HasTruths (AllDiff xs) = Unit {0}
HasTruths (Table xs rows) = Unit {0}

bits_fit : (y n : Bool) → fits (Some (r.bits y n)) ≡ true
bits_fit true true = refl
bits_fit true false = refl
bits_fit false true = refl
bits_fit false false = refl

abbrev bit_of : Enclosure → Enclosure
bit_of q = r.numeric_enclosure (Some (r.bits q.may_be_true q.may_be_false)) false

-- 1 for true and 0 for false
bit_known : (p : Bool) (q : Enclosure) → (p ≡ true → (q.may_be_true || q.may_be_false) ≡ true) → on_one (λ x. known (x.may_be_true || x.may_be_false) (bit_of x)) (known p q) ≡ known (p && fits (bit_of q).interval) (bit_of q)
bit_known true q h = ap (λ t. known t (bit_of q)) (h refl ∙ sym (bits_fit q.may_be_true q.may_be_false))
bit_known false q h = refl

-- what is found of a node whose parts are known is what is known of it
node_found : (b : List Span) (t : Ground-F Checked) → HasTruths t → finding_step b (map-Ground Checked Finding found_of t) ≡ found_of (record { fit = well_formed_rule b t; numeric = numeric_layer t; enclosure = enclosure_step b (map-Ground Checked Enclosure enclosure_of t) })
node_found b (Num n) h = number_found (well_formed_rule b (Num n)) (enclosure_step b (map-Ground Checked Enclosure enclosure_of (Num n)))
node_found b Undef h = number_found (well_formed_rule b Undef) (enclosure_step b (map-Ground Checked Enclosure enclosure_of Undef))
node_found b (Var v) h = number_found (well_formed_rule b (Var v)) (enclosure_step b (map-Ground Checked Enclosure enclosure_of (Var v)))
node_found b (Add x y) h = ap as_number (two_known (λ p q. within_limits (operation add_span p q)) (is_number x) (is_number y) _ x.enclosure y.enclosure (enclosure_step b (map-Ground Checked Enclosure enclosure_of (Add x y))) refl) ∙ number_found (well_formed_rule b (Add x y)) (enclosure_step b (map-Ground Checked Enclosure enclosure_of (Add x y)))
node_found b (Sub x y) h = ap as_number (two_known (λ p q. within_limits (operation sub_span p q)) (is_number x) (is_number y) _ x.enclosure y.enclosure (enclosure_step b (map-Ground Checked Enclosure enclosure_of (Sub x y))) refl) ∙ number_found (well_formed_rule b (Sub x y)) (enclosure_step b (map-Ground Checked Enclosure enclosure_of (Sub x y)))
node_found b (Mul x y) h = ap as_number (two_known (λ p q. within_limits (operation mul_span p q)) (is_number x) (is_number y) _ x.enclosure y.enclosure (enclosure_step b (map-Ground Checked Enclosure enclosure_of (Mul x y))) refl) ∙ number_found (well_formed_rule b (Mul x y)) (enclosure_step b (map-Ground Checked Enclosure enclosure_of (Mul x y)))
node_found b (Div x y) h = ap as_number (two_known (λ p q. within_limits (division div_span p q)) (is_number x) (is_number y) _ x.enclosure y.enclosure (enclosure_step b (map-Ground Checked Enclosure enclosure_of (Div x y))) refl) ∙ number_found (well_formed_rule b (Div x y)) (enclosure_step b (map-Ground Checked Enclosure enclosure_of (Div x y)))
node_found b (Mod x y) h = ap as_number (two_known (λ p q. within_limits (division mod_span p q)) (is_number x) (is_number y) _ x.enclosure y.enclosure (enclosure_step b (map-Ground Checked Enclosure enclosure_of (Mod x y))) refl) ∙ number_found (well_formed_rule b (Mod x y)) (enclosure_step b (map-Ground Checked Enclosure enclosure_of (Mod x y)))
node_found b (Neg x) h = ap as_number (one_known (λ p. within_limits (image_enclosure neg_span p)) (is_number x) _ x.enclosure (enclosure_step b (map-Ground Checked Enclosure enclosure_of (Neg x))) refl) ∙ number_found (well_formed_rule b (Neg x)) (enclosure_step b (map-Ground Checked Enclosure enclosure_of (Neg x)))
node_found b (Abs x) h = ap as_number (one_known (λ p. within_limits (image_enclosure abs_span p)) (is_number x) _ x.enclosure (enclosure_step b (map-Ground Checked Enclosure enclosure_of (Abs x))) refl) ∙ number_found (well_formed_rule b (Abs x)) (enclosure_step b (map-Ground Checked Enclosure enclosure_of (Abs x)))
node_found b (Sum xs) h = ap as_number (ap (on_list total) (numbers_known xs) ∙ list_known total (are_numbers xs) _ (map enclosure_of xs) (enclosure_step b (map-Ground Checked Enclosure enclosure_of (Sum xs))) refl) ∙ number_found (well_formed_rule b (Sum xs)) (enclosure_step b (map-Ground Checked Enclosure enclosure_of (Sum xs)))
node_found b (Least xs) h = ap as_number (ap (on_list (extreme min_span)) (numbers_known xs) ∙ list_known (extreme min_span) (are_numbers xs) _ (map enclosure_of xs) (enclosure_step b (map-Ground Checked Enclosure enclosure_of (Least xs))) refl) ∙ number_found (well_formed_rule b (Least xs)) (enclosure_step b (map-Ground Checked Enclosure enclosure_of (Least xs)))
node_found b (Greatest xs) h = ap as_number (ap (on_list (extreme max_span)) (numbers_known xs) ∙ list_known (extreme max_span) (are_numbers xs) _ (map enclosure_of xs) (enclosure_step b (map-Ground Checked Enclosure enclosure_of (Greatest xs))) refl) ∙ number_found (well_formed_rule b (Greatest xs)) (enclosure_step b (map-Ground Checked Enclosure enclosure_of (Greatest xs)))
node_found b (ToInt x) h = ap as_number (bit_known (is_truth x) x.enclosure h) ∙ number_found (well_formed_rule b (ToInt x)) (enclosure_step b (map-Ground Checked Enclosure enclosure_of (ToInt x)))
node_found b (Elem low xs i) h = ap as_number (ap (λ l. on_one (λ p. on_list (λ ps. element low ps p) l) (known (is_number i) i.enclosure)) (numbers_known xs) ∙ after_known (element low) (are_numbers xs) (is_number i) _ (map enclosure_of xs) i.enclosure (enclosure_step b (map-Ground Checked Enclosure enclosure_of (Elem low xs i))) refl) ∙ number_found (well_formed_rule b (Elem low xs i)) (enclosure_step b (map-Ground Checked Enclosure enclosure_of (Elem low xs i)))
node_found b (Elem2 k l w xs i j) h = ap as_number (ap (λ o. on_two (λ p q. on_list (λ ps. element_of_grid k l w ps p q) o) (known (is_number i) i.enclosure) (known (is_number j) j.enclosure)) (numbers_known xs) ∙ after_two_known (element_of_grid k l w) (are_numbers xs) (is_number i) (is_number j) _ (map enclosure_of xs) i.enclosure j.enclosure (enclosure_step b (map-Ground Checked Enclosure enclosure_of (Elem2 k l w xs i j))) refl) ∙ number_found (well_formed_rule b (Elem2 k l w xs i j)) (enclosure_step b (map-Ground Checked Enclosure enclosure_of (Elem2 k l w xs i j)))
node_found b (Count xs y) h = ap as_number (ap (λ l. on_one (λ p. on_list (λ ps. count ps p) l) (known (is_number y) y.enclosure)) (numbers_known xs) ∙ after_known count (are_numbers xs) (is_number y) _ (map enclosure_of xs) y.enclosure (enclosure_step b (map-Ground Checked Enclosure enclosure_of (Count xs y))) refl) ∙ number_found (well_formed_rule b (Count xs y)) (enclosure_step b (map-Ground Checked Enclosure enclosure_of (Count xs y)))
node_found b (IteI c x y) h = ap as_number (three_known (λ o p q. within_limits (either_number o p q)) (is_truth c) (is_number x) (is_number y) _ c.enclosure x.enclosure y.enclosure (enclosure_step b (map-Ground Checked Enclosure enclosure_of (IteI c x y))) refl) ∙ number_found (well_formed_rule b (IteI c x y)) (enclosure_step b (map-Ground Checked Enclosure enclosure_of (IteI c x y)))
node_found b True h = truth_found (well_formed_rule b True) (enclosure_step b (map-Ground Checked Enclosure enclosure_of True))
node_found b False h = truth_found (well_formed_rule b False) (enclosure_step b (map-Ground Checked Enclosure enclosure_of False))
node_found b (BVar v) h =
    ap (λ t. as_truth (known t (enclosure_step b (map-Ground Checked Enclosure enclosure_of (BVar v))))) (sym (and_one (sorted_step b (BVar v)))) ∙ truth_found (well_formed_rule b (BVar v)) (enclosure_step b (map-Ground Checked Enclosure enclosure_of (BVar v)))
node_found b (And xs) h = ap as_truth (ap (on_list (λ ps. Some (r.boolean_enclosure (r.all_may_be_true ps) (r.any_may_be_false ps)))) (truths_known xs) ∙ list_known (λ ps. Some (r.boolean_enclosure (r.all_may_be_true ps) (r.any_may_be_false ps))) (are_truths xs) _ (map enclosure_of xs) (enclosure_step b (map-Ground Checked Enclosure enclosure_of (And xs))) refl) ∙ truth_found (well_formed_rule b (And xs)) (enclosure_step b (map-Ground Checked Enclosure enclosure_of (And xs)))
node_found b (Or xs) h = ap as_truth (ap (on_list (λ ps. Some (r.boolean_enclosure (r.any_may_be_true ps) (r.all_may_be_false ps)))) (truths_known xs) ∙ list_known (λ ps. Some (r.boolean_enclosure (r.any_may_be_true ps) (r.all_may_be_false ps))) (are_truths xs) _ (map enclosure_of xs) (enclosure_step b (map-Ground Checked Enclosure enclosure_of (Or xs))) refl) ∙ truth_found (well_formed_rule b (Or xs)) (enclosure_step b (map-Ground Checked Enclosure enclosure_of (Or xs)))
node_found b (Not x) h = ap as_truth (one_known (λ p. Some (r.boolean_enclosure p.may_be_false p.may_be_true)) (is_truth x) _ x.enclosure (enclosure_step b (map-Ground Checked Enclosure enclosure_of (Not x))) refl) ∙ truth_found (well_formed_rule b (Not x)) (enclosure_step b (map-Ground Checked Enclosure enclosure_of (Not x)))
node_found b (Iff x y) h = ap as_truth (two_known (λ p q. Some (combined iff p q)) (is_truth x) (is_truth y) _ x.enclosure y.enclosure (enclosure_step b (map-Ground Checked Enclosure enclosure_of (Iff x y))) refl) ∙ truth_found (well_formed_rule b (Iff x y)) (enclosure_step b (map-Ground Checked Enclosure enclosure_of (Iff x y)))
node_found b (Imp x y) h = ap as_truth (two_known (λ p q. Some (combined imp p q)) (is_truth x) (is_truth y) _ x.enclosure y.enclosure (enclosure_step b (map-Ground Checked Enclosure enclosure_of (Imp x y))) refl) ∙ truth_found (well_formed_rule b (Imp x y)) (enclosure_step b (map-Ground Checked Enclosure enclosure_of (Imp x y)))
node_found b (Xor x y) h = ap as_truth (two_known (λ p q. Some (combined xor p q)) (is_truth x) (is_truth y) _ x.enclosure y.enclosure (enclosure_step b (map-Ground Checked Enclosure enclosure_of (Xor x y))) refl) ∙ truth_found (well_formed_rule b (Xor x y)) (enclosure_step b (map-Ground Checked Enclosure enclosure_of (Xor x y)))
node_found b (Eq x y) h = ap as_truth (two_known (λ p q. Some (comparison r.meets r.may_differ p q)) (is_number x) (is_number y) _ x.enclosure y.enclosure (enclosure_step b (map-Ground Checked Enclosure enclosure_of (Eq x y))) refl) ∙ truth_found (well_formed_rule b (Eq x y)) (enclosure_step b (map-Ground Checked Enclosure enclosure_of (Eq x y)))
node_found b (Ne x y) h = ap as_truth (two_known (λ p q. Some (comparison r.may_differ r.meets p q)) (is_number x) (is_number y) _ x.enclosure y.enclosure (enclosure_step b (map-Ground Checked Enclosure enclosure_of (Ne x y))) refl) ∙ truth_found (well_formed_rule b (Ne x y)) (enclosure_step b (map-Ground Checked Enclosure enclosure_of (Ne x y)))
node_found b (Lt x y) h = ap as_truth (two_known (λ p q. Some (comparison r.may_be_less r.may_be_at_least p q)) (is_number x) (is_number y) _ x.enclosure y.enclosure (enclosure_step b (map-Ground Checked Enclosure enclosure_of (Lt x y))) refl) ∙ truth_found (well_formed_rule b (Lt x y)) (enclosure_step b (map-Ground Checked Enclosure enclosure_of (Lt x y)))
node_found b (Le x y) h = ap as_truth (two_known (λ p q. Some (comparison r.may_be_at_most r.may_be_greater p q)) (is_number x) (is_number y) _ x.enclosure y.enclosure (enclosure_step b (map-Ground Checked Enclosure enclosure_of (Le x y))) refl) ∙ truth_found (well_formed_rule b (Le x y)) (enclosure_step b (map-Ground Checked Enclosure enclosure_of (Le x y)))
node_found b (IteB c x y) h = ap as_truth (three_known (λ o p q. Some (either_truth o p q)) (is_truth c) (is_truth x) (is_truth y) _ c.enclosure x.enclosure y.enclosure (enclosure_step b (map-Ground Checked Enclosure enclosure_of (IteB c x y))) refl) ∙ truth_found (well_formed_rule b (IteB c x y)) (enclosure_step b (map-Ground Checked Enclosure enclosure_of (IteB c x y)))
node_found b (In x rs) h = ap as_truth (one_known (λ p. Some (r.boolean_enclosure (r.test_interval (r.may_be_in rs) p.interval) (p.may_be_undefined || r.test_interval (λ s. not (r.is_inside rs s)) p.interval))) (is_number x) _ x.enclosure (enclosure_step b (map-Ground Checked Enclosure enclosure_of (In x rs))) refl) ∙ truth_found (well_formed_rule b (In x rs)) (enclosure_step b (map-Ground Checked Enclosure enclosure_of (In x rs)))
node_found b (AllDiff xs) h = ap as_truth (ap (on_list (λ ps. Some (r.distinct ps))) (numbers_known xs) ∙ list_known (λ ps. Some (r.distinct ps)) (are_numbers xs) _ (map enclosure_of xs) (enclosure_step b (map-Ground Checked Enclosure enclosure_of (AllDiff xs))) refl) ∙ truth_found (well_formed_rule b (AllDiff xs)) (enclosure_step b (map-Ground Checked Enclosure enclosure_of (AllDiff xs)))
node_found b (Table xs rows) h = ap as_truth (ap (on_list (λ ps. Some (r.rowed rows ps))) (numbers_known xs) ∙ list_known (λ ps. Some (r.rowed rows ps)) (are_numbers xs) _ (map enclosure_of xs) (enclosure_step b (map-Ground Checked Enclosure enclosure_of (Table xs rows))) refl) ∙ truth_found (well_formed_rule b (Table xs rows)) (enclosure_step b (map-Ground Checked Enclosure enclosure_of (Table xs rows)))

-- ---- trees

has_truths : (b : List Span) (d : Ground-F Ground) → HasTruths (map-Ground Ground Checked (checked b) d)
has_truths b (Num n) = tt
has_truths b Undef = tt
has_truths b (Var v) = tt
has_truths b (Add x y) = tt
has_truths b (Sub x y) = tt
has_truths b (Mul x y) = tt
has_truths b (Div x y) = tt
has_truths b (Mod x y) = tt
has_truths b (Neg x) = tt
has_truths b (Abs x) = tt
has_truths b (Sum xs) = tt
has_truths b (Least xs) = tt
has_truths b (Greatest xs) = tt
has_truths b (ToInt x) = truth_of_some b x
has_truths b (Elem low xs i) = tt
has_truths b (Elem2 k l w xs i j) = tt
has_truths b (Count xs y) = tt
has_truths b (IteI c x y) = tt
has_truths b True = tt
has_truths b False = tt
has_truths b (BVar v) = tt
has_truths b (And xs) = tt
has_truths b (Or xs) = tt
has_truths b (Not x) = tt
has_truths b (Iff x y) = tt
has_truths b (Imp x y) = tt
has_truths b (Xor x y) = tt
has_truths b (Eq x y) = tt
has_truths b (Ne x y) = tt
has_truths b (Lt x y) = tt
has_truths b (Le x y) = tt
has_truths b (IteB c x y) = tt
has_truths b (In x rs) = tt
has_truths b (AllDiff xs) = tt
has_truths b (Table xs rows) = tt

-- what the walk finds of a tree is what is known of it
pub findings_known : (b : List Span) (g : Ground) → findings b g ≡ found_of (checked b g)
findings_known b = induct (λ g. findings b g ≡ found_of (checked b g)) (λ y.
    let E : Type 0 = (g : Ground) × (findings b g ≡ found_of (checked b g)) in
    let d = map-Ground E Ground (λ e. e.0) y in
    let t = map-Ground Ground Checked (checked b) d in
    let same : map-Ground E Finding (λ e. findings b e.0) y ≡ map-Ground Checked Finding found_of t =
    ap (λ f. map-Ground E Finding f y) (fun_ext (λ (e : E). e.1)) ∙ sym (twice (λ (e : E). e.0) (λ g. found_of (checked b g)) y) ∙ sym (twice (checked b) found_of d) in
    let numeric : numeric_layer t ≡ is_numeric (roll-Ground d) = layer_map (checked b) d ∙ layer_map (λ (e : E). e.0) y ∙ sym (is_numeric_roll (λ (e : E). e.0) y) in
    let means : enclosure_step b (map-Ground Checked Enclosure enclosure_of t) ≡ enclosure b (roll-Ground d) =
    ap (enclosure_step b) (twice (checked b) enclosure_of d ∙ twice (λ (e : E). e.0) (enclosure b) y) ∙ sym (fold_at Enclosure (enclosure_step b) (λ (e : E). e.0) y) in
    fold_at Finding (finding_step b) (λ (e : E). e.0) y
    ∙ ap (finding_step b) same
    ∙ node_found b t (has_truths b d)
    ∙ ap2 (λ w (p : Bool × Enclosure). found_of (record { fit = w; numeric = p.0; enclosure = p.1 })) (sym (fit_roll b d)) (ap2 (λ n e. (n, e)) numeric means))

-- ---- of either sort

-- a tree with numbers
pub number_found_some : (w n : Bool) (x e : Enclosure) → Some x ≡ known (w && n) e → Some x ≡ known w e
number_found_some true true x e h = h
number_found_some true false x e h = absurd (cc)
number_found_some false n x e h = absurd (cc)

-- a tree without is what it is as a Boolean one
pub truth_found_else : (w n : Bool) (e : Enclosure) → None ≡ known (w && n) e → known (w && not n) e ≡ known w e
truth_found_else true true e h = absurd (cc)
truth_found_else true false e h = refl
truth_found_else false n e h = refl
