-- What a walk finds of a tree, by one fold: it asks each part once, and gives up where one is not well formed.
use Rattle.std.specs.Prelude.{List, [], ◌∷◌, Option, Some, None, true, false, not, ◌&&◌, ◌||◌, pos, int_le, map}
use Rattle.ms_num.specs.Span.{Span, point, has, is_narrow, add_span, sub_span, mul_span, div_span, mod_span, neg_span, abs_span, min_span, max_span}
use Rattle.ms_trees.specs.Value.{iff, imp, xor}
use Rattle.ms_trees.specs.Enclosure as r
use Rattle.ms_trees.specs.Enclosure.{numeric_enclosure, boolean_enclosure, span_at, operation, division, image_enclosure, comparison, combined, either_number, either_truth, test_interval}
use Rattle.ms_trees.specs.WellFormed.{has_variable, fits}
use Rattle.ms_trees.specs.declared.tree.Enclosure.{Enclosure}
use Rattle.ms_trees.specs.declared.tree.Ground.{Ground, fold-Ground}
use Rattle.ms_trees.specs.declared.tree.Ground.TheOpen.{Ground-F, Num, Undef, Var, Add, Sub, Mul, Div, Mod, Neg, Abs, Sum, Least, Greatest, ToInt, Elem, Elem2, Count, IteI, True, False, BVar, And, Or, Not, Iff, Imp, Xor, Eq, Ne, Lt, Le, IteB, In, AllDiff, Table}
use Rattle.ms_ground.specs.Known.{known, within_limits}
use Rattle.ms_evaluator.specs.Lists.{total, extreme, element, element_of_grid, count}

-- what the tree may mean where it is a well formed integer tree, and where it is a well formed Boolean tree
pub record Finding : Type 0 where
  pub number : Option Enclosure
  pub truth : Option Enclosure

abbrev pub as_number : Option Enclosure → Finding
as_number o = record { number = o; truth = None }

abbrev pub as_truth : Option Enclosure → Finding
as_truth o = record { number = None; truth = o }

abbrev pub number_in : Finding → Option Enclosure
number_in x = x.number

abbrev pub truth_in : Finding → Option Enclosure
truth_in x = x.truth

-- ---- nodes, where each part is known

abbrev pub on_one : (Enclosure → Option Enclosure) → Option Enclosure → Option Enclosure
on_one f None = None
on_one f (Some x) = f x

abbrev pub on_two : (Enclosure → Enclosure → Option Enclosure) → Option Enclosure → Option Enclosure → Option Enclosure
on_two f None q = None
on_two f (Some x) None = None
on_two f (Some x) (Some y) = f x y

abbrev pub on_three : (Enclosure → Enclosure → Enclosure → Option Enclosure) → Option Enclosure → Option Enclosure → Option Enclosure → Option Enclosure
on_three f None p q = None
on_three f (Some c) p q = on_two (f c) p q

abbrev pub on_list : (List Enclosure → Option Enclosure) → Option (List Enclosure) → Option Enclosure
on_list f None = None
on_list f (Some ps) = f ps

abbrev pub before : Option Enclosure → Option (List Enclosure) → Option (List Enclosure)
before None ps = None
before (Some x) None = None
before (Some x) (Some ps) = Some (x ∷ ps)

-- the list, where each part is known
abbrev pub all_known : List (Option Enclosure) → Option (List Enclosure)
all_known [] = Some []
all_known (x ∷ xs) = before x (all_known xs)

abbrev pub all_numbers : List Finding → Option (List Enclosure)
all_numbers xs = all_known (map number_in xs)

abbrev pub all_truths : List Finding → Option (List Enclosure)
all_truths xs = all_known (map truth_in xs)

-- ---- the fold

abbrev pub finding_step : List Span → Ground-F Finding → Finding
finding_step b (Num n) = as_number (known (is_narrow (point n)) (numeric_enclosure (Some (point n)) false))
finding_step b Undef = as_number (Some (numeric_enclosure None true))
finding_step b (Var v) = as_number (known (has_variable b v && fits (Some (span_at b v))) (numeric_enclosure (Some (span_at b v)) false))
finding_step b (Add x y) = as_number (on_two (λ p q. within_limits (operation add_span p q)) x.number y.number)
finding_step b (Sub x y) = as_number (on_two (λ p q. within_limits (operation sub_span p q)) x.number y.number)
finding_step b (Mul x y) = as_number (on_two (λ p q. within_limits (operation mul_span p q)) x.number y.number)
finding_step b (Div x y) = as_number (on_two (λ p q. within_limits (division div_span p q)) x.number y.number)
finding_step b (Mod x y) = as_number (on_two (λ p q. within_limits (division mod_span p q)) x.number y.number)
finding_step b (Neg x) = as_number (on_one (λ p. within_limits (image_enclosure neg_span p)) x.number)
finding_step b (Abs x) = as_number (on_one (λ p. within_limits (image_enclosure abs_span p)) x.number)
finding_step b (Sum xs) = as_number (on_list total (all_numbers xs))
finding_step b (Least xs) = as_number (on_list (extreme min_span) (all_numbers xs))
finding_step b (Greatest xs) = as_number (on_list (extreme max_span) (all_numbers xs))
finding_step b (ToInt x) = as_number (on_one (λ p. known (p.may_be_true || p.may_be_false) (numeric_enclosure (Some (r.bits p.may_be_true p.may_be_false)) false)) x.truth)
finding_step b (Elem low xs i) = as_number (on_one (λ p. on_list (λ ps. element low ps p) (all_numbers xs)) i.number)
finding_step b (Elem2 k l w xs i j) = as_number (on_two (λ p q. on_list (λ ps. element_of_grid k l w ps p q) (all_numbers xs)) i.number j.number)
finding_step b (Count xs y) = as_number (on_one (λ p. on_list (λ ps. count ps p) (all_numbers xs)) y.number)
finding_step b (IteI c x y) = as_number (on_three (λ o p q. within_limits (either_number o p q)) c.truth x.number y.number)
finding_step b True = as_truth (Some (boolean_enclosure true false))
finding_step b False = as_truth (Some (boolean_enclosure false true))
finding_step b (BVar v) =
    as_truth (known (has_variable b v && int_le (pos 0) (span_at b v).lo && int_le (span_at b v).hi (pos 1)) (boolean_enclosure (has (span_at b v) (pos 1)) (has (span_at b v) (pos 0))))
finding_step b (And xs) = as_truth (on_list (λ ps. Some (boolean_enclosure (r.all_may_be_true ps) (r.any_may_be_false ps))) (all_truths xs))
finding_step b (Or xs) = as_truth (on_list (λ ps. Some (boolean_enclosure (r.any_may_be_true ps) (r.all_may_be_false ps))) (all_truths xs))
finding_step b (Not x) = as_truth (on_one (λ p. Some (boolean_enclosure p.may_be_false p.may_be_true)) x.truth)
finding_step b (Iff x y) = as_truth (on_two (λ p q. Some (combined iff p q)) x.truth y.truth)
finding_step b (Imp x y) = as_truth (on_two (λ p q. Some (combined imp p q)) x.truth y.truth)
finding_step b (Xor x y) = as_truth (on_two (λ p q. Some (combined xor p q)) x.truth y.truth)
finding_step b (Eq x y) = as_truth (on_two (λ p q. Some (comparison r.meets r.may_differ p q)) x.number y.number)
finding_step b (Ne x y) = as_truth (on_two (λ p q. Some (comparison r.may_differ r.meets p q)) x.number y.number)
finding_step b (Lt x y) = as_truth (on_two (λ p q. Some (comparison r.may_be_less r.may_be_at_least p q)) x.number y.number)
finding_step b (Le x y) = as_truth (on_two (λ p q. Some (comparison r.may_be_at_most r.may_be_greater p q)) x.number y.number)
finding_step b (IteB c x y) = as_truth (on_three (λ o p q. Some (either_truth o p q)) c.truth x.truth y.truth)
finding_step b (In x rs) =
    as_truth (on_one (λ p. Some (boolean_enclosure (test_interval (r.may_be_in rs) p.interval) (p.may_be_undefined || test_interval (λ s. not (r.is_inside rs s)) p.interval))) x.number)
finding_step b (AllDiff xs) = as_truth (on_list (λ ps. Some (r.distinct ps)) (all_numbers xs))
finding_step b (Table xs rows) = as_truth (on_list (λ ps. Some (r.rowed rows ps)) (all_numbers xs))

abbrev pub findings : List Span → Ground → Finding
findings b = fold-Ground Finding (finding_step b)
