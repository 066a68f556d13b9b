use Rattle.std.proofs.Common.{◌≡◌, ◌+◌, ◌<◌, ◌/◌, true, false, not, ◌&&◌, ◌||◌, [], Some, None, map, length, drop, get_or, add-zero, arith, ap, ◌∙◌, sym, refl, rules, w64, SFits}
use Rattle.std.specs.Prelude.{pos, is_some, int_le, if◌then◌else◌}
use Rattle.std.proofs.lemmas.Int.{to_z-of_z}
use Rattle.std.proofs.lemmas.List.{drop_all}
use Rattle.std.proofs.Math.ListN.{length-set, length-map}
use Rattle.ms_num.specs.Span.{point, has, join_some, add_span, sub_span, mul_span, div_span, mod_span, neg_span, abs_span, min_span, max_span}
use Rattle.ms_trees.specs.Value.{iff, imp, xor, how_many}
use Rattle.ms_trees.specs.Enclosure as r
use Rattle.ms_trees.specs.Enclosure.{enclosure}
use Rattle.ms_trees.specs.Kept.{part}
use Rattle.ms_trees.specs.Access.{reaches}
use Rattle.ms_trees.specs.Extreme.{extreme_span}
use Rattle.ms_trees.specs.WellFormed.{is_number, is_truth, are_numbers, are_truths, checked, fits, has_variable}
use Rattle.ms_trees.specs.declared.tree.Enclosure.{Enclosure}
use Rattle.ms_trees.specs.declared.tree.Ground.TheVariants as tree
use Rattle.ms_trees.specs.declared.tree.Ground.TheOpen as F
use Rattle.ms_trees.proofs.Bools.{ap2, and_one, or_none}
use Rattle.ms_trees.proofs.Fits.{drop_here}
use Rattle.ms_trees.proofs.Walks.{counted_one, at_most_one}
use Rattle.ms_trees.proofs.Onward.{onward_on}
use Rattle.ms_trees.proofs.Keeping.{part_here, part_read}
use Rattle.ms_trees.proofs.Rowed.{no_row_on, entry_here}
use Rattle.ms_ground.specs.Known.{known, within_limits, numbers_of, truths_of, node_of_numbers}
use Rattle.ms_ground.specs.Room.{lies_in}
use Rattle.ms_ground.proofs.Known.{none_left, none_right, both_true, list_beside, some_number, some_truth, no_number, no_truth, number_node, truth_node, number_exit, truth_exit, number_return, truth_return, extreme_numeric, within_plain, bit_within, truth_of_some}
use Rattle.ms_ground.proofs.Boxes.{PlaceOn, numbers_stop, truths_stop, numbers_end, truths_end, node_is, parts_on, onward_end, join_end, place_taken, place_left, certain_possible, count_is, truths_on, and_end, kept_more, never, not_all}
use Rattle.ms_ground.proofs.Distinct.{spans_over, meets_on, between_room, wide_room}
use Rattle.ms_ground.proofs.Sums.{sum_onward, sum_stops, sum_leaves, sum_goes, sum_ends}
use Rattle.ms_ground.proofs.walk.+walk.Goals as goal
use Rattle.ms_ground.proofs.walk.+walk.Goals.{selected_on-then-reaches, selected_on-else-reaches}

pub number-returns-in-Num : goal.number-returns-in-Num
number-returns-in-Num g t c =
    let n : SFits w64 c.in-Num.n = search rules in
    rw (to_z-of_z w64 c.in-Num.n n) at c.constant.ensures ∙ rw c.in-Num.is (number_node (g.B.Intervals.spans c.args.sets) (tree.Num c.in-Num.n) (F.Num c.in-Num.n) (tree.outs-Num c.in-Num.n) refl (r.numeric_enclosure (Some (point c.in-Num.n)) false) refl)

pub number-returns-in-Undef : goal.number-returns-in-Undef
number-returns-in-Undef g t c =
    ap (λ (z : Enclosure). Some z) c.numeric.ensures ∙ rw c.in-Undef.is (number_node (g.B.Intervals.spans c.args.sets) tree.Undef F.Undef tree.outs-Undef refl (r.numeric_enclosure None true) refl)

pub number-returns-in-Var : goal.number-returns-in-Var
number-returns-in-Var g t c =
    c.variable.ensures ∙ rw c.in-Var.is (number_node (g.B.Intervals.spans c.args.sets) (tree.Var c.in-Var.v) (F.Var c.in-Var.v) (tree.outs-Var c.in-Var.v) refl (r.numeric_enclosure (Some (r.span_at (g.B.Intervals.spans c.args.sets) c.in-Var.v)) false) refl)

pub number-returns-in_err-number-in-Add : goal.number-returns-in_err-number-in-Add
number-returns-in_err-number-in-Add g t c =
    c.from_residual.ensures ∙ rw c.in-Add.is (number_exit (g.B.Intervals.spans c.args.sets) (tree.Add c.in-Add.a c.in-Add.b) (F.Add c.in-Add.a c.in-Add.b) (tree.outs-Add c.in-Add.a c.in-Add.b) refl (none_left (is_number (checked (g.B.Intervals.spans c.args.sets) c.in-Add.a)) (is_number (checked (g.B.Intervals.spans c.args.sets) c.in-Add.b)) (no_number (g.B.Intervals.spans c.args.sets) c.in-Add.a (rw c.get.ensures at c.in_err-number-in-Add.ensures))))

pub number-returns-in_err-number-in-Add-2 : goal.number-returns-in_err-number-in-Add-2
number-returns-in_err-number-in-Add-2 g t c =
    c.from_residual-in_err-number-in-Add-2.ensures ∙ rw c.in-Add.is (number_exit (g.B.Intervals.spans c.args.sets) (tree.Add c.in-Add.a c.in-Add.b) (F.Add c.in-Add.a c.in-Add.b) (tree.outs-Add c.in-Add.a c.in-Add.b) refl (none_right (is_number (checked (g.B.Intervals.spans c.args.sets) c.in-Add.a)) (is_number (checked (g.B.Intervals.spans c.args.sets) c.in-Add.b)) (no_number (g.B.Intervals.spans c.args.sets) c.in-Add.b (rw c.get-in-Add.ensures at c.in_err-number-in-Add-2.ensures))))

pub number-returns-in_ok-number-in-Add-2 : goal.number-returns-in_ok-number-in-Add-2
number-returns-in_ok-number-in-Add-2 g t c =
    let p = some_number (g.B.Intervals.spans c.args.sets) c.in-Add.a c.in_ok-number-in-Add.field-0 (rw c.get.ensures at c.in_ok-number-in-Add.ensures) in
    let q = some_number (g.B.Intervals.spans c.args.sets) c.in-Add.b c.in_ok-number-in-Add-2.field-0 (rw c.get-in-Add.ensures at c.in_ok-number-in-Add-2.ensures) in
    c.sum.ensures ∙ rw c.in-Add.is (number_return (g.B.Intervals.spans c.args.sets) (tree.Add c.in-Add.a c.in-Add.b) (F.Add c.in-Add.a c.in-Add.b) (tree.outs-Add c.in-Add.a c.in-Add.b) refl (both_true (is_number (checked (g.B.Intervals.spans c.args.sets) c.in-Add.a)) (is_number (checked (g.B.Intervals.spans c.args.sets) c.in-Add.b)) p.number q.number) refl (r.operation add_span c.in_ok-number-in-Add.field-0 c.in_ok-number-in-Add-2.field-0) (ap2 (λ (x y : Enclosure). r.operation add_span x y) p.is q.is))

pub number-returns-in_err-number-in-Sub : goal.number-returns-in_err-number-in-Sub
number-returns-in_err-number-in-Sub g t c =
    c.from_residual-in_err-number-in-Sub.ensures ∙ rw c.in-Sub.is (number_exit (g.B.Intervals.spans c.args.sets) (tree.Sub c.in-Sub.a c.in-Sub.b) (F.Sub c.in-Sub.a c.in-Sub.b) (tree.outs-Sub c.in-Sub.a c.in-Sub.b) refl (none_left (is_number (checked (g.B.Intervals.spans c.args.sets) c.in-Sub.a)) (is_number (checked (g.B.Intervals.spans c.args.sets) c.in-Sub.b)) (no_number (g.B.Intervals.spans c.args.sets) c.in-Sub.a (rw c.get-in-Sub.ensures at c.in_err-number-in-Sub.ensures))))

pub number-returns-in_err-number-in-Sub-2 : goal.number-returns-in_err-number-in-Sub-2
number-returns-in_err-number-in-Sub-2 g t c =
    c.from_residual-in_err-number-in-Sub-2.ensures ∙ rw c.in-Sub.is (number_exit (g.B.Intervals.spans c.args.sets) (tree.Sub c.in-Sub.a c.in-Sub.b) (F.Sub c.in-Sub.a c.in-Sub.b) (tree.outs-Sub c.in-Sub.a c.in-Sub.b) refl (none_right (is_number (checked (g.B.Intervals.spans c.args.sets) c.in-Sub.a)) (is_number (checked (g.B.Intervals.spans c.args.sets) c.in-Sub.b)) (no_number (g.B.Intervals.spans c.args.sets) c.in-Sub.b (rw c.get-in-Sub-2.ensures at c.in_err-number-in-Sub-2.ensures))))

pub number-returns-in_ok-number-in-Sub-2 : goal.number-returns-in_ok-number-in-Sub-2
number-returns-in_ok-number-in-Sub-2 g t c =
    let p = some_number (g.B.Intervals.spans c.args.sets) c.in-Sub.a c.in_ok-number-in-Sub.field-0 (rw c.get-in-Sub.ensures at c.in_ok-number-in-Sub.ensures) in
    let q = some_number (g.B.Intervals.spans c.args.sets) c.in-Sub.b c.in_ok-number-in-Sub-2.field-0 (rw c.get-in-Sub-2.ensures at c.in_ok-number-in-Sub-2.ensures) in
    c.difference.ensures ∙ rw c.in-Sub.is (number_return (g.B.Intervals.spans c.args.sets) (tree.Sub c.in-Sub.a c.in-Sub.b) (F.Sub c.in-Sub.a c.in-Sub.b) (tree.outs-Sub c.in-Sub.a c.in-Sub.b) refl (both_true (is_number (checked (g.B.Intervals.spans c.args.sets) c.in-Sub.a)) (is_number (checked (g.B.Intervals.spans c.args.sets) c.in-Sub.b)) p.number q.number) refl (r.operation sub_span c.in_ok-number-in-Sub.field-0 c.in_ok-number-in-Sub-2.field-0) (ap2 (λ (x y : Enclosure). r.operation sub_span x y) p.is q.is))

pub number-returns-in_err-number-in-Mul : goal.number-returns-in_err-number-in-Mul
number-returns-in_err-number-in-Mul g t c =
    c.from_residual-in_err-number-in-Mul.ensures ∙ rw c.in-Mul.is (number_exit (g.B.Intervals.spans c.args.sets) (tree.Mul c.in-Mul.a c.in-Mul.b) (F.Mul c.in-Mul.a c.in-Mul.b) (tree.outs-Mul c.in-Mul.a c.in-Mul.b) refl (none_left (is_number (checked (g.B.Intervals.spans c.args.sets) c.in-Mul.a)) (is_number (checked (g.B.Intervals.spans c.args.sets) c.in-Mul.b)) (no_number (g.B.Intervals.spans c.args.sets) c.in-Mul.a (rw c.get-in-Mul.ensures at c.in_err-number-in-Mul.ensures))))

pub number-returns-in_err-number-in-Mul-2 : goal.number-returns-in_err-number-in-Mul-2
number-returns-in_err-number-in-Mul-2 g t c =
    c.from_residual-in_err-number-in-Mul-2.ensures ∙ rw c.in-Mul.is (number_exit (g.B.Intervals.spans c.args.sets) (tree.Mul c.in-Mul.a c.in-Mul.b) (F.Mul c.in-Mul.a c.in-Mul.b) (tree.outs-Mul c.in-Mul.a c.in-Mul.b) refl (none_right (is_number (checked (g.B.Intervals.spans c.args.sets) c.in-Mul.a)) (is_number (checked (g.B.Intervals.spans c.args.sets) c.in-Mul.b)) (no_number (g.B.Intervals.spans c.args.sets) c.in-Mul.b (rw c.get-in-Mul-2.ensures at c.in_err-number-in-Mul-2.ensures))))

pub number-returns-in_ok-number-in-Mul-2 : goal.number-returns-in_ok-number-in-Mul-2
number-returns-in_ok-number-in-Mul-2 g t c =
    let p = some_number (g.B.Intervals.spans c.args.sets) c.in-Mul.a c.in_ok-number-in-Mul.field-0 (rw c.get-in-Mul.ensures at c.in_ok-number-in-Mul.ensures) in
    let q = some_number (g.B.Intervals.spans c.args.sets) c.in-Mul.b c.in_ok-number-in-Mul-2.field-0 (rw c.get-in-Mul-2.ensures at c.in_ok-number-in-Mul-2.ensures) in
    c.product.ensures ∙ rw c.in-Mul.is (number_return (g.B.Intervals.spans c.args.sets) (tree.Mul c.in-Mul.a c.in-Mul.b) (F.Mul c.in-Mul.a c.in-Mul.b) (tree.outs-Mul c.in-Mul.a c.in-Mul.b) refl (both_true (is_number (checked (g.B.Intervals.spans c.args.sets) c.in-Mul.a)) (is_number (checked (g.B.Intervals.spans c.args.sets) c.in-Mul.b)) p.number q.number) refl (r.operation mul_span c.in_ok-number-in-Mul.field-0 c.in_ok-number-in-Mul-2.field-0) (ap2 (λ (x y : Enclosure). r.operation mul_span x y) p.is q.is))

pub number-returns-in_err-number-in-Div : goal.number-returns-in_err-number-in-Div
number-returns-in_err-number-in-Div g t c =
    c.from_residual-in_err-number-in-Div.ensures ∙ rw c.in-Div.is (number_exit (g.B.Intervals.spans c.args.sets) (tree.Div c.in-Div.a c.in-Div.b) (F.Div c.in-Div.a c.in-Div.b) (tree.outs-Div c.in-Div.a c.in-Div.b) refl (none_left (is_number (checked (g.B.Intervals.spans c.args.sets) c.in-Div.a)) (is_number (checked (g.B.Intervals.spans c.args.sets) c.in-Div.b)) (no_number (g.B.Intervals.spans c.args.sets) c.in-Div.a (rw c.get-in-Div.ensures at c.in_err-number-in-Div.ensures))))

pub number-returns-in_err-number-in-Div-2 : goal.number-returns-in_err-number-in-Div-2
number-returns-in_err-number-in-Div-2 g t c =
    c.from_residual-in_err-number-in-Div-2.ensures ∙ rw c.in-Div.is (number_exit (g.B.Intervals.spans c.args.sets) (tree.Div c.in-Div.a c.in-Div.b) (F.Div c.in-Div.a c.in-Div.b) (tree.outs-Div c.in-Div.a c.in-Div.b) refl (none_right (is_number (checked (g.B.Intervals.spans c.args.sets) c.in-Div.a)) (is_number (checked (g.B.Intervals.spans c.args.sets) c.in-Div.b)) (no_number (g.B.Intervals.spans c.args.sets) c.in-Div.b (rw c.get-in-Div-2.ensures at c.in_err-number-in-Div-2.ensures))))

pub number-returns-in_ok-number-in-Div-2 : goal.number-returns-in_ok-number-in-Div-2
number-returns-in_ok-number-in-Div-2 g t c =
    let p = some_number (g.B.Intervals.spans c.args.sets) c.in-Div.a c.in_ok-number-in-Div.field-0 (rw c.get-in-Div.ensures at c.in_ok-number-in-Div.ensures) in
    let q = some_number (g.B.Intervals.spans c.args.sets) c.in-Div.b c.in_ok-number-in-Div-2.field-0 (rw c.get-in-Div-2.ensures at c.in_ok-number-in-Div-2.ensures) in
    c.quotient.ensures ∙ rw c.in-Div.is (number_return (g.B.Intervals.spans c.args.sets) (tree.Div c.in-Div.a c.in-Div.b) (F.Div c.in-Div.a c.in-Div.b) (tree.outs-Div c.in-Div.a c.in-Div.b) refl (both_true (is_number (checked (g.B.Intervals.spans c.args.sets) c.in-Div.a)) (is_number (checked (g.B.Intervals.spans c.args.sets) c.in-Div.b)) p.number q.number) refl (r.division div_span c.in_ok-number-in-Div.field-0 c.in_ok-number-in-Div-2.field-0) (ap2 (λ (x y : Enclosure). r.division div_span x y) p.is q.is))

pub number-returns-in_err-number-in-Mod : goal.number-returns-in_err-number-in-Mod
number-returns-in_err-number-in-Mod g t c =
    c.from_residual-in_err-number-in-Mod.ensures ∙ rw c.in-Mod.is (number_exit (g.B.Intervals.spans c.args.sets) (tree.Mod c.in-Mod.a c.in-Mod.b) (F.Mod c.in-Mod.a c.in-Mod.b) (tree.outs-Mod c.in-Mod.a c.in-Mod.b) refl (none_left (is_number (checked (g.B.Intervals.spans c.args.sets) c.in-Mod.a)) (is_number (checked (g.B.Intervals.spans c.args.sets) c.in-Mod.b)) (no_number (g.B.Intervals.spans c.args.sets) c.in-Mod.a (rw c.get-in-Mod.ensures at c.in_err-number-in-Mod.ensures))))

pub number-returns-in_err-number-in-Mod-2 : goal.number-returns-in_err-number-in-Mod-2
number-returns-in_err-number-in-Mod-2 g t c =
    c.from_residual-in_err-number-in-Mod-2.ensures ∙ rw c.in-Mod.is (number_exit (g.B.Intervals.spans c.args.sets) (tree.Mod c.in-Mod.a c.in-Mod.b) (F.Mod c.in-Mod.a c.in-Mod.b) (tree.outs-Mod c.in-Mod.a c.in-Mod.b) refl (none_right (is_number (checked (g.B.Intervals.spans c.args.sets) c.in-Mod.a)) (is_number (checked (g.B.Intervals.spans c.args.sets) c.in-Mod.b)) (no_number (g.B.Intervals.spans c.args.sets) c.in-Mod.b (rw c.get-in-Mod-2.ensures at c.in_err-number-in-Mod-2.ensures))))

pub number-returns-in_ok-number-in-Mod-2 : goal.number-returns-in_ok-number-in-Mod-2
number-returns-in_ok-number-in-Mod-2 g t c =
    let p = some_number (g.B.Intervals.spans c.args.sets) c.in-Mod.a c.in_ok-number-in-Mod.field-0 (rw c.get-in-Mod.ensures at c.in_ok-number-in-Mod.ensures) in
    let q = some_number (g.B.Intervals.spans c.args.sets) c.in-Mod.b c.in_ok-number-in-Mod-2.field-0 (rw c.get-in-Mod-2.ensures at c.in_ok-number-in-Mod-2.ensures) in
    c.remainder.ensures ∙ rw c.in-Mod.is (number_return (g.B.Intervals.spans c.args.sets) (tree.Mod c.in-Mod.a c.in-Mod.b) (F.Mod c.in-Mod.a c.in-Mod.b) (tree.outs-Mod c.in-Mod.a c.in-Mod.b) refl (both_true (is_number (checked (g.B.Intervals.spans c.args.sets) c.in-Mod.a)) (is_number (checked (g.B.Intervals.spans c.args.sets) c.in-Mod.b)) p.number q.number) refl (r.division mod_span c.in_ok-number-in-Mod.field-0 c.in_ok-number-in-Mod-2.field-0) (ap2 (λ (x y : Enclosure). r.division mod_span x y) p.is q.is))

pub number-returns-in_err-number-in-Neg : goal.number-returns-in_err-number-in-Neg
number-returns-in_err-number-in-Neg g t c =
    c.from_residual-in_err-number-in-Neg.ensures ∙ rw c.in-Neg.is (number_exit (g.B.Intervals.spans c.args.sets) (tree.Neg c.in-Neg.a) (F.Neg c.in-Neg.a) (tree.outs-Neg c.in-Neg.a) refl (no_number (g.B.Intervals.spans c.args.sets) c.in-Neg.a (rw c.get-in-Neg.ensures at c.in_err-number-in-Neg.ensures)))

pub number-returns-in_ok-number-in-Neg : goal.number-returns-in_ok-number-in-Neg
number-returns-in_ok-number-in-Neg g t c =
    let p = some_number (g.B.Intervals.spans c.args.sets) c.in-Neg.a c.in_ok-number-in-Neg.field-0 (rw c.get-in-Neg.ensures at c.in_ok-number-in-Neg.ensures) in
    c.negation.ensures ∙ rw c.in-Neg.is (number_return (g.B.Intervals.spans c.args.sets) (tree.Neg c.in-Neg.a) (F.Neg c.in-Neg.a) (tree.outs-Neg c.in-Neg.a) refl p.number refl (r.image_enclosure neg_span c.in_ok-number-in-Neg.field-0) (ap (λ (x : Enclosure). r.image_enclosure neg_span x) p.is))

pub number-returns-in_err-number-in-Abs : goal.number-returns-in_err-number-in-Abs
number-returns-in_err-number-in-Abs g t c =
    c.from_residual-in_err-number-in-Abs.ensures ∙ rw c.in-Abs.is (number_exit (g.B.Intervals.spans c.args.sets) (tree.Abs c.in-Abs.a) (F.Abs c.in-Abs.a) (tree.outs-Abs c.in-Abs.a) refl (no_number (g.B.Intervals.spans c.args.sets) c.in-Abs.a (rw c.get-in-Abs.ensures at c.in_err-number-in-Abs.ensures)))

pub number-returns-in_ok-number-in-Abs : goal.number-returns-in_ok-number-in-Abs
number-returns-in_ok-number-in-Abs g t c =
    let p = some_number (g.B.Intervals.spans c.args.sets) c.in-Abs.a c.in_ok-number-in-Abs.field-0 (rw c.get-in-Abs.ensures at c.in_ok-number-in-Abs.ensures) in
    c.magnitude.ensures ∙ rw c.in-Abs.is (number_return (g.B.Intervals.spans c.args.sets) (tree.Abs c.in-Abs.a) (F.Abs c.in-Abs.a) (tree.outs-Abs c.in-Abs.a) refl p.number refl (r.image_enclosure abs_span c.in_ok-number-in-Abs.field-0) (ap (λ (x : Enclosure). r.image_enclosure abs_span x) p.is))

pub number-returns-in-Sum : goal.number-returns-in-Sum
number-returns-in-Sum g t c =
    rw c.as_slice.ensures at c.sum_on.ensures ∙ rw c.in-Sum.is (number_node (g.B.Intervals.spans c.args.sets) (tree.Sum c.in-Sum.parts) (F.Sum c.in-Sum.parts) (tree.outs-Sum c.in-Sum.parts) refl (r.numeric_enclosure (r.folded_intervals add_span (Some (point (pos 0))) (map (enclosure (g.B.Intervals.spans c.args.sets)) c.in-Sum.parts)) (r.any_may_be_undefined (map (enclosure (g.B.Intervals.spans c.args.sets)) c.in-Sum.parts))) refl)

pub number-returns-in-Least : goal.number-returns-in-Least
number-returns-in-Least g t c =
    rw c.as_slice-in-Least.ensures at c.extreme_on.ensures ∙ rw c.in-Least.is (number_node (g.B.Intervals.spans c.args.sets) (tree.Least c.in-Least.parts) (F.Least c.in-Least.parts) (tree.outs-Least c.in-Least.parts) refl (r.extreme_enclosure min_span (map (enclosure (g.B.Intervals.spans c.args.sets)) c.in-Least.parts)) (sym (extreme_numeric min_span (map (enclosure (g.B.Intervals.spans c.args.sets)) c.in-Least.parts))))

pub number-returns-in-Greatest : goal.number-returns-in-Greatest
number-returns-in-Greatest g t c =
    rw c.as_slice-in-Greatest.ensures at c.extreme_on-in-Greatest.ensures ∙ rw c.in-Greatest.is (number_node (g.B.Intervals.spans c.args.sets) (tree.Greatest c.in-Greatest.parts) (F.Greatest c.in-Greatest.parts) (tree.outs-Greatest c.in-Greatest.parts) refl (r.extreme_enclosure max_span (map (enclosure (g.B.Intervals.spans c.args.sets)) c.in-Greatest.parts)) (sym (extreme_numeric max_span (map (enclosure (g.B.Intervals.spans c.args.sets)) c.in-Greatest.parts))))

pub number-returns-in_err-truth-in-ToInt : goal.number-returns-in_err-truth-in-ToInt
number-returns-in_err-truth-in-ToInt g t c =
    c.from_residual-in_err-truth-in-ToInt.ensures ∙ rw c.in-ToInt.is (number_exit (g.B.Intervals.spans c.args.sets) (tree.ToInt c.in-ToInt.a) (F.ToInt c.in-ToInt.a) (tree.outs-ToInt c.in-ToInt.a) refl (no_truth (g.B.Intervals.spans c.args.sets) c.in-ToInt.a (rw c.get-in-ToInt.ensures at c.in_err-truth-in-ToInt.ensures)))

pub number-returns-in_ok-truth-in-ToInt : goal.number-returns-in_ok-truth-in-ToInt
number-returns-in_ok-truth-in-ToInt g t c =
    let p = some_truth (g.B.Intervals.spans c.args.sets) c.in-ToInt.a c.in_ok-truth-in-ToInt.field-0 (rw c.get-in-ToInt.ensures at c.in_ok-truth-in-ToInt.ensures) in
    ap (λ (z : Enclosure). Some z) c.bit.ensures ∙ bit_within (c.in_ok-truth-in-ToInt.field-0).may_be_true (c.in_ok-truth-in-ToInt.field-0).may_be_false ∙ rw c.in-ToInt.is (number_return (g.B.Intervals.spans c.args.sets) (tree.ToInt c.in-ToInt.a) (F.ToInt c.in-ToInt.a) (tree.outs-ToInt c.in-ToInt.a) refl p.truth refl (r.numeric_enclosure (Some (r.bits c.in_ok-truth-in-ToInt.field-0.may_be_true c.in_ok-truth-in-ToInt.field-0.may_be_false)) false) (ap (λ (x : Enclosure). r.numeric_enclosure (Some (r.bits x.may_be_true x.may_be_false)) false) p.is))

pub number-bit-requires : goal.number-bit-requires
number-bit-requires g t c =
    let p = some_truth (g.B.Intervals.spans c.args.sets) c.in-ToInt.a c.in_ok-truth-in-ToInt.field-0 (rw c.get-in-ToInt.ensures at c.in_ok-truth-in-ToInt.ensures) in
    rw p.is (truth_of_some (g.B.Intervals.spans c.args.sets) c.in-ToInt.a p.truth)

pub number-returns-in_err-i-in-Elem : goal.number-returns-in_err-i-in-Elem
number-returns-in_err-i-in-Elem g t c =
    c.from_residual-in_err-i-in-Elem.ensures ∙ rw c.in-Elem.is (number_exit (g.B.Intervals.spans c.args.sets) (tree.Elem c.in-Elem.low c.in-Elem.parts c.in-Elem.index) (F.Elem c.in-Elem.low c.in-Elem.parts c.in-Elem.index) (tree.outs-Elem c.in-Elem.low c.in-Elem.parts c.in-Elem.index) refl (none_right (are_numbers (map (checked (g.B.Intervals.spans c.args.sets)) c.in-Elem.parts)) (is_number (checked (g.B.Intervals.spans c.args.sets) c.in-Elem.index)) (no_number (g.B.Intervals.spans c.args.sets) c.in-Elem.index (rw c.get-in-Elem.ensures at c.in_err-i-in-Elem.ensures))))

pub number-returns-in_ok-i-in-Elem : goal.number-returns-in_ok-i-in-Elem
number-returns-in_ok-i-in-Elem g t c =
    let e = c.in-Elem in
    let low : SFits w64 c.in-Elem.low = search rules in
    let p = some_number (g.B.Intervals.spans c.args.sets) c.in-Elem.index c.in_ok-i-in-Elem.i (rw c.get-in-Elem.ensures at c.in_ok-i-in-Elem.ensures) in
    rw (c.along-access.ensures, c.misses-none.ensures, to_z-of_z w64 e.low low, c.as_slice-in-Elem.ensures, c.len.ensures) at c.selected_on.ensures
    ∙ ap (λ (i : Enclosure). node_of_numbers (g.B.Intervals.spans c.args.sets) e.parts (r.selected_enclosure (r.is_reached e.low i.interval) (i.may_be_undefined || r.leaves e.low (length e.parts) i.interval) (map (enclosure (g.B.Intervals.spans c.args.sets)) c.in-Elem.parts))) p.is
    ∙ ap (λ n. node_of_numbers (g.B.Intervals.spans c.args.sets) e.parts (r.selected_enclosure (r.is_reached e.low (enclosure (g.B.Intervals.spans c.args.sets) e.index).interval) ((enclosure (g.B.Intervals.spans c.args.sets) e.index).may_be_undefined || r.leaves e.low n (enclosure (g.B.Intervals.spans c.args.sets) e.index).interval) (map (enclosure (g.B.Intervals.spans c.args.sets)) c.in-Elem.parts))) (sym (length-map e.parts (enclosure (g.B.Intervals.spans c.args.sets))))
    ∙ list_beside (are_numbers (map (checked (g.B.Intervals.spans c.args.sets)) c.in-Elem.parts)) (is_number (checked (g.B.Intervals.spans c.args.sets) c.in-Elem.index)) (fits (r.selected_enclosure (r.is_reached e.low (enclosure (g.B.Intervals.spans c.args.sets) e.index).interval) ((enclosure (g.B.Intervals.spans c.args.sets) e.index).may_be_undefined || r.leaves e.low (length (map (enclosure (g.B.Intervals.spans c.args.sets)) c.in-Elem.parts)) (enclosure (g.B.Intervals.spans c.args.sets) e.index).interval) (map (enclosure (g.B.Intervals.spans c.args.sets)) c.in-Elem.parts)).interval) (r.selected_enclosure (r.is_reached e.low (enclosure (g.B.Intervals.spans c.args.sets) e.index).interval) ((enclosure (g.B.Intervals.spans c.args.sets) e.index).may_be_undefined || r.leaves e.low (length (map (enclosure (g.B.Intervals.spans c.args.sets)) c.in-Elem.parts)) (enclosure (g.B.Intervals.spans c.args.sets) e.index).interval) (map (enclosure (g.B.Intervals.spans c.args.sets)) c.in-Elem.parts)) p.number
    ∙ rw c.in-Elem.is (number_node (g.B.Intervals.spans c.args.sets) (tree.Elem c.in-Elem.low c.in-Elem.parts c.in-Elem.index) (F.Elem c.in-Elem.low c.in-Elem.parts c.in-Elem.index) (tree.outs-Elem c.in-Elem.low c.in-Elem.parts c.in-Elem.index) refl (r.selected_enclosure (r.is_reached e.low (enclosure (g.B.Intervals.spans c.args.sets) e.index).interval) ((enclosure (g.B.Intervals.spans c.args.sets) e.index).may_be_undefined || r.leaves e.low (length (map (enclosure (g.B.Intervals.spans c.args.sets)) c.in-Elem.parts)) (enclosure (g.B.Intervals.spans c.args.sets) e.index).interval) (map (enclosure (g.B.Intervals.spans c.args.sets)) c.in-Elem.parts)) refl)

pub number-returns-in_err-i-in-Elem2 : goal.number-returns-in_err-i-in-Elem2
number-returns-in_err-i-in-Elem2 g t c =
    c.from_residual-in_err-i-in-Elem2.ensures ∙ rw c.in-Elem2.is (number_exit (g.B.Intervals.spans c.args.sets) (tree.Elem2 c.in-Elem2.low c.in-Elem2.left c.in-Elem2.width c.in-Elem2.parts c.in-Elem2.row c.in-Elem2.column) (F.Elem2 c.in-Elem2.low c.in-Elem2.left c.in-Elem2.width c.in-Elem2.parts c.in-Elem2.row c.in-Elem2.column) (tree.outs-Elem2 c.in-Elem2.low c.in-Elem2.left c.in-Elem2.width c.in-Elem2.parts c.in-Elem2.row c.in-Elem2.column) refl (none_left ((are_numbers (map (checked (g.B.Intervals.spans c.args.sets)) c.in-Elem2.parts)) && (is_number (checked (g.B.Intervals.spans c.args.sets) c.in-Elem2.row))) (is_number (checked (g.B.Intervals.spans c.args.sets) c.in-Elem2.column)) (none_right (are_numbers (map (checked (g.B.Intervals.spans c.args.sets)) c.in-Elem2.parts)) (is_number (checked (g.B.Intervals.spans c.args.sets) c.in-Elem2.row)) (no_number (g.B.Intervals.spans c.args.sets) c.in-Elem2.row (rw c.get-in-Elem2.ensures at c.in_err-i-in-Elem2.ensures)))))

pub number-returns-in_err-j-in-Elem2 : goal.number-returns-in_err-j-in-Elem2
number-returns-in_err-j-in-Elem2 g t c =
    c.from_residual-in_err-j-in-Elem2.ensures ∙ rw c.in-Elem2.is (number_exit (g.B.Intervals.spans c.args.sets) (tree.Elem2 c.in-Elem2.low c.in-Elem2.left c.in-Elem2.width c.in-Elem2.parts c.in-Elem2.row c.in-Elem2.column) (F.Elem2 c.in-Elem2.low c.in-Elem2.left c.in-Elem2.width c.in-Elem2.parts c.in-Elem2.row c.in-Elem2.column) (tree.outs-Elem2 c.in-Elem2.low c.in-Elem2.left c.in-Elem2.width c.in-Elem2.parts c.in-Elem2.row c.in-Elem2.column) refl (none_right ((are_numbers (map (checked (g.B.Intervals.spans c.args.sets)) c.in-Elem2.parts)) && (is_number (checked (g.B.Intervals.spans c.args.sets) c.in-Elem2.row))) (is_number (checked (g.B.Intervals.spans c.args.sets) c.in-Elem2.column)) (no_number (g.B.Intervals.spans c.args.sets) c.in-Elem2.column (rw c.get-in-Elem2-2.ensures at c.in_err-j-in-Elem2.ensures))))

pub number-returns-in_ok-j-in-Elem2 : goal.number-returns-in_ok-j-in-Elem2
number-returns-in_ok-j-in-Elem2 g t c =
    let e = c.in-Elem2 in
    let low : SFits w64 c.in-Elem2.low = search rules in
    let left : SFits w64 c.in-Elem2.left = search rules in
    let p = some_number (g.B.Intervals.spans c.args.sets) c.in-Elem2.row c.in_ok-i-in-Elem2.i (rw c.get-in-Elem2.ensures at c.in_ok-i-in-Elem2.ensures) in
    let q = some_number (g.B.Intervals.spans c.args.sets) c.in-Elem2.column c.in_ok-j-in-Elem2.j (rw c.get-in-Elem2-2.ensures at c.in_ok-j-in-Elem2.ensures) in
    let access = rw (to_z-of_z w64 e.low low, to_z-of_z w64 e.left left, c.len-in-Elem2-2.ensures) at c.over-access.ensures in
    let none = rw (to_z-of_z w64 e.low low, to_z-of_z w64 e.left left, c.len-in-Elem2.ensures) at c.misses_grid-none.ensures in
    rw (access, none, c.as_slice-in-Elem2.ensures) at c.selected_on-in-Elem2.ensures
    ∙ ap2 (λ (i j : Enclosure). node_of_numbers (g.B.Intervals.spans c.args.sets) e.parts (r.selected_enclosure (r.is_reached2 e.low e.left e.width (length e.parts) i.interval j.interval) (i.may_be_undefined || j.may_be_undefined || r.leaves e.low ((length e.parts) / e.width) i.interval || r.leaves e.left e.width j.interval) (map (enclosure (g.B.Intervals.spans c.args.sets)) c.in-Elem2.parts))) p.is q.is
    ∙ ap (λ n. node_of_numbers (g.B.Intervals.spans c.args.sets) e.parts (r.selected_enclosure (r.is_reached2 e.low e.left e.width n (enclosure (g.B.Intervals.spans c.args.sets) e.row).interval (enclosure (g.B.Intervals.spans c.args.sets) e.column).interval) ((enclosure (g.B.Intervals.spans c.args.sets) e.row).may_be_undefined || (enclosure (g.B.Intervals.spans c.args.sets) e.column).may_be_undefined || r.leaves e.low (n / e.width) (enclosure (g.B.Intervals.spans c.args.sets) e.row).interval || r.leaves e.left e.width (enclosure (g.B.Intervals.spans c.args.sets) e.column).interval) (map (enclosure (g.B.Intervals.spans c.args.sets)) c.in-Elem2.parts))) (sym (length-map e.parts (enclosure (g.B.Intervals.spans c.args.sets))))
    ∙ list_beside (are_numbers (map (checked (g.B.Intervals.spans c.args.sets)) c.in-Elem2.parts)) (is_number (checked (g.B.Intervals.spans c.args.sets) c.in-Elem2.row)) (fits (r.selected_enclosure (r.is_reached2 e.low e.left e.width (length (map (enclosure (g.B.Intervals.spans c.args.sets)) c.in-Elem2.parts)) (enclosure (g.B.Intervals.spans c.args.sets) e.row).interval (enclosure (g.B.Intervals.spans c.args.sets) e.column).interval) ((enclosure (g.B.Intervals.spans c.args.sets) e.row).may_be_undefined || (enclosure (g.B.Intervals.spans c.args.sets) e.column).may_be_undefined || r.leaves e.low ((length (map (enclosure (g.B.Intervals.spans c.args.sets)) c.in-Elem2.parts)) / e.width) (enclosure (g.B.Intervals.spans c.args.sets) e.row).interval || r.leaves e.left e.width (enclosure (g.B.Intervals.spans c.args.sets) e.column).interval) (map (enclosure (g.B.Intervals.spans c.args.sets)) c.in-Elem2.parts)).interval) (r.selected_enclosure (r.is_reached2 e.low e.left e.width (length (map (enclosure (g.B.Intervals.spans c.args.sets)) c.in-Elem2.parts)) (enclosure (g.B.Intervals.spans c.args.sets) e.row).interval (enclosure (g.B.Intervals.spans c.args.sets) e.column).interval) ((enclosure (g.B.Intervals.spans c.args.sets) e.row).may_be_undefined || (enclosure (g.B.Intervals.spans c.args.sets) e.column).may_be_undefined || r.leaves e.low ((length (map (enclosure (g.B.Intervals.spans c.args.sets)) c.in-Elem2.parts)) / e.width) (enclosure (g.B.Intervals.spans c.args.sets) e.row).interval || r.leaves e.left e.width (enclosure (g.B.Intervals.spans c.args.sets) e.column).interval) (map (enclosure (g.B.Intervals.spans c.args.sets)) c.in-Elem2.parts)) p.number
    ∙ list_beside ((are_numbers (map (checked (g.B.Intervals.spans c.args.sets)) c.in-Elem2.parts)) && (is_number (checked (g.B.Intervals.spans c.args.sets) c.in-Elem2.row))) (is_number (checked (g.B.Intervals.spans c.args.sets) c.in-Elem2.column)) (fits (r.selected_enclosure (r.is_reached2 e.low e.left e.width (length (map (enclosure (g.B.Intervals.spans c.args.sets)) c.in-Elem2.parts)) (enclosure (g.B.Intervals.spans c.args.sets) e.row).interval (enclosure (g.B.Intervals.spans c.args.sets) e.column).interval) ((enclosure (g.B.Intervals.spans c.args.sets) e.row).may_be_undefined || (enclosure (g.B.Intervals.spans c.args.sets) e.column).may_be_undefined || r.leaves e.low ((length (map (enclosure (g.B.Intervals.spans c.args.sets)) c.in-Elem2.parts)) / e.width) (enclosure (g.B.Intervals.spans c.args.sets) e.row).interval || r.leaves e.left e.width (enclosure (g.B.Intervals.spans c.args.sets) e.column).interval) (map (enclosure (g.B.Intervals.spans c.args.sets)) c.in-Elem2.parts)).interval) (r.selected_enclosure (r.is_reached2 e.low e.left e.width (length (map (enclosure (g.B.Intervals.spans c.args.sets)) c.in-Elem2.parts)) (enclosure (g.B.Intervals.spans c.args.sets) e.row).interval (enclosure (g.B.Intervals.spans c.args.sets) e.column).interval) ((enclosure (g.B.Intervals.spans c.args.sets) e.row).may_be_undefined || (enclosure (g.B.Intervals.spans c.args.sets) e.column).may_be_undefined || r.leaves e.low ((length (map (enclosure (g.B.Intervals.spans c.args.sets)) c.in-Elem2.parts)) / e.width) (enclosure (g.B.Intervals.spans c.args.sets) e.row).interval || r.leaves e.left e.width (enclosure (g.B.Intervals.spans c.args.sets) e.column).interval) (map (enclosure (g.B.Intervals.spans c.args.sets)) c.in-Elem2.parts)) q.number
    ∙ rw c.in-Elem2.is (number_node (g.B.Intervals.spans c.args.sets) (tree.Elem2 c.in-Elem2.low c.in-Elem2.left c.in-Elem2.width c.in-Elem2.parts c.in-Elem2.row c.in-Elem2.column) (F.Elem2 c.in-Elem2.low c.in-Elem2.left c.in-Elem2.width c.in-Elem2.parts c.in-Elem2.row c.in-Elem2.column) (tree.outs-Elem2 c.in-Elem2.low c.in-Elem2.left c.in-Elem2.width c.in-Elem2.parts c.in-Elem2.row c.in-Elem2.column) refl (r.selected_enclosure (r.is_reached2 e.low e.left e.width (length (map (enclosure (g.B.Intervals.spans c.args.sets)) c.in-Elem2.parts)) (enclosure (g.B.Intervals.spans c.args.sets) e.row).interval (enclosure (g.B.Intervals.spans c.args.sets) e.column).interval) ((enclosure (g.B.Intervals.spans c.args.sets) e.row).may_be_undefined || (enclosure (g.B.Intervals.spans c.args.sets) e.column).may_be_undefined || r.leaves e.low ((length (map (enclosure (g.B.Intervals.spans c.args.sets)) c.in-Elem2.parts)) / e.width) (enclosure (g.B.Intervals.spans c.args.sets) e.row).interval || r.leaves e.left e.width (enclosure (g.B.Intervals.spans c.args.sets) e.column).interval) (map (enclosure (g.B.Intervals.spans c.args.sets)) c.in-Elem2.parts)) refl)

pub number-returns-in_err-number-in-Count : goal.number-returns-in_err-number-in-Count
number-returns-in_err-number-in-Count g t c =
    c.from_residual-in_err-number-in-Count.ensures ∙ rw c.in-Count.is (number_exit (g.B.Intervals.spans c.args.sets) (tree.Count c.in-Count.parts c.in-Count.a) (F.Count c.in-Count.parts c.in-Count.a) (tree.outs-Count c.in-Count.parts c.in-Count.a) refl (none_right (are_numbers (map (checked (g.B.Intervals.spans c.args.sets)) c.in-Count.parts)) (is_number (checked (g.B.Intervals.spans c.args.sets) c.in-Count.a)) (no_number (g.B.Intervals.spans c.args.sets) c.in-Count.a (rw c.get-in-Count.ensures at c.in_err-number-in-Count.ensures))))

pub number-returns-in_ok-number-in-Count : goal.number-returns-in_ok-number-in-Count
number-returns-in_ok-number-in-Count g t c =
    let p = some_number (g.B.Intervals.spans c.args.sets) c.in-Count.a c.in_ok-number-in-Count.field-0 (rw c.get-in-Count.ensures at c.in_ok-number-in-Count.ensures) in
    rw c.as_slice-in-Count.ensures at c.count_on.ensures
    ∙ ap (λ (y : Enclosure). node_of_numbers (g.B.Intervals.spans c.args.sets) c.in-Count.parts (r.counted_enclosure (map (enclosure (g.B.Intervals.spans c.args.sets)) c.in-Count.parts) y)) p.is
    ∙ list_beside (are_numbers (map (checked (g.B.Intervals.spans c.args.sets)) c.in-Count.parts)) (is_number (checked (g.B.Intervals.spans c.args.sets) c.in-Count.a)) (fits (r.counted_enclosure (map (enclosure (g.B.Intervals.spans c.args.sets)) c.in-Count.parts) (enclosure (g.B.Intervals.spans c.args.sets) c.in-Count.a)).interval) (r.counted_enclosure (map (enclosure (g.B.Intervals.spans c.args.sets)) c.in-Count.parts) (enclosure (g.B.Intervals.spans c.args.sets) c.in-Count.a)) p.number
    ∙ rw c.in-Count.is (number_node (g.B.Intervals.spans c.args.sets) (tree.Count c.in-Count.parts c.in-Count.a) (F.Count c.in-Count.parts c.in-Count.a) (tree.outs-Count c.in-Count.parts c.in-Count.a) refl (r.counted_enclosure (map (enclosure (g.B.Intervals.spans c.args.sets)) c.in-Count.parts) (enclosure (g.B.Intervals.spans c.args.sets) c.in-Count.a)) refl)

pub number-returns-in_err-c-in-IteI : goal.number-returns-in_err-c-in-IteI
number-returns-in_err-c-in-IteI g t c =
    c.from_residual-in_err-c-in-IteI.ensures ∙ rw c.in-IteI.is (number_exit (g.B.Intervals.spans c.args.sets) (tree.IteI c.in-IteI.condition c.in-IteI.a c.in-IteI.b) (F.IteI c.in-IteI.condition c.in-IteI.a c.in-IteI.b) (tree.outs-IteI c.in-IteI.condition c.in-IteI.a c.in-IteI.b) refl (none_left ((is_truth (checked (g.B.Intervals.spans c.args.sets) c.in-IteI.condition)) && (is_number (checked (g.B.Intervals.spans c.args.sets) c.in-IteI.a))) (is_number (checked (g.B.Intervals.spans c.args.sets) c.in-IteI.b)) (none_left (is_truth (checked (g.B.Intervals.spans c.args.sets) c.in-IteI.condition)) (is_number (checked (g.B.Intervals.spans c.args.sets) c.in-IteI.a)) (no_truth (g.B.Intervals.spans c.args.sets) c.in-IteI.condition (rw c.get-in-IteI.ensures at c.in_err-c-in-IteI.ensures)))))

pub number-returns-in_err-number-in-IteI : goal.number-returns-in_err-number-in-IteI
number-returns-in_err-number-in-IteI g t c =
    c.from_residual-in_err-number-in-IteI.ensures ∙ rw c.in-IteI.is (number_exit (g.B.Intervals.spans c.args.sets) (tree.IteI c.in-IteI.condition c.in-IteI.a c.in-IteI.b) (F.IteI c.in-IteI.condition c.in-IteI.a c.in-IteI.b) (tree.outs-IteI c.in-IteI.condition c.in-IteI.a c.in-IteI.b) refl (none_left ((is_truth (checked (g.B.Intervals.spans c.args.sets) c.in-IteI.condition)) && (is_number (checked (g.B.Intervals.spans c.args.sets) c.in-IteI.a))) (is_number (checked (g.B.Intervals.spans c.args.sets) c.in-IteI.b)) (none_right (is_truth (checked (g.B.Intervals.spans c.args.sets) c.in-IteI.condition)) (is_number (checked (g.B.Intervals.spans c.args.sets) c.in-IteI.a)) (no_number (g.B.Intervals.spans c.args.sets) c.in-IteI.a (rw c.get-in-IteI-2.ensures at c.in_err-number-in-IteI.ensures)))))

pub number-returns-in_err-number-in-IteI-2 : goal.number-returns-in_err-number-in-IteI-2
number-returns-in_err-number-in-IteI-2 g t c =
    c.from_residual-in_err-number-in-IteI-2.ensures ∙ rw c.in-IteI.is (number_exit (g.B.Intervals.spans c.args.sets) (tree.IteI c.in-IteI.condition c.in-IteI.a c.in-IteI.b) (F.IteI c.in-IteI.condition c.in-IteI.a c.in-IteI.b) (tree.outs-IteI c.in-IteI.condition c.in-IteI.a c.in-IteI.b) refl (none_right ((is_truth (checked (g.B.Intervals.spans c.args.sets) c.in-IteI.condition)) && (is_number (checked (g.B.Intervals.spans c.args.sets) c.in-IteI.a))) (is_number (checked (g.B.Intervals.spans c.args.sets) c.in-IteI.b)) (no_number (g.B.Intervals.spans c.args.sets) c.in-IteI.b (rw c.get-in-IteI-3.ensures at c.in_err-number-in-IteI-2.ensures))))

pub number-returns-in_ok-number-in-IteI-2 : goal.number-returns-in_ok-number-in-IteI-2
number-returns-in_ok-number-in-IteI-2 g t c =
    let p = some_truth (g.B.Intervals.spans c.args.sets) c.in-IteI.condition c.in_ok-c-in-IteI.c (rw c.get-in-IteI.ensures at c.in_ok-c-in-IteI.ensures) in
    let q = some_number (g.B.Intervals.spans c.args.sets) c.in-IteI.a c.in_ok-number-in-IteI.field-0 (rw c.get-in-IteI-2.ensures at c.in_ok-number-in-IteI.ensures) in
    let s = some_number (g.B.Intervals.spans c.args.sets) c.in-IteI.b c.in_ok-number-in-IteI-2.field-0 (rw c.get-in-IteI-3.ensures at c.in_ok-number-in-IteI-2.ensures) in
    c.either.ensures ∙ rw c.in-IteI.is (number_return (g.B.Intervals.spans c.args.sets) (tree.IteI c.in-IteI.condition c.in-IteI.a c.in-IteI.b) (F.IteI c.in-IteI.condition c.in-IteI.a c.in-IteI.b) (tree.outs-IteI c.in-IteI.condition c.in-IteI.a c.in-IteI.b) refl (both_true ((is_truth (checked (g.B.Intervals.spans c.args.sets) c.in-IteI.condition)) && (is_number (checked (g.B.Intervals.spans c.args.sets) c.in-IteI.a))) (is_number (checked (g.B.Intervals.spans c.args.sets) c.in-IteI.b)) (both_true (is_truth (checked (g.B.Intervals.spans c.args.sets) c.in-IteI.condition)) (is_number (checked (g.B.Intervals.spans c.args.sets) c.in-IteI.a)) p.truth q.number) s.number) refl (r.either_number c.in_ok-c-in-IteI.c c.in_ok-number-in-IteI.field-0 c.in_ok-number-in-IteI-2.field-0) (ap (λ (z : Enclosure). r.either_number z c.in_ok-number-in-IteI.field-0 c.in_ok-number-in-IteI-2.field-0) p.is ∙ ap2 (λ (x y : Enclosure). r.either_number (truths_of (g.B.Intervals.spans c.args.sets) c.in-IteI.condition) x y) q.is s.is))

pub truth-returns-in-True : goal.truth-returns-in-True
truth-returns-in-True g t c =
    ap (λ (z : Enclosure). Some z) c.boolean.ensures ∙ rw c.in-True.is (truth_node (g.B.Intervals.spans c.args.sets) tree.True F.True tree.outs-True refl (r.boolean_enclosure true false) refl)

pub truth-returns-in-False : goal.truth-returns-in-False
truth-returns-in-False g t c =
    ap (λ (z : Enclosure). Some z) c.boolean-in-False.ensures ∙ rw c.in-False.is (truth_node (g.B.Intervals.spans c.args.sets) tree.False F.False tree.outs-False refl (r.boolean_enclosure false true) refl)

pub truth-returns-in-BVar : goal.truth-returns-in-BVar
truth-returns-in-BVar g t c =
    c.bit_variable.ensures ∙ ap (λ k. known k (r.boolean_enclosure (has (r.span_at (g.B.Intervals.spans c.args.sets) c.in-BVar.v) (pos 1)) (has (r.span_at (g.B.Intervals.spans c.args.sets) c.in-BVar.v) (pos 0)))) (sym (and_one (has_variable (g.B.Intervals.spans c.args.sets) c.in-BVar.v && int_le (pos 0) (r.span_at (g.B.Intervals.spans c.args.sets) c.in-BVar.v).lo && int_le (r.span_at (g.B.Intervals.spans c.args.sets) c.in-BVar.v).hi (pos 1)))) ∙ rw c.in-BVar.is (truth_node (g.B.Intervals.spans c.args.sets) (tree.BVar c.in-BVar.v) (F.BVar c.in-BVar.v) (tree.outs-BVar c.in-BVar.v) refl (r.boolean_enclosure (has (r.span_at (g.B.Intervals.spans c.args.sets) c.in-BVar.v) (pos 1)) (has (r.span_at (g.B.Intervals.spans c.args.sets) c.in-BVar.v) (pos 0))) refl)

pub truth-returns-in-And : goal.truth-returns-in-And
truth-returns-in-And g t c =
    rw c.as_slice.ensures at c.all_on.ensures ∙ ap (λ k. known k (r.boolean_enclosure (r.all_may_be_true (map (enclosure (g.B.Intervals.spans c.args.sets)) c.in-And.parts)) (r.any_may_be_false (map (enclosure (g.B.Intervals.spans c.args.sets)) c.in-And.parts)))) (sym (and_one (are_truths (map (checked (g.B.Intervals.spans c.args.sets)) c.in-And.parts)))) ∙ rw c.in-And.is (truth_node (g.B.Intervals.spans c.args.sets) (tree.And c.in-And.parts) (F.And c.in-And.parts) (tree.outs-And c.in-And.parts) refl (r.boolean_enclosure (r.all_may_be_true (map (enclosure (g.B.Intervals.spans c.args.sets)) c.in-And.parts)) (r.any_may_be_false (map (enclosure (g.B.Intervals.spans c.args.sets)) c.in-And.parts))) refl)

pub truth-returns-in-Or : goal.truth-returns-in-Or
truth-returns-in-Or g t c =
    rw c.as_slice-in-Or.ensures at c.any_on.ensures ∙ ap (λ k. known k (r.boolean_enclosure (r.any_may_be_true (map (enclosure (g.B.Intervals.spans c.args.sets)) c.in-Or.parts)) (r.all_may_be_false (map (enclosure (g.B.Intervals.spans c.args.sets)) c.in-Or.parts)))) (sym (and_one (are_truths (map (checked (g.B.Intervals.spans c.args.sets)) c.in-Or.parts)))) ∙ rw c.in-Or.is (truth_node (g.B.Intervals.spans c.args.sets) (tree.Or c.in-Or.parts) (F.Or c.in-Or.parts) (tree.outs-Or c.in-Or.parts) refl (r.boolean_enclosure (r.any_may_be_true (map (enclosure (g.B.Intervals.spans c.args.sets)) c.in-Or.parts)) (r.all_may_be_false (map (enclosure (g.B.Intervals.spans c.args.sets)) c.in-Or.parts))) refl)

pub truth-returns-in_err-truth-in-Not : goal.truth-returns-in_err-truth-in-Not
truth-returns-in_err-truth-in-Not g t c =
    c.from_residual.ensures ∙ rw c.in-Not.is (truth_exit (g.B.Intervals.spans c.args.sets) (tree.Not c.in-Not.a) (F.Not c.in-Not.a) (tree.outs-Not c.in-Not.a) refl (no_truth (g.B.Intervals.spans c.args.sets) c.in-Not.a (rw c.get.ensures at c.in_err-truth-in-Not.ensures)))

pub truth-returns-in_ok-truth-in-Not : goal.truth-returns-in_ok-truth-in-Not
truth-returns-in_ok-truth-in-Not g t c =
    let p = some_truth (g.B.Intervals.spans c.args.sets) c.in-Not.a c.in_ok-truth-in-Not.field-0 (rw c.get.ensures at c.in_ok-truth-in-Not.ensures) in
    ap (λ (z : Enclosure). Some z) c.denial.ensures ∙ rw c.in-Not.is (truth_return (g.B.Intervals.spans c.args.sets) (tree.Not c.in-Not.a) (F.Not c.in-Not.a) (tree.outs-Not c.in-Not.a) refl p.truth refl (r.boolean_enclosure c.in_ok-truth-in-Not.field-0.may_be_false c.in_ok-truth-in-Not.field-0.may_be_true) (ap (λ (x : Enclosure). r.boolean_enclosure x.may_be_false x.may_be_true) p.is))

pub truth-returns-in_err-truth-in-Iff : goal.truth-returns-in_err-truth-in-Iff
truth-returns-in_err-truth-in-Iff g t c =
    c.from_residual-in_err-truth-in-Iff.ensures ∙ rw c.in-Iff.is (truth_exit (g.B.Intervals.spans c.args.sets) (tree.Iff c.in-Iff.a c.in-Iff.b) (F.Iff c.in-Iff.a c.in-Iff.b) (tree.outs-Iff c.in-Iff.a c.in-Iff.b) refl (none_left (is_truth (checked (g.B.Intervals.spans c.args.sets) c.in-Iff.a)) (is_truth (checked (g.B.Intervals.spans c.args.sets) c.in-Iff.b)) (no_truth (g.B.Intervals.spans c.args.sets) c.in-Iff.a (rw c.get-in-Iff.ensures at c.in_err-truth-in-Iff.ensures))))

pub truth-returns-in_err-truth-in-Iff-2 : goal.truth-returns-in_err-truth-in-Iff-2
truth-returns-in_err-truth-in-Iff-2 g t c =
    c.from_residual-in_err-truth-in-Iff-2.ensures ∙ rw c.in-Iff.is (truth_exit (g.B.Intervals.spans c.args.sets) (tree.Iff c.in-Iff.a c.in-Iff.b) (F.Iff c.in-Iff.a c.in-Iff.b) (tree.outs-Iff c.in-Iff.a c.in-Iff.b) refl (none_right (is_truth (checked (g.B.Intervals.spans c.args.sets) c.in-Iff.a)) (is_truth (checked (g.B.Intervals.spans c.args.sets) c.in-Iff.b)) (no_truth (g.B.Intervals.spans c.args.sets) c.in-Iff.b (rw c.get-in-Iff-2.ensures at c.in_err-truth-in-Iff-2.ensures))))

pub truth-returns-in_ok-truth-in-Iff-2 : goal.truth-returns-in_ok-truth-in-Iff-2
truth-returns-in_ok-truth-in-Iff-2 g t c =
    let p = some_truth (g.B.Intervals.spans c.args.sets) c.in-Iff.a c.in_ok-truth-in-Iff.field-0 (rw c.get-in-Iff.ensures at c.in_ok-truth-in-Iff.ensures) in
    let q = some_truth (g.B.Intervals.spans c.args.sets) c.in-Iff.b c.in_ok-truth-in-Iff-2.field-0 (rw c.get-in-Iff-2.ensures at c.in_ok-truth-in-Iff-2.ensures) in
    ap (λ (z : Enclosure). Some z) c.equivalence.ensures ∙ rw c.in-Iff.is (truth_return (g.B.Intervals.spans c.args.sets) (tree.Iff c.in-Iff.a c.in-Iff.b) (F.Iff c.in-Iff.a c.in-Iff.b) (tree.outs-Iff c.in-Iff.a c.in-Iff.b) refl (both_true (is_truth (checked (g.B.Intervals.spans c.args.sets) c.in-Iff.a)) (is_truth (checked (g.B.Intervals.spans c.args.sets) c.in-Iff.b)) p.truth q.truth) refl (r.combined iff c.in_ok-truth-in-Iff.field-0 c.in_ok-truth-in-Iff-2.field-0) (ap2 (λ (x y : Enclosure). r.combined iff x y) p.is q.is))

pub truth-returns-in_err-truth-in-Imp : goal.truth-returns-in_err-truth-in-Imp
truth-returns-in_err-truth-in-Imp g t c =
    c.from_residual-in_err-truth-in-Imp.ensures ∙ rw c.in-Imp.is (truth_exit (g.B.Intervals.spans c.args.sets) (tree.Imp c.in-Imp.a c.in-Imp.b) (F.Imp c.in-Imp.a c.in-Imp.b) (tree.outs-Imp c.in-Imp.a c.in-Imp.b) refl (none_left (is_truth (checked (g.B.Intervals.spans c.args.sets) c.in-Imp.a)) (is_truth (checked (g.B.Intervals.spans c.args.sets) c.in-Imp.b)) (no_truth (g.B.Intervals.spans c.args.sets) c.in-Imp.a (rw c.get-in-Imp.ensures at c.in_err-truth-in-Imp.ensures))))

pub truth-returns-in_err-truth-in-Imp-2 : goal.truth-returns-in_err-truth-in-Imp-2
truth-returns-in_err-truth-in-Imp-2 g t c =
    c.from_residual-in_err-truth-in-Imp-2.ensures ∙ rw c.in-Imp.is (truth_exit (g.B.Intervals.spans c.args.sets) (tree.Imp c.in-Imp.a c.in-Imp.b) (F.Imp c.in-Imp.a c.in-Imp.b) (tree.outs-Imp c.in-Imp.a c.in-Imp.b) refl (none_right (is_truth (checked (g.B.Intervals.spans c.args.sets) c.in-Imp.a)) (is_truth (checked (g.B.Intervals.spans c.args.sets) c.in-Imp.b)) (no_truth (g.B.Intervals.spans c.args.sets) c.in-Imp.b (rw c.get-in-Imp-2.ensures at c.in_err-truth-in-Imp-2.ensures))))

pub truth-returns-in_ok-truth-in-Imp-2 : goal.truth-returns-in_ok-truth-in-Imp-2
truth-returns-in_ok-truth-in-Imp-2 g t c =
    let p = some_truth (g.B.Intervals.spans c.args.sets) c.in-Imp.a c.in_ok-truth-in-Imp.field-0 (rw c.get-in-Imp.ensures at c.in_ok-truth-in-Imp.ensures) in
    let q = some_truth (g.B.Intervals.spans c.args.sets) c.in-Imp.b c.in_ok-truth-in-Imp-2.field-0 (rw c.get-in-Imp-2.ensures at c.in_ok-truth-in-Imp-2.ensures) in
    ap (λ (z : Enclosure). Some z) c.implication.ensures ∙ rw c.in-Imp.is (truth_return (g.B.Intervals.spans c.args.sets) (tree.Imp c.in-Imp.a c.in-Imp.b) (F.Imp c.in-Imp.a c.in-Imp.b) (tree.outs-Imp c.in-Imp.a c.in-Imp.b) refl (both_true (is_truth (checked (g.B.Intervals.spans c.args.sets) c.in-Imp.a)) (is_truth (checked (g.B.Intervals.spans c.args.sets) c.in-Imp.b)) p.truth q.truth) refl (r.combined imp c.in_ok-truth-in-Imp.field-0 c.in_ok-truth-in-Imp-2.field-0) (ap2 (λ (x y : Enclosure). r.combined imp x y) p.is q.is))

pub truth-returns-in_err-truth-in-Xor : goal.truth-returns-in_err-truth-in-Xor
truth-returns-in_err-truth-in-Xor g t c =
    c.from_residual-in_err-truth-in-Xor.ensures ∙ rw c.in-Xor.is (truth_exit (g.B.Intervals.spans c.args.sets) (tree.Xor c.in-Xor.a c.in-Xor.b) (F.Xor c.in-Xor.a c.in-Xor.b) (tree.outs-Xor c.in-Xor.a c.in-Xor.b) refl (none_left (is_truth (checked (g.B.Intervals.spans c.args.sets) c.in-Xor.a)) (is_truth (checked (g.B.Intervals.spans c.args.sets) c.in-Xor.b)) (no_truth (g.B.Intervals.spans c.args.sets) c.in-Xor.a (rw c.get-in-Xor.ensures at c.in_err-truth-in-Xor.ensures))))

pub truth-returns-in_err-truth-in-Xor-2 : goal.truth-returns-in_err-truth-in-Xor-2
truth-returns-in_err-truth-in-Xor-2 g t c =
    c.from_residual-in_err-truth-in-Xor-2.ensures ∙ rw c.in-Xor.is (truth_exit (g.B.Intervals.spans c.args.sets) (tree.Xor c.in-Xor.a c.in-Xor.b) (F.Xor c.in-Xor.a c.in-Xor.b) (tree.outs-Xor c.in-Xor.a c.in-Xor.b) refl (none_right (is_truth (checked (g.B.Intervals.spans c.args.sets) c.in-Xor.a)) (is_truth (checked (g.B.Intervals.spans c.args.sets) c.in-Xor.b)) (no_truth (g.B.Intervals.spans c.args.sets) c.in-Xor.b (rw c.get-in-Xor-2.ensures at c.in_err-truth-in-Xor-2.ensures))))

pub truth-returns-in_ok-truth-in-Xor-2 : goal.truth-returns-in_ok-truth-in-Xor-2
truth-returns-in_ok-truth-in-Xor-2 g t c =
    let p = some_truth (g.B.Intervals.spans c.args.sets) c.in-Xor.a c.in_ok-truth-in-Xor.field-0 (rw c.get-in-Xor.ensures at c.in_ok-truth-in-Xor.ensures) in
    let q = some_truth (g.B.Intervals.spans c.args.sets) c.in-Xor.b c.in_ok-truth-in-Xor-2.field-0 (rw c.get-in-Xor-2.ensures at c.in_ok-truth-in-Xor-2.ensures) in
    ap (λ (z : Enclosure). Some z) c.exclusive.ensures ∙ rw c.in-Xor.is (truth_return (g.B.Intervals.spans c.args.sets) (tree.Xor c.in-Xor.a c.in-Xor.b) (F.Xor c.in-Xor.a c.in-Xor.b) (tree.outs-Xor c.in-Xor.a c.in-Xor.b) refl (both_true (is_truth (checked (g.B.Intervals.spans c.args.sets) c.in-Xor.a)) (is_truth (checked (g.B.Intervals.spans c.args.sets) c.in-Xor.b)) p.truth q.truth) refl (r.combined xor c.in_ok-truth-in-Xor.field-0 c.in_ok-truth-in-Xor-2.field-0) (ap2 (λ (x y : Enclosure). r.combined xor x y) p.is q.is))

pub truth-returns-in_err-number-in-Eq : goal.truth-returns-in_err-number-in-Eq
truth-returns-in_err-number-in-Eq g t c =
    c.from_residual-in_err-number-in-Eq.ensures ∙ rw c.in-Eq.is (truth_exit (g.B.Intervals.spans c.args.sets) (tree.Eq c.in-Eq.a c.in-Eq.b) (F.Eq c.in-Eq.a c.in-Eq.b) (tree.outs-Eq c.in-Eq.a c.in-Eq.b) refl (none_left (is_number (checked (g.B.Intervals.spans c.args.sets) c.in-Eq.a)) (is_number (checked (g.B.Intervals.spans c.args.sets) c.in-Eq.b)) (no_number (g.B.Intervals.spans c.args.sets) c.in-Eq.a (rw c.get-in-Eq.ensures at c.in_err-number-in-Eq.ensures))))

pub truth-returns-in_err-number-in-Eq-2 : goal.truth-returns-in_err-number-in-Eq-2
truth-returns-in_err-number-in-Eq-2 g t c =
    c.from_residual-in_err-number-in-Eq-2.ensures ∙ rw c.in-Eq.is (truth_exit (g.B.Intervals.spans c.args.sets) (tree.Eq c.in-Eq.a c.in-Eq.b) (F.Eq c.in-Eq.a c.in-Eq.b) (tree.outs-Eq c.in-Eq.a c.in-Eq.b) refl (none_right (is_number (checked (g.B.Intervals.spans c.args.sets) c.in-Eq.a)) (is_number (checked (g.B.Intervals.spans c.args.sets) c.in-Eq.b)) (no_number (g.B.Intervals.spans c.args.sets) c.in-Eq.b (rw c.get-in-Eq-2.ensures at c.in_err-number-in-Eq-2.ensures))))

pub truth-returns-in_ok-number-in-Eq-2 : goal.truth-returns-in_ok-number-in-Eq-2
truth-returns-in_ok-number-in-Eq-2 g t c =
    let p = some_number (g.B.Intervals.spans c.args.sets) c.in-Eq.a c.in_ok-number-in-Eq.field-0 (rw c.get-in-Eq.ensures at c.in_ok-number-in-Eq.ensures) in
    let q = some_number (g.B.Intervals.spans c.args.sets) c.in-Eq.b c.in_ok-number-in-Eq-2.field-0 (rw c.get-in-Eq-2.ensures at c.in_ok-number-in-Eq-2.ensures) in
    ap (λ (z : Enclosure). Some z) c.equal.ensures ∙ rw c.in-Eq.is (truth_return (g.B.Intervals.spans c.args.sets) (tree.Eq c.in-Eq.a c.in-Eq.b) (F.Eq c.in-Eq.a c.in-Eq.b) (tree.outs-Eq c.in-Eq.a c.in-Eq.b) refl (both_true (is_number (checked (g.B.Intervals.spans c.args.sets) c.in-Eq.a)) (is_number (checked (g.B.Intervals.spans c.args.sets) c.in-Eq.b)) p.number q.number) refl (r.comparison r.meets r.may_differ c.in_ok-number-in-Eq.field-0 c.in_ok-number-in-Eq-2.field-0) (ap2 (λ (x y : Enclosure). r.comparison r.meets r.may_differ x y) p.is q.is))

pub truth-returns-in_err-number-in-Ne : goal.truth-returns-in_err-number-in-Ne
truth-returns-in_err-number-in-Ne g t c =
    c.from_residual-in_err-number-in-Ne.ensures ∙ rw c.in-Ne.is (truth_exit (g.B.Intervals.spans c.args.sets) (tree.Ne c.in-Ne.a c.in-Ne.b) (F.Ne c.in-Ne.a c.in-Ne.b) (tree.outs-Ne c.in-Ne.a c.in-Ne.b) refl (none_left (is_number (checked (g.B.Intervals.spans c.args.sets) c.in-Ne.a)) (is_number (checked (g.B.Intervals.spans c.args.sets) c.in-Ne.b)) (no_number (g.B.Intervals.spans c.args.sets) c.in-Ne.a (rw c.get-in-Ne.ensures at c.in_err-number-in-Ne.ensures))))

pub truth-returns-in_err-number-in-Ne-2 : goal.truth-returns-in_err-number-in-Ne-2
truth-returns-in_err-number-in-Ne-2 g t c =
    c.from_residual-in_err-number-in-Ne-2.ensures ∙ rw c.in-Ne.is (truth_exit (g.B.Intervals.spans c.args.sets) (tree.Ne c.in-Ne.a c.in-Ne.b) (F.Ne c.in-Ne.a c.in-Ne.b) (tree.outs-Ne c.in-Ne.a c.in-Ne.b) refl (none_right (is_number (checked (g.B.Intervals.spans c.args.sets) c.in-Ne.a)) (is_number (checked (g.B.Intervals.spans c.args.sets) c.in-Ne.b)) (no_number (g.B.Intervals.spans c.args.sets) c.in-Ne.b (rw c.get-in-Ne-2.ensures at c.in_err-number-in-Ne-2.ensures))))

pub truth-returns-in_ok-number-in-Ne-2 : goal.truth-returns-in_ok-number-in-Ne-2
truth-returns-in_ok-number-in-Ne-2 g t c =
    let p = some_number (g.B.Intervals.spans c.args.sets) c.in-Ne.a c.in_ok-number-in-Ne.field-0 (rw c.get-in-Ne.ensures at c.in_ok-number-in-Ne.ensures) in
    let q = some_number (g.B.Intervals.spans c.args.sets) c.in-Ne.b c.in_ok-number-in-Ne-2.field-0 (rw c.get-in-Ne-2.ensures at c.in_ok-number-in-Ne-2.ensures) in
    ap (λ (z : Enclosure). Some z) c.unequal.ensures ∙ rw c.in-Ne.is (truth_return (g.B.Intervals.spans c.args.sets) (tree.Ne c.in-Ne.a c.in-Ne.b) (F.Ne c.in-Ne.a c.in-Ne.b) (tree.outs-Ne c.in-Ne.a c.in-Ne.b) refl (both_true (is_number (checked (g.B.Intervals.spans c.args.sets) c.in-Ne.a)) (is_number (checked (g.B.Intervals.spans c.args.sets) c.in-Ne.b)) p.number q.number) refl (r.comparison r.may_differ r.meets c.in_ok-number-in-Ne.field-0 c.in_ok-number-in-Ne-2.field-0) (ap2 (λ (x y : Enclosure). r.comparison r.may_differ r.meets x y) p.is q.is))

pub truth-returns-in_err-number-in-Lt : goal.truth-returns-in_err-number-in-Lt
truth-returns-in_err-number-in-Lt g t c =
    c.from_residual-in_err-number-in-Lt.ensures ∙ rw c.in-Lt.is (truth_exit (g.B.Intervals.spans c.args.sets) (tree.Lt c.in-Lt.a c.in-Lt.b) (F.Lt c.in-Lt.a c.in-Lt.b) (tree.outs-Lt c.in-Lt.a c.in-Lt.b) refl (none_left (is_number (checked (g.B.Intervals.spans c.args.sets) c.in-Lt.a)) (is_number (checked (g.B.Intervals.spans c.args.sets) c.in-Lt.b)) (no_number (g.B.Intervals.spans c.args.sets) c.in-Lt.a (rw c.get-in-Lt.ensures at c.in_err-number-in-Lt.ensures))))

pub truth-returns-in_err-number-in-Lt-2 : goal.truth-returns-in_err-number-in-Lt-2
truth-returns-in_err-number-in-Lt-2 g t c =
    c.from_residual-in_err-number-in-Lt-2.ensures ∙ rw c.in-Lt.is (truth_exit (g.B.Intervals.spans c.args.sets) (tree.Lt c.in-Lt.a c.in-Lt.b) (F.Lt c.in-Lt.a c.in-Lt.b) (tree.outs-Lt c.in-Lt.a c.in-Lt.b) refl (none_right (is_number (checked (g.B.Intervals.spans c.args.sets) c.in-Lt.a)) (is_number (checked (g.B.Intervals.spans c.args.sets) c.in-Lt.b)) (no_number (g.B.Intervals.spans c.args.sets) c.in-Lt.b (rw c.get-in-Lt-2.ensures at c.in_err-number-in-Lt-2.ensures))))

pub truth-returns-in_ok-number-in-Lt-2 : goal.truth-returns-in_ok-number-in-Lt-2
truth-returns-in_ok-number-in-Lt-2 g t c =
    let p = some_number (g.B.Intervals.spans c.args.sets) c.in-Lt.a c.in_ok-number-in-Lt.field-0 (rw c.get-in-Lt.ensures at c.in_ok-number-in-Lt.ensures) in
    let q = some_number (g.B.Intervals.spans c.args.sets) c.in-Lt.b c.in_ok-number-in-Lt-2.field-0 (rw c.get-in-Lt-2.ensures at c.in_ok-number-in-Lt-2.ensures) in
    ap (λ (z : Enclosure). Some z) c.less.ensures ∙ rw c.in-Lt.is (truth_return (g.B.Intervals.spans c.args.sets) (tree.Lt c.in-Lt.a c.in-Lt.b) (F.Lt c.in-Lt.a c.in-Lt.b) (tree.outs-Lt c.in-Lt.a c.in-Lt.b) refl (both_true (is_number (checked (g.B.Intervals.spans c.args.sets) c.in-Lt.a)) (is_number (checked (g.B.Intervals.spans c.args.sets) c.in-Lt.b)) p.number q.number) refl (r.comparison r.may_be_less r.may_be_at_least c.in_ok-number-in-Lt.field-0 c.in_ok-number-in-Lt-2.field-0) (ap2 (λ (x y : Enclosure). r.comparison r.may_be_less r.may_be_at_least x y) p.is q.is))

pub truth-returns-in_err-number-in-Le : goal.truth-returns-in_err-number-in-Le
truth-returns-in_err-number-in-Le g t c =
    c.from_residual-in_err-number-in-Le.ensures ∙ rw c.in-Le.is (truth_exit (g.B.Intervals.spans c.args.sets) (tree.Le c.in-Le.a c.in-Le.b) (F.Le c.in-Le.a c.in-Le.b) (tree.outs-Le c.in-Le.a c.in-Le.b) refl (none_left (is_number (checked (g.B.Intervals.spans c.args.sets) c.in-Le.a)) (is_number (checked (g.B.Intervals.spans c.args.sets) c.in-Le.b)) (no_number (g.B.Intervals.spans c.args.sets) c.in-Le.a (rw c.get-in-Le.ensures at c.in_err-number-in-Le.ensures))))

pub truth-returns-in_err-number-in-Le-2 : goal.truth-returns-in_err-number-in-Le-2
truth-returns-in_err-number-in-Le-2 g t c =
    c.from_residual-in_err-number-in-Le-2.ensures ∙ rw c.in-Le.is (truth_exit (g.B.Intervals.spans c.args.sets) (tree.Le c.in-Le.a c.in-Le.b) (F.Le c.in-Le.a c.in-Le.b) (tree.outs-Le c.in-Le.a c.in-Le.b) refl (none_right (is_number (checked (g.B.Intervals.spans c.args.sets) c.in-Le.a)) (is_number (checked (g.B.Intervals.spans c.args.sets) c.in-Le.b)) (no_number (g.B.Intervals.spans c.args.sets) c.in-Le.b (rw c.get-in-Le-2.ensures at c.in_err-number-in-Le-2.ensures))))

pub truth-returns-in_ok-number-in-Le-2 : goal.truth-returns-in_ok-number-in-Le-2
truth-returns-in_ok-number-in-Le-2 g t c =
    let p = some_number (g.B.Intervals.spans c.args.sets) c.in-Le.a c.in_ok-number-in-Le.field-0 (rw c.get-in-Le.ensures at c.in_ok-number-in-Le.ensures) in
    let q = some_number (g.B.Intervals.spans c.args.sets) c.in-Le.b c.in_ok-number-in-Le-2.field-0 (rw c.get-in-Le-2.ensures at c.in_ok-number-in-Le-2.ensures) in
    ap (λ (z : Enclosure). Some z) c.at_most.ensures ∙ rw c.in-Le.is (truth_return (g.B.Intervals.spans c.args.sets) (tree.Le c.in-Le.a c.in-Le.b) (F.Le c.in-Le.a c.in-Le.b) (tree.outs-Le c.in-Le.a c.in-Le.b) refl (both_true (is_number (checked (g.B.Intervals.spans c.args.sets) c.in-Le.a)) (is_number (checked (g.B.Intervals.spans c.args.sets) c.in-Le.b)) p.number q.number) refl (r.comparison r.may_be_at_most r.may_be_greater c.in_ok-number-in-Le.field-0 c.in_ok-number-in-Le-2.field-0) (ap2 (λ (x y : Enclosure). r.comparison r.may_be_at_most r.may_be_greater x y) p.is q.is))

pub truth-returns-in_err-c-in-IteB : goal.truth-returns-in_err-c-in-IteB
truth-returns-in_err-c-in-IteB g t c =
    c.from_residual-in_err-c-in-IteB.ensures ∙ rw c.in-IteB.is (truth_exit (g.B.Intervals.spans c.args.sets) (tree.IteB c.in-IteB.condition c.in-IteB.a c.in-IteB.b) (F.IteB c.in-IteB.condition c.in-IteB.a c.in-IteB.b) (tree.outs-IteB c.in-IteB.condition c.in-IteB.a c.in-IteB.b) refl (none_left ((is_truth (checked (g.B.Intervals.spans c.args.sets) c.in-IteB.condition)) && (is_truth (checked (g.B.Intervals.spans c.args.sets) c.in-IteB.a))) (is_truth (checked (g.B.Intervals.spans c.args.sets) c.in-IteB.b)) (none_left (is_truth (checked (g.B.Intervals.spans c.args.sets) c.in-IteB.condition)) (is_truth (checked (g.B.Intervals.spans c.args.sets) c.in-IteB.a)) (no_truth (g.B.Intervals.spans c.args.sets) c.in-IteB.condition (rw c.get-in-IteB.ensures at c.in_err-c-in-IteB.ensures)))))

pub truth-returns-in_err-truth-in-IteB : goal.truth-returns-in_err-truth-in-IteB
truth-returns-in_err-truth-in-IteB g t c =
    c.from_residual-in_err-truth-in-IteB.ensures ∙ rw c.in-IteB.is (truth_exit (g.B.Intervals.spans c.args.sets) (tree.IteB c.in-IteB.condition c.in-IteB.a c.in-IteB.b) (F.IteB c.in-IteB.condition c.in-IteB.a c.in-IteB.b) (tree.outs-IteB c.in-IteB.condition c.in-IteB.a c.in-IteB.b) refl (none_left ((is_truth (checked (g.B.Intervals.spans c.args.sets) c.in-IteB.condition)) && (is_truth (checked (g.B.Intervals.spans c.args.sets) c.in-IteB.a))) (is_truth (checked (g.B.Intervals.spans c.args.sets) c.in-IteB.b)) (none_right (is_truth (checked (g.B.Intervals.spans c.args.sets) c.in-IteB.condition)) (is_truth (checked (g.B.Intervals.spans c.args.sets) c.in-IteB.a)) (no_truth (g.B.Intervals.spans c.args.sets) c.in-IteB.a (rw c.get-in-IteB-2.ensures at c.in_err-truth-in-IteB.ensures)))))

pub truth-returns-in_err-truth-in-IteB-2 : goal.truth-returns-in_err-truth-in-IteB-2
truth-returns-in_err-truth-in-IteB-2 g t c =
    c.from_residual-in_err-truth-in-IteB-2.ensures ∙ rw c.in-IteB.is (truth_exit (g.B.Intervals.spans c.args.sets) (tree.IteB c.in-IteB.condition c.in-IteB.a c.in-IteB.b) (F.IteB c.in-IteB.condition c.in-IteB.a c.in-IteB.b) (tree.outs-IteB c.in-IteB.condition c.in-IteB.a c.in-IteB.b) refl (none_right ((is_truth (checked (g.B.Intervals.spans c.args.sets) c.in-IteB.condition)) && (is_truth (checked (g.B.Intervals.spans c.args.sets) c.in-IteB.a))) (is_truth (checked (g.B.Intervals.spans c.args.sets) c.in-IteB.b)) (no_truth (g.B.Intervals.spans c.args.sets) c.in-IteB.b (rw c.get-in-IteB-3.ensures at c.in_err-truth-in-IteB-2.ensures))))

pub truth-returns-in_ok-truth-in-IteB-2 : goal.truth-returns-in_ok-truth-in-IteB-2
truth-returns-in_ok-truth-in-IteB-2 g t c =
    let p = some_truth (g.B.Intervals.spans c.args.sets) c.in-IteB.condition c.in_ok-c-in-IteB.c (rw c.get-in-IteB.ensures at c.in_ok-c-in-IteB.ensures) in
    let q = some_truth (g.B.Intervals.spans c.args.sets) c.in-IteB.a c.in_ok-truth-in-IteB.field-0 (rw c.get-in-IteB-2.ensures at c.in_ok-truth-in-IteB.ensures) in
    let s = some_truth (g.B.Intervals.spans c.args.sets) c.in-IteB.b c.in_ok-truth-in-IteB-2.field-0 (rw c.get-in-IteB-3.ensures at c.in_ok-truth-in-IteB-2.ensures) in
    ap (λ (z : Enclosure). Some z) c.either_of_truths.ensures ∙ rw c.in-IteB.is (truth_return (g.B.Intervals.spans c.args.sets) (tree.IteB c.in-IteB.condition c.in-IteB.a c.in-IteB.b) (F.IteB c.in-IteB.condition c.in-IteB.a c.in-IteB.b) (tree.outs-IteB c.in-IteB.condition c.in-IteB.a c.in-IteB.b) refl (both_true ((is_truth (checked (g.B.Intervals.spans c.args.sets) c.in-IteB.condition)) && (is_truth (checked (g.B.Intervals.spans c.args.sets) c.in-IteB.a))) (is_truth (checked (g.B.Intervals.spans c.args.sets) c.in-IteB.b)) (both_true (is_truth (checked (g.B.Intervals.spans c.args.sets) c.in-IteB.condition)) (is_truth (checked (g.B.Intervals.spans c.args.sets) c.in-IteB.a)) p.truth q.truth) s.truth) refl (r.either_truth c.in_ok-c-in-IteB.c c.in_ok-truth-in-IteB.field-0 c.in_ok-truth-in-IteB-2.field-0) (ap (λ (z : Enclosure). r.either_truth z c.in_ok-truth-in-IteB.field-0 c.in_ok-truth-in-IteB-2.field-0) p.is ∙ ap2 (λ (x y : Enclosure). r.either_truth (truths_of (g.B.Intervals.spans c.args.sets) c.in-IteB.condition) x y) q.is s.is))

pub truth-returns-in_err-number-in-In : goal.truth-returns-in_err-number-in-In
truth-returns-in_err-number-in-In g t c =
    c.from_residual-in_err-number-in-In.ensures ∙ rw c.in-In.is (truth_exit (g.B.Intervals.spans c.args.sets) (tree.In c.in-In.a c.in-In.ranges) (F.In c.in-In.a c.in-In.ranges) (tree.outs-In c.in-In.a c.in-In.ranges) refl (no_number (g.B.Intervals.spans c.args.sets) c.in-In.a (rw c.get-in-In.ensures at c.in_err-number-in-In.ensures)))

pub truth-returns-in_ok-number-in-In : goal.truth-returns-in_ok-number-in-In
truth-returns-in_ok-number-in-In g t c =
    let p = some_number (g.B.Intervals.spans c.args.sets) c.in-In.a c.in_ok-number-in-In.field-0 (rw c.get-in-In.ensures at c.in_ok-number-in-In.ensures) in
    ap (λ (z : Enclosure). Some z) c.membership.ensures ∙ rw c.in-In.is (truth_return (g.B.Intervals.spans c.args.sets) (tree.In c.in-In.a c.in-In.ranges) (F.In c.in-In.a c.in-In.ranges) (tree.outs-In c.in-In.a c.in-In.ranges) refl p.number refl (r.boolean_enclosure (r.test_interval (r.may_be_in c.in-In.ranges) c.in_ok-number-in-In.field-0.interval) (c.in_ok-number-in-In.field-0.may_be_undefined || r.test_interval (λ s. not (r.is_inside c.in-In.ranges s)) c.in_ok-number-in-In.field-0.interval)) (ap (λ (x : Enclosure). r.boolean_enclosure (r.test_interval (r.may_be_in c.in-In.ranges) x.interval) (x.may_be_undefined || r.test_interval (λ s. not (r.is_inside c.in-In.ranges s)) x.interval)) p.is))

pub truth-returns-in-AllDiff : goal.truth-returns-in-AllDiff
truth-returns-in-AllDiff g t c =
    rw c.as_slice-in-AllDiff.ensures at c.distinct_on.ensures ∙ rw c.in-AllDiff.is (truth_node (g.B.Intervals.spans c.args.sets) (tree.AllDiff c.in-AllDiff.parts) (F.AllDiff c.in-AllDiff.parts) (tree.outs-AllDiff c.in-AllDiff.parts) refl (r.distinct (map (enclosure (g.B.Intervals.spans c.args.sets)) c.in-AllDiff.parts)) refl)

pub truth-returns-in-Table : goal.truth-returns-in-Table
truth-returns-in-Table g t c =
    rw (c.as_slice-in-Table.ensures, c.as_slice-in-Table-2.ensures) at c.rowed_on.ensures ∙ rw c.in-Table.is (truth_node (g.B.Intervals.spans c.args.sets) (tree.Table c.in-Table.parts c.in-Table.rows) (F.Table c.in-Table.parts c.in-Table.rows) (tree.outs-Table c.in-Table.parts c.in-Table.rows) refl (r.rowed c.in-Table.rows (map (enclosure (g.B.Intervals.spans c.args.sets)) c.in-Table.parts)) refl)

pub sum_on-loop-part-init : goal.sum_on-loop-part-init
sum_on-loop-part-init g t c =
    record { rest = ap (λ (z : Enclosure). sum_onward (g.B.Intervals.spans c.args.sets) z c.args.parts.now) (rw c.single.ensures at c.numeric-total.ensures); plain = rw c.numeric-total.ensures refl }

pub sum_on-loop-part-preserved : goal.sum_on-loop-part-preserved
sum_on-loop-part-preserved g t c =
    let l = c.loop-part in
    record {
      rest = sum_goes (g.B.Intervals.spans c.args.sets) (drop c.loop-part.part-index c.args.parts.now) (drop (c.loop-part.part-index + 1) c.args.parts.now) c.part-item.result l.total (drop_here c.args.parts.now c.loop-part.part-index c.part-item.result (omega arith) c.part-item.is) c.in_ok-number.field-0 c.in_ok-number.ensures c.in_ok-total.total c.in_ok-total.ensures ∙ l.invariant.rest;
      plain = within_plain (r.operation add_span l.total c.in_ok-number.field-0) c.in_ok-total.total refl c.in_ok-total.ensures;
    }

pub sum_on-returns-in_err-number : goal.sum_on-returns-in_err-number
sum_on-returns-in_err-number g t c =
    c.from_residual.ensures ∙ sum_stops (g.B.Intervals.spans c.args.sets) (drop c.loop-part.part-index c.args.parts.now) (drop (c.loop-part.part-index + 1) c.args.parts.now) c.part-item.result c.loop-part.total (drop_here c.args.parts.now c.loop-part.part-index c.part-item.result (omega arith) c.part-item.is) c.in_err-number.ensures ∙ c.loop-part.invariant.rest

pub sum_on-returns-in_err-total : goal.sum_on-returns-in_err-total
sum_on-returns-in_err-total g t c =
    c.from_residual-in_err-total.ensures ∙ sum_leaves (g.B.Intervals.spans c.args.sets) (drop c.loop-part.part-index c.args.parts.now) (drop (c.loop-part.part-index + 1) c.args.parts.now) c.part-item.result c.loop-part.total (drop_here c.args.parts.now c.loop-part.part-index c.part-item.result (omega arith) c.part-item.is) c.in_ok-number.field-0 c.in_ok-number.ensures c.in_err-total.ensures ∙ c.loop-part.invariant.rest

pub sum_on-returns : goal.sum_on-returns
sum_on-returns g t c =
    sum_ends (g.B.Intervals.spans c.args.sets) c.loop-part.total (drop c.loop-part.part-index c.args.parts.now) (drop_all c.loop-part.part-index c.args.parts.now c.loop-part-test.false) c.loop-part.invariant.plain ∙ c.loop-part.invariant.rest

pub extreme_on-loop-part-preserved : goal.extreme_on-loop-part-preserved
extreme_on-loop-part-preserved g t c =
    let l = c.loop-part in
    let on = parts_on (g.B.Intervals.spans c.args.sets) (drop c.loop-part.part-index c.args.parts.now) (drop (c.loop-part.part-index + 1) c.args.parts.now) c.part-item.result c.in_ok-number.field-0 (drop_here c.args.parts.now c.loop-part.part-index c.part-item.result (omega arith) c.part-item.is) c.in_ok-number.ensures in
    record { known = sym on.known ∙ l.invariant.known; rest = rw c.take_more.ensures (sym (on.onward (extreme_span c.args.which) l.best) ∙ l.invariant.rest) }

pub extreme_on-returns-in_err-number : goal.extreme_on-returns-in_err-number
extreme_on-returns-in_err-number g t c =
    c.from_residual.ensures ∙ numbers_stop (g.B.Intervals.spans c.args.sets) c.args.parts.now (drop c.loop-part.part-index c.args.parts.now) (drop (c.loop-part.part-index + 1) c.args.parts.now) c.part-item.result (r.extreme_enclosure (extreme_span c.args.which) (map (enclosure (g.B.Intervals.spans c.args.sets)) c.args.parts.now)) (drop_here c.args.parts.now c.loop-part.part-index c.part-item.result (omega arith) c.part-item.is) c.loop-part.invariant.known c.in_err-number.ensures

pub extreme_on-returns-in-Some : goal.extreme_on-returns-in-Some
extreme_on-returns-in-Some g t c =
    let l = c.loop-part in
    let f = extreme_span c.args.which in
    let is : c.numeric.result ≡ (r.extreme_enclosure (extreme_span c.args.which) (map (enclosure (g.B.Intervals.spans c.args.sets)) c.args.parts.now)) =
    c.numeric.ensures ∙ sym (onward_end f c.in-Some.best)
    ∙ ap (λ zs. onward_on f (Some c.in-Some.best) (map (enclosure (g.B.Intervals.spans c.args.sets)) zs)) (sym (drop_all c.loop-part.part-index c.args.parts.now c.loop-part-test.false))
    ∙ ap (λ o. onward_on f o (map (enclosure (g.B.Intervals.spans c.args.sets)) (drop c.loop-part.part-index c.args.parts.now))) (sym c.in-Some.is) ∙ l.invariant.rest in
    c.within.ensures ∙ ap (λ (z : Enclosure). within_limits z) is ∙ node_is (g.B.Intervals.spans c.args.sets) c.args.parts.now (r.extreme_enclosure (extreme_span c.args.which) (map (enclosure (g.B.Intervals.spans c.args.sets)) c.args.parts.now)) (numbers_end (g.B.Intervals.spans c.args.sets) c.args.parts.now (drop c.loop-part.part-index c.args.parts.now) (drop_all c.loop-part.part-index c.args.parts.now c.loop-part-test.false) l.invariant.known)

pub extreme_on-returns-in-None : goal.extreme_on-returns-in-None
extreme_on-returns-in-None g t c =
    let l = c.loop-part in
    let f = extreme_span c.args.which in
    let is : r.numeric_enclosure None true ≡ (r.extreme_enclosure (extreme_span c.args.which) (map (enclosure (g.B.Intervals.spans c.args.sets)) c.args.parts.now)) =
    ap (λ zs. onward_on f None (map (enclosure (g.B.Intervals.spans c.args.sets)) zs)) (sym (drop_all c.loop-part.part-index c.args.parts.now c.loop-part-test.false))
    ∙ ap (λ o. onward_on f o (map (enclosure (g.B.Intervals.spans c.args.sets)) (drop c.loop-part.part-index c.args.parts.now))) (sym c.in-None.is) ∙ l.invariant.rest in
    ap (λ (z : Enclosure). Some z) c.numeric-in-None.ensures ∙ ap (λ (z : Enclosure). within_limits z) is ∙ node_is (g.B.Intervals.spans c.args.sets) c.args.parts.now (r.extreme_enclosure (extreme_span c.args.which) (map (enclosure (g.B.Intervals.spans c.args.sets)) c.args.parts.now)) (numbers_end (g.B.Intervals.spans c.args.sets) c.args.parts.now (drop c.loop-part.part-index c.args.parts.now) (drop_all c.loop-part.part-index c.args.parts.now c.loop-part-test.false) l.invariant.known)

pub selected_on-loop-place-preserved : goal.selected_on-loop-place-preserved
selected_on-loop-place-preserved g t c =
    let l = c.loop-place in
    let x = c.in_ok-x.x in
    let on : PlaceOn (g.B.Intervals.spans c.args.sets) c.args.parts.now (reaches c.args.access.now) l.place l.so_far c.if-reaches.so_far =
    elim c.if-reaches.branch [
      | selected_on-then-reaches w ↦ place_taken (g.B.Intervals.spans c.args.sets) c.args.parts.now (reaches c.args.access.now) l.place c.index-parts-place.result x c.loop-place-test.true c.index-parts-place.is c.in_ok-x.ensures l.so_far c.if-reaches.so_far (sym c.reaches.ensures ∙ w.if-reaches.true) (w.so_far-is ∙ w.gather-so_far.ensures)
      | selected_on-else-reaches w ↦ place_left (g.B.Intervals.spans c.args.sets) c.args.parts.now (reaches c.args.access.now) l.place c.index-parts-place.result x c.loop-place-test.true c.index-parts-place.is c.in_ok-x.ensures l.so_far c.if-reaches.so_far (sym c.reaches.ensures ∙ w.if-reaches.false) w.so_far-is
    ] in
    record { known = sym on.known ∙ l.invariant.known; interval = on.numbers_next ∙ l.invariant.interval; may_be_undefined = on.undefined_next ∙ l.invariant.may_be_undefined }

pub selected_on-returns-in_err-x : goal.selected_on-returns-in_err-x
selected_on-returns-in_err-x g t c =
    c.from_residual.ensures ∙ numbers_stop (g.B.Intervals.spans c.args.sets) c.args.parts.now (drop c.loop-place.place c.args.parts.now) (drop (c.loop-place.place + 1) c.args.parts.now) c.index-parts-place.result (r.selected_enclosure (reaches c.args.access.now) c.args.none (map (enclosure (g.B.Intervals.spans c.args.sets)) c.args.parts.now)) (drop_here c.args.parts.now c.loop-place.place c.index-parts-place.result c.loop-place-test.true c.index-parts-place.is) c.loop-place.invariant.known c.in_err-x.ensures

pub selected_on-returns : goal.selected_on-returns
selected_on-returns g t c =
    let l = c.loop-place in
    let i : l.so_far.interval ≡ r.joined (reaches c.args.access.now) 0 (map (enclosure (g.B.Intervals.spans c.args.sets)) c.args.parts.now) = sym (join_end l.so_far.interval) ∙ ap (λ zs. join_some l.so_far.interval (r.joined (reaches c.args.access.now) l.place (map (enclosure (g.B.Intervals.spans c.args.sets)) zs))) (sym (drop_all c.loop-place.place c.args.parts.now c.loop-place-test.false)) ∙ l.invariant.interval in
    let u : l.so_far.may_be_undefined ≡ (c.args.none || r.reached_undefined (reaches c.args.access.now) 0 (map (enclosure (g.B.Intervals.spans c.args.sets)) c.args.parts.now)) = sym (or_none l.so_far.may_be_undefined) ∙ ap (λ zs. l.so_far.may_be_undefined || r.reached_undefined (reaches c.args.access.now) l.place (map (enclosure (g.B.Intervals.spans c.args.sets)) zs)) (sym (drop_all c.loop-place.place c.args.parts.now c.loop-place-test.false)) ∙ l.invariant.may_be_undefined in
    c.within.ensures ∙ ap (λ (z : Enclosure). within_limits z) (c.numeric.ensures ∙ ap2 r.numeric_enclosure i u) ∙ node_is (g.B.Intervals.spans c.args.sets) c.args.parts.now (r.selected_enclosure (reaches c.args.access.now) c.args.none (map (enclosure (g.B.Intervals.spans c.args.sets)) c.args.parts.now)) (numbers_end (g.B.Intervals.spans c.args.sets) c.args.parts.now (drop c.loop-place.place c.args.parts.now) (drop_all c.loop-place.place c.args.parts.now c.loop-place-test.false) l.invariant.known)

pub count_on-loop-part-init : goal.count_on-loop-part-init
count_on-loop-part-init g t c =
    record {
      known = refl;
      defined = rw c.is_some-defined.ensures refl;
      may_be_undefined = refl;
      ordered = omega arith;
      few = omega arith;
      certain = omega arith;
      possible = omega arith;
    }

pub count_on-loop-part-preserved : goal.count_on-loop-part-preserved
count_on-loop-part-preserved g t c =
    let l = c.loop-part in
    let x = c.in_ok-x.x in
    let y = c.args.y.interval in
    let on = parts_on (g.B.Intervals.spans c.args.sets) (drop c.loop-part.part-index c.args.parts.now) (drop (c.loop-part.part-index + 1) c.args.parts.now) c.part-item.result x (drop_here c.args.parts.now c.loop-part.part-index c.part-item.result (omega arith) c.part-item.is) c.in_ok-x.ensures in
    let same : c.one_if-certain.result ≡ (if r.compare_intervals r.same_single x.interval y then 1 else 0) = rw c.are_one.ensures at c.one_if-certain.ensures in
    let meets : c.one_if-possible.result ≡ (if r.compare_intervals r.meets x.interval y then 1 else 0) = rw c.meets.ensures at c.one_if-possible.ensures in
    let more = at_most_one (r.compare_intervals r.meets x.interval y) c.one_if-possible.result meets in
    let fewer = certain_possible x.interval y c.one_if-certain.result c.one_if-possible.result same meets in
    record {
      known = sym on.known ∙ l.invariant.known;
      defined = rw c.is_some-defined-in-loop-part.ensures (sym (on.defined l.defined) ∙ l.invariant.defined);
      may_be_undefined = sym (on.may_be_undefined l.may_be_undefined) ∙ l.invariant.may_be_undefined;
      ordered = omega (arith, fewer, l.invariant.ordered);
      few = omega (arith, more, l.invariant.few);
      certain = counted_one (r.compare_intervals r.same_single x.interval y) l.certain c.one_if-certain.result _ _ same (on.many (λ o. r.compare_intervals r.same_single o y)) ∙ l.invariant.certain;
      possible = counted_one (r.compare_intervals r.meets x.interval y) l.possible c.one_if-possible.result _ _ meets (on.many (λ o. r.compare_intervals r.meets o y)) ∙ l.invariant.possible;
    }

pub count_on-returns-in_err-x : goal.count_on-returns-in_err-x
count_on-returns-in_err-x g t c =
    c.from_residual.ensures ∙ numbers_stop (g.B.Intervals.spans c.args.sets) c.args.parts.now (drop c.loop-part.part-index c.args.parts.now) (drop (c.loop-part.part-index + 1) c.args.parts.now) c.part-item.result (r.counted_enclosure (map (enclosure (g.B.Intervals.spans c.args.sets)) c.args.parts.now) c.args.y) (drop_here c.args.parts.now c.loop-part.part-index c.part-item.result (omega arith) c.part-item.is) c.loop-part.invariant.known c.in_err-x.ensures

pub count_on-returns : goal.count_on-returns
count_on-returns g t c =
    let l = c.loop-part in
    let all = numbers_end (g.B.Intervals.spans c.args.sets) c.args.parts.now (drop c.loop-part.part-index c.args.parts.now) (drop_all c.loop-part.part-index c.args.parts.now c.loop-part-test.false) l.invariant.known in
    let w : l.defined ≡ (is_some c.args.y.interval && r.all_some (map (enclosure (g.B.Intervals.spans c.args.sets)) c.args.parts.now)) = sym (and_end l.defined) ∙ ap (λ zs. l.defined && r.all_some (map (enclosure (g.B.Intervals.spans c.args.sets)) zs)) (sym (drop_all c.loop-part.part-index c.args.parts.now c.loop-part-test.false)) ∙ l.invariant.defined in
    let u : l.may_be_undefined ≡ (c.args.y.may_be_undefined || r.any_may_be_undefined (map (enclosure (g.B.Intervals.spans c.args.sets)) c.args.parts.now)) = sym (or_none l.may_be_undefined) ∙ ap (λ zs. l.may_be_undefined || r.any_may_be_undefined (map (enclosure (g.B.Intervals.spans c.args.sets)) zs)) (sym (drop_all c.loop-part.part-index c.args.parts.now c.loop-part-test.false)) ∙ l.invariant.may_be_undefined in
    let m : l.certain ≡ how_many (λ (x : Enclosure). r.compare_intervals r.same_single x.interval c.args.y.interval) (map (enclosure (g.B.Intervals.spans c.args.sets)) c.args.parts.now) = sym (add-zero l.certain) ∙ ap (λ zs. l.certain + how_many (λ (x : Enclosure). r.compare_intervals r.same_single x.interval c.args.y.interval) (map (enclosure (g.B.Intervals.spans c.args.sets)) zs)) (sym (drop_all c.loop-part.part-index c.args.parts.now c.loop-part-test.false)) ∙ l.invariant.certain in
    let n : l.possible ≡ how_many (λ (x : Enclosure). r.compare_intervals r.meets x.interval c.args.y.interval) (map (enclosure (g.B.Intervals.spans c.args.sets)) c.args.parts.now) = sym (add-zero l.possible) ∙ ap (λ zs. l.possible + how_many (λ (x : Enclosure). r.compare_intervals r.meets x.interval c.args.y.interval) (map (enclosure (g.B.Intervals.spans c.args.sets)) zs)) (sym (drop_all c.loop-part.part-index c.args.parts.now c.loop-part-test.false)) ∙ l.invariant.possible in
    c.counted.ensures ∙ ap (λ (z : Enclosure). within_limits z) (count_is (map (enclosure (g.B.Intervals.spans c.args.sets)) c.args.parts.now) c.args.y l.defined l.may_be_undefined l.certain l.possible w u m n) ∙ node_is (g.B.Intervals.spans c.args.sets) c.args.parts.now (r.counted_enclosure (map (enclosure (g.B.Intervals.spans c.args.sets)) c.args.parts.now) c.args.y) all

pub count_on-counted-requires : goal.count_on-counted-requires
count_on-counted-requires g t c =
    c.loop-part.invariant.ordered

pub all_on-loop-part-init : goal.all_on-loop-part-init
all_on-loop-part-init g t c =
    record {
      known = refl;
      may_be_true = rw c.boolean-all.ensures refl;
      may_be_false = rw c.boolean-all.ensures refl;
    }

pub all_on-loop-part-preserved : goal.all_on-loop-part-preserved
all_on-loop-part-preserved g t c =
    let l = c.loop-part in
    let on = truths_on (g.B.Intervals.spans c.args.sets) (drop c.loop-part.part-index c.args.parts.now) (drop (c.loop-part.part-index + 1) c.args.parts.now) c.part-item.result c.in_ok-x.x (drop_here c.args.parts.now c.loop-part.part-index c.part-item.result (omega arith) c.part-item.is) c.in_ok-x.ensures in
    record { known = sym on.known ∙ l.invariant.known; may_be_true = sym (on.all_yes l.all.may_be_true) ∙ l.invariant.may_be_true; may_be_false = sym (on.any_no l.all.may_be_false) ∙ l.invariant.may_be_false }

pub all_on-returns-in_err-x : goal.all_on-returns-in_err-x
all_on-returns-in_err-x g t c =
    c.from_residual.ensures ∙ truths_stop (g.B.Intervals.spans c.args.sets) c.args.parts.now (drop c.loop-part.part-index c.args.parts.now) (drop (c.loop-part.part-index + 1) c.args.parts.now) c.part-item.result (r.boolean_enclosure (r.all_may_be_true (map (enclosure (g.B.Intervals.spans c.args.sets)) c.args.parts.now)) (r.any_may_be_false (map (enclosure (g.B.Intervals.spans c.args.sets)) c.args.parts.now))) (drop_here c.args.parts.now c.loop-part.part-index c.part-item.result (omega arith) c.part-item.is) c.loop-part.invariant.known c.in_err-x.ensures

pub all_on-returns : goal.all_on-returns
all_on-returns g t c =
    let l = c.loop-part in
    let y : l.all.may_be_true ≡ r.all_may_be_true (map (enclosure (g.B.Intervals.spans c.args.sets)) c.args.parts.now) = sym (and_end l.all.may_be_true) ∙ ap (λ zs. l.all.may_be_true && r.all_may_be_true (map (enclosure (g.B.Intervals.spans c.args.sets)) zs)) (sym (drop_all c.loop-part.part-index c.args.parts.now c.loop-part-test.false)) ∙ l.invariant.may_be_true in
    let n : l.all.may_be_false ≡ r.any_may_be_false (map (enclosure (g.B.Intervals.spans c.args.sets)) c.args.parts.now) = sym (or_none l.all.may_be_false) ∙ ap (λ zs. l.all.may_be_false || r.any_may_be_false (map (enclosure (g.B.Intervals.spans c.args.sets)) zs)) (sym (drop_all c.loop-part.part-index c.args.parts.now c.loop-part-test.false)) ∙ l.invariant.may_be_false in
    ap (λ (z : Enclosure). Some z) (c.boolean.ensures ∙ ap2 r.boolean_enclosure y n) ∙ ap (λ k. known k (r.boolean_enclosure (r.all_may_be_true (map (enclosure (g.B.Intervals.spans c.args.sets)) c.args.parts.now)) (r.any_may_be_false (map (enclosure (g.B.Intervals.spans c.args.sets)) c.args.parts.now)))) (sym (truths_end (g.B.Intervals.spans c.args.sets) c.args.parts.now (drop c.loop-part.part-index c.args.parts.now) (drop_all c.loop-part.part-index c.args.parts.now c.loop-part-test.false) l.invariant.known))

pub any_on-loop-part-init : goal.any_on-loop-part-init
any_on-loop-part-init g t c =
    record {
      known = refl;
      may_be_true = rw c.boolean-any.ensures refl;
      may_be_false = rw c.boolean-any.ensures refl;
    }

pub any_on-loop-part-preserved : goal.any_on-loop-part-preserved
any_on-loop-part-preserved g t c =
    let l = c.loop-part in
    let on = truths_on (g.B.Intervals.spans c.args.sets) (drop c.loop-part.part-index c.args.parts.now) (drop (c.loop-part.part-index + 1) c.args.parts.now) c.part-item.result c.in_ok-x.x (drop_here c.args.parts.now c.loop-part.part-index c.part-item.result (omega arith) c.part-item.is) c.in_ok-x.ensures in
    record { known = sym on.known ∙ l.invariant.known; may_be_true = sym (on.any_yes l.any.may_be_true) ∙ l.invariant.may_be_true; may_be_false = sym (on.all_no l.any.may_be_false) ∙ l.invariant.may_be_false }

pub any_on-returns-in_err-x : goal.any_on-returns-in_err-x
any_on-returns-in_err-x g t c =
    c.from_residual.ensures ∙ truths_stop (g.B.Intervals.spans c.args.sets) c.args.parts.now (drop c.loop-part.part-index c.args.parts.now) (drop (c.loop-part.part-index + 1) c.args.parts.now) c.part-item.result (r.boolean_enclosure (r.any_may_be_true (map (enclosure (g.B.Intervals.spans c.args.sets)) c.args.parts.now)) (r.all_may_be_false (map (enclosure (g.B.Intervals.spans c.args.sets)) c.args.parts.now))) (drop_here c.args.parts.now c.loop-part.part-index c.part-item.result (omega arith) c.part-item.is) c.loop-part.invariant.known c.in_err-x.ensures

pub any_on-returns : goal.any_on-returns
any_on-returns g t c =
    let l = c.loop-part in
    let y : l.any.may_be_true ≡ r.any_may_be_true (map (enclosure (g.B.Intervals.spans c.args.sets)) c.args.parts.now) = sym (or_none l.any.may_be_true) ∙ ap (λ zs. l.any.may_be_true || r.any_may_be_true (map (enclosure (g.B.Intervals.spans c.args.sets)) zs)) (sym (drop_all c.loop-part.part-index c.args.parts.now c.loop-part-test.false)) ∙ l.invariant.may_be_true in
    let n : l.any.may_be_false ≡ r.all_may_be_false (map (enclosure (g.B.Intervals.spans c.args.sets)) c.args.parts.now) = sym (and_end l.any.may_be_false) ∙ ap (λ zs. l.any.may_be_false && r.all_may_be_false (map (enclosure (g.B.Intervals.spans c.args.sets)) zs)) (sym (drop_all c.loop-part.part-index c.args.parts.now c.loop-part-test.false)) ∙ l.invariant.may_be_false in
    ap (λ (z : Enclosure). Some z) (c.boolean.ensures ∙ ap2 r.boolean_enclosure y n) ∙ ap (λ k. known k (r.boolean_enclosure (r.any_may_be_true (map (enclosure (g.B.Intervals.spans c.args.sets)) c.args.parts.now)) (r.all_may_be_false (map (enclosure (g.B.Intervals.spans c.args.sets)) c.args.parts.now)))) (sym (truths_end (g.B.Intervals.spans c.args.sets) c.args.parts.now (drop c.loop-part.part-index c.args.parts.now) (drop_all c.loop-part.part-index c.args.parts.now c.loop-part-test.false) l.invariant.known))

pub first_enclosures-loop-place-preserved : goal.first_enclosures-loop-place-preserved
first_enclosures-loop-place-preserved g t c =
    let l = c.loop-place in
    let x = c.index-parts-place.result in
    let q = c.in_ok-number.field-0 in
    let on = parts_on (g.B.Intervals.spans c.args.sets) (drop c.loop-place.place c.args.parts.now) (drop (c.loop-place.place + 1) c.args.parts.now) x q (drop_here c.args.parts.now c.loop-place.place c.index-parts-place.result c.loop-place-test.true c.index-parts-place.is) c.in_ok-number.ensures in
    let same = (some_number (g.B.Intervals.spans c.args.sets) x q c.in_ok-number.ensures).is ∙ ap (numbers_of (g.B.Intervals.spans c.args.sets)) (part_read c.args.parts.now l.place x c.loop-place-test.true c.index-parts-place.is) in
    record {
      known = sym on.known ∙ l.invariant.known;
      size = ap length c.keep.ensures ∙ length-set l.kept l.place q ∙ l.invariant.size;
      kept = λ k few small. ap (λ zs. get_or zs k (r.numeric_enclosure None false)) c.keep.ensures ∙ kept_more l.kept (r.numeric_enclosure None false) q (λ k. numbers_of (g.B.Intervals.spans c.args.sets) (part c.args.parts.now k)) l.place l.invariant.size same l.invariant.kept k few small;
    }

pub first_enclosures-returns : goal.first_enclosures-returns
first_enclosures-returns g t c =
    let l = c.loop-place in
    record {
      well_formed = numbers_end (g.B.Intervals.spans c.args.sets) c.args.parts.now (drop c.loop-place.place c.args.parts.now) (drop_all c.loop-place.place c.args.parts.now c.loop-place-test.false) l.invariant.known;
      enclosures = λ k few lt. l.invariant.kept k (omega (arith, c.loop-place-test.false, lt)) (omega (arith, l.invariant.size, few));
    }

pub first_enclosures-returns-in_err-number : goal.first_enclosures-returns-in_err-number
first_enclosures-returns-in_err-number g t c =
    rw c.from_residual.ensures (sym c.loop-place.invariant.known ∙ ap (λ zs. are_numbers (map (checked (g.B.Intervals.spans c.args.sets)) zs)) (drop_here c.args.parts.now c.loop-place.place c.index-parts-place.result c.loop-place-test.true c.index-parts-place.is) ∙ ap (λ k. k && are_numbers (map (checked (g.B.Intervals.spans c.args.sets)) (drop (c.loop-place.place + 1) c.args.parts.now))) (no_number (g.B.Intervals.spans c.args.sets) c.index-parts-place.result c.in_err-number.ensures))

pub enclosure_at-returns : goal.enclosure_at-returns
enclosure_at-returns g t c =
    (some_number (g.B.Intervals.spans c.args.sets) c.index-parts-place.result c.in-Some.x c.in-Some.ensures).is ∙ ap (numbers_of (g.B.Intervals.spans c.args.sets)) (part_read c.args.parts.now c.args.place c.index-parts-place.result c.requires.place c.index-parts-place.is)

pub enclosure_at-unreachable-requires : goal.enclosure_at-unreachable-requires
enclosure_at-unreachable-requires g t c =
    never (g.B.Intervals.spans c.args.sets) c.args.parts.now c.args.place c.index-parts-place.result c.requires.place c.index-parts-place.is c.requires.kept.well_formed c.in-None.ensures

pub distinct_on-returns : goal.distinct_on-returns
distinct_on-returns g t c =
    let k = c.in_ok-kept.ensures in
    ap (λ (z : Enclosure). Some z) (rw (c.all_have_room-have_room.ensures, c.some_meet_on.ensures) at c.boolean.ensures) ∙ node_is (g.B.Intervals.spans c.args.sets) c.args.parts.now (r.distinct (map (enclosure (g.B.Intervals.spans c.args.sets)) c.args.parts.now)) k.well_formed

pub distinct_on-returns-in_err-kept : goal.distinct_on-returns-in_err-kept
distinct_on-returns-in_err-kept g t c =
    c.from_residual.ensures ∙ not_all (g.B.Intervals.spans c.args.sets) c.args.parts.now (r.distinct (map (enclosure (g.B.Intervals.spans c.args.sets)) c.args.parts.now)) c.in_err-kept.ensures

pub rowed_on-returns : goal.rowed_on-returns
rowed_on-returns g t c =
    let k = c.in_ok-kept.ensures in
    ap (λ (z : Enclosure). Some z) (rw (c.some_row_on-fits.ensures, c.some_unsure_on.ensures) at c.tabled.ensures) ∙ node_is (g.B.Intervals.spans c.args.sets) c.args.parts.now (r.rowed c.args.rows.now (map (enclosure (g.B.Intervals.spans c.args.sets)) c.args.parts.now)) k.well_formed

pub rowed_on-returns-in_err-kept : goal.rowed_on-returns-in_err-kept
rowed_on-returns-in_err-kept g t c =
    c.from_residual.ensures ∙ not_all (g.B.Intervals.spans c.args.sets) c.args.parts.now (r.rowed c.args.rows.now (map (enclosure (g.B.Intervals.spans c.args.sets)) c.args.parts.now)) c.in_err-kept.ensures

pub all_have_room-loop-place-preserved : goal.all_have_room-loop-place-preserved
all_have_room-loop-place-preserved g t c =
    let q = c.enclosure_at.result in
    let on = spans_over (g.B.Intervals.spans c.args.sets) (drop c.loop-place.place c.args.parts.now) (drop (c.loop-place.place + 1) c.args.parts.now) (part c.args.parts.now c.loop-place.place) c.enclosure_at.result (part_here c.args.parts.now c.loop-place.place c.loop-place-test.true) c.enclosure_at.ensures in
    let some : is_some q.interval ≡ true = ap (λ o. is_some o) c.in-Some.is in
    let room : r.room_from (map (enclosure (g.B.Intervals.spans c.args.sets)) c.args.parts.now) q.interval ≡ true = ap (r.room_from (map (enclosure (g.B.Intervals.spans c.args.sets)) c.args.parts.now)) c.in-Some.is ∙ sym c.has_room_from.ensures ∙ c.if-not-has_room_from.false in
    sym (ap2 (λ x y. x && y) (on.all (λ o. is_some o) true (sym some)) (on.all (r.room_from (map (enclosure (g.B.Intervals.spans c.args.sets)) c.args.parts.now)) true (sym room))) ∙ c.loop-place.invariant

pub has_room_from-loop-place-preserved : goal.has_room_from-loop-place-preserved
has_room_from-loop-place-preserved g t c =
    let q = c.enclosure_at.result in
    let on = spans_over (g.B.Intervals.spans c.args.sets) (drop c.loop-place.place c.args.parts.now) (drop (c.loop-place.place + 1) c.args.parts.now) (part c.args.parts.now c.loop-place.place) c.enclosure_at.result (part_here c.args.parts.now c.loop-place.place c.loop-place-test.true) c.enclosure_at.ensures in
    let room = rw c.between-range.ensures at c.has_room_on.ensures ∙ between_room (map (enclosure (g.B.Intervals.spans c.args.sets)) c.args.parts.now) c.args.start q.interval in
    rw c.if-not-has_room_on.false at (sym (on.all (λ o. not (r.compare_intervals (λ s t. not (r.has_room s.lo t.hi (map (enclosure (g.B.Intervals.spans c.args.sets)) c.args.parts.now))) (Some c.args.start) o)) c.has_room_on.result room)) ∙ c.loop-place.invariant

pub has_room_on-returns-then-has_many : goal.has_room_on-returns-then-has_many
has_room_on-returns-then-has_many g t c =
    rw c.in-Some.is (wide_room c.in-Some.range (g.B.Intervals.spans c.args.sets) c.args.parts.now (sym c.has_many.ensures.value ∙ c.if-has_many.true))

pub has_room_on-loop-place-preserved : goal.has_room_on-loop-place-preserved
has_room_on-loop-place-preserved g t c =
    let l = c.loop-place in
    let q = c.enclosure_at.result in
    let range = c.in-Some.range in
    let on = spans_over (g.B.Intervals.spans c.args.sets) (drop c.loop-place.place c.args.parts.now) (drop (c.loop-place.place + 1) c.args.parts.now) (part c.args.parts.now c.loop-place.place) c.enclosure_at.result (part_here c.args.parts.now c.loop-place.place c.loop-place-test.true) c.enclosure_at.ensures in
    let one : c.one_if-held.result ≡ (if r.test_interval (lies_in range) q.interval then 1 else 0) = rw c.lies_in.ensures at c.one_if-held.ensures in
    let few = at_most_one (r.test_interval (lies_in range) q.interval) c.one_if-held.result one in
    record {
      few = omega (arith, few, l.invariant.few);
      rest = counted_one (r.test_interval (lies_in range) q.interval) l.held c.one_if-held.result _ _ one (on.many (λ o. r.test_interval (lies_in range) o)) ∙ l.invariant.rest;
    }

pub some_meet_on-loop-place-preserved : goal.some_meet_on-loop-place-preserved
some_meet_on-loop-place-preserved g t c =
    let on = meets_on (g.B.Intervals.spans c.args.sets) c.args.parts.now c.loop-place.place c.loop-place-test.true in
    let apart = sym c.first_meets_on.ensures ∙ c.if-first_meets_on.false in
    rw apart at (sym on.turn) ∙ c.loop-place.invariant

pub first_meets_on-loop-later-init : goal.first_meets_on-loop-later-init
first_meets_on-loop-later-init g t c =
    let on = spans_over (g.B.Intervals.spans c.args.sets) (drop c.args.place c.args.parts.now) (drop (c.args.place + 1) c.args.parts.now) (part c.args.parts.now c.args.place) c.enclosure_at-x.result (part_here c.args.parts.now c.args.place c.requires.place) c.enclosure_at-x.ensures in
    rw c.if-x.false at (sym on.first)

pub first_meets_on-loop-later-preserved : goal.first_meets_on-loop-later-preserved
first_meets_on-loop-later-preserved g t c =
    let on = spans_over (g.B.Intervals.spans c.args.sets) (drop c.loop-later.later c.args.parts.now) (drop (c.loop-later.later + 1) c.args.parts.now) (part c.args.parts.now c.loop-later.later) c.enclosure_at.result (part_here c.args.parts.now c.loop-later.later c.loop-later-test.true) c.enclosure_at.ensures in
    rw c.if-meets.false at (sym (on.any (λ o. r.compare_intervals r.meets c.enclosure_at-x.result.interval o) c.meets.result c.meets.ensures)) ∙ c.loop-later.invariant

pub first_meets_on-returns-then-meets : goal.first_meets_on-returns-then-meets
first_meets_on-returns-then-meets g t c =
    let on = spans_over (g.B.Intervals.spans c.args.sets) (drop c.loop-later.later c.args.parts.now) (drop (c.loop-later.later + 1) c.args.parts.now) (part c.args.parts.now c.loop-later.later) c.enclosure_at.result (part_here c.args.parts.now c.loop-later.later c.loop-later-test.true) c.enclosure_at.ensures in
    rw c.if-meets.true at (sym (on.any (λ o. r.compare_intervals r.meets c.enclosure_at-x.result.interval o) c.meets.result c.meets.ensures)) ∙ c.loop-later.invariant

pub some_unsure_on-loop-place-preserved : goal.some_unsure_on-loop-place-preserved
some_unsure_on-loop-place-preserved g t c =
    let on = spans_over (g.B.Intervals.spans c.args.sets) (drop c.loop-place.place c.args.parts.now) (drop (c.loop-place.place + 1) c.args.parts.now) (part c.args.parts.now c.loop-place.place) c.enclosure_at.result (part_here c.args.parts.now c.loop-place.place c.loop-place-test.true) c.enclosure_at.ensures in
    let sure = sym c.is_unsure.ensures ∙ c.if-is_unsure.false in
    rw sure at (sym on.unsure) ∙ c.loop-place.invariant

pub admit_row-returns-then-parts-row : goal.admit_row-returns-then-parts-row
admit_row-returns-then-parts-row g t c =
    no_row_on (g.B.Intervals.spans c.args.sets) c.args.parts.now c.args.row.now c.if-parts-row.true

pub admit_row-loop-place-preserved : goal.admit_row-loop-place-preserved
admit_row-loop-place-preserved g t c =
    let on = spans_over (g.B.Intervals.spans c.args.sets) (drop c.loop-place.place c.args.parts.now) (drop (c.loop-place.place + 1) c.args.parts.now) (part c.args.parts.now c.loop-place.place) c.enclosure_at.result (part_here c.args.parts.now c.loop-place.place c.loop-place-test.true) c.enclosure_at.ensures in
    rw c.if-not-admits.false at (sym (on.row (get_or c.args.row.now c.loop-place.place (pos 0)) (drop c.loop-place.place c.args.row.now) (drop (c.loop-place.place + 1) c.args.row.now) c.admits.result (entry_here c.args.row.now c.loop-place.place (omega (arith, c.loop-place-test.true, c.if-parts-row.false))) c.admits.ensures)) ∙ c.loop-place.invariant

pub admit_row-returns-then-not-admits : goal.admit_row-returns-then-not-admits
admit_row-returns-then-not-admits g t c =
    let on = spans_over (g.B.Intervals.spans c.args.sets) (drop c.loop-place.place c.args.parts.now) (drop (c.loop-place.place + 1) c.args.parts.now) (part c.args.parts.now c.loop-place.place) c.enclosure_at.result (part_here c.args.parts.now c.loop-place.place c.loop-place-test.true) c.enclosure_at.ensures in
    rw c.if-not-admits.true at (sym (on.row (get_or c.args.row.now c.loop-place.place (pos 0)) (drop c.loop-place.place c.args.row.now) (drop (c.loop-place.place + 1) c.args.row.now) c.admits.result (entry_here c.args.row.now c.loop-place.place (omega (arith, c.loop-place-test.true, c.if-parts-row.false))) c.admits.ensures)) ∙ c.loop-place.invariant
