use Rattle.std.proofs.Common.{◌≡◌, ◌∙◌, sym, ap, Some, w64, SFits, rules, length, map}
use Rattle.std.proofs.lemmas.Int.{to_z-of_z}
use Rattle.std.proofs.Math.ListN.{length-map}
use Rattle.ms_prim.specs.Results.{meant, all_meant}
use Rattle.ms_prim.specs.declared.pieces.Part.TheVariants.{V}
use Rattle.ms_trees.specs.Value.{is_place2, selected}
use Rattle.ms_prim.proofs.Reading.{element_found, none_found}
use Rattle.ms_prim.proofs.operations.element2.Goals as goal

pub returns-in_err-place : goal.returns-in_err-place
returns-in_err-place c =
    let a = c.args in
    let n = length-map a.parts.now (meant a.point.now) in
    c.from_residual.ensures
    ∙ none_found a.point.now a.parts.now (is_place2 a.low a.left a.width (length a.parts.now) (Some a.row) (Some a.column)) (rw (to_z-of_z w64 a.low c.ranges.low, to_z-of_z w64 a.left c.ranges.left, to_z-of_z w64 a.row c.ranges.row, to_z-of_z w64 a.column c.ranges.column) at c.in_err-place.ensures)
    ∙ ap (λ k. selected (is_place2 a.low a.left a.width k (Some a.row) (Some a.column)) 0 (all_meant a.point.now a.parts.now)) (sym n)

pub returns : goal.returns
returns c =
    let a = c.args in
    let r : SFits w64 c.number.result = search rules in
    let n = length-map a.parts.now (meant a.point.now) in
    let found = rw (to_z-of_z w64 a.low c.ranges.low, to_z-of_z w64 a.left c.ranges.left, to_z-of_z w64 a.row c.ranges.row, to_z-of_z w64 a.column c.ranges.column) at c.in_ok-place.ensures in
    rw (to_z-of_z w64 c.number.result r)
    (ap (λ z. Some z) c.number.ensures.value
    ∙ element_found a.point.now a.parts.now (is_place2 a.low a.left a.width (length a.parts.now) (Some a.row) (Some a.column)) c.in_ok-place.place (V 0) found.below found
    ∙ ap (λ k. selected (is_place2 a.low a.left a.width k (Some a.row) (Some a.column)) 0 (all_meant a.point.now a.parts.now)) (sym n))
