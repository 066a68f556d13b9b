use Rattle.std.proofs.Common.{◌≡◌, ◌∙◌, sym, ap, Some, w64, SFits, rules}
use Rattle.std.proofs.lemmas.Int.{to_z-of_z}
use Rattle.ms_prim.specs.declared.pieces.Part.TheVariants.{V}
use Rattle.ms_trees.specs.Value.{is_place}
use Rattle.ms_prim.proofs.Reading.{element_found, none_found}
use Rattle.ms_prim.proofs.operations.element.Goals as goal

pub returns-in_err-place : goal.returns-in_err-place
returns-in_err-place c = c.from_residual.ensures ∙ none_found c.args.point.now c.args.parts.now (is_place c.args.low (Some c.args.index)) (rw (to_z-of_z w64 c.args.low c.ranges.low, to_z-of_z w64 c.args.index c.ranges.index) at c.in_err-place.ensures)

pub returns : goal.returns
returns c =
    let r : SFits w64 c.number.result = search rules in
    let found = rw (to_z-of_z w64 c.args.low c.ranges.low, to_z-of_z w64 c.args.index c.ranges.index) at c.in_ok-place.ensures in
    rw (to_z-of_z w64 c.number.result r) (ap (λ z. Some z) c.number.ensures.value ∙ element_found c.args.point.now c.args.parts.now (is_place c.args.low (Some c.args.index)) c.in_ok-place.place (V 0) found.below found)
