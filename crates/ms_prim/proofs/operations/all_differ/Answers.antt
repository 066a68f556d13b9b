use Rattle.std.proofs.Common.{◌≡◌, sym, ◌∙◌, pos}
use Rattle.ms_prim.specs.declared.pieces.Part.TheVariants.{N}
use Rattle.ms_prim.proofs.Reading.{distinct_next}
use Rattle.ms_prim.proofs.operations.all_differ.Goals as goal

pub loop-place-preserved : goal.loop-place-preserved
loop-place-preserved c = distinct_next c.args.point.now c.args.parts.now c.loop-place.place (N (pos 0)) c.loop-place-test.true (sym c.differs_from_later.ensures ∙ c.if-not-differs_from_later.false) ∙ c.loop-place.invariant
