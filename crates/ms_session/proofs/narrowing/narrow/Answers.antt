use Rattle.std.proofs.Common.{subst}
use Rattle.std.specs.Prelude.{MatchOption}
use Rattle.ms_boxes.specs.Boxes.{box_of}
use Rattle.ms_session.specs.Narrowing.{MeetsNone, NarrowsBy}
use Rattle.ms_session.proofs.Narrowings.{narrows_self, proper_narrowed, fit_narrowed, narrowed_more}
use Rattle.ms_session.proofs.narrowing.narrow.Goals as goal

pub loop-constraint-init : goal.loop-constraint-init
loop-constraint-init c = narrows_self c.args.constraints.now (box_of c.args.sets) c.requires.proper

pub narrow_by-requires-clause-proper : goal.narrow_by-requires-clause-proper
narrow_by-requires-clause-proper c = proper_narrowed c.args.constraints.now (box_of c.args.sets) (box_of c.loop-constraint.current) c.loop-constraint.invariant

pub narrow_by-requires-clause-fit : goal.narrow_by-requires-clause-fit
narrow_by-requires-clause-fit c = fit_narrowed c.hull_laws.ensures.well_formed c.args.constraints.now (box_of c.args.sets) (box_of c.loop-constraint.current) c.loop-constraint.constraint-index c.constraint-item.result c.loop-constraint-test.true c.constraint-item.is c.requires.proper c.requires.fit c.loop-constraint.invariant

pub loop-constraint-preserved : goal.loop-constraint-preserved
loop-constraint-preserved c =
    let by = subst (λ q. MatchOption q (MeetsNone c.constraint-item.result (box_of c.loop-constraint.current)) (λ n. NarrowsBy c.constraint-item.result (box_of c.loop-constraint.current) (box_of n))) c.in-Some.is c.in_ok-narrowed.ensures in
    narrowed_more c.args.constraints.now (box_of c.args.sets) (box_of c.loop-constraint.current) (box_of c.in-Some.narrowed) c.loop-constraint.constraint-index c.constraint-item.result c.loop-constraint-test.true c.constraint-item.is c.loop-constraint.invariant by
