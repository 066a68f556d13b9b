use Rattle.std.proofs.Common.{subst}
use Rattle.std.specs.Prelude.{MatchOption}
use Rattle.ms_boxes.specs.Boxes.{box_of}
use Rattle.ms_session.specs.Narrowing.{MeetsNone, NarrowsBy}
use Rattle.ms_session.proofs.Narrowings.{box_self, fit_left, proper_left, narrowed_twice}
use Rattle.ms_session.proofs.narrowing.narrow_by.Goals as goal

pub returns-then-not-is_comparison : goal.returns-then-not-is_comparison
returns-then-not-is_comparison c = record { box = box_self (box_of c.args.sets) c.requires.proper; keeps = λ p i h. i }

pub narrow_right-requires-clause-proper : goal.narrow_right-requires-clause-proper
narrow_right-requires-clause-proper c =
    let by = subst (λ q. MatchOption q (MeetsNone c.args.constraint.now (box_of c.args.sets)) (λ n. NarrowsBy c.args.constraint.now (box_of c.args.sets) (box_of n))) c.in-Some.is c.in_ok-narrowed.ensures in
    proper_left (box_of c.args.sets) (box_of c.in-Some.narrowed) c.args.constraint.now by

pub narrow_right-requires-clause-fit : goal.narrow_right-requires-clause-fit
narrow_right-requires-clause-fit c =
    let by = subst (λ q. MatchOption q (MeetsNone c.args.constraint.now (box_of c.args.sets)) (λ n. NarrowsBy c.args.constraint.now (box_of c.args.sets) (box_of n))) c.in-Some.is c.in_ok-narrowed.ensures in
    fit_left c.hull_laws.ensures.well_formed (box_of c.args.sets) (box_of c.in-Some.narrowed) c.args.constraint.now c.requires.proper c.requires.fit by

pub returns-in-Some : goal.returns-in-Some
returns-in-Some c =
    let by = subst (λ q. MatchOption q (MeetsNone c.args.constraint.now (box_of c.args.sets)) (λ n. NarrowsBy c.args.constraint.now (box_of c.args.sets) (box_of n))) c.in-Some.is c.in_ok-narrowed.ensures in
    narrowed_twice (box_of c.args.sets) (box_of c.in-Some.narrowed) c.args.constraint.now c.narrow_right.result by c.narrow_right.ensures
