use Rattle.std.proofs.Common.{subst}
use Rattle.std.specs.Prelude.{MatchOption}
use Rattle.ms_boxes.specs.Boxes.{box_of}
use Rattle.ms_boxes.specs.Trees.{HoldsNone}
use Rattle.ms_session.specs.Narrowing.{Narrows}
use Rattle.ms_session.proofs.Narrowings.{proper_narrowed, fit_all, stepped}
use Rattle.ms_session.proofs.plain_node.box_step.Goals as goal

pub narrowed_step-requires-clause-proper : goal.narrowed_step-requires-clause-proper
narrowed_step-requires-clause-proper c =
    let so = subst (λ q. MatchOption q (HoldsNone c.args.constraints.now (box_of c.args.sets)) (λ n. Narrows c.args.constraints.now (box_of c.args.sets) (box_of n))) c.in-Some.is c.in_ok-narrowed.ensures in
    proper_narrowed c.args.constraints.now (box_of c.args.sets) (box_of c.in-Some.narrowed) so

pub narrowed_step-requires-clause-fit : goal.narrowed_step-requires-clause-fit
narrowed_step-requires-clause-fit c =
    let so = subst (λ q. MatchOption q (HoldsNone c.args.constraints.now (box_of c.args.sets)) (λ n. Narrows c.args.constraints.now (box_of c.args.sets) (box_of n))) c.in-Some.is c.in_ok-narrowed.ensures in
    fit_all c.hull_laws.ensures.well_formed c.args.constraints.now (box_of c.args.sets) (box_of c.in-Some.narrowed) c.requires.proper c.requires.fit so

pub returns-in-Some : goal.returns-in-Some
returns-in-Some c =
    let so = subst (λ q. MatchOption q (HoldsNone c.args.constraints.now (box_of c.args.sets)) (λ n. Narrows c.args.constraints.now (box_of c.args.sets) (box_of n))) c.in-Some.is c.in_ok-narrowed.ensures in
    stepped c.args.branching.now c.args.constraints.now (box_of c.args.sets) (box_of c.in-Some.narrowed) c.narrowed_step.result so c.narrowed_step.ensures
