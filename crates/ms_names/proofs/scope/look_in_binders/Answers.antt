use Rattle.std.proofs.Common.{rules}
use Rattle.ms_names.proofs.Looking.{step_binders}
use Rattle.ms_names.proofs.scope.look_in_binders.Goals as goal

pub returns-then-eq : goal.returns-then-eq
returns-then-eq c =
    let step = step_binders c.loop-binder.number c.in-Some.others.now c.loop-binder.rest.now c.in-Some.binder.now c.args.name.now c.in-Some.ensures.cases.0 in search rules

pub loop-binder-preserved : goal.loop-binder-preserved
loop-binder-preserved c =
    let step = step_binders c.loop-binder.number c.in-Some.others.now c.loop-binder.rest.now c.in-Some.binder.now c.args.name.now c.in-Some.ensures.cases.0 in search rules
