use Rattle.std.proofs.Common.{rules}
use Rattle.ms_names.proofs.Looking.{step_locals}
use Rattle.ms_names.proofs.scope.look_in_locals.Goals as goal

pub returns-then-eq : goal.returns-then-eq
returns-then-eq c =
    let step = step_locals c.loop-local.number c.in-Some.others.now c.loop-local.rest.now c.in-Some.local.now c.args.name.now c.in-Some.ensures.cases.0 in search rules

pub loop-local-preserved : goal.loop-local-preserved
loop-local-preserved c =
    let step = step_locals c.loop-local.number c.in-Some.others.now c.loop-local.rest.now c.in-Some.local.now c.args.name.now c.in-Some.ensures.cases.0 in search rules
