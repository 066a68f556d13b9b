use Rattle.std.proofs.Common.{rules}
use Rattle.ms_names.proofs.Looking.{step_parameters}
use Rattle.ms_names.proofs.scope.look_in_parameters.Goals as goal

pub returns-then-eq : goal.returns-then-eq
returns-then-eq c =
    let step = step_parameters c.loop-parameter.number c.in-Some.others.now c.loop-parameter.rest.now c.in-Some.parameter.now c.args.name.now c.in-Some.ensures.cases.0 in search rules

pub loop-parameter-preserved : goal.loop-parameter-preserved
loop-parameter-preserved c =
    let step = step_parameters c.loop-parameter.number c.in-Some.others.now c.loop-parameter.rest.now c.in-Some.parameter.now c.args.name.now c.in-Some.ensures.cases.0 in search rules
