use Rattle.std.proofs.Common.{rules}
use Rattle.ms_names.proofs.Looking.{step_generators}
use Rattle.ms_names.proofs.scope.look_in_generators.Goals as goal

pub returns-in-Found : goal.returns-in-Found
returns-in-Found c =
    let step = step_generators c.loop-generator.number c.in-Some.others.now c.loop-generator.rest.now c.in-Some.generator.now c.args.name.now c.in-Some.ensures.cases.0 in search rules

pub loop-generator-preserved : goal.loop-generator-preserved
loop-generator-preserved c =
    let step = step_generators c.loop-generator.number c.in-Some.others.now c.loop-generator.rest.now c.in-Some.generator.now c.args.name.now c.in-Some.ensures.cases.0 in search rules
