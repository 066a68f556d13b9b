use Rattle.std.proofs.Common.{◌∙◌}
use Rattle.std.proofs.lemmas.List.{take_all}
use Rattle.ms_session.proofs.Beginnings.{copied_more}
use Rattle.ms_session.proofs.plain_scopes.copy_constraints.Goals as goal

pub loop-constraint-preserved : goal.loop-constraint-preserved
loop-constraint-preserved c = c.in_ok-push.ensures.items ∙ copied_more c.args.constraints.now c.loop-constraint.copies.items c.loop-constraint.constraint-index c.constraint-item.result c.in_ok-copy.field-0 c.loop-constraint-test.true c.constraint-item.is c.loop-constraint.invariant c.in_ok-copy.ensures

pub returns : goal.returns
returns c = c.loop-constraint.invariant ∙ take_all c.loop-constraint.constraint-index c.args.constraints.now c.loop-constraint-test.false
