use Rattle.std.proofs.Common.{◌∙◌}
use Rattle.std.proofs.lemmas.List.{take_all}
use Rattle.ms_boxes.specs.Boxes.{IsDeclared}
use Rattle.ms_session.proofs.Beginnings.{each_more, each_all, ranges_declared, copied_more}
use Rattle.ms_session.proofs.plain_scopes.declare.Goals as goal

pub loop-set-preserved : goal.loop-set-preserved
loop-set-preserved c = record {
  copied = c.in_ok-push.ensures.items ∙ copied_more c.args.sets.now c.loop-set.copies.items c.loop-set.set-index c.set-item.result c.in_ok-copy.field-0 c.loop-set-test.true c.set-item.is c.loop-set.invariant.copied c.in_ok-copy.ensures;
  declared = each_more IsDeclared c.args.sets.now c.loop-set.set-index c.set-item.result c.loop-set-test.true c.set-item.is c.loop-set.invariant.declared (ranges_declared c.set-item.result c.ranges-rising.ensures.proper);
}

pub returns-clause-value : goal.returns-clause-value
returns-clause-value c = c.from_vec.ensures ∙ c.loop-set.invariant.copied ∙ take_all c.loop-set.set-index c.args.sets.now c.loop-set-test.false

pub returns-clause-proper : goal.returns-clause-proper
returns-clause-proper c = each_all IsDeclared c.args.sets.now c.loop-set.set-index c.loop-set-test.false c.loop-set.invariant.declared
