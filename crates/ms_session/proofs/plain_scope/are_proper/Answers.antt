use Rattle.std.proofs.Common.{◌∙◌, ap, length, eqb}
use Rattle.ms_num.specs.Sets.{IsSet}
use Rattle.ms_num.proofs.SharedSets.{ranges_is_set}
use Rattle.ms_session.proofs.Beginnings.{each_more, each_all, not_empty, void_at}
use Rattle.ms_session.proofs.plain_scope.are_proper.Goals as goal

pub returns-then-is_empty : goal.returns-then-is_empty
returns-then-is_empty c = void_at c.args.sets.now c.loop-set.set-index c.set-item.result c.loop-set-test.true c.set-item.is (c.if-is_empty.ensures ∙ ap (λ q. eqb (length q) 0) c.ranges-in-loop-set.ensures.value)

pub loop-set-preserved : goal.loop-set-preserved
loop-set-preserved c = each_more IsSet c.args.sets.now c.loop-set.set-index c.set-item.result c.loop-set-test.true c.set-item.is c.loop-set.invariant (ranges_is_set c.set-item.result c.ranges-in-loop-set.ensures.proper (not_empty c.set-item.result (c.if-is_empty.ensures ∙ ap (λ q. eqb (length q) 0) c.ranges-in-loop-set.ensures.value)))

pub returns : goal.returns
returns c = each_all IsSet c.args.sets.now c.loop-set.set-index c.loop-set-test.false c.loop-set.invariant
