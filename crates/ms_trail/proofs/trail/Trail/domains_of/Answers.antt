use Rattle.std.proofs.Common.{◌∙◌}
use Rattle.ms_trail.proofs.Grown.{made_step}
use Rattle.ms_trail.proofs.trail.Trail.domains_of.Goals as goal

pub loop-set-preserved : goal.loop-set-preserved
loop-set-preserved c = record {
  same = c.in_ok-domain.ensures.same ∙ c.loop-set.invariant.same;
  made = made_step c.loop-set.self c.fixed_domain.new.self c.args.sets.now c.loop-set.set-index c.loop-set.domains.items c.push.new.self.items c.loop-set.lengths.items c.push-in-loop-set.new.self.items c.set-item.result c.in_ok-domain.domain c.words_for.result c.loop-set-test.true c.set-item.is c.in_ok-push.ensures.items c.in_ok-push-2.ensures.items c.in_ok-domain.ensures.more c.loop-set.invariant.made c.in_ok-domain.ensures.made;
}
