use Rattle.std.proofs.Common.{ap, ◌∙◌, subst}
use Rattle.ms_trees.specs.declared.branching.ValueChoice.TheVariants.{Least, Greatest, LowerHalf}
use Rattle.ms_num.specs.Sets.{IsCut, IsMiddle, set_of}
use Rattle.ms_boxes.specs.Branchings.{is_left}
use Rattle.ms_session.proofs.PartsOfSets.{if_both, read_after, left_least, left_greatest, left_half}
use Rattle.ms_num.proofs.SharedSets.{read_lo, read_hi}
use Rattle.ms_session.proofs.cuts.values_left.Goals as goal

pub returns-in-Least : goal.returns-in-Least
returns-in-Least c = rw c.in-Least.is (if_both c.without.result _ _ (λ part. IsCut (is_left Least (set_of c.args.set.now)) (set_of c.args.set.now) (set_of part)) c.without.ensures.members c.without.ensures.proper (λ t m r. left_least (set_of c.args.set.now) t _ c.ends-whole.ensures.proper c.requires.unfixed (read_lo c.ends-whole.result c.lo.result c.lo.ensures.within c.lo.ensures.value ∙ ap (λ iv. iv.lo) c.ends-whole.ensures.value) r m))

pub returns-in-Greatest : goal.returns-in-Greatest
returns-in-Greatest c = rw c.in-Greatest.is (if_both c.without-in-Greatest.result _ _ (λ part. IsCut (is_left Greatest (set_of c.args.set.now)) (set_of c.args.set.now) (set_of part)) c.without-in-Greatest.ensures.members c.without-in-Greatest.ensures.proper (λ t m r. left_greatest (set_of c.args.set.now) t _ c.ends-whole.ensures.proper c.requires.unfixed (read_hi c.ends-whole.result c.hi.result c.hi.ensures.within c.hi.ensures.value ∙ ap (λ iv. iv.hi) c.ends-whole.ensures.value) r m))

pub returns-in-LowerHalf : goal.returns-in-LowerHalf
returns-in-LowerHalf c = rw c.in-LowerHalf.is (if_both c.at_least.result _ _ (λ part. IsCut (is_left LowerHalf (set_of c.args.set.now)) (set_of c.args.set.now) (set_of part)) c.at_least.ensures.members c.at_least.ensures.proper (λ t m r. left_half (set_of c.args.set.now) t c.middle.result _ c.ends-whole.ensures.proper c.requires.unfixed (subst (λ iv. IsMiddle iv.lo iv.hi c.middle.result) c.ends-whole.ensures.value c.middle.ensures.value) (read_after c.ends-whole.result c.middle.result c.middle.ensures.interval c.middle.ensures.value) r m))
