use Rattle.std.specs.Prelude.{pos}
use Rattle.ms_trees.specs.declared.tree.Ground.TheVariants as g
use Rattle.ms_session_tests.specs.Samples.{square}
use Rattle.ms_session_tests.proofs.Sampled.{if_ok_is, truth_of, family_six}
use Rattle.ms_session_tests.proofs.tests.trees.sum_is_three.Goals as goal

pub returns : goal.returns
returns c = if_ok_is c.equal.result _ square c.equal.ensures (truth_of square c.in_ok-total.total _ (λ q. g.Eq q (g.Num (pos 3))) c.in_ok-total.ensures family_six)
