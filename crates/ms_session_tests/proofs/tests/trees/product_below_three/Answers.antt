use Rattle.std.specs.Prelude.{pos}
use Rattle.ms_trees.specs.declared.tree.Ground.TheVariants as g
use Rattle.ms_session_tests.specs.Samples.{square}
use Rattle.ms_session_tests.proofs.Sampled.{if_ok_is, truth_of, family_seven}
use Rattle.ms_session_tests.proofs.tests.trees.product_below_three.Goals as goal

pub returns : goal.returns
returns c = if_ok_is c.less.result _ square c.less.ensures (truth_of square c.in_ok-total.total _ (λ q. g.Lt q (g.Num (pos 3))) c.in_ok-total.ensures family_seven)
