use Rattle.ms_session_tests.specs.Samples.{square}
use Rattle.ms_session_tests.proofs.Sampled.{if_ok_is, true_truth, false_truth, family_two, family_three, family_four, family_five}
use Rattle.ms_session_tests.proofs.tests.trees.family_tree.Goals as goal

pub returns-in-0 : goal.returns-in-0
returns-in-0 c = true_truth square

pub returns-in-1 : goal.returns-in-1
returns-in-1 c = false_truth square

pub returns-in-2 : goal.returns-in-2
returns-in-2 c = if_ok_is c.equal.result _ square c.equal.ensures family_two

pub returns-in-3 : goal.returns-in-3
returns-in-3 c = if_ok_is c.unequal.result _ square c.unequal.ensures family_three

pub returns-in-4 : goal.returns-in-4
returns-in-4 c = if_ok_is c.less.result _ square c.less.ensures family_four

pub returns-in-5 : goal.returns-in-5
returns-in-5 c = if_ok_is c.unequal-in-5.result _ square c.unequal-in-5.ensures family_five
