use Rattle.ms_session_tests.specs.Samples.{line}
use Rattle.ms_session_tests.proofs.Sampled.{if_ok_is, three_line, above_line, other_line}
use Rattle.ms_session_tests.proofs.tests.trees.posted_tree.Goals as goal

pub returns-in-IsThree : goal.returns-in-IsThree
returns-in-IsThree c = if_ok_is c.equal.result _ line c.equal.ensures three_line

pub returns-in-AboveTwo : goal.returns-in-AboveTwo
returns-in-AboveTwo c = if_ok_is c.less.result _ line c.less.ensures above_line

pub returns-in-NotTwo : goal.returns-in-NotTwo
returns-in-NotTwo c = if_ok_is c.unequal.result _ line c.unequal.ensures other_line
