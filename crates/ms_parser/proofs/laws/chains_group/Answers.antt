use Rattle.ms_parser.proofs.Grouped.{left_law, right_law, alone_law, one_operator}
use Rattle.ms_parser.proofs.laws.chains_group.Goals as goal

pub returns-clause-left : goal.returns-clause-left
returns-clause-left c = left_law

pub returns-clause-right : goal.returns-clause-right
returns-clause-right c = right_law

pub returns-clause-alone : goal.returns-clause-alone
returns-clause-alone c = alone_law

pub returns-clause-one_operator : goal.returns-clause-one_operator
returns-clause-one_operator c = one_operator
