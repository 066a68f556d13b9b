use Rattle.ms_parser.proofs.Accepted.{one_expression}
use Rattle.ms_parser.proofs.laws.one_expression.Goals as goal

pub returns : goal.returns
returns c = one_expression
