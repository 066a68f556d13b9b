use Rattle.ms_parser.proofs.Accepted.{some_expression}
use Rattle.ms_parser.proofs.Assigned.{some_data}
use Rattle.ms_parser.proofs.Modeled.{some_model}
use Rattle.ms_parser.proofs.laws.some_answer.Goals as goal

pub returns : goal.returns
returns c = record { expressions = some_expression; models = some_model; assignments = some_data }
