use Rattle.ms_parser.proofs.Assigned.{one_data}
use Rattle.ms_parser.proofs.laws.one_data.Goals as goal

pub returns : goal.returns
returns c = one_data
