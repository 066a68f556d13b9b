use Rattle.ms_parser.proofs.Modeled.{one_model}
use Rattle.ms_parser.proofs.laws.one_model.Goals as goal

pub returns : goal.returns
returns c = one_model
