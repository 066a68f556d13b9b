use Rattle.ms_syntax.proofs.Placed.{left_at_last}
use Rattle.ms_syntax.proofs.laws.chain_places.Goals as goal

pub returns-clause-last : goal.returns-clause-last
returns-clause-last c = left_at_last
