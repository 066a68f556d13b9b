use Rattle.ms_exchange_laws.proofs.Given as g
use Rattle.ms_exchange_laws.proofs.laws.given_comes_back.Goals as goal

pub returns : goal.returns
returns c = g.given_comes_back
