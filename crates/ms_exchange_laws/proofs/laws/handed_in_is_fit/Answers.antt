use Rattle.ms_exchange_laws.proofs.Handed as h
use Rattle.ms_exchange_laws.proofs.laws.handed_in_is_fit.Goals as goal

pub returns : goal.returns
returns c = h.handed_in_is_fit
