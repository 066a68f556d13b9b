use Rattle.ms_num.proofs.Divisions.{cuts_toward_zero, only_zero}
use Rattle.ms_num.proofs.laws.division_law.Goals as goal

pub returns-clause-cut : goal.returns-clause-cut
returns-clause-cut c = cuts_toward_zero

pub returns-clause-undefined : goal.returns-clause-undefined
returns-clause-undefined c = only_zero
