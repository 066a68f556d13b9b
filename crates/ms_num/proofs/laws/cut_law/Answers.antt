use Rattle.ms_num.proofs.OneCut.{cuts_are_one, cut_is_cut}
use Rattle.ms_num.proofs.laws.cut_law.Goals as goal

pub returns : goal.returns
returns c = record { one = cuts_are_one; computed = cut_is_cut }
