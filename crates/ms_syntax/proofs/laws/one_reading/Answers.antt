use Rattle.ms_syntax.proofs.Cuts.{one_list, none_beside, one_fault}
use Rattle.ms_syntax.proofs.laws.one_reading.Goals as goal

pub returns : goal.returns
returns c = record { one_list = one_list; none_beside = none_beside; one_fault = one_fault }
