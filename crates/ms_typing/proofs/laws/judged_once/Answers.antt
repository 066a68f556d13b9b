use Rattle.ms_typing.proofs.Judging.{excludes, excludes_all, one_fault, one_fault_of_all}
use Rattle.ms_typing.proofs.laws.judged_once.Goals as goal

pub returns : goal.returns
returns c = record { typed = excludes; fault = one_fault; all_typed = excludes_all; all_fault = one_fault_of_all }
