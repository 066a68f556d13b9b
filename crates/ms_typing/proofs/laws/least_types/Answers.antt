use Rattle.ms_typing.proofs.Judging.{fault_found, fault_of_all_found, has_least, judged, judged_all}
use Rattle.ms_typing.proofs.laws.least_types.Goals as goal

pub returns : goal.returns
returns c = record { some = has_least; judged = judged; all = judged_all; found = fault_found; all_found = fault_of_all_found }
