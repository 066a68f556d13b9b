use Rattle.ms_declarations.proofs.Firsts.{one_fault}
use Rattle.ms_declarations.proofs.fault.one_first_fault.Goals as goal

pub returns : goal.returns
returns c = one_fault
