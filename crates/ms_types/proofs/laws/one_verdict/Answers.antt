use Rattle.ms_types.proofs.Deciding.{one_fault, refuses_not}
use Rattle.ms_types.proofs.laws.one_verdict.Goals as goal

pub returns-clause-one_fault : goal.returns-clause-one_fault
returns-clause-one_fault c = one_fault c.one_first_fault.ensures

pub returns-clause-not_both : goal.returns-clause-not_both
returns-clause-not_both c = refuses_not c.one_first_fault.ensures
