use Rattle.ms_forms.proofs.Exists.{tokens_or_fault, fault_within}
use Rattle.ms_forms.proofs.laws.some_reading.Goals as goal

pub returns : goal.returns
returns c = record { tokens_or_fault = tokens_or_fault; fault_within = fault_within }
