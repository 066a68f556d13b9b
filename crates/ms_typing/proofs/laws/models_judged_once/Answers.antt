use Rattle.ms_typing.proofs.Judging.{not_both, one_first_fault, well_typed_or_faulty}
use Rattle.ms_typing.proofs.laws.models_judged_once.Goals as goal

pub returns : goal.returns
returns c = record { some = well_typed_or_faulty; not_both = not_both; fault = one_first_fault }
