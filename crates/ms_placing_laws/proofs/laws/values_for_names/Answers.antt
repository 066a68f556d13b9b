use Rattle.ms_placing_laws.proofs.Putting.{declared_stand, fresh_names_serve, values_are_put}
use Rattle.ms_placing_laws.proofs.Renamed.{names_become}
use Rattle.ms_placing_laws.proofs.laws.values_for_names.Goals as goal

pub returns : goal.returns
returns c = record { any = names_become; declared = declared_stand; put = values_are_put; fresh = fresh_names_serve }
