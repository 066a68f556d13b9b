use Rattle.ms_placing_laws.proofs.Directly.{functions_go_on, places_directly, places_goes_on, placing_goes_on}
use Rattle.ms_placing_laws.proofs.laws.placing_in_steps.Goals as goal

pub returns : goal.returns
returns c = record { any = placing_goes_on; calls = functions_go_on; whole = places_goes_on; direct = places_directly }
