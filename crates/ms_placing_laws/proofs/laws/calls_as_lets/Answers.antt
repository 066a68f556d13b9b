use Rattle.ms_placing_laws.proofs.Calling.{bodies_stand_alone, calls_are_lets}
use Rattle.ms_placing_laws.proofs.laws.calls_as_lets.Goals as goal

pub returns : goal.returns
returns c = record { alone = bodies_stand_alone; calls = calls_are_lets }
