use Rattle.ms_session.proofs.Nexts.{enough_is_left, enough_is_never_spent}
use Rattle.ms_session.proofs.Nexts.{large_frame_never_cuts, enough_stays_enough}
use Rattle.ms_session.proofs.laws.limit_laws.Goals as goal

pub returns-clause-enough : goal.returns-clause-enough
returns-clause-enough c = large_frame_never_cuts

pub returns-clause-stays : goal.returns-clause-stays
returns-clause-stays c = enough_stays_enough

pub returns-clause-left : goal.returns-clause-left
returns-clause-left c = enough_is_left

pub returns-clause-never : goal.returns-clause-never
returns-clause-never c = enough_is_never_spent
