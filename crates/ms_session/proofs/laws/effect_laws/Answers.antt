use Rattle.ms_session.proofs.Effects.{spending_keeps_frames}
use Rattle.ms_session.proofs.Effects.{next_has_its_effect, closed_means_all_given}
use Rattle.ms_session.proofs.laws.effect_laws.Goals as goal

pub returns-clause-effect : goal.returns-clause-effect
returns-clause-effect c = next_has_its_effect

pub returns-clause-closed : goal.returns-clause-closed
returns-clause-closed c = closed_means_all_given

pub returns-clause-frames : goal.returns-clause-frames
returns-clause-frames c = spending_keeps_frames
