use Rattle.std.proofs.Common.{refl}
use Rattle.ms_frames.specs.Frames.{resume}
use Rattle.ms_walk.proofs.walk.give.Goals as goal

pub returns-in-None : goal.returns-in-None
unfolding resume
returns-in-None c out ws = rw c.in-None.ensures.0 refl

pub returns-in-Some : goal.returns-in-Some
unfolding resume
returns-in-Some c out ws = rw c.in-Some.ensures (c.back.ensures out ws)
