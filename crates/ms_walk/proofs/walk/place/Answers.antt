use Rattle.std.proofs.Common.{refl}
use Rattle.ms_frames.specs.Frames.{resume}
use Rattle.ms_walk.proofs.walk.place.Goals as goal

pub walk-init : goal.walk-init
unfolding resume
walk-init g c = rw c.new-frames.ensures refl

pub returns-in-Done : goal.returns-in-Done
returns-in-Done g c = rw c.in-Done.is at c.walk.invariant
