use Rattle.ms_frames.specs.Frames.{back_making}
use Rattle.ms_frames.proofs.makings.back_making.Goals as goal

pub returns-in-Set : goal.returns-in-Set
unfolding back_making
returns-in-Set c out here place n ws = rw c.in-Set.is (rw c.set_of.ensures at (c.begin.ensures out here n ws))

pub returns-in-Test : goal.returns-in-Test
unfolding back_making
returns-in-Test c out here place n ws = rw c.in-Test.is (rw c.truth.ensures at (c.tested.ensures out here n ws))

pub returns-in-Body : goal.returns-in-Body
unfolding back_making
returns-in-Body c out here place n ws = rw c.in-Body.is (c.gain.ensures out _ here n ws)
