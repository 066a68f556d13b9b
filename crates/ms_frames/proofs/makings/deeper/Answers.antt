use Rattle.std.proofs.Common.{refl}
use Rattle.ms_frames.proofs.makings.deeper.Goals as goal

pub returns-in-None : goal.returns-in-None
returns-in-None c out here n ws = rw c.in-None.is (c.nested.ensures out here n ws)

pub returns-in_ok-new-in-Some : goal.returns-in_ok-new-in-Some
returns-in_ok-new-in-Some c out here n ws = rw (c.in-Some.is, c.in_ok-new-in-Some.ensures) refl
