use Rattle.std.proofs.Common.{refl}
use Rattle.ms_frames.specs.Frames.{back, back_making, resume}
use Rattle.ms_frames.proofs.makings.tested.Goals as goal

pub returns-in_ok-push : goal.returns-in_ok-push
unfolding back back_making resume
returns-in_ok-push c out here n ws = rw (c.if-holds.true, c.in_ok-push.ensures.ok, c.plan.ensures) refl
