use Rattle.ms_frames.proofs.Moved.{shows, begins}
use Rattle.ms_frames.proofs.makings.begin.Goals as goal

pub returns-in_ok-next-in-Some : goal.returns-in_ok-next-in-Some
returns-in_ok-next-in-Some c out here n ws = rw c.in-Some.is (shows out _ _ _ _ _ _ _ (begins out _ c.args.making.plan c.args.generator.now c.args.generators c.in-Some.set _ _ _ _ _) (rw c.in_ok-next-in-Some.ensures at (c.deeper.ensures out here n ws)))
