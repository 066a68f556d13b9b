use Rattle.ms_frames.proofs.makings.finish.Goals as goal

pub returns-then-plan : goal.returns-then-plan
returns-then-plan c out frames here ws = rw c.if-plan.true (rw c.in_ok-x.ensures at (c.visit.ensures out frames here ws))
