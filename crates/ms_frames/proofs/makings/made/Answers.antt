use Rattle.ms_frames.proofs.makings.made.Goals as goal

pub returns-in-None : goal.returns-in-None
returns-in-None c out ws = rw c.in-None.ensures.0 (rw (c.into_inner-all.ensures, c.in-None.ensures.1) at (c.finish.ensures out c.args.frames.now c.args.here.now ws))

pub returns-in-Some : goal.returns-in-Some
returns-in-Some c out ws = rw c.in-Some.ensures.0 (rw (c.leave.ensures, c.in-Some.ensures.1) at (c.turn.ensures out ws))
