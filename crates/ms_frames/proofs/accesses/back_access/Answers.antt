use Rattle.ms_frames.specs.Frames.{back_access}
use Rattle.ms_frames.proofs.accesses.back_access.Goals as goal

pub returns-in-Array : goal.returns-in-Array
unfolding back_access
returns-in-Array c out here ws = rw c.in-Array.is (c.accessed.ensures out here _ ws)

pub returns-in-First : goal.returns-in-First
unfolding back_access
returns-in-First c out here ws = rw c.in-First.is (c.first_index.ensures out here ws)

pub returns-in-Second : goal.returns-in-Second
unfolding back_access
returns-in-Second c out here ws = rw c.in-Second.is (rw c.into_inner.ensures at (c.indexed.ensures out here ws))
