use Rattle.ms_frames.specs.Frames.{resume}
use Rattle.ms_frames.proofs.Moved.{shows, no_rows, next_row}
use Rattle.ms_frames.proofs.elements.next_row.Goals as goal

pub returns-in_ok-x-in-None : goal.returns-in_ok-x-in-None
returns-in_ok-x-in-None c out frames here ws = shows out _ _ _ _ _ _ _ (no_rows out here _ _ _ _ _ c.in-None.ensures.cases) (rw c.in_ok-x-in-None.ensures at (c.visit.ensures out frames here ws))

pub returns-in-Some : goal.returns-in-Some
returns-in-Some c out frames here ws = shows out _ _ _ _ _ _ _ (next_row out here c.args.place c.args.count c.args.width _ _ c.in-Some.rest c.args.cells _ (resume out frames here) c.args.left.now ws c.in-Some.ensures.cases.0 c.as_slice.ensures) (c.begin.ensures out frames here c.args.left.now ws)
