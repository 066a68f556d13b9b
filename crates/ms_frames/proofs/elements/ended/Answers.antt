use Rattle.ms_frames.proofs.elements.ended.Goals as goal

pub returns-in_ok-x-in-Array : goal.returns-in_ok-x-in-Array
returns-in_ok-x-in-Array c out frames here ws = rw c.in-Array.is (rw c.in_ok-x-in-Array.ensures at (c.visit.ensures out frames here ws))

pub returns-in_ok-x-in-Set : goal.returns-in_ok-x-in-Set
returns-in_ok-x-in-Set c out frames here ws = rw c.in-Set.is (rw c.in_ok-x-in-Set.ensures at (c.visit-in-Set.ensures out frames here ws))

pub returns-in-Rows : goal.returns-in-Rows
returns-in-Rows c out frames here ws = rw c.in-Rows.is (c.next_row.ensures out frames here ws)
