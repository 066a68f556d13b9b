use Rattle.ms_cells.proofs.Again.{saved_lengths}
use Rattle.ms_cells.proofs.cells.Cells.len.Goals as goal

pub returns-clause-saved : goal.returns-clause-saved
returns-clause-saved g c = rw (← c.self.view_is) (saved_lengths c.self.inside.current.items c.self.inside.taken.items c.self.inside.marks.items)
