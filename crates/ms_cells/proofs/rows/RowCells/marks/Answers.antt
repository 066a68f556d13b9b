use Rattle.std.proofs.Common.{sym, ◌∙◌}
use Rattle.ms_cells.proofs.Rowed.{saved_length}
use Rattle.ms_cells.proofs.rows.RowCells.marks.Goals as goal

pub returns : goal.returns
returns g c = rw (← c.self.view_is) (c.marks.ensures ∙ sym (saved_length c.self.inside.places.items c.self.inside.values.saved c.self.inside.words.saved c.self.invariant.marks))
