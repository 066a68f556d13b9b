use Rattle.std.proofs.Common.{sym, ◌∙◌}
use Rattle.ms_cells.proofs.Rowed.{seen_length, saved_each}
use Rattle.ms_cells.proofs.rows.RowCells.len.Goals as goal

pub returns-clause-count : goal.returns-clause-count
returns-clause-count g c = rw (← c.self.view_is) (c.len.ensures.count ∙ sym (seen_length c.self.inside.places.items c.self.inside.values c.self.inside.words c.self.invariant))

pub returns-clause-saved : goal.returns-clause-saved
returns-clause-saved g c = rw (← c.self.view_is) (saved_each c.self.inside.places.items _ c.self.inside.values.saved c.self.inside.words.saved (seen_length c.self.inside.places.items c.self.inside.values c.self.inside.words c.self.invariant ∙ c.self.invariant.count) c.self.invariant.lists)
