use Rattle.std.proofs.Common.{rules}
use Rattle.ms_cells.proofs.Undone.{lists-grow}
use Rattle.ms_cells.proofs.cells.Cells.grow.Goals as goal

pub returns-clause-ok : goal.returns-clause-ok
returns-clause-ok g c = rw (c.in_ok-extend_from_slice.ensures.items, ← c.self.view_is) (lists-grow c.self.inside.current.items c.args.values.now c.self.inside.taken.items c.self.inside.marks.items c.self.invariant.0 (search rules))
