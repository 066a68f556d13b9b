use Rattle.ms_cells.proofs.Rowed.{below, got_value}
use Rattle.ms_cells.proofs.rows.RowCells.get.Goals as goal

pub get-requires : goal.get-requires
get-requires g c = below c.self.inside.places.items c.self.inside.values c.self.inside.words c.self.invariant c.args.at (rw (← c.self.view_is) at c.requires)

pub returns : goal.returns
returns g c = rw (← c.self.view_is) (got_value c.self.inside.places.items c.self.inside.values c.self.inside.words c.self.invariant c.args.at c.get.result (rw (← c.self.view_is) at c.requires) c.get.ensures)
