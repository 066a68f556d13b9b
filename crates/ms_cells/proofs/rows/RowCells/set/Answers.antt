use Rattle.std.proofs.lemmas.Result.{on_ok_weaker}
use Rattle.ms_cells.proofs.Rowed.{below, set_is}
use Rattle.ms_cells.proofs.rows.RowCells.set.Goals as goal

pub set-requires : goal.set-requires
set-requires g c = below c.self.inside.places.items c.self.inside.values c.self.inside.words c.self.invariant c.args.at (rw (← c.self.view_is) at c.requires)

pub returns-clause-ok : goal.returns-clause-ok
returns-clause-ok g c =
    let there = rw (← c.self.view_is) at c.requires in
    rw (← c.self.view_is) (λ d. on_ok_weaker c.set.result (λ e. set_is c.self.inside.places.items c.self.inside.values c.self.inside.words c.self.invariant c.set.new.self c.args.at c.args.value e there d) c.set.ensures.ok)
