use Rattle.std.proofs.Common.{◌≤◌, length}
use Rattle.ms_cells.proofs.Undone.{lists-shrink, trail-shrink}
use Rattle.ms_cells.proofs.Reaching.{reach_shrink}
use Rattle.ms_cells.proofs.cells.Cells.shrink.Goals as goal

pub invariant_of-self : goal.invariant_of-self
invariant_of-self g c =
    let there : c.args.count ≤ length c.self.inside.current.items = rw (← c.self.view_is) at c.requires in (
      rw (c.forget_from.ensures.taken, c.truncate.ensures.items) (trail-shrink _ _ _ _ c.self.invariant.0 there),
      reach_shrink c.self.inside.taken.items c.forget_from.new.taken.items c.self.inside.marks.items c.self.inside.reaches.items c.self.inside.reach c.forget_from.new.reach c.args.count c.forget_from.ensures.taken c.forget_from.ensures.reach c.self.invariant.1,
    )

pub returns : goal.returns
returns g c =
    let there : c.args.count ≤ length c.self.inside.current.items = rw (← c.self.view_is) at c.requires in
    rw (c.forget_from.ensures.taken, c.truncate.ensures.items, ← c.self.view_is) (lists-shrink _ _ _ _ c.self.invariant.0 there)
