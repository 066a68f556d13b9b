use Rattle.ms_trail.specs.Trailed.{Trailed}
use Rattle.ms_trail.specs.Trailed.{slot_set}
use Rattle.ms_store.proofs.ListsOf.{shrunk_of}
use Rattle.ms_trail.proofs.Trailing.{shrunk_trailed}
use Rattle.ms_trail.proofs.trail.TrailStore.shrink.Goals as goal

pub invariant_of-self : goal.invariant_of-self
invariant_of-self c =
    let t : Trailed = record { cells = c.self.inside.cells; ranges = c.self.inside.ranges.items; kept = c.self.inside.kept.items; fixed = c.self.inside.fixed } in
    shrunk_trailed t c.shrink.new.self c.args.vars c.shrink.ensures c.self.invariant

pub returns : goal.returns
returns c =
    let t : Trailed = record { cells = c.self.inside.cells; ranges = c.self.inside.ranges.items; kept = c.self.inside.kept.items; fixed = c.self.inside.fixed } in
    rw (← c.self.view_is) (shrunk_of (slot_set t.ranges) t.cells c.shrink.new.self c.args.vars c.shrink.ensures)
