use Rattle.ms_trail.specs.Trailed.{Trailed}
use Rattle.ms_trail.specs.Trailed.{slot_set}
use Rattle.ms_store.proofs.ListsOf.{lengths_of}
use Rattle.ms_trail.proofs.trail.TrailStore.vars.Goals as goal

pub returns-clause-saved : goal.returns-clause-saved
returns-clause-saved c =
    let t : Trailed = record { cells = c.self.inside.cells; ranges = c.self.inside.ranges.items; kept = c.self.inside.kept.items; fixed = c.self.inside.fixed } in
    rw (← c.self.view_is) (lengths_of (slot_set t.ranges) t.cells c.len.ensures.saved)
