use Rattle.ms_trail.specs.Trailed.{Trailed}
use Rattle.ms_trail.specs.Trailed.{slot_set}
use Rattle.ms_store.proofs.ListsOf.{saved_some}
use Rattle.ms_trail.proofs.Trailing.{restored_trailed}
use Rattle.ms_trail.proofs.trail.Trail.restore.Goals as goal

pub invariant_of-self-2 : goal.invariant_of-self-2
invariant_of-self-2 c =
    let t : Trailed = record { cells = c.self.inside.cells; ranges = c.self.inside.ranges.items; kept = c.self.inside.kept.items; fixed = c.self.inside.fixed } in
    restored_trailed t c.restore.new.self c.args.mark.number c.self.invariant c.in_ok-restore.ensures.now c.in_ok-restore.ensures.saved

pub returns-clause-current : goal.returns-clause-current
returns-clause-current c =
    let t : Trailed = record { cells = c.self.inside.cells; ranges = c.self.inside.ranges.items; kept = c.self.inside.kept.items; fixed = c.self.inside.fixed } in
    rw (← c.self.view_is) (saved_some (slot_set t.ranges) t.cells.saved c.args.mark.number c.restore.new.self.current c.in_ok-restore.ensures.now)
