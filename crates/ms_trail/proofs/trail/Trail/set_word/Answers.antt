use Rattle.std.proofs.Common.{ap, List, ℕ, set}
use Rattle.ms_cells.specs.Cells.{Lists}
use Rattle.ms_domains.specs.declared.domain.Domain.{Domain}
use Rattle.ms_trail.specs.Trailed.{Trailed, no_slot, slot_at}
use Rattle.ms_trail.proofs.Slots.{cell_trailed}
use Rattle.ms_trail.proofs.trail.Trail.set_word.Goals as goal

pub invariant_of-self-2 : goal.invariant_of-self-2
invariant_of-self-2 c =
    let t : Trailed = record { cells = c.self.inside.cells; ranges = c.self.inside.ranges.items; kept = c.self.inside.kept.items; fixed = c.self.inside.fixed } in
    cell_trailed t c.set_word.new.self c.args.v ((slot_at t c.args.v).0, set (slot_at t c.args.v).1 c.args.i c.args.word) (c.in_ok-set_word.ensures.ok no_slot) (rw (← c.self.view_is) at c.requires.proper) c.self.invariant

pub returns-clause-ok : goal.returns-clause-ok
returns-clause-ok c =
    let t : Trailed = record { cells = c.self.inside.cells; ranges = c.self.inside.ranges.items; kept = c.self.inside.kept.items; fixed = c.self.inside.fixed } in
    rw (← c.self.view_is) (ap (λ (x : Lists (Domain × List ℕ)). record t { cells = x }) (c.in_ok-set_word.ensures.ok no_slot))
