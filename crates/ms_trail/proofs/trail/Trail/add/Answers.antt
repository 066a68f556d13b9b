use Rattle.std.proofs.Common.{ap, List, ℕ}
use Rattle.ms_cells.specs.Cells.{Lists}
use Rattle.ms_cells.specs.Rows.{pairs, full_rows}
use Rattle.ms_domains.specs.declared.domain.Domain.{Domain}
use Rattle.ms_trail.specs.Trailed.{Trailed}
use Rattle.ms_trail.proofs.Grown.{grown_trailed}
use Rattle.ms_trail.proofs.trail.Trail.add.Goals as goal

pub invariant_of-self-2 : goal.invariant_of-self-2
invariant_of-self-2 c =
    let t : Trailed = record { cells = c.self.inside.cells; ranges = c.self.inside.ranges.items; kept = c.self.inside.kept.items; fixed = c.self.inside.fixed } in
    grown_trailed t c.grow.new.self (pairs c.args.domains.now (full_rows c.args.lengths.now)) c.in_ok-grow.ensures.ok (rw (← c.self.view_is) at c.requires.proper) c.self.invariant

pub returns-clause-ok : goal.returns-clause-ok
returns-clause-ok c =
    let t : Trailed = record { cells = c.self.inside.cells; ranges = c.self.inside.ranges.items; kept = c.self.inside.kept.items; fixed = c.self.inside.fixed } in
    rw (← c.self.view_is) (ap (λ (x : Lists (Domain × List ℕ)). record t { cells = x }) c.in_ok-grow.ensures.ok)
