use Rattle.ms_trail.specs.Trailed.{Trailed}
use Rattle.ms_trail.proofs.Written.{is_at}
use Rattle.ms_trail.proofs.trail.Trail.domain.Goals as goal

pub returns : goal.returns
returns c =
    let t : Trailed = record { cells = c.self.inside.cells; ranges = c.self.inside.ranges.items; kept = c.self.inside.kept.items; fixed = c.self.inside.fixed } in
    rw (← c.self.view_is) (is_at t c.args.v c.get.result c.self.invariant (rw (← c.self.view_is) at c.requires) c.get.ensures)
