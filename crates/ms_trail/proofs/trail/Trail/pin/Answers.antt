use Rattle.std.proofs.Common.{rules, ◌≡◌, length, subst, ℕ, sym}
use Rattle.ms_trail.specs.Trailed.{Trailed, IsTrailed}
use Rattle.ms_trail.proofs.Grown.{pinned_trailed}
use Rattle.ms_trail.proofs.trail.Trail.pin.Goals as goal

pub invariant_of-self : goal.invariant_of-self
invariant_of-self c =
    let t : Trailed = record { cells = c.self.inside.cells; ranges = c.self.inside.ranges.items; kept = c.self.inside.kept.items; fixed = c.self.inside.fixed } in
    let count : c.len-self-inside.result ≡ length c.self.inside.ranges.items = search rules in
    subst (λ (n : ℕ). IsTrailed (record t { fixed = n })) (sym count) (pinned_trailed t c.self.invariant)
