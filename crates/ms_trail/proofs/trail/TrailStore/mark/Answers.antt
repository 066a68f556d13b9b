use Rattle.ms_trail.specs.Trailed.{Trailed}
use Rattle.std.proofs.Common.{rules, ◌≡◌, length, ◌∙◌, ap, ◌++◌, ◌∷◌, [], ℕ}
use Rattle.ms_trail.proofs.Trailing.{marked_trailed}
use Rattle.ms_trail.proofs.trail.TrailStore.mark.Goals as goal

pub invariant_of-self-in_default : goal.invariant_of-self-in_default
invariant_of-self-in_default c =
    let t : Trailed = record { cells = c.self.inside.cells; ranges = c.self.inside.ranges.items; kept = c.self.inside.kept.items; fixed = c.self.inside.fixed } in
    let count : c.len.result ≡ length c.self.inside.ranges.items = search rules in
    marked_trailed t c.mark.new.self c.push.new.self.items c.in_default.ensures.ok (c.in_ok-push.ensures.items ∙ ap (λ (n : ℕ). c.self.inside.kept.items ++ n ∷ []) count) c.self.invariant
