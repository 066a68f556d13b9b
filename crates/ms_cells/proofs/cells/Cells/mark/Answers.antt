use Rattle.std.proofs.Common.{◌∙◌, ◌++◌, ◌∷◌, [], ap, List, ℕ, length, rules, ◌≡◌}
use Rattle.ms_cells.proofs.Reaching.{trail_mark, reach_mark}
use Rattle.ms_cells.proofs.cells.Cells.mark.Goals as goal

pub invariant_of-self-2 : goal.invariant_of-self-2
invariant_of-self-2 g c =
    let count : c.len.result ≡ length c.self.inside.taken.items = search rules in
    let marks = c.push_reserved.ensures.items ∙ ap (λ (q : List ℕ). q ++ c.len.result ∷ []) c.in_ok-reserve.ensures.items ∙ ap (λ (x : ℕ). c.self.inside.marks.items ++ x ∷ []) count in
    let reaches = c.push_reserved-2.ensures.items ∙ ap (λ (q : List ℕ). q ++ c.self.inside.reach ∷ []) c.in_ok-reserve-2.ensures.items in
    (trail_mark _ _ _ _ marks c.self.invariant.0, reach_mark _ _ _ _ _ _ marks reaches c.self.invariant.1)
