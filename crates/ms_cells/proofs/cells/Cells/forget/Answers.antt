use Rattle.std.proofs.Common.{sym, ap, ◌∙◌, ◌≡◌, ◌-◌, length, take, arith, List, ℕ, drop}
use Rattle.std.proofs.lemmas.List.{take-map, length-map}
use Rattle.ms_cells.specs.Cells.{seen, saved_at, undone, Lists}
use Rattle.ms_cells.proofs.cells.Cells.forget.Goals as goal

forgot : {T : Type 0} (now : List T) (old : List (ℕ × T)) (marks next : List ℕ) (n : ℕ) → n ≡ length marks - 1 → next ≡ take n marks → seen now (saved_at now old next) ≡ seen now (take (length (saved_at now old marks) - 1) (saved_at now old marks))
forgot now old marks next n e f = ap (λ ms. seen now (saved_at now old ms)) f ∙ ap (λ s. seen now s) (sym (take-map _ n marks)) ∙ ap (λ k. seen now (take k (saved_at now old marks))) (e ∙ ap (λ k. k - 1) (sym (length-map marks (λ m. undone now (drop m old)))))

pub returns : goal.returns
returns g c = rw (← c.self.view_is) (forgot c.self.inside.current.items c.self.inside.taken.items c.self.inside.marks.items c.truncate.new.self.items (c.len-count.result - 1) (omega (arith, c.len-count.ensures, c.self.inside.marks.ok.0)) c.truncate.ensures.items)
