-- The lines of the variables, one more at a time.
use Rattle.std.proofs.Common.{◌≡◌, ℕ, zero, suc, ◌<◌, List, [], ◌∷◌, ◌++◌, length, take, get_or, sym, ap, ◌∙◌, append_assoc, arith}
use Rattle.std.specs.Prelude.{ℤ}
use Rattle.std.proofs.lemmas.List.{append-nil}
use Rattle.ms_top.specs.declared.plain.PlainDeclaration.{PlainDeclaration}
use Rattle.ms_top.specs.Text.{variable_line, variable_lines}

pub lines_more : (ds : List PlainDeclaration) (a : List ℤ) (i : ℕ) (d : PlainDeclaration) (z e : ℤ) → i < length ds → length ds ≡ length a → d ≡ get_or ds i d → z ≡ get_or a i e
    → variable_lines (take (suc i) ds) a ≡ variable_lines (take i ds) a ++ variable_line d.name z
lines_more [] a i d z e h l p q = absurd (omega arith)
lines_more (c ∷ ds) [] i d z e h l p q = absurd (omega arith)
lines_more (c ∷ ds) (y ∷ a) zero d z e h l p q =
    append-nil (variable_line c.name y) ∙ ap (λ (v : PlainDeclaration). variable_line v.name y) (sym p) ∙ ap (variable_line d.name) (sym q)
lines_more (c ∷ ds) (y ∷ a) (suc i) d z e h l p q =
    ap (λ v. variable_line c.name y ++ v) (lines_more ds a i d z e (omega arith) (omega arith) p q) ∙ sym (append_assoc (variable_line c.name y) (variable_lines (take i ds) a) (variable_line d.name z))
