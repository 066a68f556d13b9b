-- The texts of operands. What is undefined shows as such.
use Rattle.std.specs.Prelude.{ℕ, ℤ, List, map, codes, Option, Some, None}
use Rattle.std.specs.Fmt.{signed_decimal}
use Rattle.ms_num.specs.Span.{Span}
use Rattle.ms_show.specs.Texts.{truth_text_of, list_text_of, set_text_of}
use Rattle.ms_values.specs.declared.operand.Placed.{Placed}
use Rattle.ms_values.specs.declared.operand.Cells.{Cells}
use Rattle.ms_values.specs.declared.operand.Cells.TheVariants as c
use Rattle.ms_values.specs.declared.operand.Operand.{Operand}
use Rattle.ms_values.specs.declared.operand.Operand.TheVariants as o

abbrev pub undefined_text : List ℕ
undefined_text = codes "<undefined>"

abbrev pub number_shown : Option ℤ → List ℕ
number_shown None = undefined_text
number_shown (Some z) = signed_decimal z

abbrev pub set_shown : Option (List Span) → List ℕ
set_shown None = undefined_text
set_shown (Some rs) = set_text_of rs

abbrev pub text_shown : Option (List ℕ) → List ℕ
text_shown None = undefined_text
text_shown (Some t) = t

-- a tree is not known
abbrev pub tree_shown : Placed → List ℕ
tree_shown x = undefined_text

-- the elements, whatever the indices
abbrev pub parts_shown : Cells → List (List ℕ)
parts_shown (c.Numbers ns) = map number_shown ns
parts_shown (c.Truths bs) = map truth_text_of bs
parts_shown (c.Texts ts) = map text_shown ts
parts_shown (c.Integers xs) = map tree_shown xs
parts_shown (c.Conditions xs) = map tree_shown xs

abbrev pub shown : Operand → List ℕ
shown (o.Number m) = number_shown m
shown (o.Truth b) = truth_text_of b
shown (o.Set s) = set_shown s
shown (o.Text t) = text_shown t
shown (o.Integer x) = undefined_text
shown (o.Condition x) = undefined_text
shown (o.Array a) = list_text_of (parts_shown a.cells)
shown (o.NoArray kind) = undefined_text

abbrev pub show : Operand → Operand
show x = o.Text (Some (shown x))
