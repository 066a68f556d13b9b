-- Worked rows.
use Rattle.std.proofs.Common.{◌≡◌, ◌∙◌, ℕ, ◌+◌, ◌^◌, ◌<◌, true, false, List, [], ◌∷◌, Option, Some, None, refl, sym, ap, arith}
use Rattle.std.specs.Prelude.{ℤ, pos}
use Rattle.std.proofs.lemmas.Int.{ints}
use Rattle.std.proofs.lemmas.Bool.{false≢true}
use Rattle.ms_num.specs.Span.{Span, IsInterval}
use Rattle.ms_trees.specs.Enclosure.{enclosure}
use Rattle.ms_trees.specs.WellFormed.{is_numeric}
use Rattle.ms_trees.specs.declared.tree.Ground.TheVariants as g
use Rattle.ms_trees.specs.declared.tree.Ground.TheFolds.{the_lemmas}
use Rattle.ms_trees.proofs.Fits.{fit-Var}
use Rattle.ms_kept.proofs.Joined.{meant}
use Rattle.ms_tree_nodes.specs.Nodes as n
use Rattle.ms_values.specs.declared.operand.Cells.TheVariants as c
use Rattle.ms_values.specs.declared.operand.Operand.TheVariants as o
use Rattle.ms_rules.specs.Cells.{line_from_one}
use Rattle.ms_rules_laws.specs.Fit.{IsFit, IsInteger}
use Rattle.ms_rules_laws.specs.Sample.{one_set, span_of}
use Rattle.ms_rules_laws.proofs.Known.{one_within, within_of}
use Rattle.ms_rules_laws.proofs.Nodes as t

pub number : IsFit [] (o.Number (Some (pos (2 ^ 50))))
number = within_of (pos (2 ^ 50)) refl

pub outside : IsFit [] (o.Number (Some (pos (2 ^ 50 + 1)))) → ⊥
outside h = let a = h.high in omega (arith, ints, a)

first : IsInterval (span_of 1 3)
first = record { ordered = omega (arith, ints); low = omega (arith, ints); high = omega (arith, ints) }

pub variable : IsFit one_set (o.Integer (n.variable 0 (span_of 1 3)))
variable = t.variable one_set 0 (omega arith) first

none_below : (v : ℕ) → v < 0 → ⊥
none_below v h = omega (arith, h)

pub unknown : IsFit [] (o.Integer (n.variable 0 (span_of 1 3))) → ⊥
unknown h = none_below 0 ((fit-Var [] 0 h.well_formed).within)

is_truth : is_numeric g.True ≡ false
is_truth = search the_lemmas

not_integer : (sets : List Span) → IsInteger sets (n.truth_leaf true) → ⊥
not_integer sets h = false≢true (sym is_truth ∙ h.numeric)

pub sort : IsFit [] (o.Integer (n.truth_leaf true)) → ⊥
sort h = not_integer [] h

abbrev last : Option Span → ℤ
last None = pos 0
last (Some s) = s.hi

means : enclosure one_set (g.Var 0) ≡ (n.variable 0 (span_of 1 3)).enclosure
means = search the_lemmas

two_not_three : pos 2 ≡ pos 3 → ⊥
two_not_three h = omega (arith, ints, h)

pub meaning : IsFit one_set (o.Integer (n.variable 0 (span_of 1 2))) → ⊥
meaning h = two_not_three (ap (λ q. last q.interval) (meant one_set (n.variable 0 (span_of 1 2)) h.kept ∙ means))

pub array : IsFit one_set (line_from_one (c.Integers (n.variable 0 (span_of 1 3) ∷ [])))
array = (one_within, (variable, tt))

pub element : IsFit one_set (line_from_one (c.Integers (n.truth_leaf true ∷ []))) → ⊥
element h = not_integer one_set h.1.0
