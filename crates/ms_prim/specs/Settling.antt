-- When a primitive is met, and when it is settled.
use Rattle.std.specs.Prelude.{◌≡◌, List, Some, true, ℤ, pos}
use Rattle.ms_num.specs.Span.{Span, has}
use Rattle.ms_trees.specs.Value.{value}
use Rattle.ms_trees.specs.Enclosure.{enclosure, span_at}
use Rattle.ms_trees.specs.Laws.{IsCoveredBy}
use Rattle.ms_trees.specs.declared.tree.Enclosure.{Enclosure}
use Rattle.ms_prim.specs.declared.primitive.Primitive.{Primitive}
use Rattle.ms_prim.specs.Constraints.{Binding, held, equal_to, equivalent_to, binding, operation, tree_of}

-- the assignment meets the primitive
abbrev pub IsMet : List ℤ → Primitive → Type 0
IsMet a p = (value a (tree_of p)).truth ≡ true

-- the variable that an operation defines has only what the operation may be: numbers of its interval, truth values that may come
pub record IsAdmitted (s : Span) (e : Enclosure) : Type 0 where
  pub one : has s (pos 1) ≡ true → e.may_be_true ≡ true
  pub zero : has s (pos 0) ≡ true → e.may_be_false ≡ true

abbrev pub Admits : List Span → Binding → Enclosure → Type 0
Admits b held e = Unit {0}
Admits b (equal_to v) e = IsCoveredBy (Some (span_at b v)) e.interval
Admits b (equivalent_to v) e = IsAdmitted (span_at b v) e

-- on the intervals the tree of the primitive is not refuted, and the variable that it defines has only what the operation admits
pub record IsSettled (b : List Span) (p : Primitive) : Type 0 where
  pub unrefuted : (enclosure b (tree_of p)).may_be_true ≡ true
  pub admitted : Admits b (binding p) (enclosure b (operation p))
