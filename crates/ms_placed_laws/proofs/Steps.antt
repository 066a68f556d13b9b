-- What is tested at a node.
use Rattle.std.proofs.Common.{◌≡◌, ℕ, zero, suc, ◌≤◌, Bool, true, false, List, Option, Some, None, refl, arith}
use Rattle.std.specs.Prelude.{ℤ, nat_le, if◌then◌else◌}
use Rattle.std.proofs.lemmas.Bool.Decides.{nat_tests}
use Rattle.ms_base.specs.declared.limits.TheConstants.{ELEMENT_LIMIT, TREE_NESTING_LIMIT}
use Rattle.ms_base.specs.declared.run.Count.TheVariants as count
use Rattle.ms_syntax.specs.declared.token.Place.{Place}
use Rattle.ms_num.specs.Span.{Span}
use Rattle.ms_tree_nodes.specs.Nodes as n
use Rattle.ms_typing.specs.declared.types.ExprType.{ExprType}
use Rattle.ms_typing.specs.declared.types.ExprType.TheVariants as e
use Rattle.ms_typing.specs.declared.types.Shape.{Shape}
use Rattle.ms_typing.specs.declared.types.Shape.TheVariants as h
use Rattle.ms_values.specs.declared.operand.Kind.{Kind}
use Rattle.ms_values.specs.declared.operand.Kind.TheVariants as k
use Rattle.ms_values.specs.declared.operand.Operand.{Operand}
use Rattle.ms_values.specs.declared.operand.Operand.TheVariants as o
use Rattle.ms_rules.specs.Operands.{condition_of, elements_of, integer_of, nesting_of}
use Rattle.ms_rules.specs.Conversions as v
use Rattle.ms_rules_laws.specs.Fit.{IsFit, IsFitIfAny}
use Rattle.ms_placing.specs.Steps as s
use Rattle.ms_placing.specs.Steps.{Rest, Step, bad}
use Rattle.ms_placing.specs.declared.fault.PlaceFault.TheVariants as f
use Rattle.ms_placed_laws.specs.Laws.{EndsWell, GoesOnWell, StepsWell}

-- a single tree nests no deeper than the limit
abbrev pub IsShallow : Operand → Type 0
IsShallow x = nesting_of x ≤ TREE_NESTING_LIMIT

within : (k : ℕ) → nat_le k TREE_NESTING_LIMIT ≡ true → k ≤ TREE_NESTING_LIMIT
within k h = grind (arith, nat_tests)

module _ (sets : List Span) where
  -- what is done with any fit operand
  abbrev pub TakesAny : Rest → Type 0
  TakesAny k = (p : Place) (x : Operand) → IsFit sets x → StepsWell sets (k p x)

  pub takes : (k : Rest) → TakesAny k → GoesOnWell sets k
  takes k h p x i = h p x i.fit

  pub ticked : (p : Place) (t : Step) → StepsWell sets t → StepsWell sets (s.tick p t)
  ticked p t h zero ws = tt
  ticked p t h (suc m) ws = h m ws

  shallow_by : (p : Place) (k : Step) (m : ℕ) (ws : List ℕ) (b : Bool) → (b ≡ true → StepsWell sets k) → EndsWell sets (if b then k m ws else bad (f.Big count.Nesting p) m ws)
  shallow_by p k m ws true h = h refl m ws
  shallow_by p k m ws false h = tt

  pub shallowly : (p : Place) (nesting : ℕ) (k : Step) → (nesting ≤ TREE_NESTING_LIMIT → StepsWell sets k) → StepsWell sets (s.shallow p nesting k)
  shallowly p nesting k h m ws = shallow_by p k m ws (nat_le nesting TREE_NESTING_LIMIT) (λ e. h (within nesting e))

  limited_by : (p : Place) (x : Operand) (t : Step) (m : ℕ) (ws : List ℕ) (b : Bool) → StepsWell sets t → EndsWell sets (if b then t m ws else bad (f.Big count.Elements p) m ws)
  limited_by p x t m ws true h = h m ws
  limited_by p x t m ws false h = tt

  pub limited : (p : Place) (x : Operand) (k : Rest) → (IsShallow x → StepsWell sets (k p x)) → StepsWell sets (s.limited p x k)
  limited p x k h m ws = limited_by p x (s.shallow p (nesting_of x) (k p x)) m ws (nat_le (elements_of x) ELEMENT_LIMIT) (shallowly p (nesting_of x) (k p x) h)

  goes : (k : Rest) → GoesOnWell sets k → (p : Place) (x : Operand) → IsFit sets x → IsShallow x → StepsWell sets (k p x)
  goes k h p x i j = h p x (record { fit = i; nesting = j })

  pub settled : (p : Place) (x : Option Operand) (k : Rest) → IsFitIfAny sets x → GoesOnWell sets k → StepsWell sets (s.settle p x k)
  settled p None k i h m ws = tt
  settled p (Some x) k i h m ws = limited p x k (λ j. goes k h p x i j) m ws

  pub visited : (p : Place) (x : Option Operand) (k : Rest) → IsFitIfAny sets x → GoesOnWell sets k → StepsWell sets (s.visit p x k)
  visited p x k i h = ticked p (s.settle p x k) (settled p x k i h)

  -- the same of one operand
  pub visited_one : (p : Place) (x : Operand) (k : Rest) → (IsShallow x → StepsWell sets (k p x)) → StepsWell sets (s.visit p (Some x) k)
  visited_one p x k h = ticked p (s.settle p (Some x) k) (λ m ws. limited p x k h m ws)

-- ---- conversions

none_deep : 0 ≤ TREE_NESTING_LIMIT
none_deep = omega arith

one_deep : 1 ≤ TREE_NESTING_LIMIT
one_deep = omega arith

abbrev Nests : ℕ → Type 0
Nests m = m ≤ TREE_NESTING_LIMIT

number_leaf_nests : (m : Option ℤ) → Nests (n.number_leaf m).nesting
number_leaf_nests None = one_deep
number_leaf_nests (Some z) = one_deep

truth_leaf_nests : (b : Bool) → Nests (n.truth_leaf b).nesting
truth_leaf_nests true = one_deep
truth_leaf_nests false = one_deep

integer_nests : (x : Operand) → IsShallow x → Nests (v.nesting_made k.Integer x) → Nests (integer_of x).nesting
integer_nests (o.Number m) i j = number_leaf_nests m
integer_nests (o.Truth b) i j = one_deep
integer_nests (o.Set s) i j = one_deep
integer_nests (o.Text w) i j = one_deep
integer_nests (o.Integer x) i j = i
integer_nests (o.Condition x) i j = j
integer_nests (o.Array a) i j = one_deep
integer_nests (o.NoArray kind) i j = one_deep

condition_nests : (x : Operand) → IsShallow x → Nests (condition_of x).nesting
condition_nests (o.Number m) i = one_deep
condition_nests (o.Truth b) i = truth_leaf_nests b
condition_nests (o.Set s) i = one_deep
condition_nests (o.Text w) i = one_deep
condition_nests (o.Integer x) i = one_deep
condition_nests (o.Condition x) i = i
condition_nests (o.Array a) i = one_deep
condition_nests (o.NoArray kind) i = one_deep

kind_nests : (kind : Kind) (x : Operand) → IsShallow x → Nests (v.nesting_made kind x) → IsShallow (v.as_kind kind x)
kind_nests k.Number x i j = none_deep
kind_nests k.Truth x i j = none_deep
kind_nests k.Text x i j = none_deep
kind_nests k.Integer x i j = integer_nests x i j
kind_nests k.Condition x i j = condition_nests x i

array_nests : (kind : Kind) (x : Operand) → IsShallow (v.as_array kind x)
array_nests kind (o.Number m) = none_deep
array_nests kind (o.Truth b) = none_deep
array_nests kind (o.Set s) = none_deep
array_nests kind (o.Text w) = none_deep
array_nests kind (o.Integer x) = none_deep
array_nests kind (o.Condition x) = none_deep
array_nests kind (o.Array a) = none_deep
array_nests kind (o.NoArray other) = none_deep

shaped_nests : (shape : Shape) (kind : Kind) (x : Operand) → IsShallow x → Nests (v.nesting_made kind x) → IsShallow (v.shaped shape kind x)
shaped_nests h.Single kind x i j = kind_nests kind x i j
shaped_nests h.Line kind x i j = array_nests kind x
shaped_nests h.Grid kind x i j = array_nests kind x

text_nests : (shape : Shape) (x : Operand) → IsShallow (v.shaped shape k.Text x)
text_nests h.Single x = none_deep
text_nests h.Line x = array_nests k.Text x
text_nests h.Grid x = array_nests k.Text x

pub conversion_nests : (type : ExprType) (x : Operand) → IsShallow x → Nests (v.conversion_nesting type x) → IsShallow (v.convert type x)
unfolding v.convert v.conversion_nesting
conversion_nests (e.Plain scalar shape known) x i j = shaped_nests shape (v.kind_by scalar known) x i j
conversion_nests (e.Text shape) x i j = text_nests shape x
conversion_nests e.Set x i j = i
conversion_nests e.Search x i j = i
