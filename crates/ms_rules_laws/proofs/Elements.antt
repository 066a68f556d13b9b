-- Operands and elements that are read as others, put at the end, and brought to another kind.
use Rattle.std.proofs.Common.{ℕ, Bool, true, false, List, length, Option, Some, None, refl}
use Rattle.std.specs.Prelude.{ℤ, IfSome, slice_get}
use Rattle.std.specs.List.{AllByRecursion}
use Rattle.ms_num.specs.Span.{Span}
use Rattle.ms_trees.specs.Value.{bit as bit_of}
use Rattle.ms_tree_nodes.specs.Nodes as n
use Rattle.ms_typing.specs.declared.types.Shape.{Shape}
use Rattle.ms_typing.specs.declared.types.Shape.TheVariants as h
use Rattle.ms_typing.specs.declared.types.ExprType.{ExprType}
use Rattle.ms_typing.specs.declared.types.ExprType.TheVariants as e
use Rattle.ms_values.specs.declared.operand.Placed.{Placed}
use Rattle.ms_values.specs.declared.operand.Kind.{Kind}
use Rattle.ms_values.specs.declared.operand.Kind.TheVariants as k
use Rattle.ms_values.specs.declared.operand.Cells.{Cells}
use Rattle.ms_values.specs.declared.operand.Cells.TheVariants as c
use Rattle.ms_values.specs.declared.operand.Operand.{Operand}
use Rattle.ms_values.specs.declared.operand.Operand.TheVariants as o
use Rattle.ms_rules.specs.Operands.{kind_of, number_of, integer_of, condition_of, no_number, no_truth, undefined_of}
use Rattle.ms_rules.specs.Cells as m
use Rattle.ms_rules.specs.Conversions as v
use Rattle.ms_rules_laws.specs.Fit.{AreFit, IsCondition, IsFit, IsInteger, IsWithinIfAny}
use Rattle.ms_rules_laws.specs.Laws.{ConstraintsAreTrees}
use Rattle.ms_rules_laws.proofs.Known.{bit_within, number_read, one_within}
use Rattle.ms_rules_laws.proofs.Nodes as t
use Rattle.ms_rules_laws.proofs.Parts as l

module _ (sets : List Span) where
  abbrev Integer : Placed → Type 0
  Integer = IsInteger sets

  abbrev Condition : Placed → Type 0
  Condition = IsCondition sets

  -- ---- single values

  pub integer_read : (x : Operand) → IsFit sets x → IsInteger sets (integer_of x)
  integer_read (o.Number m) h = t.number_leaf sets m h
  integer_read (o.Truth b) h = t.number_leaf sets (Some (bit_of b)) (bit_within b)
  integer_read (o.Set s) h = t.number_leaf sets None tt
  integer_read (o.Text w) h = t.number_leaf sets None tt
  integer_read (o.Integer x) h = h
  integer_read (o.Condition x) h = t.bit sets x h
  integer_read (o.Array a) h = t.number_leaf sets None tt
  integer_read (o.NoArray kind) h = t.number_leaf sets None tt

  pub condition_read : (x : Operand) → IsFit sets x → IsCondition sets (condition_of x)
  condition_read (o.Number m) h = t.truth_leaf sets false
  condition_read (o.Truth b) h = t.truth_leaf sets b
  condition_read (o.Set s) h = t.truth_leaf sets false
  condition_read (o.Text w) h = t.truth_leaf sets false
  condition_read (o.Integer x) h = t.truth_leaf sets false
  condition_read (o.Condition x) h = h
  condition_read (o.Array a) h = t.truth_leaf sets false
  condition_read (o.NoArray kind) h = t.truth_leaf sets false

  pub no_number_fit : (b : Bool) → IsFit sets (no_number b)
  no_number_fit true = t.number_leaf sets None tt
  no_number_fit false = tt

  pub no_truth_fit : (b : Bool) → IsFit sets (no_truth b)
  no_truth_fit true = t.truth_leaf sets false
  no_truth_fit false = tt

  pub undefined_fit : (kind : Kind) → IsFit sets (undefined_of kind)
  undefined_fit k.Number = tt
  undefined_fit k.Truth = tt
  undefined_fit k.Text = tt
  undefined_fit k.Integer = no_number_fit true
  undefined_fit k.Condition = no_truth_fit true

  -- ---- elements

  pub none_fit : (kind : Kind) → AreFit sets (m.empty kind)
  none_fit k.Number = tt
  none_fit k.Truth = tt
  none_fit k.Text = tt
  none_fit k.Integer = tt
  none_fit k.Condition = tt

  pub one_more : (cs : Cells) (x : Operand) → AreFit sets cs → IsFit sets x → AreFit sets (m.grown cs x)
  one_more (c.Numbers ns) x h i = l.one_more IsWithinIfAny ns (number_of x) h (number_read sets x i)
  one_more (c.Truths bs) x h i = tt
  one_more (c.Texts ts) x h i = tt
  one_more (c.Integers xs) x h i = l.one_more Integer xs (integer_of x) h (integer_read x i)
  one_more (c.Conditions xs) x h i = l.one_more Condition xs (condition_of x) h (condition_read x i)

  pub numbers_read : (cs : Cells) → AreFit sets cs → AllByRecursion IsWithinIfAny (m.numbers_of cs)
  numbers_read (c.Numbers ns) h = h
  numbers_read (c.Truths bs) h = l.all_mapped IsWithinIfAny m.bit_number (λ b. bit_within b) bs
  numbers_read (c.Texts ts) h = tt
  numbers_read (c.Integers xs) h = tt
  numbers_read (c.Conditions xs) h = tt

  pub integers_read : (cs : Cells) → AreFit sets cs → AllByRecursion Integer (m.integers_of cs)
  integers_read (c.Numbers ns) h = l.mapped IsWithinIfAny Integer n.number_leaf (t.number_leaf sets) ns h
  integers_read (c.Truths bs) h = l.all_mapped Integer m.bit_leaf (λ b. t.number_leaf sets (m.bit_number b) (bit_within b)) bs
  integers_read (c.Texts ts) h = tt
  integers_read (c.Integers xs) h = h
  integers_read (c.Conditions xs) h = l.mapped Condition Integer n.bit (t.bit sets) xs h

  pub conditions_read : (cs : Cells) → AreFit sets cs → AllByRecursion Condition (m.conditions_of cs)
  conditions_read (c.Numbers ns) h = l.repeated Condition (length ns) (n.truth_leaf false) (t.truth_leaf sets false)
  conditions_read (c.Truths bs) h = l.all_mapped Condition n.truth_leaf (t.truth_leaf sets) bs
  conditions_read (c.Texts ts) h = tt
  conditions_read (c.Integers xs) h = l.repeated Condition (length xs) (n.truth_leaf false) (t.truth_leaf sets false)
  conditions_read (c.Conditions xs) h = h

  pub converted : (kind : Kind) (cs : Cells) → AreFit sets cs → AreFit sets (m.converted kind cs)
  converted k.Number cs h = numbers_read cs h
  converted k.Truth cs h = tt
  converted k.Text cs h = tt
  converted k.Integer cs h = integers_read cs h
  converted k.Condition cs h = conditions_read cs h

  pub joined : (cs ds : Cells) → AreFit sets cs → AreFit sets ds → AreFit sets (m.joined cs ds)
  joined (c.Numbers ns) ds h i = l.appended IsWithinIfAny ns (m.numbers_of ds) h (numbers_read ds i)
  joined (c.Truths bs) ds h i = tt
  joined (c.Texts ts) ds h i = tt
  joined (c.Integers xs) ds h i = l.appended Integer xs (m.integers_of ds) h (integers_read ds i)
  joined (c.Conditions xs) ds h i = l.appended Condition xs (m.conditions_of ds) h (conditions_read ds i)

  -- ---- one element

  number_there : (x : Option (Option ℤ)) → IfSome x IsWithinIfAny → IsFit sets (m.number_at x)
  number_there (Some z) h = h
  number_there None h = tt

  truth_there : (x : Option Bool) → IsFit sets (m.truth_at x)
  truth_there (Some b) = tt
  truth_there None = tt

  text_there : (x : Option (Option (List ℕ))) → IsFit sets (m.text_at x)
  text_there (Some w) = tt
  text_there None = tt

  integer_there : (x : Option Placed) → IfSome x Integer → IsFit sets (m.integer_at x)
  integer_there (Some x) h = h
  integer_there None h = t.number_leaf sets None tt

  condition_there : (x : Option Placed) → IfSome x Condition → IsFit sets (m.condition_at x)
  condition_there (Some x) h = h
  condition_there None h = t.truth_leaf sets false

  cell : (cs : Cells) (p : ℕ) → AreFit sets cs → IsFit sets (m.cell cs p)
  cell (c.Numbers ns) p h = number_there (slice_get ns p) (l.found IsWithinIfAny ns p h)
  cell (c.Truths bs) p h = truth_there (slice_get bs p)
  cell (c.Texts ts) p h = text_there (slice_get ts p)
  cell (c.Integers xs) p h = integer_there (slice_get xs p) (l.found Integer xs p h)
  cell (c.Conditions xs) p h = condition_there (slice_get xs p) (l.found Condition xs p h)

  pub element : (cs : Cells) (p : Option ℕ) → AreFit sets cs → IsFit sets (m.element cs p)
  element cs None h = undefined_fit (kind_of cs)
  element cs (Some p) h = cell cs p h

  pub line_from_one : (cs : Cells) → AreFit sets cs → IsFit sets (m.line_from_one cs)
  line_from_one cs h = (one_within, h)

  -- ---- conversions

  as_kind : (kind : Kind) (x : Operand) → IsFit sets x → IsFit sets (v.as_kind kind x)
  as_kind k.Number x h = number_read sets x h
  as_kind k.Truth x h = tt
  as_kind k.Text x h = tt
  as_kind k.Integer x h = integer_read x h
  as_kind k.Condition x h = condition_read x h

  as_array : (kind : Kind) (x : Operand) → IsFit sets x → IsFit sets (v.as_array kind x)
  as_array kind (o.Number m) h = tt
  as_array kind (o.Truth b) h = tt
  as_array kind (o.Set s) h = tt
  as_array kind (o.Text w) h = tt
  as_array kind (o.Integer x) h = tt
  as_array kind (o.Condition x) h = tt
  as_array kind (o.Array a) h = (h.0, converted kind a.cells h.1)
  as_array kind (o.NoArray other) h = tt

  shaped : (shape : Shape) (kind : Kind) (x : Operand) → IsFit sets x → IsFit sets (v.shaped shape kind x)
  shaped h.Single kind x i = as_kind kind x i
  shaped h.Line kind x i = as_array kind x i
  shaped h.Grid kind x i = as_array kind x i

  pub convert : (type : ExprType) (x : Operand) → IsFit sets x → IsFit sets (v.convert type x)
  unfolding v.convert
  convert (e.Plain scalar shape known) x h = shaped shape (v.kind_by scalar known) x h
  convert (e.Text shape) x h = shaped shape k.Text x h
  convert e.Set x h = h
  convert e.Search x h = h

pub constraints_are_trees : ConstraintsAreTrees
unfolding v.convert
constraints_are_trees sets x h = (refl, condition_read sets x h)
