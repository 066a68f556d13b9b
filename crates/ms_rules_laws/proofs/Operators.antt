-- Operators, signs and choices.
use Rattle.std.proofs.Common.{ℕ, Bool, true, false, not, ◌&&◌, List, [], ◌∷◌, Option, Some, None}
use Rattle.std.specs.Prelude.{ℤ, if◌then◌else◌, int_le, int_lt}
use Rattle.ms_syntax.specs.declared.tree.Operator.{Operator}
use Rattle.ms_syntax.specs.declared.tree.Operator.TheVariants as op
use Rattle.ms_syntax.specs.declared.tree.Sign.{Sign}
use Rattle.ms_syntax.specs.declared.tree.Sign.TheVariants as sign
use Rattle.ms_num.specs.Numbers.{int_eq, neg_at, add_at, sub_at, mul_at, div_at, mod_at}
use Rattle.ms_num.specs.Span.{Span}
use Rattle.ms_trees.specs.Value.{both, compare, image, iff, imp, int_ne, xor}
use Rattle.ms_tree_nodes.specs.Nodes as n
use Rattle.ms_values.specs.declared.operand.Placed.{Placed}
use Rattle.ms_values.specs.declared.operand.Cells.{Cells}
use Rattle.ms_values.specs.declared.operand.Operand.{Operand}
use Rattle.ms_values.specs.declared.operand.Operand.TheVariants as o
use Rattle.ms_rules.specs.Operands.{is_variable, is_logical, number_of, truth_of, set_of, text_of, integer_of, condition_of, known_number}
use Rattle.ms_rules.specs.Operators as r
use Rattle.ms_rules.specs.Sets as s
use Rattle.ms_rules_laws.specs.Fit.{AreFit, IsCondition, IsFit, IsFitIfAny, IsInteger}
use Rattle.ms_rules_laws.specs.Laws.{AreFitOperands, IsIntegerIfAny, KeepsConditions}
use Rattle.ms_rules_laws.proofs.Known as k
use Rattle.ms_rules_laws.proofs.Elements as e
use Rattle.ms_rules_laws.proofs.Nodes as t
use Rattle.ms_rules_laws.proofs.Parts as l

module _ (sets : List Span) where
  abbrev Keeps : (Placed → Placed → Placed) → Type 0
  Keeps node = (x y : Placed) → IsInteger sets x → IsInteger sets y → IsCondition sets (node x y)

  abbrev KeepsTruths : (Placed → Placed → Placed) → Type 0
  KeepsTruths node = (x y : Placed) → IsCondition sets x → IsCondition sets y → IsCondition sets (node x y)

  abbrev KeepsNumbers : (Placed → Placed → Option Placed) → Type 0
  KeepsNumbers node = (x y : Placed) → IsInteger sets x → IsInteger sets y → IsIntegerIfAny sets (node x y)

  -- ---- a node where an operand is variable, and a known value else

  pub integer : (x : Option Placed) → IsIntegerIfAny sets x → IsFitIfAny sets (r.integer x)
  integer None h = tt
  integer (Some x) h = h

  operate_by : (f : ℤ → ℤ → Option ℤ) (node : Placed → Placed → Option Placed) → KeepsNumbers node → (x y : Operand) → IsFit sets x → IsFit sets y → (b : Bool)
      → IsFitIfAny sets (if b then r.integer (node (integer_of x) (integer_of y)) else known_number (both f (number_of x) (number_of y)))
  operate_by f node keeps x y h i true = integer (node (integer_of x) (integer_of y)) (keeps (integer_of x) (integer_of y) (e.integer_read sets x h) (e.integer_read sets y i))
  operate_by f node keeps x y h i false = k.known sets (both f (number_of x) (number_of y))

  pub operate : (f : ℤ → ℤ → Option ℤ) (node : Placed → Placed → Option Placed) → KeepsNumbers node → (x y : Operand) → IsFit sets x → IsFit sets y → IsFitIfAny sets (r.operate f node x y)
  operate f node keeps x y h i = operate_by f node keeps x y h i (r.either_variable x y)

  compared_by : (f : ℤ → ℤ → Bool) (node : Placed → Placed → Placed) → Keeps node → (x y : Operand) → IsFit sets x → IsFit sets y → (b : Bool)
      → IsFit sets (if b then o.Condition (node (integer_of x) (integer_of y)) else o.Truth (compare f (number_of x) (number_of y)))
  compared_by f node keeps x y h i true = keeps (integer_of x) (integer_of y) (e.integer_read sets x h) (e.integer_read sets y i)
  compared_by f node keeps x y h i false = tt

  compared : (f : ℤ → ℤ → Bool) (node : Placed → Placed → Placed) → Keeps node → (x y : Operand) → IsFit sets x → IsFit sets y → IsFit sets (r.compared f node x y)
  compared f node keeps x y h i = compared_by f node keeps x y h i (r.either_variable x y)

  connected_by : (f : Bool → Bool → Bool) (node : Placed → Placed → Placed) → KeepsTruths node → (x y : Operand) → IsFit sets x → IsFit sets y → (b : Bool)
      → IsFit sets (if b then o.Condition (node (condition_of x) (condition_of y)) else o.Truth (f (truth_of x) (truth_of y)))
  connected_by f node keeps x y h i true = keeps (condition_of x) (condition_of y) (e.condition_read sets x h) (e.condition_read sets y i)
  connected_by f node keeps x y h i false = tt

  connected : (f : Bool → Bool → Bool) (node : Placed → Placed → Placed) → KeepsTruths node → (x y : Operand) → IsFit sets x → IsFit sets y → IsFit sets (r.connected f node x y)
  connected f node keeps x y h i = connected_by f node keeps x y h i (r.either_variable x y)

  -- ---- equality

  either_of : (x y : Operand) (b : Bool) → IsFit sets x → IsFit sets y → IsFit sets (if b then x else y)
  either_of x y true h i = h
  either_of x y false h i = i

  equal_plain : (x y : Operand) → IsFit sets x → IsFit sets y → IsFit sets (r.equal_plain x y)
  equal_plain x y h i =
      either_of (r.connected iff n.equivalence x y) (r.compared int_eq n.equal x y) (is_logical x && is_logical y)
      (connected iff n.equivalence (t.equivalence sets) x y h i) (compared int_eq n.equal (t.equal sets) x y h i)

  unequal_plain : (x y : Operand) → IsFit sets x → IsFit sets y → IsFit sets (r.unequal_plain x y)
  unequal_plain x y h i =
      either_of (r.connected xor n.exclusive x y) (r.compared int_ne n.unequal x y) (is_logical x && is_logical y)
      (connected xor n.exclusive (t.exclusive sets) x y h i) (compared int_ne n.unequal (t.unequal sets) x y h i)

  equal : (x y : Operand) → IsFit sets x → IsFit sets y → IsFit sets (r.equal x y)
  equal (o.Number m) y h i = equal_plain (o.Number m) y h i
  equal (o.Truth b) y h i = equal_plain (o.Truth b) y h i
  equal (o.Set v) y h i = tt
  equal (o.Text w) y h i = tt
  equal (o.Integer x) y h i = equal_plain (o.Integer x) y h i
  equal (o.Condition x) y h i = equal_plain (o.Condition x) y h i
  equal (o.Array a) y h i = tt
  equal (o.NoArray kind) y h i = tt

  unequal : (x y : Operand) → IsFit sets x → IsFit sets y → IsFit sets (r.unequal x y)
  unequal (o.Number m) y h i = unequal_plain (o.Number m) y h i
  unequal (o.Truth b) y h i = unequal_plain (o.Truth b) y h i
  unequal (o.Set v) y h i = tt
  unequal (o.Text w) y h i = tt
  unequal (o.Integer x) y h i = unequal_plain (o.Integer x) y h i
  unequal (o.Condition x) y h i = unequal_plain (o.Condition x) y h i
  unequal (o.Array a) y h i = tt
  unequal (o.NoArray kind) y h i = tt

  -- ---- `++`

  text_behind : (v w : Option (List ℕ)) → IsFit sets (r.text_behind v w)
  text_behind (Some v) (Some w) = tt
  text_behind (Some v) None = tt
  text_behind None w = tt

  array_behind : (cs : Cells) (y : Operand) → AreFit sets cs → IsFit sets y → IsFit sets (r.array_behind cs y)
  array_behind cs (o.Number m) h i = tt
  array_behind cs (o.Truth b) h i = tt
  array_behind cs (o.Set v) h i = tt
  array_behind cs (o.Text w) h i = tt
  array_behind cs (o.Integer x) h i = tt
  array_behind cs (o.Condition x) h i = tt
  array_behind cs (o.Array a) h i = (k.one_within, e.joined sets cs a.cells h i.1)
  array_behind cs (o.NoArray kind) h i = tt

  concatenate : (x y : Operand) → IsFit sets x → IsFit sets y → IsFit sets (r.concatenate x y)
  concatenate (o.Number m) y h i = text_behind None (text_of y)
  concatenate (o.Truth b) y h i = text_behind None (text_of y)
  concatenate (o.Set v) y h i = text_behind None (text_of y)
  concatenate (o.Text w) y h i = text_behind w (text_of y)
  concatenate (o.Integer x) y h i = text_behind None (text_of y)
  concatenate (o.Condition x) y h i = text_behind None (text_of y)
  concatenate (o.Array a) y h i = array_behind a.cells y h.1 i
  concatenate (o.NoArray kind) y h i = tt

  -- ---- sets

  member_of : (v : Option (List Span)) (x : Placed) → IsInteger sets x → IsCondition sets (s.member_of v x)
  member_of None x h = t.truth_leaf sets false
  member_of (Some rs) x h = t.member sets rs x h

  membership : (x y : Operand) → IsFit sets x → IsFit sets y → IsFit sets (s.membership x y)
  membership x y h i =
      either_of (o.Condition (s.member_of (set_of y) (integer_of x))) (o.Truth (s.is_in (number_of x) (set_of y))) (is_variable x)
      (member_of (set_of y) (integer_of x) (e.integer_read sets x h)) tt

  range : (x y : Operand) → IsFit sets x → IsFit sets y → IsFit sets (s.range x y)
  range x y h i = k.between (number_of x) (number_of y) (k.number_read sets x h) (k.number_read sets y i)

  -- ---- all operators

  either_node : KeepsTruths r.either_node
  either_node x y h i = t.some sets (x ∷ y ∷ []) (h, (i, tt))

  both_node : KeepsTruths r.both_node
  both_node x y h i = t.all sets (x ∷ y ∷ []) (h, (i, tt))

  pub join : (which : Operator) (x y : Operand) → IsFit sets x → IsFit sets y → IsFitIfAny sets (r.join which x y)
  unfolding r.join
  join op.Equivalent x y h i = connected iff n.equivalence (t.equivalence sets) x y h i
  join op.Implies x y h i = connected imp n.implication (t.implication sets) x y h i
  join op.ImpliedBy x y h i = connected imp n.implication (t.implication sets) y x i h
  join op.Or x y h i = connected r.either_true r.either_node either_node x y h i
  join op.Xor x y h i = connected xor n.exclusive (t.exclusive sets) x y h i
  join op.And x y h i = connected r.both_true r.both_node both_node x y h i
  join op.Equal x y h i = equal x y h i
  join op.NotEqual x y h i = unequal x y h i
  join op.Less x y h i = compared int_lt n.less (t.less sets) x y h i
  join op.AtMost x y h i = compared int_le n.at_most (t.at_most sets) x y h i
  join op.Greater x y h i = compared int_lt n.less (t.less sets) y x i h
  join op.AtLeast x y h i = compared int_le n.at_most (t.at_most sets) y x i h
  join op.In x y h i = membership x y h i
  join op.To x y h i = range x y h i
  join op.Plus x y h i = operate add_at n.sum (t.sum sets) x y h i
  join op.Minus x y h i = operate sub_at n.difference (t.difference sets) x y h i
  join op.Times x y h i = operate mul_at n.product (t.product sets) x y h i
  join op.Div x y h i = operate div_at n.quotient (t.quotient sets) x y h i
  join op.Mod x y h i = operate mod_at n.remainder (t.remainder sets) x y h i
  join op.Concat x y h i = concatenate x y h i

  -- ---- chains of `/\` or of `\/` alone

  pub with_operand : (f : Bool → Bool → Bool) (xs : r.Operands) (x : Operand) → AreFitOperands sets xs → IsFit sets x → AreFitOperands sets (r.with_operand f xs x)
  with_operand f xs x h i = l.one_more (IsCondition sets) xs.parts (condition_of x) h (e.condition_read sets x i)

  pub over_operands : (node : List Placed → Placed) → KeepsConditions sets node → (xs : r.Operands) → AreFitOperands sets xs → IsFit sets (r.over_operands node xs)
  over_operands node keeps xs h = either_of (o.Truth xs.truth) (o.Condition (node xs.parts)) xs.known tt (keeps xs.parts h)

  -- ---- signs

  negate_by : (x : Operand) → IsFit sets x → (b : Bool) → IsFitIfAny sets (if b then r.integer (n.negation (integer_of x)) else known_number (image neg_at (number_of x)))
  negate_by x h true = integer (n.negation (integer_of x)) (t.negation sets (integer_of x) (e.integer_read sets x h))
  negate_by x h false = k.known sets (image neg_at (number_of x))

  deny : (x : Operand) → IsFit sets x → IsFit sets (r.deny x)
  deny x h = either_of (o.Condition (n.denial (condition_of x))) (o.Truth (not (truth_of x))) (is_variable x) (t.denial sets (condition_of x) (e.condition_read sets x h)) tt

  pub signed : (which : Sign) (x : Operand) → IsFit sets x → IsFitIfAny sets (r.signed which x)
  unfolding r.signed
  signed sign.Not x h = deny x h
  signed sign.Minus x h = negate_by x h (is_variable x)

  -- ---- choices

  pub choice : (c x y : Operand) → IsFit sets c → IsFit sets x → IsFit sets y → IsFit sets (r.choice c x y)
  choice c x y f h i =
      either_of (o.Condition (n.choice_of_truths (condition_of c) (condition_of x) (condition_of y))) (o.Integer (n.choice (condition_of c) (integer_of x) (integer_of y))) (is_logical x)
      (t.choice_of_truths sets (condition_of c) (condition_of x) (condition_of y) (e.condition_read sets c f) (e.condition_read sets x h) (e.condition_read sets y i))
      (t.choice sets (condition_of c) (integer_of x) (integer_of y) (e.condition_read sets c f) (e.integer_read sets x h) (e.integer_read sets y i))
