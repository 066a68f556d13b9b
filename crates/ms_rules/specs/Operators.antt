-- What operators and signs make of operands. A rule answers none where a number leaves -2^50..2^50.
use Rattle.std.specs.Prelude.{ℕ, ℤ, int_lt, int_le, Bool, false, not, ◌&&◌, ◌||◌, List, [], ◌∷◌, ◌++◌, Option, Some, None, if◌then◌else◌}
use Rattle.std.specs.Str.{bytes_eq}
use Rattle.ms_syntax.specs.declared.tree.Operator.{Operator}
use Rattle.ms_syntax.specs.declared.tree.Operator.TheVariants as op
use Rattle.ms_syntax.specs.declared.tree.Sign.{Sign}
use Rattle.ms_syntax.specs.declared.tree.Sign.TheVariants as sign
use Rattle.ms_num.specs.Numbers.{int_eq, neg_at, add_at, sub_at, mul_at, div_at, mod_at}
use Rattle.ms_num.specs.Span.{Span}
use Rattle.ms_trees.specs.Value.{both, image, compare, int_ne, iff, imp, xor}
use Rattle.ms_tree_nodes.specs.Nodes as n
use Rattle.ms_values.specs.declared.operand.Placed.{Placed}
use Rattle.ms_values.specs.declared.operand.Cells.{Cells}
use Rattle.ms_values.specs.declared.operand.Operand.{Operand}
use Rattle.ms_values.specs.declared.operand.Operand.TheVariants as o
use Rattle.ms_rules.specs.Operands.{is_variable, is_logical, number_of, truth_of, set_of, text_of, integer_of, condition_of, known_number, kind_of}
use Rattle.ms_rules.specs.Cells.{joined, line_from_one}
use Rattle.ms_rules.specs.Sets.{same_ranges, range, membership}

-- ---- of integers, Booleans, and comparisons: known where both operands are

abbrev pub either_variable : Operand → Operand → Bool
either_variable x y = is_variable x || is_variable y

abbrev pub integer : Option Placed → Option Operand
integer None = None
integer (Some x) = Some (o.Integer x)

abbrev pub operate : (ℤ → ℤ → Option ℤ) → (Placed → Placed → Option Placed) → Operand → Operand → Option Operand
operate f node x y =
    if either_variable x y then integer (node (integer_of x) (integer_of y))
    else known_number (both f (number_of x) (number_of y))

abbrev pub compared : (ℤ → ℤ → Bool) → (Placed → Placed → Placed) → Operand → Operand → Operand
compared f node x y =
    if either_variable x y then o.Condition (node (integer_of x) (integer_of y))
    else o.Truth (compare f (number_of x) (number_of y))

abbrev pub connected : (Bool → Bool → Bool) → (Placed → Placed → Placed) → Operand → Operand → Operand
connected f node x y =
    if either_variable x y then o.Condition (node (condition_of x) (condition_of y))
    else o.Truth (f (truth_of x) (truth_of y))

-- ---- equality, of Booleans, integers, sets or strings

abbrev pub equal_sets : Option (List Span) → Option (List Span) → Bool
equal_sets (Some ss) (Some ts) = same_ranges ss ts
equal_sets (Some ss) None = false
equal_sets None t = false

abbrev pub unequal_sets : Option (List Span) → Option (List Span) → Bool
unequal_sets (Some ss) (Some ts) = not (same_ranges ss ts)
unequal_sets (Some ss) None = false
unequal_sets None t = false

abbrev pub equal_texts : Option (List ℕ) → Option (List ℕ) → Bool
equal_texts (Some s) (Some t) = bytes_eq s t
equal_texts (Some s) None = false
equal_texts None t = false

abbrev pub unequal_texts : Option (List ℕ) → Option (List ℕ) → Bool
unequal_texts (Some s) (Some t) = not (bytes_eq s t)
unequal_texts (Some s) None = false
unequal_texts None t = false

-- two Booleans are compared as such, and else as integers
abbrev pub equal_plain : Operand → Operand → Operand
equal_plain x y = if is_logical x && is_logical y then connected iff n.equivalence x y else compared int_eq n.equal x y

abbrev pub unequal_plain : Operand → Operand → Operand
unequal_plain x y = if is_logical x && is_logical y then connected xor n.exclusive x y else compared int_ne n.unequal x y

abbrev pub equal : Operand → Operand → Operand
equal (o.Number m) y = equal_plain (o.Number m) y
equal (o.Truth b) y = equal_plain (o.Truth b) y
equal (o.Set s) y = o.Truth (equal_sets s (set_of y))
equal (o.Text t) y = o.Truth (equal_texts t (text_of y))
equal (o.Integer x) y = equal_plain (o.Integer x) y
equal (o.Condition x) y = equal_plain (o.Condition x) y
equal (o.Array a) y = o.Truth false
equal (o.NoArray kind) y = o.Truth false

abbrev pub unequal : Operand → Operand → Operand
unequal (o.Number m) y = unequal_plain (o.Number m) y
unequal (o.Truth b) y = unequal_plain (o.Truth b) y
unequal (o.Set s) y = o.Truth (unequal_sets s (set_of y))
unequal (o.Text t) y = o.Truth (unequal_texts t (text_of y))
unequal (o.Integer x) y = unequal_plain (o.Integer x) y
unequal (o.Condition x) y = unequal_plain (o.Condition x) y
unequal (o.Array a) y = o.Truth false
unequal (o.NoArray kind) y = o.Truth false

-- ---- `++`

-- an undefined string where a part is
abbrev pub text_behind : Option (List ℕ) → Option (List ℕ) → Operand
text_behind (Some s) (Some t) = o.Text (Some (s ++ t))
text_behind (Some s) None = o.Text None
text_behind None t = o.Text None

abbrev pub array_behind : Cells → Operand → Operand
array_behind cs (o.Number m) = o.NoArray (kind_of cs)
array_behind cs (o.Truth b) = o.NoArray (kind_of cs)
array_behind cs (o.Set s) = o.NoArray (kind_of cs)
array_behind cs (o.Text t) = o.NoArray (kind_of cs)
array_behind cs (o.Integer x) = o.NoArray (kind_of cs)
array_behind cs (o.Condition x) = o.NoArray (kind_of cs)
array_behind cs (o.Array a) = line_from_one (joined cs a.cells)
array_behind cs (o.NoArray kind) = o.NoArray (kind_of cs)

abbrev pub concatenate : Operand → Operand → Operand
concatenate (o.Number m) y = text_behind None (text_of y)
concatenate (o.Truth b) y = text_behind None (text_of y)
concatenate (o.Set s) y = text_behind None (text_of y)
concatenate (o.Text t) y = text_behind t (text_of y)
concatenate (o.Integer x) y = text_behind None (text_of y)
concatenate (o.Condition x) y = text_behind None (text_of y)
concatenate (o.Array a) y = array_behind a.cells y
concatenate (o.NoArray kind) y = o.NoArray kind

-- ---- pairs

abbrev pub either_true : Bool → Bool → Bool
either_true b c = b || c

abbrev pub both_true : Bool → Bool → Bool
both_true b c = b && c

abbrev pub either_node : Placed → Placed → Placed
either_node x y = n.some (x ∷ y ∷ [])

abbrev pub both_node : Placed → Placed → Placed
both_node x y = n.all (x ∷ y ∷ [])

-- what an operator makes of two operands
unfoldable pub join : Operator → Operand → Operand → Option Operand
join op.Equivalent x y = Some (connected iff n.equivalence x y)
join op.Implies x y = Some (connected imp n.implication x y)
join op.ImpliedBy x y = Some (connected imp n.implication y x)
join op.Or x y = Some (connected either_true either_node x y)
join op.Xor x y = Some (connected xor n.exclusive x y)
join op.And x y = Some (connected both_true both_node x y)
join op.Equal x y = Some (equal x y)
join op.NotEqual x y = Some (unequal x y)
join op.Less x y = Some (compared int_lt n.less x y)
join op.AtMost x y = Some (compared int_le n.at_most x y)
join op.Greater x y = Some (compared int_lt n.less y x)
join op.AtLeast x y = Some (compared int_le n.at_most y x)
join op.In x y = Some (membership x y)
join op.To x y = Some (range x y)
join op.Plus x y = operate add_at n.sum x y
join op.Minus x y = operate sub_at n.difference x y
join op.Times x y = operate mul_at n.product x y
join op.Div x y = operate div_at n.quotient x y
join op.Mod x y = operate mod_at n.remainder x y
join op.Concat x y = Some (concatenate x y)

-- ---- chains of `/\` or of `\/` alone: one node over all operands

-- the operands so far: whether all are known, the truth value where they are, and their trees
pub record Operands : Type 0 where
  pub known : Bool
  pub truth : Bool
  pub parts : List Placed

abbrev pub with_operand : (Bool → Bool → Bool) → Operands → Operand → Operands
with_operand f xs x = record { known = xs.known && not (is_variable x); truth = f xs.truth (truth_of x); parts = xs.parts ++ condition_of x ∷ [] }

abbrev pub over_operands : (List Placed → Placed) → Operands → Operand
over_operands node xs = if xs.known then o.Truth xs.truth else o.Condition (node xs.parts)

-- ---- signs

abbrev pub negate : Operand → Option Operand
negate x = if is_variable x then integer (n.negation (integer_of x)) else known_number (image neg_at (number_of x))

abbrev pub deny : Operand → Operand
deny x = if is_variable x then o.Condition (n.denial (condition_of x)) else o.Truth (not (truth_of x))

unfoldable pub signed : Sign → Operand → Option Operand
signed sign.Not x = Some (deny x)
signed sign.Minus x = negate x

-- ---- an `if` with a variable condition, whose branches are of one type

abbrev pub choice : Operand → Operand → Operand → Operand
choice c x y =
    if is_logical x then o.Condition (n.choice_of_truths (condition_of c) (condition_of x) (condition_of y))
    else o.Integer (n.choice (condition_of c) (integer_of x) (integer_of y))
