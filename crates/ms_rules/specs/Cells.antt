-- Elements of arrays: read as others, put at the end, brought to another kind.
use Rattle.std.specs.Prelude.{ℕ, ℤ, pos, Bool, false, List, [], ◌∷◌, ◌++◌, map, replicate, slice_get, length, Option, Some, None}
use Rattle.ms_trees.specs.Value.{Meaning, numeric_meaning, boolean_meaning, bit as bit_of}
use Rattle.ms_tree_nodes.specs.Nodes as n
use Rattle.ms_values.specs.declared.operand.Placed.{Placed}
use Rattle.ms_values.specs.declared.operand.Kind.{Kind}
use Rattle.ms_values.specs.declared.operand.Kind.TheVariants as k
use Rattle.ms_values.specs.declared.operand.Cells.{Cells}
use Rattle.ms_values.specs.declared.operand.Cells.TheVariants as c
use Rattle.ms_values.specs.declared.operand.Indices.TheVariants as i
use Rattle.ms_values.specs.declared.operand.Operand.{Operand}
use Rattle.ms_values.specs.declared.operand.Operand.TheVariants as o
use Rattle.ms_rules.specs.Operands.{kind_of, number_of, truth_of, text_of, integer_of, condition_of, undefined_of}

abbrev pub empty : Kind → Cells
empty k.Number = c.Numbers []
empty k.Truth = c.Truths []
empty k.Text = c.Texts []
empty k.Integer = c.Integers []
empty k.Condition = c.Conditions []

-- one more element
abbrev pub grown : Cells → Operand → Cells
grown (c.Numbers ns) x = c.Numbers (ns ++ number_of x ∷ [])
grown (c.Truths bs) x = c.Truths (bs ++ truth_of x ∷ [])
grown (c.Texts ts) x = c.Texts (ts ++ text_of x ∷ [])
grown (c.Integers xs) x = c.Integers (xs ++ integer_of x ∷ [])
grown (c.Conditions xs) x = c.Conditions (xs ++ condition_of x ∷ [])

-- ---- all elements, read as others. Elements of an array without elements count as integers, and as Booleans they are
-- false; what else is no such element is left out

abbrev pub bit_number : Bool → Option ℤ
bit_number b = Some (bit_of b)

-- those of known integers or Booleans, as numbers
abbrev pub numbers_of : Cells → List (Option ℤ)
numbers_of (c.Numbers ns) = ns
numbers_of (c.Truths bs) = map bit_number bs
numbers_of (c.Texts ts) = []
numbers_of (c.Integers xs) = []
numbers_of (c.Conditions xs) = []

abbrev pub truths_of : Cells → List Bool
truths_of (c.Numbers ns) = replicate (length ns) false
truths_of (c.Truths bs) = bs
truths_of (c.Texts ts) = []
truths_of (c.Integers xs) = []
truths_of (c.Conditions xs) = []

abbrev pub texts_of : Cells → List (Option (List ℕ))
texts_of (c.Numbers ns) = replicate (length ns) None
texts_of (c.Truths bs) = []
texts_of (c.Texts ts) = ts
texts_of (c.Integers xs) = []
texts_of (c.Conditions xs) = []

abbrev pub bit_leaf : Bool → Placed
bit_leaf b = n.number_leaf (bit_number b)

-- as trees
abbrev pub integers_of : Cells → List Placed
integers_of (c.Numbers ns) = map n.number_leaf ns
integers_of (c.Truths bs) = map bit_leaf bs
integers_of (c.Texts ts) = []
integers_of (c.Integers xs) = xs
integers_of (c.Conditions xs) = map n.bit xs

abbrev pub conditions_of : Cells → List Placed
conditions_of (c.Numbers ns) = replicate (length ns) (n.truth_leaf false)
conditions_of (c.Truths bs) = map n.truth_leaf bs
conditions_of (c.Texts ts) = []
conditions_of (c.Integers xs) = replicate (length xs) (n.truth_leaf false)
conditions_of (c.Conditions xs) = xs

-- the same, as the meanings of trees that are known
abbrev pub number_meanings : Cells → List Meaning
number_meanings cs = map numeric_meaning (numbers_of cs)

abbrev pub truth_meanings : Cells → List Meaning
truth_meanings cs = map boolean_meaning (truths_of cs)

-- brought to a kind
abbrev pub converted : Kind → Cells → Cells
converted k.Number cs = c.Numbers (numbers_of cs)
converted k.Truth cs = c.Truths (truths_of cs)
converted k.Text cs = c.Texts (texts_of cs)
converted k.Integer cs = c.Integers (integers_of cs)
converted k.Condition cs = c.Conditions (conditions_of cs)

-- those of the second, brought to the kind of the first, behind those of the first
abbrev pub joined : Cells → Cells → Cells
joined (c.Numbers ns) cs = c.Numbers (ns ++ numbers_of cs)
joined (c.Truths bs) cs = c.Truths (bs ++ truths_of cs)
joined (c.Texts ts) cs = c.Texts (ts ++ texts_of cs)
joined (c.Integers xs) cs = c.Integers (xs ++ integers_of cs)
joined (c.Conditions xs) cs = c.Conditions (xs ++ conditions_of cs)

-- ---- one element

abbrev pub number_at : Option (Option ℤ) → Operand
number_at (Some n) = o.Number n
number_at None = o.Number None

abbrev pub truth_at : Option Bool → Operand
truth_at (Some b) = o.Truth b
truth_at None = o.Truth false

abbrev pub text_at : Option (Option (List ℕ)) → Operand
text_at (Some t) = o.Text t
text_at None = o.Text None

abbrev pub integer_at : Option Placed → Operand
integer_at (Some x) = o.Integer x
integer_at None = o.Integer (n.number_leaf None)

abbrev pub condition_at : Option Placed → Operand
condition_at (Some x) = o.Condition x
condition_at None = o.Condition (n.truth_leaf false)

-- the element at a place, from 0
abbrev pub cell : Cells → ℕ → Operand
cell (c.Numbers ns) p = number_at (slice_get ns p)
cell (c.Truths bs) p = truth_at (slice_get bs p)
cell (c.Texts ts) p = text_at (slice_get ts p)
cell (c.Integers xs) p = integer_at (slice_get xs p)
cell (c.Conditions xs) p = condition_at (slice_get xs p)

abbrev pub element : Cells → Option ℕ → Operand
element cs None = undefined_of (kind_of cs)
element cs (Some p) = cell cs p

-- an array with indices from 1
abbrev pub line_from_one : Cells → Operand
line_from_one cs = o.Array (record { indices = i.Line (pos 1); cells = cs })
