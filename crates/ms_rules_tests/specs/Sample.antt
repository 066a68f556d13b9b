-- Operands of which the worked examples speak: x and y are integer variables of 0..2 and 1..5, b is a Boolean one.
use Rattle.std.specs.Prelude.{ℕ, ℤ, pos, negsuc, Bool, true, false, List, [], ◌∷◌, Option, Some, None}
use Rattle.ms_num.specs.Span.{Span}
use Rattle.ms_trees.specs.Enclosure.{numeric_enclosure, boolean_enclosure}
use Rattle.ms_trees.specs.declared.tree.Ground.{Ground}
use Rattle.ms_tree_nodes.specs.Nodes.{bit_variable, variable}
use Rattle.ms_values.specs.declared.operand.Placed.{Placed}
use Rattle.ms_values.specs.declared.operand.Cells.{Cells}
use Rattle.ms_values.specs.declared.operand.Cells.TheVariants as c
use Rattle.ms_values.specs.declared.operand.IndexRange.{IndexRange}
use Rattle.ms_values.specs.declared.operand.Indices.TheVariants as i
use Rattle.ms_values.specs.declared.operand.Operand.{Operand}
use Rattle.ms_values.specs.declared.operand.Operand.TheVariants as o

abbrev pub span : ℤ → ℤ → Span
span low high = record { lo = low; hi = high }

abbrev pub to : ℕ → ℕ → Span
to low high = span (pos low) (pos high)

abbrev pub x_tree : Placed
x_tree = variable 0 (to 0 2)

abbrev pub y_tree : Placed
y_tree = variable 1 (to 1 5)

abbrev pub b_tree : Placed
b_tree = bit_variable 2 (to 0 1)

abbrev pub x : Operand
x = o.Integer x_tree

abbrev pub y : Operand
y = o.Integer y_tree

abbrev pub b : Operand
b = o.Condition b_tree

abbrev pub num : ℕ → Operand
num n = o.Number (Some (pos n))

-- the number below 0 by one more
abbrev pub minus : ℕ → Operand
minus n = o.Number (Some (negsuc n))

abbrev pub undefined : Operand
undefined = o.Number None

abbrev pub yes : Operand
yes = o.Truth true

abbrev pub no : Operand
no = o.Truth false

abbrev pub set : List Span → Operand
set rs = o.Set (Some rs)

abbrev pub no_set : Operand
no_set = o.Set None

abbrev pub text : List ℕ → Operand
text t = o.Text (Some t)

abbrev pub line : ℕ → Cells → Operand
line low cs = o.Array (record { indices = i.Line (pos low); cells = cs })

abbrev pub indices : ℕ → ℕ → IndexRange
indices low count = record { low = pos low; count = count }

abbrev pub grid : IndexRange → IndexRange → Cells → Operand
grid rows columns cs = o.Array (record { indices = i.Grid rows columns; cells = cs })

abbrev pub some_numbers : List ℕ → Cells
some_numbers ns = c.Numbers (known ns)
  where
    known : List ℕ → List (Option ℤ)
    known [] = []
    known (n ∷ ns) = Some (pos n) ∷ known ns

-- an integer tree of an interval, its size and its nesting
abbrev pub integer : Ground → Span → Bool → ℕ → ℕ → Operand
integer t s undefined size nesting = o.Integer (record { tree = t; enclosure = numeric_enclosure (Some s) undefined; size = size; nesting = nesting })

-- one that is never a number
abbrev pub no_integer : Ground → ℕ → ℕ → Operand
no_integer t size nesting = o.Integer (record { tree = t; enclosure = numeric_enclosure None true; size = size; nesting = nesting })

-- a Boolean tree that may be true and may be false
abbrev pub condition : Ground → Bool → Bool → ℕ → ℕ → Operand
condition t may_be_true may_be_false size nesting =
    o.Condition (record { tree = t; enclosure = boolean_enclosure may_be_true may_be_false; size = size; nesting = nesting })
