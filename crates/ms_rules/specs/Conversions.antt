-- Operands brought to a type.
use Rattle.std.specs.Prelude.{ℕ, Bool, true, false, List, map}
use Rattle.ms_trees.specs.Size.{deepest}
use Rattle.ms_tree_nodes.specs.Nodes as n
use Rattle.ms_values.specs.declared.operand.Placed.{Placed}
use Rattle.ms_values.specs.declared.operand.Cells.{Cells}
use Rattle.ms_values.specs.declared.operand.Cells.TheVariants as c
use Rattle.ms_typing.specs.declared.types.Scalar.{Scalar}
use Rattle.ms_typing.specs.declared.types.Scalar.TheVariants as s
use Rattle.ms_typing.specs.declared.types.Shape.{Shape}
use Rattle.ms_typing.specs.declared.types.Shape.TheVariants as h
use Rattle.ms_typing.specs.declared.types.ExprType.{ExprType}
use Rattle.ms_typing.specs.declared.types.ExprType.TheVariants as t
use Rattle.ms_values.specs.declared.operand.Kind.{Kind}
use Rattle.ms_values.specs.declared.operand.Kind.TheVariants as k
use Rattle.ms_values.specs.declared.operand.Operand.{Operand}
use Rattle.ms_values.specs.declared.operand.Operand.TheVariants as o
use Rattle.ms_rules.specs.Operands.{number_of, truth_of, text_of, integer_of, condition_of}
use Rattle.ms_rules.specs.Cells.{converted}

-- what values of a type are; the element of an array without elements counts as an integer
abbrev pub kind_by : Scalar → Bool → Kind
kind_by s.Truth true = k.Truth
kind_by s.Truth false = k.Condition
kind_by s.Number true = k.Number
kind_by s.Number false = k.Integer
kind_by s.Empty true = k.Number
kind_by s.Empty false = k.Integer

-- what the elements of an array of this type are; sets and searches are no elements
abbrev pub kind_of_type : ExprType → Kind
kind_of_type (t.Plain c shape known) = kind_by c known
kind_of_type (t.Text shape) = k.Text
kind_of_type t.Set = k.Number
kind_of_type t.Search = k.Number

-- a single value
abbrev pub as_kind : Kind → Operand → Operand
as_kind k.Number x = o.Number (number_of x)
as_kind k.Truth x = o.Truth (truth_of x)
as_kind k.Text x = o.Text (text_of x)
as_kind k.Integer x = o.Integer (integer_of x)
as_kind k.Condition x = o.Condition (condition_of x)

-- an array
abbrev pub as_array : Kind → Operand → Operand
as_array kind (o.Number m) = o.NoArray kind
as_array kind (o.Truth b) = o.NoArray kind
as_array kind (o.Set s) = o.NoArray kind
as_array kind (o.Text t) = o.NoArray kind
as_array kind (o.Integer x) = o.NoArray kind
as_array kind (o.Condition x) = o.NoArray kind
as_array kind (o.Array a) = o.Array (record { indices = a.indices; cells = converted kind a.cells })
as_array kind (o.NoArray other) = o.NoArray kind

abbrev pub shaped : Shape → Kind → Operand → Operand
shaped h.Single kind x = as_kind kind x
shaped h.Line kind x = as_array kind x
shaped h.Grid kind x = as_array kind x

-- ---- how deep the trees are that are made for it: numbers of variable Booleans. All others stand as they are, or are leaves

abbrev pub made_nesting : Kind → Placed → ℕ
made_nesting k.Number x = 0
made_nesting k.Truth x = 0
made_nesting k.Text x = 0
made_nesting k.Integer x = (n.bit x).nesting
made_nesting k.Condition x = 0

abbrev pub deepest_made : Kind → List Placed → ℕ
deepest_made kind xs = deepest (map (made_nesting kind) xs)

abbrev pub deepest_made_of : Kind → Cells → ℕ
deepest_made_of kind (c.Numbers ns) = 0
deepest_made_of kind (c.Truths bs) = 0
deepest_made_of kind (c.Texts ts) = 0
deepest_made_of kind (c.Integers xs) = 0
deepest_made_of kind (c.Conditions xs) = deepest_made kind xs

abbrev pub nesting_made : Kind → Operand → ℕ
nesting_made kind (o.Number m) = 0
nesting_made kind (o.Truth b) = 0
nesting_made kind (o.Set s) = 0
nesting_made kind (o.Text t) = 0
nesting_made kind (o.Integer x) = 0
nesting_made kind (o.Condition x) = made_nesting kind x
nesting_made kind (o.Array a) = deepest_made_of kind a.cells
nesting_made kind (o.NoArray other) = 0

-- ---- all types

-- how deep the trees are that a conversion makes; 0 where it makes none
unfoldable pub conversion_nesting : ExprType → Operand → ℕ
conversion_nesting (t.Plain c shape known) x = nesting_made (kind_by c known) x
conversion_nesting (t.Text shape) x = 0
conversion_nesting t.Set x = 0
conversion_nesting t.Search x = 0

unfoldable pub convert : ExprType → Operand → Operand
convert (t.Plain c shape known) x = shaped shape (kind_by c known) x
convert (t.Text shape) x = shaped shape k.Text x
convert t.Set x = x
convert t.Search x = x
