-- What is read of an operand. What an operand is not counts as undefined or false; types allow no other use.
use Rattle.std.specs.Prelude.{ℕ, ◌-◌, ◌^◌, max, nat_lt, ℤ, Bool, true, false, List, length, Option, Some, None, if◌then◌else◌}
use Rattle.ms_num.specs.Span.{Span, if_within}
use Rattle.ms_trees.specs.Value.{bit as bit_of}
use Rattle.ms_tree_nodes.specs.Nodes as n
use Rattle.ms_values.specs.declared.operand.Placed.{Placed}
use Rattle.ms_values.specs.declared.operand.Kind.{Kind}
use Rattle.ms_values.specs.declared.operand.Kind.TheVariants as k
use Rattle.ms_values.specs.declared.operand.Cells.{Cells}
use Rattle.ms_values.specs.declared.operand.Cells.TheVariants as c
use Rattle.ms_values.specs.declared.operand.Indices.{Indices}
use Rattle.ms_values.specs.declared.operand.Indices.TheVariants as i
use Rattle.ms_values.specs.declared.operand.Array.{Array}
use Rattle.ms_values.specs.declared.operand.Operand.{Operand}
use Rattle.ms_values.specs.declared.operand.Operand.TheVariants as o

-- ---- elements

abbrev pub kind_of : Cells → Kind
kind_of (c.Numbers ns) = k.Number
kind_of (c.Truths bs) = k.Truth
kind_of (c.Texts ts) = k.Text
kind_of (c.Integers xs) = k.Integer
kind_of (c.Conditions xs) = k.Condition

abbrev pub count_of : Cells → ℕ
count_of (c.Numbers ns) = length ns
count_of (c.Truths bs) = length bs
count_of (c.Texts ts) = length ts
count_of (c.Integers xs) = length xs
count_of (c.Conditions xs) = length xs

-- elements of this kind are trees
abbrev pub is_variable_kind : Kind → Bool
is_variable_kind k.Number = false
is_variable_kind k.Truth = false
is_variable_kind k.Text = false
is_variable_kind k.Integer = true
is_variable_kind k.Condition = true

-- elements of this kind are Booleans
abbrev pub is_logical_kind : Kind → Bool
is_logical_kind k.Number = false
is_logical_kind k.Truth = true
is_logical_kind k.Text = false
is_logical_kind k.Integer = false
is_logical_kind k.Condition = true

-- ---- single values

-- a tree, or an array of trees
abbrev pub is_variable : Operand → Bool
is_variable (o.Number m) = false
is_variable (o.Truth b) = false
is_variable (o.Set s) = false
is_variable (o.Text t) = false
is_variable (o.Integer x) = true
is_variable (o.Condition x) = true
is_variable (o.Array a) = is_variable_kind (kind_of a.cells)
is_variable (o.NoArray kind) = is_variable_kind kind

-- a Boolean
abbrev pub is_logical : Operand → Bool
is_logical (o.Number m) = false
is_logical (o.Truth b) = true
is_logical (o.Set s) = false
is_logical (o.Text t) = false
is_logical (o.Integer x) = false
is_logical (o.Condition x) = true
is_logical (o.Array a) = false
is_logical (o.NoArray kind) = false

-- the number of a known integer or Boolean
abbrev pub number_of : Operand → Option ℤ
number_of (o.Number m) = m
number_of (o.Truth b) = Some (bit_of b)
number_of (o.Set s) = None
number_of (o.Text t) = None
number_of (o.Integer x) = None
number_of (o.Condition x) = None
number_of (o.Array a) = None
number_of (o.NoArray kind) = None

abbrev pub truth_of : Operand → Bool
truth_of (o.Number m) = false
truth_of (o.Truth b) = b
truth_of (o.Set s) = false
truth_of (o.Text t) = false
truth_of (o.Integer x) = false
truth_of (o.Condition x) = false
truth_of (o.Array a) = false
truth_of (o.NoArray kind) = false

abbrev pub set_of : Operand → Option (List Span)
set_of (o.Number m) = None
set_of (o.Truth b) = None
set_of (o.Set s) = s
set_of (o.Text t) = None
set_of (o.Integer x) = None
set_of (o.Condition x) = None
set_of (o.Array a) = None
set_of (o.NoArray kind) = None

abbrev pub text_of : Operand → Option (List ℕ)
text_of (o.Number m) = None
text_of (o.Truth b) = None
text_of (o.Set s) = None
text_of (o.Text t) = t
text_of (o.Integer x) = None
text_of (o.Condition x) = None
text_of (o.Array a) = None
text_of (o.NoArray kind) = None

-- ---- as trees

-- an integer or Boolean, known or variable, as an integer tree
abbrev pub integer_of : Operand → Placed
integer_of (o.Number m) = n.number_leaf m
integer_of (o.Truth b) = n.number_leaf (Some (bit_of b))
integer_of (o.Set s) = n.number_leaf None
integer_of (o.Text t) = n.number_leaf None
integer_of (o.Integer x) = x
integer_of (o.Condition x) = n.bit x
integer_of (o.Array a) = n.number_leaf None
integer_of (o.NoArray kind) = n.number_leaf None

-- a Boolean, known or variable, as a Boolean tree
abbrev pub condition_of : Operand → Placed
condition_of (o.Number m) = n.truth_leaf false
condition_of (o.Truth b) = n.truth_leaf b
condition_of (o.Set s) = n.truth_leaf false
condition_of (o.Text t) = n.truth_leaf false
condition_of (o.Integer x) = n.truth_leaf false
condition_of (o.Condition x) = x
condition_of (o.Array a) = n.truth_leaf false
condition_of (o.NoArray kind) = n.truth_leaf false

-- ---- what is undefined

-- an undefined integer or a false Boolean, known or variable
abbrev pub no_number : Bool → Operand
no_number true = o.Integer (n.number_leaf None)
no_number false = o.Number None

abbrev pub no_truth : Bool → Operand
no_truth true = o.Condition (n.truth_leaf false)
no_truth false = o.Truth false

-- an element that there is not, of this kind
abbrev pub undefined_of : Kind → Operand
undefined_of k.Number = no_number false
undefined_of k.Truth = no_truth false
undefined_of k.Text = o.Text None
undefined_of k.Integer = no_number true
undefined_of k.Condition = no_truth true

-- ---- a known number

-- none where the number leaves the limits
abbrev pub known_number : Option ℤ → Option Operand
known_number None = Some (o.Number None)
known_number (Some z) = known_within (if_within z)
  where
    known_within : Option ℤ → Option Operand
    known_within None = None
    known_within (Some z) = Some (o.Number (Some z))

-- ---- what limits are tested of

-- how deep the tree is
abbrev pub nesting_of : Operand → ℕ
nesting_of (o.Number m) = 0
nesting_of (o.Truth b) = 0
nesting_of (o.Set s) = 0
nesting_of (o.Text t) = 0
nesting_of (o.Integer x) = x.nesting
nesting_of (o.Condition x) = x.nesting
nesting_of (o.Array a) = 0
nesting_of (o.NoArray kind) = 0

-- an index set may have fewer indices than this, also where the array has no elements; counts stand still here
abbrev pub index_limit : ℕ
index_limit = 2 ^ 32 - 1

-- how many elements an array has, or how many indices, where its index set has too many
abbrev pub extent_of : Array → ℕ
extent_of a = extent a.indices (count_of a.cells)
  where
    extent : Indices → ℕ → ℕ
    extent (i.Line low) count = count
    extent (i.Grid rows columns) count =
        if nat_lt (max rows.count columns.count) index_limit then count else max rows.count columns.count

abbrev pub ranges_in : Option (List Span) → ℕ
ranges_in None = 0
ranges_in (Some rs) = length rs

-- how many elements an array has, or ranges a set
abbrev pub elements_of : Operand → ℕ
elements_of (o.Number m) = 0
elements_of (o.Truth b) = 0
elements_of (o.Set s) = ranges_in s
elements_of (o.Text t) = 0
elements_of (o.Integer x) = 0
elements_of (o.Condition x) = 0
elements_of (o.Array a) = extent_of a
elements_of (o.NoArray kind) = 0
