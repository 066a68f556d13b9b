-- Elements of arrays by their indices. An index outside, or one that is undefined, gives what is undefined of the kind.
use Rattle.std.specs.Prelude.{ℕ, zero, suc, ◌+◌, ◌*◌, ℤ, pos, negsuc, ◌-ℤ◌, Bool, true, false, ◌||◌, List, [], ◌++◌, map, take, drop, slice_get, nat_lt, Option, Some, None, option_to_list, if◌then◌else◌}
use Rattle.ms_tree_nodes.specs.Nodes as n
use Rattle.ms_values.specs.declared.operand.Placed.{Placed}
use Rattle.ms_values.specs.declared.operand.Kind.{Kind}
use Rattle.ms_values.specs.declared.operand.Cells.{Cells}
use Rattle.ms_values.specs.declared.operand.Cells.TheVariants as c
use Rattle.ms_values.specs.declared.operand.IndexRange.{IndexRange}
use Rattle.ms_values.specs.declared.operand.Indices.{Indices}
use Rattle.ms_values.specs.declared.operand.Indices.TheVariants as i
use Rattle.ms_values.specs.declared.operand.Operand.{Operand}
use Rattle.ms_values.specs.declared.operand.Operand.TheVariants as o
use Rattle.ms_rules.specs.Operands.{is_variable, is_logical_kind, kind_of, count_of, number_of, integer_of, no_number, no_truth, undefined_of}
use Rattle.ms_rules.specs.Cells.{element, integers_of, conditions_of}
use Rattle.ms_rules.specs.Operators.{integer}

-- ---- places

-- a distance that is below a count
abbrev pub below : ℕ → ℤ → Option ℕ
below count (pos p) = if nat_lt p count then Some p else None
below count (negsuc p) = None

-- where the element of an index stands, among so many from the lowest index on
abbrev pub place_of : ℤ → ℕ → Option ℤ → Option ℕ
place_of low count None = None
place_of low count (Some z) = below count (z -ℤ low)

abbrev pub place_in : IndexRange → Option ℤ → Option ℕ
place_in r z = place_of r.low r.count z

-- where the element of a row and a column stands, row by row
abbrev pub place_in_grid : ℕ → Option ℕ → Option ℕ → Option ℕ
place_in_grid width (Some p) (Some q) = Some (p * width + q)
place_in_grid width (Some p) None = None
place_in_grid width None q = None

-- ---- rows and columns

abbrev pub row : {X : Type 0} → ℕ → ℕ → List X → List X
row width p xs = take width (drop (p * width) xs)

-- the elements of a column in so many rows, by its place in the first
abbrev pub column : {X : Type 0} → ℕ → ℕ → ℕ → List X → List X
column width q zero xs = []
column width q (suc rows) xs = option_to_list (slice_get xs q) ++ column width q rows (drop width xs)

abbrev pub row_of : ℕ → ℕ → Cells → Cells
row_of width p (c.Numbers ns) = c.Numbers (row width p ns)
row_of width p (c.Truths bs) = c.Truths (row width p bs)
row_of width p (c.Texts ts) = c.Texts (row width p ts)
row_of width p (c.Integers xs) = c.Integers (row width p xs)
row_of width p (c.Conditions xs) = c.Conditions (row width p xs)

abbrev pub column_of : ℕ → ℕ → ℕ → Cells → Cells
column_of width q rows (c.Numbers ns) = c.Numbers (column width q rows ns)
column_of width q rows (c.Truths bs) = c.Truths (column width q rows bs)
column_of width q rows (c.Texts ts) = c.Texts (column width q rows ts)
column_of width q rows (c.Integers xs) = c.Integers (column width q rows xs)
column_of width q rows (c.Conditions xs) = c.Conditions (column width q rows xs)

-- ---- by a variable index: a node over the elements. That of Booleans is over their numbers, and is true where it is 1

abbrev pub chosen : Option Placed → Option Operand
chosen None = None
chosen (Some x) = Some (o.Condition (n.equal x (n.number_leaf (Some (pos 1)))))

abbrev pub selected : (List Placed → Option Placed) → Cells → Option Operand
selected node cs =
    if is_logical_kind (kind_of cs) then chosen (node (map n.bit (conditions_of cs)))
    else integer (node (integers_of cs))

abbrev pub undefined_variable : Kind → Operand
undefined_variable kind = if is_logical_kind kind then no_truth true else no_number true

-- an element that there is not, by an index that is variable or not
abbrev pub undefined_by : Bool → Kind → Operand
undefined_by true kind = undefined_variable kind
undefined_by false kind = undefined_of kind

-- ---- one dimension

abbrev pub in_line : ℤ → Cells → Operand → Option Operand
in_line low cs x =
    if is_variable x then selected (λ xs. n.element low xs (integer_of x)) cs
    else Some (element cs (place_of low (count_of cs) (number_of x)))

-- ---- two dimensions: where one index is known, its row or column is taken first

abbrev pub in_row : IndexRange → Cells → Operand → Option ℕ → Option Operand
in_row columns cs y None = Some (undefined_variable (kind_of cs))
in_row columns cs y (Some p) = selected (λ xs. n.element columns.low xs (integer_of y)) (row_of columns.count p cs)

abbrev pub in_column : IndexRange → IndexRange → Cells → Operand → Option ℕ → Option Operand
in_column rows columns cs x None = Some (undefined_variable (kind_of cs))
in_column rows columns cs x (Some q) = selected (λ xs. n.element rows.low xs (integer_of x)) (column_of columns.count q rows.count cs)

-- by whether the row and the column are variable
abbrev pub in_grid : Bool → Bool → IndexRange → IndexRange → Cells → Operand → Operand → Option Operand
in_grid false false rows columns cs x y =
    Some (element cs (place_in_grid columns.count (place_in rows (number_of x)) (place_in columns (number_of y))))
in_grid false true rows columns cs x y = in_row columns cs y (place_in rows (number_of x))
in_grid true false rows columns cs x y = in_column rows columns cs x (place_in columns (number_of y))
in_grid true true rows columns cs x y = selected (λ xs. n.element_of_grid rows.low columns.low columns.count xs (integer_of x) (integer_of y)) cs

-- ---- an array, and one index or two

abbrev pub access_by : Indices → Cells → Operand → Option Operand → Option Operand
access_by (i.Line low) cs x None = in_line low cs x
access_by (i.Line low) cs x (Some y) = Some (undefined_of (kind_of cs))
access_by (i.Grid rows columns) cs x None = Some (undefined_of (kind_of cs))
access_by (i.Grid rows columns) cs x (Some y) = in_grid (is_variable x) (is_variable y) rows columns cs x y

abbrev pub is_variable_index : Option Operand → Bool
is_variable_index None = false
is_variable_index (Some y) = is_variable y

abbrev pub access : Operand → Operand → Option Operand → Option Operand
access (o.Number m) x y = Some (no_number false)
access (o.Truth b) x y = Some (no_number false)
access (o.Set s) x y = Some (no_number false)
access (o.Text t) x y = Some (no_number false)
access (o.Integer t) x y = Some (no_number false)
access (o.Condition t) x y = Some (no_number false)
access (o.Array a) x y = access_by a.indices a.cells x y
access (o.NoArray kind) x y = Some (undefined_by (is_variable x || is_variable_index y) kind)
