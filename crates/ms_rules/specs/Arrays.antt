-- What functions over arrays make of one. An array that is undefined as a whole makes a Boolean false and an integer
-- undefined.
use Rattle.std.specs.Prelude.{ℕ, zero, suc, ◌*◌, min, ℤ, pos, ◌+ℤ◌, Bool, ◌||◌, List, [], ◌∷◌, ◌==◌, Option, Some, None, option_map, option_and_then, if◌then◌else◌}
use Rattle.ms_num.specs.Numbers.{add_at}
use Rattle.ms_num.specs.Span.{Span, if_within}
use Rattle.ms_num.specs.Ranges.{span_size}
use Rattle.ms_trees.specs.Extreme.{extreme_at}
use Rattle.ms_trees.specs.Value.{Meaning, all_true, any_true, are_distinct, both, counted, extreme as extreme_number}
use Rattle.ms_trees.specs.declared.extreme.Extreme.{Extreme}
use Rattle.ms_tree_nodes.specs.Nodes as n
use Rattle.ms_values.specs.declared.operand.Placed.{Placed}
use Rattle.ms_values.specs.declared.operand.Kind.{Kind}
use Rattle.ms_values.specs.declared.operand.Kind.TheVariants as k
use Rattle.ms_values.specs.declared.operand.Cells.{Cells}
use Rattle.ms_values.specs.declared.operand.IndexRange.{IndexRange}
use Rattle.ms_values.specs.declared.operand.Indices.{Indices}
use Rattle.ms_values.specs.declared.operand.Indices.TheVariants as i
use Rattle.ms_values.specs.declared.operand.Array.{Array}
use Rattle.ms_values.specs.declared.operand.Operand.{Operand}
use Rattle.ms_values.specs.declared.operand.Operand.TheVariants as o
use Rattle.ms_rules.specs.Operands.{index_limit, is_variable, is_variable_kind, kind_of, count_of, number_of, set_of, integer_of, known_number, no_number, no_truth}
use Rattle.ms_rules.specs.Cells.{numbers_of, number_meanings, truth_meanings, integers_of, conditions_of}
use Rattle.ms_rules.specs.Operators.{integer, operate}

-- what is made of the elements of an array, or of the kind of one that is undefined. What is no array counts as an
-- undefined one
abbrev pub of_array : {A : Type 0} → (Cells → A) → (Kind → A) → Operand → A
of_array f g (o.Number m) = g k.Number
of_array f g (o.Truth b) = g k.Number
of_array f g (o.Set s) = g k.Number
of_array f g (o.Text t) = g k.Number
of_array f g (o.Integer x) = g k.Number
of_array f g (o.Condition x) = g k.Number
of_array f g (o.Array a) = f a.cells
of_array f g (o.NoArray kind) = g kind

abbrev pub has_trees : Cells → Bool
has_trees cs = is_variable_kind (kind_of cs)

-- ---- of Booleans

-- of an array that is undefined
abbrev pub false_of : Kind → Operand
false_of kind = no_truth (is_variable_kind kind)

abbrev pub truth_over : (List Meaning → Bool) → (List Placed → Placed) → Cells → Operand
truth_over f node cs = if has_trees cs then o.Condition (node (conditions_of cs)) else o.Truth (f (truth_meanings cs))

abbrev pub all : Operand → Operand
all = of_array (truth_over all_true n.all) false_of

abbrev pub some : Operand → Operand
some = of_array (truth_over any_true n.some) false_of

-- ---- of integers

abbrev pub undefined_by_kind : Kind → Option Operand
undefined_by_kind kind = Some (no_number (is_variable_kind kind))

-- each sum on the way is within the limits
abbrev pub within : Option ℤ → Option (Option ℤ)
within None = Some None
within (Some z) = option_map Some (if_within z)

abbrev pub sum_from : Option ℤ → List (Option ℤ) → Option Operand
sum_from total [] = Some (o.Number total)
sum_from total (z ∷ zs) = option_and_then (λ t. sum_from t zs) (within (both add_at total z))

abbrev pub sum_of : Cells → Option Operand
sum_of cs = if has_trees cs then integer (n.total (integers_of cs)) else sum_from (Some (pos 0)) (numbers_of cs)

abbrev pub sum : Operand → Option Operand
sum = of_array sum_of undefined_by_kind

abbrev pub extreme_of : Extreme → Cells → Option Operand
extreme_of which cs = if has_trees cs then integer (n.extreme which (integers_of cs)) else known_number (extreme_number (extreme_at which) (number_meanings cs))

-- the least or the greatest of an array, or of two numbers
abbrev pub extreme_of_array : Extreme → Operand → Option Operand
extreme_of_array which = of_array (extreme_of which) undefined_by_kind

abbrev pub extreme_of_two : Extreme → Operand → Operand → Option Operand
extreme_of_two which x y = operate (extreme_at which) (λ a b. n.extreme which (a ∷ b ∷ [])) x y

-- how many elements are the number
abbrev pub count_in : Operand → Cells → Option Operand
count_in y cs =
    if has_trees cs || is_variable y then integer (n.count (integers_of cs) (integer_of y))
    else known_number (counted (number_meanings cs) (number_of y))

abbrev pub count_undefined : Operand → Kind → Option Operand
count_undefined y kind = Some (no_number (is_variable_kind kind || is_variable y))

abbrev pub count : Operand → Operand → Option Operand
count x y = of_array (count_in y) (count_undefined y) x

abbrev pub distinct_of : Cells → Operand
distinct_of cs = if has_trees cs then o.Condition (n.distinct (integers_of cs)) else o.Truth (are_distinct (number_meanings cs))

abbrev pub distinct : Operand → Operand
distinct = of_array distinct_of false_of

-- ---- of arrays as such

abbrev pub length_of : Cells → Option Operand
length_of cs = known_number (Some (pos (count_of cs)))

abbrev pub no_length : Kind → Option Operand
no_length kind = Some (o.Number None)

abbrev pub length_of_array : Operand → Option Operand
length_of_array = of_array length_of no_length

-- the set of so many indices, from the lowest on; none where one leaves the limits
abbrev pub indices_from : ℤ → ℕ → Option Operand
indices_from low zero = Some (o.Set (Some []))
indices_from low (suc n) = option_map (λ high. o.Set (Some (record { lo = low; hi = high } ∷ []))) (if_within (low +ℤ pos n))

abbrev pub no_indices : Option Operand
no_indices = Some (o.Set None)

abbrev pub line_set : Indices → ℕ → Option Operand
line_set (i.Line low) count = indices_from low count
line_set (i.Grid rows columns) count = no_indices

abbrev pub row_set : Indices → Option Operand
row_set (i.Line low) = no_indices
row_set (i.Grid rows columns) = indices_from rows.low rows.count

abbrev pub column_set : Indices → Option Operand
column_set (i.Line low) = no_indices
column_set (i.Grid rows columns) = indices_from columns.low columns.count

-- the index set that is read of an array
abbrev pub index_set_by : (Array → Option Operand) → Operand → Option Operand
index_set_by f (o.Number m) = no_indices
index_set_by f (o.Truth b) = no_indices
index_set_by f (o.Set s) = no_indices
index_set_by f (o.Text t) = no_indices
index_set_by f (o.Integer x) = no_indices
index_set_by f (o.Condition x) = no_indices
index_set_by f (o.Array a) = f a
index_set_by f (o.NoArray kind) = no_indices

abbrev pub index_set : Operand → Option Operand
index_set = index_set_by (λ a. line_set a.indices (count_of a.cells))

abbrev pub row_index_set : Operand → Option Operand
row_index_set = index_set_by (λ a. row_set a.indices)

abbrev pub column_index_set : Operand → Option Operand
column_index_set = index_set_by (λ a. column_set a.indices)

-- ---- other indices

-- a set that is a range, as its lowest number and how many it has; the lowest is 1 where there is none
abbrev pub as_range : Option (List Span) → Option (ℤ × ℕ)
as_range None = None
as_range (Some []) = Some (pos 1, 0)
as_range (Some (s ∷ [])) = Some (s.lo, span_size s)
as_range (Some (s ∷ t ∷ ss)) = None

-- a count of indices stands still where there are too many
abbrev pub index_range : ℤ × ℕ → IndexRange
index_range r = record { low = r.0; count = min r.1 index_limit }

-- the elements with the index set; undefined unless it is a range of their number
abbrev pub line_by : Option (ℤ × ℕ) → Cells → Operand
line_by None cs = o.NoArray (kind_of cs)
line_by (Some r) cs = if r.1 == count_of cs then o.Array (record { indices = i.Line r.0; cells = cs }) else o.NoArray (kind_of cs)

abbrev pub grid_by : Option (ℤ × ℕ) → Option (ℤ × ℕ) → Cells → Operand
grid_by None q cs = o.NoArray (kind_of cs)
grid_by (Some r) None cs = o.NoArray (kind_of cs)
grid_by (Some r) (Some q) cs =
    if r.1 * q.1 == count_of cs then o.Array (record { indices = i.Grid (index_range r) (index_range q); cells = cs }) else o.NoArray (kind_of cs)

abbrev pub array_line : Operand → Operand → Operand
array_line s x = of_array (line_by (as_range (set_of s))) o.NoArray x

abbrev pub array_grid : Operand → Operand → Operand → Operand
array_grid s t x = of_array (grid_by (as_range (set_of s)) (as_range (set_of t))) o.NoArray x
