-- Rows of a table.
use Rattle.std.specs.Prelude.{ℕ, zero, suc, ℤ, List, [], ◌∷◌, take, drop, ◌==◌, Option, Some, None, option_map, if◌then◌else◌}
use Rattle.std.specs.List.{list_any}
use Rattle.ms_trees.specs.Value.{is_row}
use Rattle.ms_tree_nodes.specs.Nodes as n
use Rattle.ms_values.specs.declared.operand.Cells.{Cells}
use Rattle.ms_values.specs.declared.operand.Indices.{Indices}
use Rattle.ms_values.specs.declared.operand.Indices.TheVariants as i
use Rattle.ms_values.specs.declared.operand.Operand.{Operand}
use Rattle.ms_values.specs.declared.operand.Operand.TheVariants as o
use Rattle.ms_rules.specs.Operands.{count_of, no_truth}
use Rattle.ms_rules.specs.Cells.{numbers_of, number_meanings, integers_of}
use Rattle.ms_rules.specs.Arrays.{false_of, has_trees, of_array}

-- the numbers, where all are defined
abbrev pub all_numbers : List (Option ℤ) → Option (List ℤ)
all_numbers [] = Some []
all_numbers (None ∷ zs) = None
all_numbers (Some z ∷ zs) = option_map (λ ns. z ∷ ns) (all_numbers zs)

abbrev pub in_rows : ℕ → ℕ → List ℤ → List (List ℤ)
in_rows width zero zs = []
in_rows width (suc rows) zs = take width zs ∷ in_rows width rows (drop width zs)

-- the rows of an array of two dimensions, where they have this width and all their numbers are defined
abbrev pub rows_of : ℕ → Indices → Cells → Option (List (List ℤ))
rows_of width (i.Line low) cs = None
rows_of width (i.Grid rows columns) cs = if columns.count == width then option_map (in_rows width rows.count) (all_numbers (numbers_of cs)) else None

abbrev pub table_rows : ℕ → Operand → Option (List (List ℤ))
table_rows width (o.Number m) = None
table_rows width (o.Truth b) = None
table_rows width (o.Set s) = None
table_rows width (o.Text t) = None
table_rows width (o.Integer x) = None
table_rows width (o.Condition x) = None
table_rows width (o.Array a) = rows_of width a.indices a.cells
table_rows width (o.NoArray kind) = None

-- the elements are the numbers of a row; false without rows
abbrev pub is_in_rows : Cells → Option (List (List ℤ)) → Operand
is_in_rows cs None = no_truth (has_trees cs)
is_in_rows cs (Some rows) = if has_trees cs then o.Condition (n.rowed rows (integers_of cs)) else o.Truth (list_any (is_row (number_meanings cs)) rows)

abbrev pub table : Operand → Operand → Operand
table x rows = of_array (λ cs. is_in_rows cs (table_rows (count_of cs) rows)) false_of x
