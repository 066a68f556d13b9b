-- Accesses.
use Rattle.std.proofs.Common.{ℕ, Bool, true, false, ◌||◌, List, Option, Some, None, map}
use Rattle.std.specs.Prelude.{ℤ, pos, if◌then◌else◌}
use Rattle.std.specs.List.{AllByRecursion}
use Rattle.ms_num.specs.Span.{Span}
use Rattle.ms_tree_nodes.specs.Nodes as n
use Rattle.ms_values.specs.declared.operand.Placed.{Placed}
use Rattle.ms_values.specs.declared.operand.Kind.{Kind}
use Rattle.ms_values.specs.declared.operand.Cells.{Cells}
use Rattle.ms_values.specs.declared.operand.Cells.TheVariants as c
use Rattle.ms_values.specs.declared.operand.IndexRange.{IndexRange}
use Rattle.ms_values.specs.declared.operand.Indices.{Indices}
use Rattle.ms_values.specs.declared.operand.Indices.TheVariants as i
use Rattle.ms_values.specs.declared.operand.Operand.{Operand}
use Rattle.ms_values.specs.declared.operand.Operand.TheVariants as o
use Rattle.ms_rules.specs.Operands.{count_of, integer_of, is_logical_kind, is_variable, kind_of, number_of}
use Rattle.ms_rules.specs.Cells.{conditions_of, element, integers_of}
use Rattle.ms_rules.specs.Operators.{integer}
use Rattle.ms_rules.specs.Access as a
use Rattle.ms_rules_laws.specs.Fit.{AreFit, IsCondition, IsFit, IsFitIfAny, IsInteger, IsWithinIfAny}
use Rattle.ms_rules_laws.specs.Laws.{IsIntegerIfAny}
use Rattle.ms_rules_laws.proofs.Elements as e
use Rattle.ms_rules_laws.proofs.Known as k
use Rattle.ms_rules_laws.proofs.Nodes as t
use Rattle.ms_rules_laws.proofs.Operators as r
use Rattle.ms_rules_laws.proofs.Parts as l

module _ (sets : List Span) where
  row_of : (width p : ℕ) (cs : Cells) → AreFit sets cs → AreFit sets (a.row_of width p cs)
  row_of width p (c.Numbers ns) h = l.in_row IsWithinIfAny width p ns h
  row_of width p (c.Truths bs) h = tt
  row_of width p (c.Texts ts) h = tt
  row_of width p (c.Integers xs) h = l.in_row (IsInteger sets) width p xs h
  row_of width p (c.Conditions xs) h = l.in_row (IsCondition sets) width p xs h

  column_of : (width q rows : ℕ) (cs : Cells) → AreFit sets cs → AreFit sets (a.column_of width q rows cs)
  column_of width q rows (c.Numbers ns) h = l.in_column IsWithinIfAny width q rows ns h
  column_of width q rows (c.Truths bs) h = tt
  column_of width q rows (c.Texts ts) h = tt
  column_of width q rows (c.Integers xs) h = l.in_column (IsInteger sets) width q rows xs h
  column_of width q rows (c.Conditions xs) h = l.in_column (IsCondition sets) width q rows xs h

  -- ---- by a variable index

  chosen : (x : Option Placed) → IsIntegerIfAny sets x → IsFitIfAny sets (a.chosen x)
  chosen None h = tt
  chosen (Some x) h = t.equal sets x (n.number_leaf (Some (pos 1))) h (t.number_leaf sets (Some (pos 1)) k.one_within)

  abbrev KeepsList : (List Placed → Option Placed) → Type 0
  KeepsList node = (xs : List Placed) → AllByRecursion (IsInteger sets) xs → IsIntegerIfAny sets (node xs)

  selected_by : (node : List Placed → Option Placed) → KeepsList node → (cs : Cells) → AreFit sets cs → (b : Bool)
      → IsFitIfAny sets (if b then a.chosen (node (map n.bit (conditions_of cs))) else integer (node (integers_of cs)))
  selected_by node keeps cs h true =
      chosen (node (map n.bit (conditions_of cs))) (keeps (map n.bit (conditions_of cs)) (l.mapped (IsCondition sets) (IsInteger sets) n.bit (t.bit sets) (conditions_of cs) (e.conditions_read sets cs h)))
  selected_by node keeps cs h false = r.integer sets (node (integers_of cs)) (keeps (integers_of cs) (e.integers_read sets cs h))

  selected : (node : List Placed → Option Placed) → KeepsList node → (cs : Cells) → AreFit sets cs → IsFitIfAny sets (a.selected node cs)
  selected node keeps cs h = selected_by node keeps cs h (is_logical_kind (kind_of cs))

  undefined_variable_by : (b : Bool) (kind : Kind) → IsFit sets (if b then o.Condition (n.truth_leaf false) else o.Integer (n.number_leaf None))
  undefined_variable_by true kind = t.truth_leaf sets false
  undefined_variable_by false kind = t.number_leaf sets None tt

  undefined_variable : (kind : Kind) → IsFit sets (a.undefined_variable kind)
  undefined_variable kind = undefined_variable_by (is_logical_kind kind) kind

  undefined_by : (b : Bool) (kind : Kind) → IsFit sets (a.undefined_by b kind)
  undefined_by true kind = undefined_variable kind
  undefined_by false kind = e.undefined_fit sets kind

  -- ---- one dimension

  in_line_by : (low : ℤ) (cs : Cells) (x : Operand) → AreFit sets cs → IsFit sets x → (b : Bool)
      → IsFitIfAny sets (if b then a.selected (λ xs. n.element low xs (integer_of x)) cs else Some (element cs (a.place_of low (count_of cs) (number_of x))))
  in_line_by low cs x h i true = selected (λ xs. n.element low xs (integer_of x)) (λ xs all. t.element sets low xs (integer_of x) all (e.integer_read sets x i)) cs h
  in_line_by low cs x h i false = e.element sets cs (a.place_of low (count_of cs) (number_of x)) h

  -- ---- two dimensions

  in_row : (columns : IndexRange) (cs : Cells) (y : Operand) (p : Option ℕ) → AreFit sets cs → IsFit sets y → IsFitIfAny sets (a.in_row columns cs y p)
  in_row columns cs y None h i = undefined_variable (kind_of cs)
  in_row columns cs y (Some p) h i =
      selected (λ xs. n.element columns.low xs (integer_of y)) (λ xs all. t.element sets columns.low xs (integer_of y) all (e.integer_read sets y i)) (a.row_of columns.count p cs) (row_of columns.count p cs h)

  in_column : (rows columns : IndexRange) (cs : Cells) (x : Operand) (q : Option ℕ) → AreFit sets cs → IsFit sets x → IsFitIfAny sets (a.in_column rows columns cs x q)
  in_column rows columns cs x None h i = undefined_variable (kind_of cs)
  in_column rows columns cs x (Some q) h i =
      selected (λ xs. n.element rows.low xs (integer_of x)) (λ xs all. t.element sets rows.low xs (integer_of x) all (e.integer_read sets x i))
      (a.column_of columns.count q rows.count cs) (column_of columns.count q rows.count cs h)

  in_grid : (b d : Bool) (rows columns : IndexRange) (cs : Cells) (x y : Operand) → AreFit sets cs → IsFit sets x → IsFit sets y → IsFitIfAny sets (a.in_grid b d rows columns cs x y)
  in_grid false false rows columns cs x y h i j =
      e.element sets cs (a.place_in_grid columns.count (a.place_in rows (number_of x)) (a.place_in columns (number_of y))) h
  in_grid false true rows columns cs x y h i j = in_row columns cs y (a.place_in rows (number_of x)) h j
  in_grid true false rows columns cs x y h i j = in_column rows columns cs x (a.place_in columns (number_of y)) h i
  in_grid true true rows columns cs x y h i j =
      selected (λ xs. n.element_of_grid rows.low columns.low columns.count xs (integer_of x) (integer_of y))
      (λ xs all. t.element_of_grid sets rows.low columns.low columns.count xs (integer_of x) (integer_of y) all (e.integer_read sets x i) (e.integer_read sets y j)) cs h

  access_by : (at : Indices) (cs : Cells) (x : Operand) (y : Option Operand) → AreFit sets cs → IsFit sets x → IsFitIfAny sets y → IsFitIfAny sets (a.access_by at cs x y)
  access_by (i.Line low) cs x None h i j = in_line_by low cs x h i (is_variable x)
  access_by (i.Line low) cs x (Some y) h i j = e.undefined_fit sets (kind_of cs)
  access_by (i.Grid rows columns) cs x None h i j = e.undefined_fit sets (kind_of cs)
  access_by (i.Grid rows columns) cs x (Some y) h i j = in_grid (is_variable x) (is_variable y) rows columns cs x y h i j

  pub access : (x y : Operand) (z : Option Operand) → IsFit sets x → IsFit sets y → IsFitIfAny sets z → IsFitIfAny sets (a.access x y z)
  access (o.Number m) y z h i j = tt
  access (o.Truth b) y z h i j = tt
  access (o.Set s) y z h i j = tt
  access (o.Text w) y z h i j = tt
  access (o.Integer x) y z h i j = tt
  access (o.Condition x) y z h i j = tt
  access (o.Array x) y z h i j = access_by x.indices x.cells y z h.1 i j
  access (o.NoArray kind) y z h i j = undefined_by (is_variable y || a.is_variable_index z) kind
