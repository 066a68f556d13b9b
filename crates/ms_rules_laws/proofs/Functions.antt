-- Built-in names.
use Rattle.std.proofs.Common.{◌≡◌, ℕ, ◌*◌, Bool, true, false, ◌||◌, List, [], ◌∷◌, Option, Some, None, refl}
use Rattle.std.specs.Prelude.{ℤ, pos, option_and_then, option_map, ◌==◌, if◌then◌else◌}
use Rattle.std.specs.List.{AllByRecursion, list_any}
use Rattle.ms_num.specs.Numbers.{abs_at, add_at}
use Rattle.ms_num.specs.Ranges.{size_of}
use Rattle.ms_num.specs.Span.{Span, is_within}
use Rattle.ms_built_ins.specs.declared.names.BuiltIn.{BuiltIn}
use Rattle.ms_built_ins.specs.declared.names.BuiltIn.TheVariants as b
use Rattle.ms_trees.specs.Enclosure.{points}
use Rattle.ms_trees.specs.Extreme.{extreme_at}
use Rattle.ms_trees.specs.Value.{Meaning, all_true, any_true, are_distinct, bit, both, counted, extreme as extreme_number, image, is_row}
use Rattle.ms_trees.specs.WellFormed.{is_well_formed}
use Rattle.ms_trees.specs.declared.extreme.Extreme.{Extreme}
use Rattle.ms_trees.specs.declared.extreme.Extreme.TheVariants.{Least, Greatest}
use Rattle.ms_tree_nodes.specs.Nodes as n
use Rattle.ms_values.specs.declared.operand.Placed.{Placed}
use Rattle.ms_values.specs.declared.operand.Kind.{Kind}
use Rattle.ms_values.specs.declared.operand.Kind.TheVariants as k
use Rattle.ms_values.specs.declared.operand.Cells.{Cells}
use Rattle.ms_values.specs.declared.operand.Indices.{Indices}
use Rattle.ms_values.specs.declared.operand.Indices.TheVariants as i
use Rattle.ms_values.specs.declared.operand.Array.{Array}
use Rattle.ms_values.specs.declared.operand.Operand.{Operand}
use Rattle.ms_values.specs.declared.operand.Operand.TheVariants as o
use Rattle.ms_rules.specs.Operands.{condition_of, count_of, integer_of, is_variable, is_variable_kind, kind_of, known_number, number_of, set_of, truth_of}
use Rattle.ms_rules.specs.Cells.{conditions_of, integers_of, number_meanings, numbers_of, truth_meanings}
use Rattle.ms_rules.specs.Arrays as a
use Rattle.ms_rules.specs.Calls as c
use Rattle.ms_rules.specs.Operators as r
use Rattle.ms_rules.specs.Tables as s
use Rattle.ms_rules_laws.specs.Fit.{AreAllFit, AreFit, AreFitIndices, IsCondition, IsFit, IsFitIfAny, IsWithinIfAny}
use Rattle.ms_rules_laws.proofs.Elements as e
use Rattle.ms_rules_laws.proofs.Known as m
use Rattle.ms_rules_laws.proofs.Known.{IsLowIfAny}
use Rattle.ms_rules_laws.proofs.Nodes as t
use Rattle.ms_rules_laws.proofs.Operators as p

-- a sum on the way that is tested
abbrev IsWithinSum : Option (Option ℤ) → Type 0
IsWithinSum None = Unit {0}
IsWithinSum (Some total) = IsWithinIfAny total

module _ (sets : List Span) where
  -- ---- of an array, or of the kind of one that is undefined

  of_array : {A : Type 0} (P : A → Type 0) (f : Cells → A) (g : Kind → A) → ((cs : Cells) → AreFit sets cs → P (f cs)) → ((kind : Kind) → P (g kind)) → (x : Operand) → IsFit sets x → P (a.of_array f g x)
  of_array P f g h i (o.Number v) j = i k.Number
  of_array P f g h i (o.Truth v) j = i k.Number
  of_array P f g h i (o.Set v) j = i k.Number
  of_array P f g h i (o.Text v) j = i k.Number
  of_array P f g h i (o.Integer x) j = i k.Number
  of_array P f g h i (o.Condition x) j = i k.Number
  of_array P f g h i (o.Array x) j = h x.cells j.1
  of_array P f g h i (o.NoArray kind) j = i kind

  either_of : (x y : Operand) (d : Bool) → IsFit sets x → IsFit sets y → IsFit sets (if d then x else y)
  either_of x y true h i = h
  either_of x y false h i = i

  either_if_any : (x y : Option Operand) (d : Bool) → IsFitIfAny sets x → IsFitIfAny sets y → IsFitIfAny sets (if d then x else y)
  either_if_any x y true h i = h
  either_if_any x y false h i = i

  false_of : (kind : Kind) → IsFit sets (a.false_of kind)
  false_of kind = e.no_truth_fit sets (is_variable_kind kind)

  undefined_by_kind : (kind : Kind) → IsFitIfAny sets (a.undefined_by_kind kind)
  undefined_by_kind kind = e.no_number_fit sets (is_variable_kind kind)

  -- ---- of Booleans

  truth_over : (f : List Meaning → Bool) (node : List Placed → Placed) → ((xs : List Placed) → AllByRecursion (IsCondition sets) xs → IsCondition sets (node xs))
      → (cs : Cells) → AreFit sets cs → IsFit sets (a.truth_over f node cs)
  truth_over f node keeps cs h = either_of (o.Condition (node (conditions_of cs))) (o.Truth (f (truth_meanings cs))) (a.has_trees cs) (keeps (conditions_of cs) (e.conditions_read sets cs h)) tt

  all : (x : Operand) → IsFit sets x → IsFit sets (a.all x)
  all x h = of_array (IsFit sets) (a.truth_over all_true n.all) a.false_of (truth_over all_true n.all (t.all sets)) false_of x h

  some : (x : Operand) → IsFit sets x → IsFit sets (a.some x)
  some x h = of_array (IsFit sets) (a.truth_over any_true n.some) a.false_of (truth_over any_true n.some (t.some sets)) false_of x h

  -- ---- of integers

  on_from : (v : Option (Option ℤ)) (zs : List (Option ℤ)) → ((total : Option ℤ) → IsWithinIfAny total → IsFitIfAny sets (a.sum_from total zs)) → IsWithinSum v → IsFitIfAny sets (option_and_then (λ total. a.sum_from total zs) v)
  on_from None zs h i = tt
  on_from (Some total) zs h i = h total i

  tested : (z : ℤ) (d : Bool) → is_within z ≡ d → IsWithinSum (option_map Some (if d then Some z else None))
  tested z true h = m.within_of z h
  tested z false h = tt

  within : (v : Option ℤ) → IsWithinSum (a.within v)
  within None = tt
  within (Some z) = tested z (is_within z) refl

  sum_from : (total : Option ℤ) (zs : List (Option ℤ)) → IsWithinIfAny total → IsFitIfAny sets (a.sum_from total zs)
  sum_from total [] h = h
  sum_from total (z ∷ zs) h = on_from (a.within (both add_at total z)) zs (λ v i. sum_from v zs i) (within (both add_at total z))

  sum_of : (cs : Cells) → AreFit sets cs → IsFitIfAny sets (a.sum_of cs)
  sum_of cs h =
      either_if_any (r.integer (n.total (integers_of cs))) (a.sum_from (Some (pos 0)) (numbers_of cs)) (a.has_trees cs)
      (p.integer sets (n.total (integers_of cs)) (t.total sets (integers_of cs) (e.integers_read sets cs h))) (sum_from (Some (pos 0)) (numbers_of cs) m.zero_within)

  sum : (x : Operand) → IsFit sets x → IsFitIfAny sets (a.sum x)
  sum x h = of_array (IsFitIfAny sets) a.sum_of a.undefined_by_kind sum_of undefined_by_kind x h

  extreme_of : (which : Extreme) (cs : Cells) → AreFit sets cs → IsFitIfAny sets (a.extreme_of which cs)
  extreme_of which cs h =
      either_if_any (r.integer (n.extreme which (integers_of cs))) (known_number (extreme_number (extreme_at which) (number_meanings cs))) (a.has_trees cs)
      (p.integer sets (n.extreme which (integers_of cs)) (t.extreme sets which (integers_of cs) (e.integers_read sets cs h))) (m.known sets (extreme_number (extreme_at which) (number_meanings cs)))

  extreme : (which : Extreme) (xs : List Operand) → AreAllFit sets xs → IsFitIfAny sets (c.extreme which xs)
  extreme which [] h = tt
  extreme which (x ∷ []) h = of_array (IsFitIfAny sets) (a.extreme_of which) a.undefined_by_kind (extreme_of which) undefined_by_kind x h.0
  extreme which (x ∷ y ∷ zs) h =
      p.operate sets (extreme_at which) (λ v w. n.extreme which (v ∷ w ∷ [])) (λ v w i j. t.extreme sets which (v ∷ w ∷ []) (i, (j, tt))) x y h.0 h.1.0

  count_in : (y : Operand) → IsFit sets y → (cs : Cells) → AreFit sets cs → IsFitIfAny sets (a.count_in y cs)
  count_in y h cs i =
      either_if_any (r.integer (n.count (integers_of cs) (integer_of y))) (known_number (counted (number_meanings cs) (number_of y))) (a.has_trees cs || is_variable y)
      (p.integer sets (n.count (integers_of cs) (integer_of y)) (t.count sets (integers_of cs) (integer_of y) (e.integers_read sets cs i) (e.integer_read sets y h)))
      (m.known sets (counted (number_meanings cs) (number_of y)))

  count : (x y : Operand) → IsFit sets x → IsFit sets y → IsFitIfAny sets (a.count x y)
  count x y h i = of_array (IsFitIfAny sets) (a.count_in y) (a.count_undefined y) (count_in y i) (λ kind. e.no_number_fit sets (is_variable_kind kind || is_variable y)) x h

  distinct_of : (cs : Cells) → AreFit sets cs → IsFit sets (a.distinct_of cs)
  distinct_of cs h =
      either_of (o.Condition (n.distinct (integers_of cs))) (o.Truth (are_distinct (number_meanings cs))) (a.has_trees cs) (t.distinct sets (integers_of cs) (e.integers_read sets cs h)) tt

  distinct : (x : Operand) → IsFit sets x → IsFit sets (a.distinct x)
  distinct x h = of_array (IsFit sets) a.distinct_of a.false_of distinct_of false_of x h

  -- ---- of arrays as such

  length_of_array : (x : Operand) → IsFit sets x → IsFitIfAny sets (a.length_of_array x)
  length_of_array x h = of_array (IsFitIfAny sets) a.length_of a.no_length (λ cs i. m.known sets (Some (pos (count_of cs)))) (λ kind. tt) x h

  index_set_by : (f : Array → Option Operand) → ((x : Array) → IsFit sets (o.Array x) → IsFitIfAny sets (f x)) → (x : Operand) → IsFit sets x → IsFitIfAny sets (a.index_set_by f x)
  index_set_by f h (o.Number v) i = tt
  index_set_by f h (o.Truth v) i = tt
  index_set_by f h (o.Set v) i = tt
  index_set_by f h (o.Text v) i = tt
  index_set_by f h (o.Integer x) i = tt
  index_set_by f h (o.Condition x) i = tt
  index_set_by f h (o.Array x) i = h x i
  index_set_by f h (o.NoArray kind) i = tt

  line_set : (at : Indices) (count : ℕ) → AreFitIndices at → IsFitIfAny sets (a.line_set at count)
  line_set (i.Line low) count h = m.indices_from sets low count h
  line_set (i.Grid rows columns) count h = tt

  row_set : (at : Indices) → AreFitIndices at → IsFitIfAny sets (a.row_set at)
  row_set (i.Line low) h = tt
  row_set (i.Grid rows columns) h = m.indices_from sets rows.low rows.count h.0

  column_set : (at : Indices) → AreFitIndices at → IsFitIfAny sets (a.column_set at)
  column_set (i.Line low) h = tt
  column_set (i.Grid rows columns) h = m.indices_from sets columns.low columns.count h.1

  -- ---- other indices

  line_by : (v : Option (ℤ × ℕ)) → IsLowIfAny v → (cs : Cells) → AreFit sets cs → IsFit sets (a.line_by v cs)
  line_by None h cs i = tt
  line_by (Some v) h cs j = either_of (o.Array (record { indices = i.Line v.0; cells = cs })) (o.NoArray (kind_of cs)) (v.1 == count_of cs) (h, j) tt

  grid_by : (v w : Option (ℤ × ℕ)) → IsLowIfAny v → IsLowIfAny w → (cs : Cells) → AreFit sets cs → IsFit sets (a.grid_by v w cs)
  grid_by None w h j cs i = tt
  grid_by (Some v) None h j cs i = tt
  grid_by (Some v) (Some w) h j cs l =
      either_of (o.Array (record { indices = i.Grid (a.index_range v) (a.index_range w); cells = cs })) (o.NoArray (kind_of cs)) (v.1 * w.1 == count_of cs) ((h, j), l) tt

  low_of : (x : Operand) → IsFit sets x → IsLowIfAny (a.as_range (set_of x))
  low_of x h = m.as_range (set_of x) (m.set_read sets x h)

  array_line : (x y : Operand) → IsFit sets x → IsFit sets y → IsFit sets (a.array_line x y)
  array_line x y h i = of_array (IsFit sets) (a.line_by (a.as_range (set_of x))) o.NoArray (line_by (a.as_range (set_of x)) (low_of x h)) (λ kind. tt) y i

  array_grid : (x y z : Operand) → IsFit sets x → IsFit sets y → IsFit sets z → IsFit sets (a.array_grid x y z)
  array_grid x y z h i j =
      of_array (IsFit sets) (a.grid_by (a.as_range (set_of x)) (a.as_range (set_of y))) o.NoArray
      (grid_by (a.as_range (set_of x)) (a.as_range (set_of y)) (low_of x h) (low_of y i)) (λ kind. tt) z j

  -- ---- rows of a table

  is_in_rows : (cs : Cells) (rows : Option (List (List ℤ))) → AreFit sets cs → IsFit sets (s.is_in_rows cs rows)
  is_in_rows cs None h = e.no_truth_fit sets (a.has_trees cs)
  is_in_rows cs (Some rows) h =
      either_of (o.Condition (n.rowed rows (integers_of cs))) (o.Truth (list_any (is_row (number_meanings cs)) rows)) (a.has_trees cs) (t.rowed sets rows (integers_of cs) (e.integers_read sets cs h)) tt

  table : (x y : Operand) → IsFit sets x → IsFit sets (s.table x y)
  table x y h = of_array (IsFit sets) (λ cs. s.is_in_rows cs (s.table_rows (count_of cs) y)) a.false_of (λ cs i. is_in_rows cs (s.table_rows (count_of cs) y) i) false_of x h

  -- ---- of single values

  magnitude : (x : Operand) → IsFit sets x → IsFitIfAny sets (c.magnitude x)
  magnitude x h =
      either_if_any (r.integer (n.magnitude (integer_of x))) (known_number (image abs_at (number_of x))) (is_variable x)
      (p.integer sets (n.magnitude (integer_of x)) (t.magnitude sets (integer_of x) (e.integer_read sets x h))) (m.known sets (image abs_at (number_of x)))

  bool_to_int : (x : Operand) → IsFit sets x → IsFit sets (c.bool_to_int x)
  bool_to_int x h =
      either_of (o.Integer (n.bit (condition_of x))) (o.Number (Some (bit (truth_of x)))) (is_variable x) (t.bit sets (condition_of x) (e.condition_read sets x h)) (m.bit_within (truth_of x))

  on_point : (v : List ℤ) (x : Operand) → IsFit sets x → IsFit sets (c.on_point v x)
  on_point v (o.Number z) h = h
  on_point v (o.Truth d) h = tt
  on_point v (o.Set w) h = h
  on_point v (o.Text w) h = tt
  on_point v (o.Integer x) h = m.value_on v x.tree h.numeric (is_well_formed (points v) x.tree) refl
  on_point v (o.Condition x) h = tt
  on_point v (o.Array x) h = tt
  on_point v (o.NoArray kind) h = tt

  without_point : (x : Operand) → IsFit sets (c.without_point x)
  without_point (o.Number z) = tt
  without_point (o.Truth d) = tt
  without_point (o.Set w) = tt
  without_point (o.Text w) = tt
  without_point (o.Integer x) = tt
  without_point (o.Condition x) = tt
  without_point (o.Array x) = tt
  without_point (o.NoArray kind) = tt

  on_incumbent : (v : Option (List ℤ)) (x : Operand) → IsFit sets x → IsFit sets (c.on_incumbent v x)
  on_incumbent None x h = without_point x
  on_incumbent (Some v) x h = on_point v x h

  -- ---- all names

  first : (xs : List Operand) → AreAllFit sets xs → IsFit sets (c.first xs)
  first [] h = tt
  first (x ∷ xs) h = h.0

  second : (xs : List Operand) → AreAllFit sets xs → IsFit sets (c.second xs)
  second [] h = tt
  second (x ∷ xs) h = first xs h.1

  third : (xs : List Operand) → AreAllFit sets xs → IsFit sets (c.third xs)
  third [] h = tt
  third (x ∷ xs) h = second xs h.1

  pub call : (point : Option (List ℤ)) (word : ℕ) (name : BuiltIn) (xs : List Operand) → AreAllFit sets xs → IsFitIfAny sets (c.call point word name xs)
  unfolding c.call
  call point word b.ForAll xs h = all (c.first xs) (first xs h)
  call point word b.Exists xs h = some (c.first xs) (first xs h)
  call point word b.Sum xs h = sum (c.first xs) (first xs h)
  call point word b.Min xs h = extreme Least xs h
  call point word b.Max xs h = extreme Greatest xs h
  call point word b.Abs xs h = magnitude (c.first xs) (first xs h)
  call point word b.BoolToInt xs h = bool_to_int (c.first xs) (first xs h)
  call point word b.Count xs h = count (c.first xs) (c.second xs) (first xs h) (second xs h)
  call point word b.AllDifferent xs h = distinct (c.first xs) (first xs h)
  call point word b.Table xs h = table (c.first xs) (c.second xs) (first xs h)
  call point word b.Length xs h = length_of_array (c.first xs) (first xs h)
  call point word b.IndexSet xs h = index_set_by (λ x. a.line_set x.indices (count_of x.cells)) (λ x i. line_set x.indices (count_of x.cells) i.0) (c.first xs) (first xs h)
  call point word b.RowIndexSet xs h = index_set_by (λ x. a.row_set x.indices) (λ x i. row_set x.indices i.0) (c.first xs) (first xs h)
  call point word b.ColumnIndexSet xs h = index_set_by (λ x. a.column_set x.indices) (λ x i. column_set x.indices i.0) (c.first xs) (first xs h)
  call point word b.Card xs h = m.known sets (option_map (λ rs. pos (size_of rs)) (set_of (c.first xs)))
  call point word b.ArrayLine xs h = array_line (c.first xs) (c.second xs) (first xs h) (second xs h)
  call point word b.ArrayGrid xs h = array_grid (c.first xs) (c.second xs) (c.third xs) (first xs h) (second xs h) (third xs h)
  call point word b.Show xs h = tt
  call point word b.Fix xs h = first xs h
  call point word b.Sol xs h = on_incumbent point (c.first xs) (first xs h)
  call point word b.HasSol xs h = tt
  call point word b.Uniform xs h = m.drawn word (number_of (c.first xs)) (number_of (c.second xs)) (m.number_read sets (c.first xs) (first xs h)) (m.number_read sets (c.second xs) (second xs h))
  call point word b.Next xs h = tt
  call point word b.Post xs h = tt
  call point word b.Commit xs h = tt
  call point word b.Print xs h = tt
  call point word b.Scope xs h = tt
  call point word b.Repeat xs h = tt
  call point word b.Break xs h = tt
  call point word b.Fail xs h = tt
  call point word b.Skip xs h = tt
  call point word b.TimeLimit xs h = tt
  call point word b.Keep xs h = tt
  call point word b.ClearFront xs h = tt
  call point word b.PrintFront xs h = tt
