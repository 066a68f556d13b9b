-- The values that callers outside are given, and those that they hand in.
use Rattle.std.specs.Prelude.{ℕ, ℤ, Bool, true, false, List, [], length, map, Option, Some, None, option_map, if◌then◌else◌}
use Rattle.ms_num.specs.Span.{Span}
use Rattle.ms_trees.specs.Value.{value}
use Rattle.ms_trees.specs.WellFormed.{is_numeric}
use Rattle.ms_trees.specs.declared.tree.Ground.{Ground}
use Rattle.ms_trees.specs.declared.tree.Ground.TheVariants as g
use Rattle.ms_typing.specs.declared.types.ExprType.{ExprType}
use Rattle.ms_tree_nodes.specs.Kept.{kept_of}
use Rattle.ms_tree_nodes.specs.Nodes.{tree_of}
use Rattle.ms_values.specs.declared.operand.Placed.{Placed}
use Rattle.ms_values.specs.declared.operand.Kind.{Kind}
use Rattle.ms_values.specs.declared.operand.Kind.TheVariants as k
use Rattle.ms_values.specs.declared.operand.Cells.{Cells}
use Rattle.ms_values.specs.declared.operand.Cells.TheVariants as c
use Rattle.ms_values.specs.declared.operand.IndexRange.{IndexRange}
use Rattle.ms_values.specs.declared.operand.Indices.{Indices}
use Rattle.ms_values.specs.declared.operand.Indices.TheVariants as i
use Rattle.ms_values.specs.declared.operand.Operand.{Operand}
use Rattle.ms_values.specs.declared.operand.Operand.TheVariants as o
use Rattle.ms_values.specs.declared.value.Iv1.{Iv1}
use Rattle.ms_values.specs.declared.value.Value.{Value}
use Rattle.ms_values.specs.declared.value.Value.TheVariants as v
use Rattle.ms_rules.specs.Operands.{number_of, truth_of, integer_of, condition_of}
use Rattle.ms_rules.specs.Conversions.{convert, kind_of_type}

-- ---- given to callers: none where there is no value

abbrev pub number_tree : Option ℤ → Ground
number_tree (Some z) = g.Num z
number_tree None = g.Undef

abbrev pub truth_tree : Bool → Ground
truth_tree true = g.True
truth_tree false = g.False

abbrev pub range_given : ℤ → ℕ → Iv1
range_given low count = record { lo = low; len = count }

abbrev pub side_given : IndexRange → Iv1
side_given r = range_given r.low r.count

-- known elements are leaves
abbrev pub line_given : ℤ → Cells → Value
line_given low (c.Numbers ns) = v.Trees1 (range_given low (length ns)) (map number_tree ns)
line_given low (c.Truths bs) = v.Trees1 (range_given low (length bs)) (map truth_tree bs)
line_given low (c.Texts ts) = v.Texts1 (range_given low (length ts)) ts
line_given low (c.Integers xs) = v.Trees1 (range_given low (length xs)) (map tree_of xs)
line_given low (c.Conditions xs) = v.Trees1 (range_given low (length xs)) (map tree_of xs)

abbrev pub grid_given : Iv1 → Iv1 → Cells → Value
grid_given rows columns (c.Numbers ns) = v.Trees2 rows columns (map number_tree ns)
grid_given rows columns (c.Truths bs) = v.Trees2 rows columns (map truth_tree bs)
grid_given rows columns (c.Texts ts) = v.Texts2 rows columns ts
grid_given rows columns (c.Integers xs) = v.Trees2 rows columns (map tree_of xs)
grid_given rows columns (c.Conditions xs) = v.Trees2 rows columns (map tree_of xs)

abbrev pub array_given : Indices → Cells → Value
array_given (i.Line low) cs = line_given low cs
array_given (i.Grid rows columns) cs = grid_given (side_given rows) (side_given columns) cs

-- an undefined part of a tree is a leaf, and an undefined known Boolean is false
abbrev pub given : Operand → Option Value
given (o.Number m) = option_map v.Number m
given (o.Truth b) = Some (v.Truth b)
given (o.Set s) = option_map v.Set s
given (o.Text t) = option_map v.Text t
given (o.Integer x) = Some (v.Tree x.tree)
given (o.Condition x) = Some (v.Tree x.tree)
given (o.Array a) = Some (array_given a.indices a.cells)
given (o.NoArray kind) = None

-- ---- handed in by callers, over the intervals of the declared sets, and brought to a type

-- a known element is a leaf, which has its value on any assignment
abbrev pub leaf_in : Ground → Operand
leaf_in t = if is_numeric t then o.Number (value [] t).number else o.Truth (value [] t).truth

abbrev pub tree_in : List Span → Ground → Operand
tree_in sets t = if is_numeric t then o.Integer (kept_of sets t) else o.Condition (kept_of sets t)

-- elements, read as those of a kind
abbrev pub trees_in : List Span → Kind → List Ground → Cells
trees_in sets k.Number ts = c.Numbers (map (λ t. number_of (leaf_in t)) ts)
trees_in sets k.Truth ts = c.Truths (map (λ t. truth_of (leaf_in t)) ts)
trees_in sets k.Text ts = c.Texts []
trees_in sets k.Integer ts = c.Integers (map (λ t. integer_of (tree_in sets t)) ts)
trees_in sets k.Condition ts = c.Conditions (map (λ t. condition_of (tree_in sets t)) ts)

abbrev pub line_in : Iv1 → Cells → Operand
line_in r cs = o.Array (record { indices = i.Line r.lo; cells = cs })

abbrev pub side_in : Iv1 → IndexRange
side_in r = record { low = r.lo; count = r.len }

abbrev pub grid_in : Iv1 → Iv1 → Cells → Operand
grid_in rows columns cs = o.Array (record { indices = i.Grid (side_in rows) (side_in columns); cells = cs })

abbrev pub handed_in : List Span → Kind → Value → Operand
handed_in sets kind (v.Number n) = o.Number (Some n)
handed_in sets kind (v.Truth b) = o.Truth b
handed_in sets kind (v.Set rs) = o.Set (Some rs)
handed_in sets kind (v.Text t) = o.Text (Some t)
handed_in sets kind (v.Tree t) = tree_in sets t
handed_in sets kind (v.Trees1 r ts) = line_in r (trees_in sets kind ts)
handed_in sets kind (v.Trees2 rows columns ts) = grid_in rows columns (trees_in sets kind ts)
handed_in sets kind (v.Texts1 r ts) = line_in r (c.Texts ts)
handed_in sets kind (v.Texts2 rows columns ts) = grid_in rows columns (c.Texts ts)

-- a known value stands for a variable one where the type asks for it
abbrev pub entered : List Span → ExprType → Value → Operand
entered sets t x = convert t (handed_in sets (kind_of_type t) x)
