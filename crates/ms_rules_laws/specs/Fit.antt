-- Which operands may be asked on the declared sets: each tree in them is well formed there and of the sort of its kind, and
-- what stands beside it is its own; each known number is within the limits.
use Rattle.std.specs.Prelude.{◌≡◌, ℤ, true, false, List, Option, Some, None}
use Rattle.std.specs.List.{AllByRecursion}
use Rattle.ms_num.specs.Span.{Span, IsInterval, IsWithin}
use Rattle.ms_trees.specs.WellFormed.{is_numeric, is_well_formed}
use Rattle.ms_tree_nodes.specs.Kept.{IsKept}
use Rattle.ms_values.specs.declared.operand.Placed.{Placed}
use Rattle.ms_values.specs.declared.operand.Cells.{Cells}
use Rattle.ms_values.specs.declared.operand.Cells.TheVariants as c
use Rattle.ms_values.specs.declared.operand.Indices.{Indices}
use Rattle.ms_values.specs.declared.operand.Indices.TheVariants as i
use Rattle.ms_values.specs.declared.operand.Operand.{Operand}
use Rattle.ms_values.specs.declared.operand.Operand.TheVariants as o

-- an integer tree that may be asked
pub record IsInteger (sets : List Span) (x : Placed) : Type 0 where
  pub well_formed : is_well_formed sets x.tree ≡ true
  pub numeric : is_numeric x.tree ≡ true
  pub kept : IsKept sets x

-- a Boolean tree that may be asked
pub record IsCondition (sets : List Span) (x : Placed) : Type 0 where
  pub well_formed : is_well_formed sets x.tree ≡ true
  pub boolean : is_numeric x.tree ≡ false
  pub kept : IsKept sets x

-- ---- known values

abbrev pub IsWithinIfAny : Option ℤ → Type 0
IsWithinIfAny None = Unit {0}
IsWithinIfAny (Some z) = IsWithin z

-- the ranges of a set
abbrev pub AreIntervals : List Span → Type 0
AreIntervals rs = AllByRecursion IsInterval rs

abbrev pub AreIntervalsIfAny : Option (List Span) → Type 0
AreIntervalsIfAny None = Unit {0}
AreIntervalsIfAny (Some rs) = AreIntervals rs

-- ---- operands

abbrev pub AreFit : List Span → Cells → Type 0
AreFit sets (c.Numbers ns) = AllByRecursion IsWithinIfAny ns
AreFit sets (c.Truths bs) = Unit {0}
AreFit sets (c.Texts ts) = Unit {0}
AreFit sets (c.Integers xs) = AllByRecursion (IsInteger sets) xs
AreFit sets (c.Conditions xs) = AllByRecursion (IsCondition sets) xs

-- the lowest indices are within the limits
abbrev pub AreFitIndices : Indices → Type 0
AreFitIndices (i.Line low) = IsWithin low
AreFitIndices (i.Grid rows columns) = IsWithin rows.low × IsWithin columns.low

abbrev pub IsFit : List Span → Operand → Type 0
IsFit sets (o.Number m) = IsWithinIfAny m
IsFit sets (o.Truth b) = Unit {0}
IsFit sets (o.Set s) = AreIntervalsIfAny s
IsFit sets (o.Text t) = Unit {0}
IsFit sets (o.Integer x) = IsInteger sets x
IsFit sets (o.Condition x) = IsCondition sets x
IsFit sets (o.Array a) = AreFitIndices a.indices × AreFit sets a.cells
IsFit sets (o.NoArray kind) = Unit {0}

abbrev pub IsFitIfAny : List Span → Option Operand → Type 0
IsFitIfAny sets None = Unit {0}
IsFitIfAny sets (Some x) = IsFit sets x

abbrev pub AreAllFit : List Span → List Operand → Type 0
AreAllFit sets xs = AllByRecursion (IsFit sets) xs
