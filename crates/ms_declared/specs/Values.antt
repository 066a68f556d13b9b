-- The value of a declaration: placed, defined, with the declared index sets, and within the declared set.
use Rattle.std.specs.Prelude.{ℕ, ℤ, int_le, Bool, true, false, ◌&&◌, List, Option, Some, None, if◌then◌else◌}
use Rattle.std.specs.List.{list_all, list_any}
use Rattle.ms_syntax.specs.declared.token.Place.{Place}
use Rattle.ms_num.specs.Span.{Span}
use Rattle.ms_num.specs.Ranges.{is_member}
use Rattle.ms_code.specs.declared.code.Code.{Code}
use Rattle.ms_values.specs.declared.operand.Cells.{Cells}
use Rattle.ms_values.specs.declared.operand.Cells.TheVariants as c
use Rattle.ms_values.specs.declared.operand.Operand.{Operand}
use Rattle.ms_values.specs.declared.operand.Operand.TheVariants as o
use Rattle.ms_walk.specs.Around.{Around}
use Rattle.ms_declared.specs.Made.{Made, and_then, made, faulty}
use Rattle.ms_declared.specs.Placing.{placed_in}
use Rattle.ms_declared.specs.Indexed.{Side, fitted, placed_set}
use Rattle.ms_declared.specs.declared.fault.ValueFault.TheVariants as v

-- ---- the declared set

abbrev pub within_of : Around → ℕ → Option Code → Made (Option (List Span))
within_of a file None = made None
within_of a file (Some e) = and_then (placed_set a file e) (λ rs. made (Some rs))

-- ---- a value that is given: its file, and its typed tree brought to the declared type, which data of another type have not

pub record Given : Type 0 where
  pub file : ℕ
  pub code : Option Code

abbrev pub typed_value : Around → Given → Made (Place × Operand)
typed_value a g = of_code g.code
  where
    of_code : Option Code → Made (Place × Operand)
    of_code None = faulty (v.Shape g.file)
    of_code (Some e) = placed_in a e

-- a known value, or an array, that is undefined
abbrev pub is_undefined : Operand → Bool
is_undefined (o.Number None) = true
is_undefined (o.Number (Some z)) = false
is_undefined (o.Truth b) = false
is_undefined (o.Set None) = true
is_undefined (o.Set (Some rs)) = false
is_undefined (o.Text None) = true
is_undefined (o.Text (Some t)) = false
is_undefined (o.Integer x) = false
is_undefined (o.Condition x) = false
is_undefined (o.Array a) = false
is_undefined (o.NoArray kind) = true

abbrev pub defined : ℕ → Operand → Made Operand
defined file x = if is_undefined x then faulty (v.NoValue file) else made x

-- ---- known values within the declared set

-- a number without a value lies in each set
abbrev pub is_number_in : List Span → Option ℤ → Bool
is_number_in rs None = true
is_number_in rs (Some z) = is_member rs z

-- one range has all numbers of the other
abbrev pub covers : Span → Span → Bool
covers s t = int_le t.lo s.lo && int_le s.hi t.hi

abbrev pub is_covered : List Span → Span → Bool
is_covered rs s = list_any (covers s) rs

abbrev pub is_subset : List Span → List Span → Bool
is_subset rs ss = list_all (is_covered rs) ss

abbrev pub is_set_in : List Span → Option (List Span) → Bool
is_set_in rs None = true
is_set_in rs (Some ss) = is_subset rs ss

abbrev pub are_cells_in : List Span → Cells → Bool
are_cells_in rs (c.Numbers ns) = list_all (is_number_in rs) ns
are_cells_in rs (c.Truths bs) = true
are_cells_in rs (c.Texts ts) = true
are_cells_in rs (c.Integers xs) = true
are_cells_in rs (c.Conditions xs) = true

-- trees lie in each set: of a variable, the constraint that it equals its value says the rest
abbrev pub is_in_set : List Span → Operand → Bool
is_in_set rs (o.Number m) = is_number_in rs m
is_in_set rs (o.Truth b) = true
is_in_set rs (o.Set s) = is_set_in rs s
is_in_set rs (o.Text t) = true
is_in_set rs (o.Integer x) = true
is_in_set rs (o.Condition x) = true
is_in_set rs (o.Array a) = are_cells_in rs a.cells
is_in_set rs (o.NoArray kind) = true

abbrev pub is_allowed : Option (List Span) → Operand → Bool
is_allowed None x = true
is_allowed (Some rs) x = is_in_set rs x

abbrev pub allowed : ℕ → Option (List Span) → Operand → Made Operand
allowed file within x = if is_allowed within x then made x else faulty (v.Shape file)

-- ---- all of it, with the place of its node

abbrev pub settled : ℕ → List Side → Option (List Span) → Operand → Made Operand
settled file ss within x = and_then (defined file x) (λ y. and_then (fitted file ss y) (λ z. allowed file within z))

abbrev pub value_of : Around → List Side → Option (List Span) → Given → Made (Place × Operand)
value_of a ss within g = and_then (typed_value a g) (λ x. and_then (settled g.file ss within x.1) (λ y. made (x.0, y)))

abbrev pub value_given : Around → List Side → Option (List Span) → Option Given → Made (Option (Place × Operand))
value_given a ss within None = made None
value_given a ss within (Some g) = and_then (value_of a ss within g) (λ x. made (Some x))
