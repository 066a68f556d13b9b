-- What a declaration comes to: its index sets, the set that its values come from, and its value.
use Rattle.std.specs.Prelude.{ℕ, zero, suc, ◌+◌, nat_le, pos, negsuc, List, [], ◌∷◌, map, Option, Some, None, if◌then◌else◌}
use Rattle.ms_base.specs.declared.run.Count.TheVariants as count
use Rattle.ms_base.specs.declared.limits.TheConstants.{VARIABLE_LIMIT}
use Rattle.ms_syntax.specs.declared.token.Place.{Place}
use Rattle.ms_num.specs.Span.{Span}
use Rattle.ms_num.specs.Sets.{declared_span, set_of}
use Rattle.ms_typing.specs.declared.types.ExprType.{ExprType}
use Rattle.ms_typing.specs.declared.types.ExprType.TheVariants.{Plain, Text, Set, Search}
use Rattle.ms_typing.specs.declared.types.Scalar.{Scalar}
use Rattle.ms_typing.specs.declared.types.Scalar.TheVariants.{Truth, Number, Empty}
use Rattle.ms_typing.specs.Conversion.{known_of}
use Rattle.ms_code.specs.declared.item.Declaration.{Declaration}
use Rattle.ms_tree_nodes.specs.Nodes.{variable, bit_variable}
use Rattle.ms_values.specs.declared.operand.Placed.{Placed}
use Rattle.ms_values.specs.declared.operand.Cells.{Cells}
use Rattle.ms_values.specs.declared.operand.Cells.TheVariants as c
use Rattle.ms_values.specs.declared.operand.Indices.{Indices}
use Rattle.ms_values.specs.declared.operand.Indices.TheVariants as i
use Rattle.ms_values.specs.declared.operand.Operand.{Operand}
use Rattle.ms_values.specs.declared.operand.Operand.TheVariants as o
use Rattle.ms_walk.specs.Around.{Around}
use Rattle.ms_declared.specs.Made.{Made, and_then, made, faulty}
use Rattle.ms_declared.specs.Indexed.{Side, arranged, elements_in, sides_of}
use Rattle.ms_declared.specs.Values.{Given, value_given, within_of}
use Rattle.ms_declared.specs.declared.fault.ValueFault.TheVariants as v

pub record Declared : Type 0 where
  pub kind : ExprType
  pub sides : List Side
  pub within : Option (List Span)
  -- none where none is given
  pub value : Option (Place × Operand)

-- ---- variables

-- how many variables a declaration has
abbrev pub variables_in : ExprType → List Side → ℕ
variables_in kind ss = if known_of kind then 0 else elements_in ss

-- there are so many already, and these are not too many
abbrev pub roomy : ℕ → Place → ℕ → Made (Unit {0})
roomy taken p n = if nat_le (taken + n) VARIABLE_LIMIT then made tt else faulty (v.Big count.Variables p)

-- Booleans are 0 or 1
abbrev pub truth_set : List Span
truth_set = record { lo = pos 0; hi = pos 1 } ∷ []

-- an integer without a declared set
abbrev pub default_set : List Span
default_set = record { lo = negsuc 9999999; hi = pos 10000000 } ∷ []

abbrev pub or_default : Option (List Span) → List Span
or_default None = default_set
or_default (Some rs) = rs

abbrev pub scalar_set : Scalar → Option (List Span) → List Span
scalar_set Truth within = truth_set
scalar_set Number within = or_default within
scalar_set Empty within = or_default within

-- the set of each variable of such a declaration
abbrev pub set_of_kind : ExprType → Option (List Span) → List Span
set_of_kind (Plain scalar shape known) within = scalar_set scalar within
set_of_kind (Text shape) within = or_default within
set_of_kind Set within = or_default within
set_of_kind Search within = or_default within

-- so many variables, from a number on
abbrev pub numbers_from : ℕ → ℕ → List ℕ
numbers_from first zero = []
numbers_from first (suc n) = first ∷ numbers_from (suc first) n

abbrev pub integers_from : Span → ℕ → ℕ → List Placed
integers_from s first n = map (λ v. variable v s) (numbers_from first n)

abbrev pub conditions_from : Span → ℕ → ℕ → List Placed
conditions_from s first n = map (λ v. bit_variable v s) (numbers_from first n)

abbrev pub cells_from : Scalar → Span → ℕ → ℕ → Cells
cells_from Truth s first n = c.Conditions (conditions_from s first n)
cells_from Number s first n = c.Integers (integers_from s first n)
cells_from Empty s first n = c.Integers (integers_from s first n)

abbrev pub variable_of : Scalar → Span → ℕ → Operand
variable_of Truth s first = o.Condition (bit_variable first s)
variable_of Number s first = o.Integer (variable first s)
variable_of Empty s first = o.Integer (variable first s)

-- index sets are given for variables
abbrev pub indices_from : List Side → Indices
indices_from (Some r ∷ []) = i.Line r.low
indices_from (Some r ∷ Some q ∷ []) = i.Grid r q
indices_from other = i.Line (pos 1)

abbrev pub array_from : Scalar → Span → List Side → ℕ → Operand
array_from scalar s ss first = arranged (indices_from ss) (cells_from scalar s first (elements_in ss))

-- one variable, or an array of them, row by row, from this number on
abbrev pub variables_at : Scalar → Span → List Side → ℕ → Operand
variables_at scalar s [] first = variable_of scalar s first
variables_at scalar s (r ∷ ss) first = array_from scalar s (r ∷ ss) first

abbrev pub scalar_of : ExprType → Scalar
scalar_of (Plain scalar shape known) = scalar
scalar_of (Text shape) = Number
scalar_of Set = Number
scalar_of Search = Number

abbrev pub variables_of : ExprType → List Side → List Span → ℕ → Operand
variables_of kind ss rs first = variables_at (scalar_of kind) (declared_span (set_of rs)) ss first

-- ---- declarations: where so many variables stand already, with the names of the model around them

unfoldable pub declared : Around → ℕ → Declaration → Option Given → Made Declared
declared a taken d g =
    and_then (sides_of a d.place.file d.indices) (λ ss.
    and_then (within_of a d.place.file d.within) (λ within.
    and_then (roomy taken d.place (variables_in d.kind ss)) (λ u.
    and_then (value_given a ss within g) (λ x.
    made (record { kind = d.kind; sides = ss; within = within; value = x })))))
