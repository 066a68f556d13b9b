-- What stands for the names of a model while its instance is made.
use Rattle.std.specs.Prelude.{ℕ, ◌+◌, List, [], ◌∷◌, ◌++◌, replicate, slice_get, Bool, true, false, Option, Some, None, option_map, if◌then◌else◌}
use Rattle.ms_syntax.specs.declared.token.Place.{Place}
use Rattle.ms_num.specs.Span.{Span}
use Rattle.ms_typing.specs.Conversion.{known_of}
use Rattle.ms_code.specs.declared.code.Reference.{Reference}
use Rattle.ms_code.specs.declared.code.Reference.TheVariants as r
use Rattle.ms_types.specs.declared.typed.Typed.{Typed}
use Rattle.ms_values.specs.declared.operand.Operand.{Operand}
use Rattle.ms_rules.specs.Calls.{nothing}
use Rattle.ms_walk.specs.Around.{Around}
use Rattle.ms_instance.specs.Names.{body_of, value_or_nothing}
use Rattle.ms_instance.specs.Views.{read_in}
use Rattle.ms_declared.specs.Variables.{Declared, set_of_kind, variables_in, variables_of}

-- ---- the names around an expression, by the values of the declared ones; there is no incumbent

abbrev pub value_among : List Operand → Reference → Operand
value_among values (r.Local k) = nothing
value_among values (r.Model k) = value_or_nothing (slice_get values k)
value_among values (r.Library k) = nothing
value_among values (r.BuiltIn b) = nothing

abbrev pub around : Typed → List Operand → Around
around typed values = record { value = value_among values; body = read_in body_of typed; point = None }

-- ---- what a declaration stands for

abbrev pub is_known : Declared → Bool
is_known d = known_of d.kind

-- how many variables it has
abbrev pub variables_by : Declared → ℕ
variables_by d = variables_in d.kind d.sides

abbrev pub set_by : Declared → List Span
set_by d = set_of_kind d.kind d.within

abbrev pub known_value : Option (Place × Operand) → Operand
known_value None = nothing
known_value (Some x) = x.1

-- its value, or its variables from this number on
abbrev pub operand_by : Declared → ℕ → Operand
operand_by d first = if is_known d then known_value d.value else variables_of d.kind d.sides (set_by d) first

-- ---- all declarations, in their order, and the first variable's number; functions stand for nothing

abbrev pub values_from : ℕ → List (Option Declared) → List Operand
values_from first [] = []
values_from first (None ∷ ds) = nothing ∷ values_from first ds
values_from first (Some d ∷ ds) = operand_by d first ∷ values_from (first + variables_by d) ds

abbrev pub sets_by : Declared → List (List Span)
sets_by d = replicate (variables_by d) (set_by d)

abbrev pub sets_from : List (Option Declared) → List (List Span)
sets_from [] = []
sets_from (None ∷ ds) = sets_from ds
sets_from (Some d ∷ ds) = sets_by d ++ sets_from ds
