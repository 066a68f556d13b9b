-- The arguments of a built-in name, of a list whose first is the last of them.
use Rattle.std.specs.Prelude.{ℤ, List, [], ◌∷◌, Option, Some, None}
use Rattle.ms_values.specs.declared.operand.Operand.{Operand}
use Rattle.ms_rules.specs.Operands.{number_of}

-- the first, when this one has been seen before
abbrev pub first_from : List Operand → Operand → Operand
first_from [] x = x
first_from (y ∷ ys) x = first_from ys y

-- the first two
abbrev pub two_from : List Operand → Operand × Operand → Operand × Operand
two_from [] p = p
two_from (y ∷ ys) p = two_from ys (y, p.0)

-- the first three
abbrev pub three_from : List Operand → Operand × (Operand × Operand) → Operand × (Operand × Operand)
three_from [] p = p
three_from (y ∷ ys) p = three_from ys (y, (p.0, p.1.0))

-- the number of an argument, if there is one
abbrev pub number_of_maybe : Option Operand → Option ℤ
number_of_maybe (Some x) = number_of x
number_of_maybe None = None
