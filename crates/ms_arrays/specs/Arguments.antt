-- Operands as arrays.
use Rattle.std.specs.Prelude.{ℤ, List, [], Option, Result, Ok, Err}
use Rattle.ms_values.specs.declared.operand.Kind.{Kind}
use Rattle.ms_values.specs.declared.operand.Kind.TheVariants as k
use Rattle.ms_values.specs.declared.operand.Cells.{Cells}
use Rattle.ms_values.specs.declared.operand.Cells.TheVariants as c
use Rattle.ms_values.specs.declared.operand.Array.{Array}
use Rattle.ms_values.specs.declared.operand.Operand.{Operand}
use Rattle.ms_values.specs.declared.operand.Operand.TheVariants as o

-- the array, or the kind of one that is undefined. What is no array counts as an undefined one
abbrev pub array_of : Operand → Result Array Kind
array_of (o.Number m) = Err k.Number
array_of (o.Truth b) = Err k.Number
array_of (o.Set s) = Err k.Number
array_of (o.Text t) = Err k.Number
array_of (o.Integer x) = Err k.Number
array_of (o.Condition x) = Err k.Number
array_of (o.Array a) = Ok a
array_of (o.NoArray kind) = Err kind

-- the elements that stand there as numbers
abbrev pub numbers_in : Cells → List (Option ℤ)
numbers_in (c.Numbers ns) = ns
numbers_in (c.Truths bs) = []
numbers_in (c.Texts ts) = []
numbers_in (c.Integers xs) = []
numbers_in (c.Conditions xs) = []
