-- What the code's values stand for.
use Rattle.std.specs.Option.{option_copied}
use Rattle.ms_declared.specs.Values.{Given}
use Rattle.ms_declared.specs.Variables.{Declared}
use Rattle.ms_declared.specs.declared.given.Given as code_given
use Rattle.ms_declared.specs.declared.declaration.Declared as code_declared

abbrev pub given_of : code_given.Given → Given
given_of g = record { file = g.file; code = option_copied g.code }

abbrev pub declared_of : code_declared.Declared → Declared
declared_of d = record { kind = d.kind; sides = d.sides.items; within = d.within; value = d.value }
