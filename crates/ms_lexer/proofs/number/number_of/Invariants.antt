use Rattle.std.proofs.Common.{◌≡◌, take, min}
use Rattle.ms_syntax.specs.Form.{number_of}
use Rattle.ms_lexer.proofs.number.number_of.Given as goal

abbrev pub invariant-loop-d : goal.invariant-loop-d
invariant-loop-d l = l.value ≡ min (number_of (take l.d-index l.digits)) 18446744073709551615
