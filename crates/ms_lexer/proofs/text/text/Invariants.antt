use Rattle.std.proofs.Common.{◌≡◌, ◌+◌, [], length, false}
use Rattle.ms_syntax.specs.Form.{text}
use Rattle.ms_lexer.proofs.text.text.Given as goal

abbrev pub invariant-loop-rest : goal.invariant-loop-rest
invariant-loop-rest l = (text false 1 [] l.bytes ≡ text false l.len l.value.items l.rest) × (l.len + length l.rest ≡ 1 + length l.bytes)

abbrev pub decreases-loop-rest : goal.decreases-loop-rest
decreases-loop-rest l = length l.rest
