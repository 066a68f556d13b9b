use Rattle.std.proofs.Common.{◌≡◌, ◌+◌, length}
use Rattle.ms_syntax.specs.Form.{comment}
use Rattle.ms_lexer.proofs.text.comment.Given as goal

abbrev pub invariant-loop-rest : goal.invariant-loop-rest
invariant-loop-rest l = (comment 2 l.bytes ≡ comment l.len l.rest) × (l.len + length l.rest ≡ 2 + length l.bytes)

abbrev pub decreases-loop-rest : goal.decreases-loop-rest
decreases-loop-rest l = length l.rest
