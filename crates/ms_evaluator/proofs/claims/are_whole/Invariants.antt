use Rattle.std.proofs.Common.{ℕ, ◌<◌}
use Rattle.ms_evaluator.specs.Claims.{IsWhole}
use Rattle.ms_evaluator.proofs.claims.are_whole.Given as goal

abbrev pub invariant-loop-k : goal.invariant-loop-k
invariant-loop-k l = (j : ℕ) → j < l.k → IsWhole l.parts l.slots j
