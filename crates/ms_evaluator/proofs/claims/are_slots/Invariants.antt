use Rattle.std.proofs.Common.{ℕ, ◌<◌}
use Rattle.ms_evaluator.specs.Claims.{IsSlot}
use Rattle.ms_evaluator.proofs.claims.are_slots.Given as goal

abbrev pub invariant-loop-k : goal.invariant-loop-k
invariant-loop-k l = (j : ℕ) → j < l.k → IsSlot l.parts l.slots j
