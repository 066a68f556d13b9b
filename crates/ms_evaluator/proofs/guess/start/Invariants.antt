use Rattle.std.proofs.Common.{◌≡◌, length}
use Rattle.ms_evaluator.proofs.guess.start.Given as goal

abbrev pub invariant-loop-k : goal.invariant-loop-k
invariant-loop-k l = length l.slots.items ≡ l.k
