use Rattle.std.proofs.Common.{◌≡◌, length}
use Rattle.ms_nodes.specs.Nodes.{through_xor}
use Rattle.ms_nodes.proofs.chains.through_xor.Given as goal

abbrev pub invariant-loop-last : goal.invariant-loop-last
invariant-loop-last l = through_xor l.operands ≡ through_xor l.rest

abbrev pub decreases-loop-last : goal.decreases-loop-last
decreases-loop-last l = length l.rest
