use Rattle.std.proofs.Common.{◌≡◌, ◌++◌, drop}
use Rattle.ms_nodes.specs.Parts.{operand_kinds}
use Rattle.ms_nodes.proofs.parts.operand_kinds.Given as goal

abbrev pub invariant-loop-next : goal.invariant-loop-next
invariant-loop-next l = operand_kinds l.operands ≡ l.types.items ++ operand_kinds (drop l.next-index l.operands)
