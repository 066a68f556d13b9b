use Rattle.std.proofs.Common.{◌≡◌, ◌++◌, drop}
use Rattle.ms_nodes.specs.Parts.{set_kinds}
use Rattle.ms_nodes.proofs.parts.set_kinds.Given as goal

abbrev pub invariant-loop-next : goal.invariant-loop-next
invariant-loop-next l = set_kinds l.sets ≡ l.types.items ++ set_kinds (drop l.next-index l.sets)
