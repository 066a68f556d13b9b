use Rattle.std.proofs.Common.{◌≡◌, ◌≤◌, ◌+◌, ◌*◌, ◌^◌, ◌++◌, drop, take, map, length, pos, ◌+ℤ◌, ◌≤ℤ◌, Some, false, get_or}
use Rattle.ms_prim.specs.Constraints.{part_trees}
use Rattle.ms_prim.specs.Naming.{joined, variables}
use Rattle.ms_prim.proofs.naming.push_parts.Given as goal

abbrev pub invariant-loop-part : goal.invariant-loop-part
invariant-loop-part l = l.list.items ++ joined (map variables (part_trees (drop l.part-index l.parts))) ≡ l.fn.list.items ++ joined (map variables (part_trees l.parts))
