use Rattle.std.proofs.Common.{◌≡◌, ◌≤◌, ◌+◌, ◌*◌, ◌^◌, ◌++◌, drop, take, map, length, pos, ◌+ℤ◌, ◌≤ℤ◌, Some, false, get_or}
use Rattle.ms_prim.specs.Naming.{joined, variables}
use Rattle.ms_prim.proofs.naming.+naming.Given as goal

abbrev pub invariant-push_all-loop-part : goal.invariant-push_all-loop-part
invariant-push_all-loop-part l = l.list.items ++ joined (map variables (drop l.part-index l.parts)) ≡ l.fn.list.items ++ joined (map variables l.parts)
