use Rattle.std.proofs.Common.{◌≡◌, ◌≤◌, ◌+◌, ◌*◌, ◌^◌, ◌++◌, drop, take, map, length, pos, ◌+ℤ◌, ◌≤ℤ◌, Some, false, get_or}
use Rattle.ms_prim.specs.Constraints.{lit_tree}
use Rattle.ms_prim.specs.Naming.{joined, variables}
use Rattle.ms_prim.proofs.naming.push_lits.Given as goal

abbrev pub invariant-loop-lit : goal.invariant-loop-lit
invariant-loop-lit l = l.list.items ++ joined (map variables (map lit_tree (drop l.lit-index l.lits))) ≡ l.fn.list.items ++ joined (map variables (map lit_tree l.lits))
