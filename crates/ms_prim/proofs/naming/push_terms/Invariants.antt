use Rattle.std.proofs.Common.{◌≡◌, ◌≤◌, ◌+◌, ◌*◌, ◌^◌, ◌++◌, drop, take, map, length, pos, ◌+ℤ◌, ◌≤ℤ◌, Some, false, get_or}
use Rattle.ms_prim.specs.Constraints.{term_trees}
use Rattle.ms_prim.specs.Naming.{joined, variables}
use Rattle.ms_prim.proofs.naming.push_terms.Given as goal

abbrev pub invariant-loop-term : goal.invariant-loop-term
invariant-loop-term l = l.list.items ++ joined (map variables (term_trees (drop l.term-index l.terms))) ≡ l.fn.list.items ++ joined (map variables (term_trees l.terms))
