use Rattle.std.proofs.Common.{◌≡◌, ◌≤◌, ◌+◌, ◌*◌, ◌^◌, ◌++◌, drop, take, map, length, pos, ◌+ℤ◌, ◌≤ℤ◌, Some, false, get_or}
use Rattle.ms_trees.specs.Value.{are_distinct}
use Rattle.ms_prim.specs.Results.{all_meant}
use Rattle.ms_prim.proofs.operations.all_differ.Given as goal

abbrev pub invariant-loop-place : goal.invariant-loop-place
invariant-loop-place l = are_distinct (all_meant l.point (drop l.place l.parts)) ≡ are_distinct (all_meant l.point l.parts)
