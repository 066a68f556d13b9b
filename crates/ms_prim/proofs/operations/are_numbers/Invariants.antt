use Rattle.std.proofs.Common.{◌≡◌, ◌≤◌, ◌+◌, ◌*◌, ◌^◌, ◌++◌, drop, take, map, length, pos, ◌+ℤ◌, ◌≤ℤ◌, Some, false, get_or}
use Rattle.ms_trees.specs.Value.{is_row}
use Rattle.ms_prim.specs.Results.{all_meant}
use Rattle.ms_prim.proofs.operations.are_numbers.Given as goal

abbrev pub invariant-loop-place : goal.invariant-loop-place
invariant-loop-place l = is_row (all_meant l.point (drop l.place l.parts)) (drop l.place l.row) ≡ is_row (all_meant l.point l.parts) l.row
