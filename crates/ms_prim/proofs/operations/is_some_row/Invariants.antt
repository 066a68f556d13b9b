use Rattle.std.proofs.Common.{◌≡◌, ◌≤◌, ◌+◌, ◌*◌, ◌^◌, ◌++◌, drop, take, map, length, pos, ◌+ℤ◌, ◌≤ℤ◌, Some, false, get_or}
use Rattle.std.specs.List.{list_any}
use Rattle.ms_trees.specs.Value.{is_row}
use Rattle.ms_prim.specs.Results.{all_meant}
use Rattle.ms_prim.proofs.operations.is_some_row.Given as goal

abbrev pub invariant-loop-row : goal.invariant-loop-row
invariant-loop-row l = list_any (is_row (all_meant l.point l.parts)) (take l.row-index l.rows) ≡ false
