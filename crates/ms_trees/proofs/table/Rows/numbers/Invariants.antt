use Rattle.std.proofs.Common.{◌≡◌, ◌-◌, ◌^◌, min, sum_by, length, take}
use Rattle.ms_trees.proofs.table.Rows.numbers.Given as goal

abbrev pub invariant-loop-row : goal.invariant-loop-row
invariant-loop-row l = l.total ≡ min (sum_by length (take l.row-index l.row-items)) (2 ^ 64 - 1)
