use Rattle.std.proofs.Common.{◌≡◌, map, drop}
use Rattle.ms_trees.specs.Value.{numeric_meaning, is_row}
use Rattle.ms_arrays.proofs.tables.is_row.Given as goal

abbrev pub invariant-loop-place : goal.invariant-loop-place
invariant-loop-place l = is_row (map numeric_meaning (drop l.place l.numbers)) (drop l.place l.row) ≡ is_row (map numeric_meaning l.numbers) l.row
