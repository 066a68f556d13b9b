use Rattle.std.proofs.Common.{◌≡◌, drop}
use Rattle.ms_trees.specs.Enclosure.{may_be_row}
use Rattle.ms_evaluator.proofs.lists.admit_row.Given as goal

abbrev pub invariant-loop-place : goal.invariant-loop-place
invariant-loop-place l = may_be_row (drop l.place l.parts) (drop l.place l.row) ≡ may_be_row l.parts l.row
