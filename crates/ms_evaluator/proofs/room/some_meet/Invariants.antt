use Rattle.std.proofs.Common.{◌≡◌, drop}
use Rattle.ms_trees.specs.Enclosure.{some_meet}
use Rattle.ms_evaluator.proofs.room.some_meet.Given as goal

abbrev pub invariant-loop-place : goal.invariant-loop-place
invariant-loop-place l = some_meet (drop l.place l.parts) ≡ some_meet l.parts
