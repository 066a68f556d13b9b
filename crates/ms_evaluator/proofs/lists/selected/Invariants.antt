use Rattle.std.proofs.Common.{◌≡◌, ◌≤◌, length, drop}
use Rattle.ms_trees.specs.Access.{reaches}
use Rattle.ms_trees.specs.Enclosure.{numeric_enclosure, joined, reached_undefined}
use Rattle.ms_evaluator.proofs.lists.selected.Given as goal

abbrev pub invariant-loop-place : goal.invariant-loop-place
invariant-loop-place l = record {
  within : l.place ≤ length l.parts;
  so_far : l.so_far ≡ numeric_enclosure (joined (reaches l.access) l.place (drop l.place l.parts)) (reached_undefined (reaches l.access) l.place (drop l.place l.parts));
}

abbrev pub decreases-loop-place : goal.decreases-loop-place
decreases-loop-place l = l.place
