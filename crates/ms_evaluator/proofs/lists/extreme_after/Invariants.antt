use Rattle.std.proofs.Common.{◌≡◌, drop}
use Rattle.ms_trees.specs.Extreme.{extreme_span}
use Rattle.ms_trees.specs.Enclosure.{folded_intervals}
use Rattle.ms_evaluator.proofs.lists.extreme_after.Given as goal

abbrev pub invariant-loop-part : goal.invariant-loop-part
invariant-loop-part l = folded_intervals (extreme_span l.which) l.best (drop l.part-index l.parts) ≡ folded_intervals (extreme_span l.which) l.fn.first l.parts
