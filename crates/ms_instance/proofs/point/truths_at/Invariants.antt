use Rattle.std.proofs.Common.{◌≡◌, ◌++◌, drop, map}
use Rattle.ms_instance.specs.Points.{truth_at}
use Rattle.ms_instance.proofs.point.truths_at.Given as goal

abbrev pub invariant-loop-x : goal.invariant-loop-x
invariant-loop-x l = map (truth_at l.point) l.xs ≡ l.truths ++ map (truth_at l.point) (drop l.x-index l.xs)
