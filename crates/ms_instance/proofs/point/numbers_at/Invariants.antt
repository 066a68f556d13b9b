use Rattle.std.proofs.Common.{◌≡◌, ◌++◌, drop, map}
use Rattle.ms_instance.specs.Points.{number_at}
use Rattle.ms_instance.proofs.point.numbers_at.Given as goal

abbrev pub invariant-loop-x : goal.invariant-loop-x
invariant-loop-x l = map (number_at l.point) l.xs ≡ l.numbers ++ map (number_at l.point) (drop l.x-index l.xs)
