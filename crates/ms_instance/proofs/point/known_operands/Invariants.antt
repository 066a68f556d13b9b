use Rattle.std.proofs.Common.{◌≡◌, ◌++◌, drop, map}
use Rattle.ms_instance.specs.Points.{known_at}
use Rattle.ms_instance.proofs.point.known_operands.Given as goal

abbrev pub invariant-loop-value : goal.invariant-loop-value
invariant-loop-value l = map (known_at l.point) l.values ≡ l.known.items ++ map (known_at l.point) (drop l.value-index l.values)
