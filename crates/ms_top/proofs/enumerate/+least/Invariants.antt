use Rattle.std.specs.Prelude.{◌≤ℤ◌}
use Rattle.std.proofs.Common.{◌≡◌, ◌+◌, ◌*◌, length, take}
use Rattle.ms_top.proofs.Enumerating.{NoneBelow}
use Rattle.ms_top.proofs.enumerate.+least.Given as goal

abbrev pub decreases-set_least : goal.decreases-set_least
decreases-set_least l = 2 * length l.domains.now

abbrev pub decreases-set_each : goal.decreases-set_each
decreases-set_each l = 2 * length l.others.now + 1

abbrev pub invariant-set_each-loop-n : goal.invariant-set_each-loop-n
invariant-set_each-loop-n l = record {
  low : l.fn.domain.lowest ≤ℤ l.n;
  kept : take l.at l.point ≡ take l.at l.fn.point;
  before : NoneBelow (take l.at l.fn.point) l.fn.domain l.others l.trees l.n;
}
