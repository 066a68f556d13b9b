use Rattle.std.proofs.Common.{◌≡◌, ◌≤◌, ◌+◌, ◌*◌, ◌^◌, ◌++◌, drop, take, map, length, pos, ◌+ℤ◌, ◌≤ℤ◌, Some, false, get_or}
use Rattle.ms_num.specs.Numbers.{min_at}
use Rattle.ms_trees.specs.Value.{extreme}
use Rattle.ms_trees.proofs.Onward.{onward}
use Rattle.ms_prim.specs.Results.{all_meant}
use Rattle.ms_prim.proofs.operations.least.Given as goal

abbrev pub invariant-loop-part : goal.invariant-loop-part
invariant-loop-part l = onward min_at l.best (all_meant l.point (drop l.part-index l.parts)) ≡ extreme min_at (all_meant l.point l.parts)
