use Rattle.std.proofs.Common.{◌≡◌, ◌≤◌, length, map, drop, true}
use Rattle.std.specs.Prelude.{ℤ}
use Rattle.std.specs.Ordering.{int_eq as same}
use Rattle.std.specs.HashSet.{contains}
use Rattle.ms_trees.specs.Value.{numeric_meaning, are_distinct}
use Rattle.ms_arrays.proofs.Apart.{is_among}
use Rattle.ms_arrays.proofs.repeats.are_distinct.Given as goal

-- the numbers from the place on are distinct, and the set has them
abbrev pub invariant-loop-place : goal.invariant-loop-place
invariant-loop-place l = record {
  within : l.place ≤ length l.numbers;
  distinct : are_distinct (map numeric_meaning (drop l.place l.numbers)) ≡ true;
  seen : (z : ℤ) → contains same l.seen z ≡ is_among (drop l.place l.numbers) z;
}

abbrev pub decreases-loop-place : goal.decreases-loop-place
decreases-loop-place l = l.place
