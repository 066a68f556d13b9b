use Rattle.std.proofs.Common.{◌≡◌, ◌≤◌, ◌+◌, Some, map, drop}
use Rattle.ms_num.specs.Numbers.{int_eq}
use Rattle.ms_trees.specs.Value.{Meaning, numeric_meaning, how_many, compare}
use Rattle.ms_arrays.proofs.integers.how_many.Given as goal

abbrev pub invariant-loop-number : goal.invariant-loop-number
invariant-loop-number l = record {
  count : l.count + how_many (λ (m : Meaning). compare int_eq m.number (Some l.y)) (map numeric_meaning (drop l.number-index l.numbers)) ≡ how_many (λ (m : Meaning). compare int_eq m.number (Some l.y)) (map numeric_meaning l.numbers);
  few : l.count ≤ l.number-index;
}
