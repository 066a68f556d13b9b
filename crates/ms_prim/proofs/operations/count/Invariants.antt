use Rattle.std.proofs.Common.{◌≡◌, ◌≤◌, ◌+◌, ◌*◌, ◌^◌, ◌++◌, drop, take, map, length, pos, ◌+ℤ◌, ◌≤ℤ◌, Some, false, get_or}
use Rattle.ms_num.specs.Numbers.{int_eq}
use Rattle.ms_trees.specs.Value.{Meaning, how_many, compare}
use Rattle.ms_prim.specs.Results.{all_meant}
use Rattle.ms_prim.proofs.operations.count.Given as goal

abbrev pub invariant-loop-part : goal.invariant-loop-part
invariant-loop-part l = record {
  below : l.count ≤ l.part-index;
  rest : l.count + how_many (λ (m : Meaning). compare int_eq m.number (Some l.fn.n)) (all_meant l.point (drop l.part-index l.parts)) ≡ how_many (λ (m : Meaning). compare int_eq m.number (Some l.fn.n)) (all_meant l.point l.parts);
}
