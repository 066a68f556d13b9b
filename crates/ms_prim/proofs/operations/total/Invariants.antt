use Rattle.std.proofs.Common.{◌≡◌, ◌≤◌, ◌+◌, ◌*◌, ◌^◌, ◌++◌, drop, take, map, length, pos, ◌+ℤ◌, ◌≤ℤ◌, Some, false, get_or}
use Rattle.ms_prim.specs.Results.{weighted}
use Rattle.ms_prim.proofs.operations.total.Given as goal

abbrev pub invariant-loop-term : goal.invariant-loop-term
invariant-loop-term l = record {
  rest : (l.sum +ℤ weighted l.point (drop l.term-index l.terms)) ≡ weighted l.point l.terms;
  low : pos 0 ≤ℤ (l.sum +ℤ pos (l.term-index * 2 ^ 100));
  high : l.sum ≤ℤ pos (l.term-index * 2 ^ 100);
}
