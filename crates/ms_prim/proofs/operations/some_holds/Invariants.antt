use Rattle.std.proofs.Common.{◌≡◌, ◌≤◌, ◌+◌, ◌*◌, ◌^◌, ◌++◌, drop, take, map, length, pos, ◌+ℤ◌, ◌≤ℤ◌, Some, false, get_or}
use Rattle.std.specs.List.{list_any}
use Rattle.ms_prim.specs.Results.{lit_at}
use Rattle.ms_prim.proofs.operations.some_holds.Given as goal

abbrev pub invariant-loop-lit : goal.invariant-loop-lit
invariant-loop-lit l = list_any (lit_at l.point) (take l.lit-index l.lits) ≡ false
