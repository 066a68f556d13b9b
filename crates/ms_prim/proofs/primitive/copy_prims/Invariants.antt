use Rattle.std.proofs.Common.{◌≡◌, ◌≤◌, ◌+◌, ◌*◌, ◌^◌, ◌++◌, drop, take, map, length, pos, ◌+ℤ◌, ◌≤ℤ◌, Some, false, get_or}
use Rattle.ms_prim.proofs.primitive.copy_prims.Given as goal

abbrev pub invariant-loop-p : goal.invariant-loop-p
invariant-loop-p l = l.all ≡ take l.p-index l.prims
