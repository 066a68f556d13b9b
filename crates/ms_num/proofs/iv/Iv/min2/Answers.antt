use Rattle.std.proofs.Common.{◌≡◌, arith, w64, to_z, of_z}
use Rattle.std.specs.Int.{int_min}
use Rattle.std.proofs.lemmas.Int.{ints, clamps}
use Rattle.ms_num.proofs.SharedImages.{min_least}
use Rattle.ms_num.proofs.iv.Iv.min2.Goals as goal

lo : (c : goal.After-min-2) → to_z w64 (of_z w64 c.min.result) ≡ int_min c.self.inside.lo c.other.inside.lo
lo c = omega (arith, ints, clamps)

hi : (c : goal.After-min-2) → to_z w64 (of_z w64 c.min-2.result) ≡ int_min c.self.inside.hi c.other.inside.hi
hi c = omega (arith, ints, clamps)

pub invariant_of-result : goal.invariant_of-result
invariant_of-result c = record { ordered = omega (arith, ints, clamps); low = omega (arith, ints, clamps); high = omega (arith, ints, clamps) }

pub returns-clause-least : goal.returns-clause-least
returns-clause-least c = rw (← c.self.view_is, ← c.other.view_is, lo c, hi c) (min_least _ _ c.self.invariant.ordered c.other.invariant.ordered)
