use Rattle.std.proofs.Common.{◌≡◌, arith, w64, to_z, of_z, pos}
use Rattle.std.specs.Prelude.{neg_ℤ}
use Rattle.std.specs.Int.{int_max}
use Rattle.std.proofs.lemmas.Int.{ints, clamps}
use Rattle.ms_num.proofs.SharedImages.{abs_least}
use Rattle.ms_num.proofs.iv.Iv.abs.Goals as goal

lo : (c : goal.After-max-3) → to_z w64 (of_z w64 c.max-2.result) ≡ int_max (int_max c.self.inside.lo (neg_ℤ c.self.inside.hi)) (pos 0)
lo c = omega (arith, ints, clamps)

hi : (c : goal.After-max-3) → to_z w64 (of_z w64 c.max-3.result) ≡ int_max (neg_ℤ c.self.inside.lo) c.self.inside.hi
hi c = omega (arith, ints, clamps)

pub invariant_of-result : goal.invariant_of-result
invariant_of-result c = record { ordered = omega (arith, ints, clamps); low = omega (arith, ints, clamps); high = omega (arith, ints, clamps) }

pub returns-clause-value : goal.returns-clause-value
returns-clause-value c = rw (← c.self.view_is, lo c, hi c)

pub returns-clause-least : goal.returns-clause-least
returns-clause-least c = rw (← c.self.view_is, lo c, hi c) (abs_least _ c.self.invariant.ordered)
