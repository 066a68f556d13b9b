use Rattle.std.proofs.Common.{◌≡◌, arith, w64, to_z, of_z, pos}
use Rattle.std.specs.Prelude.{neg_ℤ, ◌-ℤ◌}
use Rattle.std.proofs.lemmas.Int.{ints}
use Rattle.ms_num.proofs.SharedImages.{neg_least}
use Rattle.ms_num.proofs.iv.Iv.neg.Goals as goal

lo : (c : goal.After-struct_told-2-1) → to_z w64 (of_z w64 (pos 0 -ℤ to_z w64 (of_z w64 c.self.inside.hi))) ≡ neg_ℤ c.self.inside.hi
lo c = let i = c.self.invariant in omega (arith, ints)

hi : (c : goal.After-struct_told-2-1) → to_z w64 (of_z w64 (pos 0 -ℤ to_z w64 (of_z w64 c.self.inside.lo))) ≡ neg_ℤ c.self.inside.lo
hi c = let i = c.self.invariant in omega (arith, ints)

pub returns-clause-least : goal.returns-clause-least
returns-clause-least c = rw (← c.self.view_is, lo c, hi c) (neg_least _ c.self.invariant.ordered)
