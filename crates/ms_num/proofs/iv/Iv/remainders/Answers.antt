use Rattle.std.proofs.Common.{◌≡◌, arith, w64, to_z, of_z}
use Rattle.std.specs.Prelude.{pos}
use Rattle.std.specs.Int.{int_min, int_max}
use Rattle.std.proofs.lemmas.Int.{ints, clamps}
use Rattle.ms_num.proofs.SharedRemainders.{cut_interval}
use Rattle.ms_num.proofs.iv.Iv.remainders.Goals as goal

lo : (c : goal.After-min-2) → to_z w64 (of_z w64 c.max.result) ≡ int_max (int_min c.self.inside.lo (pos 0)) c.args.least
lo c = let n = c.ranges.least in omega (arith, ints, clamps)

hi : (c : goal.After-min-2) → to_z w64 (of_z w64 c.min-2.result) ≡ int_min (int_max c.self.inside.hi (pos 0)) c.args.most
hi c = let n = c.ranges.most in omega (arith, ints, clamps)

pub invariant_of-result : goal.invariant_of-result
invariant_of-result c = rw (lo c, hi c) (cut_interval _ c.args.least c.args.most c.self.invariant c.requires.negative c.requires.positive)

pub returns : goal.returns
returns c = rw (← c.self.view_is, lo c, hi c)
