use Rattle.std.proofs.Common.{◌≡◌, arith, w64, to_z, of_z}
use Rattle.std.specs.Int.{int_min, int_max}
use Rattle.std.proofs.lemmas.Int.{ints, clamps}
use Rattle.ms_num.proofs.SharedSpans.{four_within}
use Rattle.ms_num.proofs.iv.around.Goals as goal

lo : (c : goal.After-max-3) → to_z w64 (of_z w64 c.min-3.result) ≡ int_min (int_min c.args.p c.args.q) (int_min c.args.r c.args.s)
lo c = omega (arith, ints, clamps)

hi : (c : goal.After-max-3) → to_z w64 (of_z w64 c.max-3.result) ≡ int_max (int_max c.args.p c.args.q) (int_max c.args.r c.args.s)
hi c = omega (arith, ints, clamps)

pub returns : goal.returns
returns c = rw (lo c, hi c)

pub invariant_of-result : goal.invariant_of-result
invariant_of-result c = rw (lo c, hi c) (four_within c.args.p c.args.q c.args.r c.args.s c.requires.p_in c.requires.q_in c.requires.r_in c.requires.s_in)
