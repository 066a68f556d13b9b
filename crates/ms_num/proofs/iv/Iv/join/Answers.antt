use Rattle.std.proofs.Common.{arith}
use Rattle.std.proofs.lemmas.Int.{ints, clamps}
use Rattle.ms_num.proofs.iv.Iv.join.Goals as goal

pub invariant_of-result : goal.invariant_of-result
invariant_of-result c = record { ordered = omega (arith, ints, clamps); low = omega (arith, ints, clamps); high = omega (arith, ints, clamps) }
