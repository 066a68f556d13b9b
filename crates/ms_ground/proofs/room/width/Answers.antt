use Rattle.std.proofs.Common.{arith}
use Rattle.std.proofs.lemmas.Int.{ints, clamps}
use Rattle.ms_ground.proofs.room.width.Goals as goal

pub returns-clause-value : goal.returns-clause-value
returns-clause-value c =
    let i = c.lo.ensures.within in
    omega (arith, ints, clamps, i.low, i.high, i.ordered, c.lo.ensures.value, c.hi.ensures.value)
