use Rattle.std.proofs.Common.{rules, SFits, w64}
use Rattle.std.proofs.lemmas.Int.{to_z-of_z}
use Rattle.ms_trail.proofs.Filled.{opened_roomy}
use Rattle.ms_trail.proofs.trail.Trail.opened.Goals as goal

pub returns-clause-some : goal.returns-clause-some
returns-clause-some c =
    let n : SFits w64 c.args.n = search rules in
    let u = c.fill.new.self in
    let same = rw c.row-2.ensures.value at c.opened.ensures.same in
    opened_roomy u c.args.v c.args.n c.args.domain c.opened.result c.in_ok-fill.ensures.read (same u.ranges c.in_ok-fill.ensures.read.proper c.in_ok-fill.ensures.filled) (rw (to_z-of_z w64 c.args.n n) at c.opened.ensures.room)
