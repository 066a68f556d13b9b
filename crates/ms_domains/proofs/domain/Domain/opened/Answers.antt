use Rattle.std.proofs.Common.{rules, SFits, w64, ◌<◌, ◌/◌, length, arith}
use Rattle.std.proofs.lemmas.Int.{to_z-of_z, ints}
use Rattle.ms_domains.proofs.Making.{opened_is}
use Rattle.ms_domains.proofs.domain.Domain.opened.Goals as goal

pub returns-clause-same : goal.returns-clause-same
returns-clause-same c = λ lists proper filled.
    let n : SFits w64 c.args.n = search rules in
    let lo : SFits w64 c.args.self.lo = search rules in
    let hi : SFits w64 c.args.self.hi = search rules in
    let far = rw (to_z-of_z w64 c.args.n n, to_z-of_z w64 c.args.self.lo lo) at c.distance.ensures in
    let there : c.distance.result / 64 < length c.args.row.now = omega (arith, ints, far, c.requires.covers, c.requires.high) in
    opened_is lists c.args.row.now c.args.self _ _ _ (c.distance.result / 64) proper filled (to_z-of_z w64 c.args.self.lo lo) (to_z-of_z w64 c.args.self.hi hi) (to_z-of_z w64 c.args.self.lo lo) there
