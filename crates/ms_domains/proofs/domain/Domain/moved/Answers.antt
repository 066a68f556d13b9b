use Rattle.std.proofs.Common.{rules, SFits, w64, ◌<◌, ◌/◌, length, arith, subst, []}
use Rattle.std.proofs.lemmas.Int.{to_z-of_z, ints}
use Rattle.ms_domains.specs.Domains.{IsWritten, IsReadable}
use Rattle.ms_domains.specs.declared.domain.Holes.{Holes}
use Rattle.ms_domains.proofs.Holing.{row_base}
use Rattle.ms_domains.proofs.Making.{moved_is}
use Rattle.ms_domains.proofs.domain.Domain.moved.Goals as goal

pub returns-in-Row-clause-same : goal.returns-in-Row-clause-same
returns-in-Row-clause-same c =
    let n : SFits w64 c.args.n = search rules in
    let lo : SFits w64 c.args.self.lo = search rules in
    let hi : SFits w64 c.args.self.hi = search rules in
    let base = row_base c.args.row.now c.args.self c.in-Row.base c.in-Row.at c.in-Row.bits c.requires.proper c.in-Row.is in
    let far = rw (to_z-of_z w64 c.args.n n, base) at c.distance.ensures in
    let written = subst (λ (h : Holes). IsWritten c.args.row.now h) c.in-Row.is c.requires.written in
    let covers = (subst (λ (h : Holes). IsReadable [] c.args.row.now c.args.self.lo c.args.self.hi h) c.in-Row.is c.requires.proper.readable).0.to in
    let there : c.distance.result / 64 < length c.args.row.now = omega (arith, ints, far, covers, c.requires.high) in
    moved_is c.args.row.now c.args.self _ _ _ c.in-Row.base c.in-Row.at c.in-Row.bits (c.distance.result / 64) c.requires.proper c.in-Row.is written (to_z-of_z w64 c.args.self.lo lo) (to_z-of_z w64 c.args.self.hi hi) base there
