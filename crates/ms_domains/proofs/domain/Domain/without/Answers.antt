use Rattle.std.proofs.Common.{rules, SFits, w64}
use Rattle.std.proofs.lemmas.Int.{to_z-of_z}
use Rattle.ms_domains.proofs.Holing.{domain_hole}
use Rattle.ms_domains.proofs.domain.Domain.without.Goals as goal

pub returns-clause-proper : goal.returns-clause-proper
returns-clause-proper c =
    let n : SFits w64 c.args.n = search rules in
    let lo : SFits w64 c.args.self.lo = search rules in
    let hi : SFits w64 c.args.self.hi = search rules in
    (domain_hole c.args.row.now c.args.self c.args.n _ _ c.hole.result c.requires.proper c.requires.low c.requires.high c.requires.there (rw (to_z-of_z w64 c.args.n n) at c.hole.ensures) (to_z-of_z w64 c.args.self.lo lo) (to_z-of_z w64 c.args.self.hi hi)).0

pub returns-clause-cut : goal.returns-clause-cut
returns-clause-cut c =
    let n : SFits w64 c.args.n = search rules in
    let lo : SFits w64 c.args.self.lo = search rules in
    let hi : SFits w64 c.args.self.hi = search rules in
    (domain_hole c.args.row.now c.args.self c.args.n _ _ c.hole.result c.requires.proper c.requires.low c.requires.high c.requires.there (rw (to_z-of_z w64 c.args.n n) at c.hole.ensures) (to_z-of_z w64 c.args.self.lo lo) (to_z-of_z w64 c.args.self.hi hi)).1
