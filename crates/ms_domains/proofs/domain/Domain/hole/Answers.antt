use Rattle.std.proofs.Common.{rules, SFits, w64, subst}
use Rattle.ms_domains.specs.Domains.{HasRoom}
use Rattle.ms_domains.specs.declared.domain.Holes.{Holes}
use Rattle.std.proofs.lemmas.Int.{to_z-of_z}
use Rattle.ms_domains.proofs.Holing.{window_base, row_base, hole_window, hole_row, hole_whole}
use Rattle.ms_domains.proofs.domain.Domain.hole.Goals as goal

pub returns-in-Window : goal.returns-in-Window
returns-in-Window c =
    let n : SFits w64 c.args.n = search rules in
    let base = window_base c.args.row.now c.args.self c.in-Window.base c.in-Window.bits c.requires.proper c.in-Window.is in
    hole_window c.args.row.now c.args.self c.in-Window.base _ c.args.n c.in-Window.bits c.without.result c.distance.result c.requires.proper c.in-Window.is base (rw (to_z-of_z w64 c.args.n n, base) at c.distance.ensures) c.requires.low c.requires.high c.without.ensures.gone c.without.ensures.others

pub returns-in-Row : goal.returns-in-Row
returns-in-Row c =
    let n : SFits w64 c.args.n = search rules in
    let base = row_base c.args.row.now c.args.self c.in-Row.base c.in-Row.at c.in-Row.bits c.requires.proper c.in-Row.is in
    let far = rw (to_z-of_z w64 c.args.n n, base) at c.distance-in-Row.ensures in
    let room = subst (λ (h : Holes). HasRoom c.args.self.lo c.args.self.hi c.args.n h) c.in-Row.is c.requires.room in
    hole_row c.args.row.now c.args.self c.in-Row.base _ c.args.n c.in-Row.at c.in-Row.bits c.without-in-Row.result c.distance-in-Row.result c.requires.proper c.in-Row.is base far c.requires.low c.requires.high (room c.distance-in-Row.result far) c.without-in-Row.ensures.gone c.without-in-Row.ensures.others

pub returns-in-Whole : goal.returns-in-Whole
returns-in-Whole c =
    let n : SFits w64 c.args.n = search rules in
    let lo : SFits w64 c.args.self.lo = search rules in
    let room = subst (λ (h : Holes). HasRoom c.args.self.lo c.args.self.hi c.args.n h) c.in-Whole.is c.requires.room in
    hole_whole c.args.row.now c.args.self _ c.args.n c.without-in-Whole.result c.distance-in-Whole.result c.requires.proper c.in-Whole.is (to_z-of_z w64 c.args.self.lo lo) (rw (to_z-of_z w64 c.args.n n, to_z-of_z w64 c.args.self.lo lo) at c.distance-in-Whole.ensures) room c.requires.low c.requires.high c.without-in-Whole.ensures.gone c.without-in-Whole.ensures.others
