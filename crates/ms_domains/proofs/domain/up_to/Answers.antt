use Rattle.std.proofs.Common.{rules, ◌∙◌, SFits, w64}
use Rattle.std.proofs.lemmas.Int.{to_z-of_z}
use Rattle.ms_domains.proofs.Rows.{part_upper, upper_fewer, upper_none}
use Rattle.ms_domains.proofs.domain.up_to.Goals as goal

pub overflow_sub-result : goal.overflow_sub-result
overflow_sub-result g c =
    let n : SFits w64 c.args.n = search rules in
    let base : SFits w64 c.args.base = search rules in
    let hi : SFits w64 c.args.set.hi = search rules in
    upper_fewer c.args.set c.args.base c.args.n (g.W.Words.as_row c.args.words) c.distance.result c.distance-in-Some.result c.in-Some.k c.count.result c.requires.set c.requires.low c.requires.high (rw (to_z-of_z w64 c.args.n n, to_z-of_z w64 c.args.base base) at c.distance.ensures) (rw (to_z-of_z w64 c.args.set.hi hi, to_z-of_z w64 c.args.base base) at c.distance-in-Some.ensures) c.in-Some.ensures c.count.ensures

pub returns-in-Some : goal.returns-in-Some
returns-in-Some g c =
    let n : SFits w64 c.args.n = search rules in
    let base : SFits w64 c.args.base = search rules in
    let hi : SFits w64 c.args.set.hi = search rules in
    let lo : SFits w64 c.args.set.lo = search rules in
    let top : SFits w64 c.above.result = search rules in
    part_upper c.args.set c.args.base c.args.n (g.W.Words.as_row c.args.words) c.distance.result c.distance-in-Some.result c.in-Some.k c.count.result _ _ c.requires.set c.requires.low c.requires.high (rw (to_z-of_z w64 c.args.n n, to_z-of_z w64 c.args.base base) at c.distance.ensures) (rw (to_z-of_z w64 c.args.set.hi hi, to_z-of_z w64 c.args.base base) at c.distance-in-Some.ensures) c.in-Some.ensures c.count.ensures (to_z-of_z w64 c.args.set.lo lo) (to_z-of_z w64 c.above.result top ∙ (rw (to_z-of_z w64 c.args.base base) at c.above.ensures))

pub returns-in-None : goal.returns-in-None
returns-in-None g c =
    let n : SFits w64 c.args.n = search rules in
    let base : SFits w64 c.args.base = search rules in
    upper_none c.args.set c.args.base c.args.n (g.W.Words.as_row c.args.words) c.distance.result c.requires.set c.requires.low (rw (to_z-of_z w64 c.args.n n, to_z-of_z w64 c.args.base base) at c.distance.ensures) c.in-None.ensures
