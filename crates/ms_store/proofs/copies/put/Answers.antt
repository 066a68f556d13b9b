use Rattle.std.proofs.Common.{rules, refl, ◌≡◌}
use Rattle.ms_store.proofs.Copying.{IsRead, put_kept, put_changed}
use Rattle.ms_store.proofs.copies.put.Goals as goal

pub returns-then-after-before-clause-cut : goal.returns-then-after-before-clause-cut
returns-then-after-before-clause-cut c = λ keep saved members.
    let read : IsRead c.args.sets.now.items c.args.v c.index.result.now = record { there = c.requires.there; value = c.index.ensures; filled = c.requires.filled; proper = c.count-before.ensures.proper } in
    (refl, put_kept c.cut_law.ensures.computed keep c.args.sets.now.items saved c.args.v c.index.result.now c.args.kept c.count-before.result c.count-after.result read c.count-before.ensures.value c.count-after.ensures.value c.if-after-eq0.false c.if-after-before.true c.count-after.ensures.proper members)

pub returns-clause-cut : goal.returns-clause-cut
returns-clause-cut c = λ keep saved members.
    let read : IsRead c.args.sets.now.items c.args.v c.index.result.now = record { there = c.requires.there; value = c.index.ensures; filled = c.requires.filled; proper = c.count-before.ensures.proper } in
    put_changed c.cut_law.ensures.one c.cut_law.ensures.computed keep c.args.sets.now.items saved c.args.v c.index.result.now c.args.kept c.count-before.result c.count-after.result read c.count-before.ensures.value c.count-after.ensures.value c.if-after-eq0.false c.if-after-before.false c.count-after.ensures.proper members
