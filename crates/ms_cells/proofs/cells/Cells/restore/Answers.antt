use Rattle.std.proofs.Common.{◌≡◌, ◌<◌, length, get_or}
use Rattle.std.proofs.lemmas.List.{get_or_read}
use Rattle.ms_cells.proofs.Undone.{mark_there, saved_at-get}
use Rattle.ms_cells.proofs.Again.{trail_continues, reach_continues, saved_continues}
use Rattle.ms_cells.proofs.cells.Cells.restore.Goals as goal

pub invariant_of-self-2 : goal.invariant_of-self-2
invariant_of-self-2 g c =
    let more = rw c.reserve.ensures.items at c.write_again.ensures.taken in (
      trail_continues c.self.inside.current.items c.write_again.new.items.items c.self.inside.taken.items c.write_again.new.taken.items c.self.inside.marks.items more c.self.invariant.0,
      reach_continues c.self.inside.current.items c.write_again.new.items.items c.self.inside.taken.items c.write_again.new.taken.items c.self.inside.marks.items c.self.inside.reaches.items c.self.inside.reach more c.self.invariant.0 c.self.invariant.1,
    )

pub returns-clause-now : goal.returns-clause-now
returns-clause-now g c =
    let there : c.args.number < length c.self.inside.marks.items = mark_there c.self.inside.current.items c.self.inside.taken.items c.self.inside.marks.items c.args.number (rw (← c.self.view_is) at c.requires) in
    let at : c.index-keep.result.now ≡ get_or c.self.inside.marks.items c.args.number 0 = get_or_read _ _ _ there c.index-keep.ensures 0 in
    rw (c.write_again.ensures.items, c.reserve.ensures.items, ← c.self.view_is) (saved_at-get _ _ _ _ _ there at)

pub returns-clause-saved : goal.returns-clause-saved
returns-clause-saved g c =
    let more = rw c.reserve.ensures.items at c.write_again.ensures.taken in
    rw (← c.self.view_is) (saved_continues c.self.inside.current.items c.write_again.new.items.items c.self.inside.taken.items c.write_again.new.taken.items c.self.inside.marks.items more c.self.invariant.0)
