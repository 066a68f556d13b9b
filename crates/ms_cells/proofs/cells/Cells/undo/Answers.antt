use Rattle.std.proofs.Common.{arith, ◌≡◌, ◌<◌, length, get_or}
use Rattle.std.proofs.lemmas.List.{get_or_read}
use Rattle.ms_cells.proofs.Undone.{mark_there, trail-undo, saved_at-get, saved_at-undo}
use Rattle.ms_cells.proofs.Reaching.{reach_undo}
use Rattle.ms_cells.proofs.cells.Cells.undo.Goals as goal
use Rattle.ms_cells.proofs.cells.Cells.undo.Goals.{After-truncate}

pub invariant_of-self : goal.invariant_of-self
invariant_of-self g c =
    let there : c.args.number < length c.self.inside.marks.items = mark_there c.self.inside.current.items c.self.inside.taken.items c.self.inside.marks.items c.args.number (rw (← c.self.view_is) at c.requires) in
    let at : c.index-keep.result.now ≡ get_or c.self.inside.marks.items c.args.number 0 = get_or_read _ _ _ there c.index-keep.ensures 0 in
    let more : c.args.number < length c.self.inside.reaches.items = omega (arith, there, c.self.invariant.1.count) in
    let back : c.index-reach.result.now ≡ get_or c.self.inside.reaches.items c.args.number 0 = get_or_read _ _ _ more c.index-reach.ensures 0 in (
      rw (c.write_back.ensures.items, c.write_back.ensures.taken, c.truncate.ensures.items) (trail-undo _ _ _ _ _ c.self.invariant.0 there at),
      rw (c.write_back.ensures.taken, c.truncate.ensures.items, c.truncate-2.ensures.items) (reach_undo _ _ _ _ _ _ _ there at back c.self.invariant.0.rising c.self.invariant.1),
    )

pub returns-clause-now : goal.returns-clause-now
returns-clause-now g c =
    let there : c.args.number < length c.self.inside.marks.items = mark_there c.self.inside.current.items c.self.inside.taken.items c.self.inside.marks.items c.args.number (rw (← c.self.view_is) at c.requires) in
    let at : c.index-keep.result.now ≡ get_or c.self.inside.marks.items c.args.number 0 = get_or_read _ _ _ there c.index-keep.ensures 0 in
    rw (c.write_back.ensures.items, ← c.self.view_is) (saved_at-get _ _ _ _ _ there at)

pub returns-clause-saved : goal.returns-clause-saved
returns-clause-saved g c =
    let there : c.args.number < length c.self.inside.marks.items = mark_there c.self.inside.current.items c.self.inside.taken.items c.self.inside.marks.items c.args.number (rw (← c.self.view_is) at c.requires) in
    let at : c.index-keep.result.now ≡ get_or c.self.inside.marks.items c.args.number 0 = get_or_read _ _ _ there c.index-keep.ensures 0 in
    rw (c.write_back.ensures.items, c.write_back.ensures.taken, c.truncate.ensures.items, ← c.self.view_is) (saved_at-undo _ _ _ _ _ c.self.invariant.0 there at)
