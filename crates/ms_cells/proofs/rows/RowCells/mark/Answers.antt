use Rattle.std.proofs.Common.{sym, ap, ◌∙◌, ◌≡◌}
use Rattle.ms_cells.specs.Cells.{Lists}
use Rattle.ms_cells.specs.Rows.{with_rows}
use Rattle.ms_cells.proofs.Rowed.{back_from_mark, mark_is}
use Rattle.ms_cells.proofs.rows.RowCells.mark.Goals as goal

pub returns-in-Err-clause-err : goal.returns-in-Err-clause-err
returns-in-Err-clause-err g c =
    let back = back_from_mark c.self.inside.values c.mark.new.self.saved c.undo.new.self.saved c.undo.new.self.current c.marks-number.result (ap (λ l. l.saved) c.in_ok-mark.ensures.ok) c.undo.ensures.now c.undo.ensures.saved c.marks-number.ensures in
    rw (← c.self.view_is) (ap (λ v. with_rows c.self.inside.places.items v c.mark-2.new.self) back ∙ ap (λ w. with_rows c.self.inside.places.items c.self.inside.values w) c.in-Err.ensures.err)

pub returns-clause-ok : goal.returns-clause-ok
returns-clause-ok g c = rw (← c.self.view_is) (mark_is c.self.inside.places.items c.self.inside.values c.mark.new.self c.self.inside.words c.mark-2.new.self c.self.invariant c.in_ok-mark.ensures.ok c.in_default.ensures.ok)
