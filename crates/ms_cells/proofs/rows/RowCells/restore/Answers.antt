use Rattle.std.proofs.Common.{sym, ap, ◌∙◌, ◌≡◌, ◌<◌, ◌+◌, ◌-◌, ◌++◌, ◌∷◌, [], arith, refl, length, subst, take, List}
use Rattle.std.proofs.lemmas.List.{length_push, take_at}
use Rattle.ms_cells.specs.Cells.{Lists}
use Rattle.ms_cells.specs.Rows.{with_rows, IsRowed}
use Rattle.ms_cells.proofs.Rowed.{saved_length, saved_get, back_from_mark}
use Rattle.ms_cells.proofs.Growing.{same_rowed, restored}
use Rattle.ms_cells.proofs.rows.RowCells.restore.Goals as goal

pub restore-requires : goal.restore-requires
restore-requires g c = omega (arith, rw (← c.self.view_is) at c.requires, saved_length c.self.inside.places.items c.self.inside.values.saved c.self.inside.words.saved c.self.invariant.marks, ap (λ l. length l.saved) c.in_ok-mark.ensures.ok, length_push c.self.inside.values.saved c.self.inside.values.current)

pub restore-requires-2 : goal.restore-requires-2
restore-requires-2 g c = omega (arith, rw (← c.self.view_is) at c.requires, saved_length c.self.inside.places.items c.self.inside.values.saved c.self.inside.words.saved c.self.invariant.marks, c.self.invariant.marks)

pub invariant_of-self-in-Err : goal.invariant_of-self-in-Err
invariant_of-self-in-Err g c =
    let marked = ap (λ l. l.saved) (c.in-Err.ensures.err ∙ c.in_ok-mark.ensures.ok) in
    let back = back_from_mark c.self.inside.values c.restore.new.self.saved c.undo.new.self.saved c.undo.new.self.current c.marks-last.result marked c.undo.ensures.now c.undo.ensures.saved c.marks-last.ensures in
    same_rowed c.self.inside.places.items c.self.inside.values c.undo.new.self c.self.inside.words c.self.inside.words c.self.invariant back refl

pub returns-in-Err-clause-err : goal.returns-in-Err-clause-err
returns-in-Err-clause-err g c =
    let marked = ap (λ l. l.saved) (c.in-Err.ensures.err ∙ c.in_ok-mark.ensures.ok) in
    let back = back_from_mark c.self.inside.values c.restore.new.self.saved c.undo.new.self.saved c.undo.new.self.current c.marks-last.result marked c.undo.ensures.now c.undo.ensures.saved c.marks-last.ensures in
    rw (← c.self.view_is) (ap (λ v. with_rows c.self.inside.places.items v c.self.inside.words) back)

pub invariant_of-self-in-Err-restore : goal.invariant_of-self-in-Err-restore
invariant_of-self-in-Err-restore g c =
    let marked = c.in_default.ensures.saved ∙ ap (λ l. l.saved) c.in_ok-mark.ensures.ok in
    let back = back_from_mark c.self.inside.values c.restore.new.self.saved c.undo-in-Err-restore.new.self.saved c.undo-in-Err-restore.new.self.current c.marks-last.result marked c.undo-in-Err-restore.ensures.now c.undo-in-Err-restore.ensures.saved c.marks-last.ensures in
    same_rowed c.self.inside.places.items c.self.inside.values c.undo-in-Err-restore.new.self c.self.inside.words c.restore-2.new.self c.self.invariant back c.in-Err-restore.ensures.err

pub returns-in-Err-restore-clause-err : goal.returns-in-Err-restore-clause-err
returns-in-Err-restore-clause-err g c =
    let marked = c.in_default.ensures.saved ∙ ap (λ l. l.saved) c.in_ok-mark.ensures.ok in
    let back = back_from_mark c.self.inside.values c.restore.new.self.saved c.undo-in-Err-restore.new.self.saved c.undo-in-Err-restore.new.self.current c.marks-last.result marked c.undo-in-Err-restore.ensures.now c.undo-in-Err-restore.ensures.saved c.marks-last.ensures in
    rw (← c.self.view_is) (ap (λ v. with_rows c.self.inside.places.items v c.restore-2.new.self) back ∙ ap (λ w. with_rows c.self.inside.places.items c.self.inside.values w) c.in-Err-restore.ensures.err)

pub invariant_of-self-2 : goal.invariant_of-self-2
invariant_of-self-2 g c =
    let there : c.args.number < length c.self.inside.values.saved = omega (arith, rw (← c.self.view_is) at c.requires, saved_length c.self.inside.places.items c.self.inside.values.saved c.self.inside.words.saved c.self.invariant.marks) in
    (restored c.self.inside.places.items c.self.inside.values c.mark.new.self c.restore.new.self c.forget.new.self c.self.inside.words c.restore-2.new.self c.args.number c.self.invariant c.in_ok-mark.ensures.ok c.in_default.ensures.now c.in_default.ensures.saved c.forget.ensures c.in_default-restore.ensures.now c.in_default-restore.ensures.saved there).rowed

pub returns-clause-now : goal.returns-clause-now
returns-clause-now g c =
    let there : c.args.number < length c.self.inside.values.saved = omega (arith, rw (← c.self.view_is) at c.requires, saved_length c.self.inside.places.items c.self.inside.values.saved c.self.inside.words.saved c.self.invariant.marks) in
    rw (← c.self.view_is) (restored c.self.inside.places.items c.self.inside.values c.mark.new.self c.restore.new.self c.forget.new.self c.self.inside.words c.restore-2.new.self c.args.number c.self.invariant c.in_ok-mark.ensures.ok c.in_default.ensures.now c.in_default.ensures.saved c.forget.ensures c.in_default-restore.ensures.now c.in_default-restore.ensures.saved there).now

pub returns-clause-saved : goal.returns-clause-saved
returns-clause-saved g c =
    let there : c.args.number < length c.self.inside.values.saved = omega (arith, rw (← c.self.view_is) at c.requires, saved_length c.self.inside.places.items c.self.inside.values.saved c.self.inside.words.saved c.self.invariant.marks) in
    rw (← c.self.view_is) (restored c.self.inside.places.items c.self.inside.values c.mark.new.self c.restore.new.self c.forget.new.self c.self.inside.words c.restore-2.new.self c.args.number c.self.invariant c.in_ok-mark.ensures.ok c.in_default.ensures.now c.in_default.ensures.saved c.forget.ensures c.in_default-restore.ensures.now c.in_default-restore.ensures.saved there).saved
