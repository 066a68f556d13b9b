use Rattle.std.proofs.Common.{◌∙◌, sym, ap, map}
use Rattle.std.proofs.lemmas.Result.{err_from_is_err_and}
use Rattle.ms_syntax.specs.Tree.{item_view}
use Rattle.ms_top.specs.Plain.{beside, parts_of}
use Rattle.ms_top.specs.Reading.{Fails}
use Rattle.ms_top.proofs.Gathering.{behind_them, beside_fails}
use Rattle.ms_top.proofs.form.parts.Goals as goal

pub returns : goal.returns
returns c =
    c.in_ok-declarations.ensures.1
    ∙ ap (beside c.in_ok-declarations.declarations) (sym (behind_them c.args.items.now c.in_ok-declarations.declarations c.len.result c.len.ensures) ∙ c.in_ok-constraints.ensures)

pub returns-in_err-constraints : goal.returns-in_err-constraints
returns-in_err-constraints c =
    let failed : Fails (parts_of (map item_view c.args.items.now)) c.in_err-constraints.field-0.0 =
    rw (c.in_ok-declarations.ensures.1)
    (beside_fails c.in_ok-declarations.declarations _ c.in_err-constraints.field-0.0
    (rw (sym (behind_them c.args.items.now c.in_ok-declarations.declarations c.len.result c.len.ensures)) c.in_err-constraints.ensures)) in
    let p = err_from_is_err_and c.from_residual-in_err-constraints.result c.from_residual-in_err-constraints.ensures.1 in
    rw (p.1, p.2) failed
