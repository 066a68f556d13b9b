use Rattle.std.proofs.Common.{rules, ◌∙◌, ◌++◌, ap, sym, append_assoc, refl, add-one, take, get_or, to_z, of_z, w64, to_z-of_z}
use Rattle.std.specs.Prelude.{ℤ, pos}
use mir.Val.{SFits}
use Rattle.ms_top.specs.Text.{variable_line, variable_lines}
use Rattle.ms_top.proofs.TextLemmas.{lines_more}
use Rattle.ms_top.proofs.text.push_variables.Goals as goal

pub loop-i-preserved : goal.loop-i-preserved
loop-i-preserved c =
    let z : ℤ = get_or c.args.point.now c.loop-i.i (pos 0) in
    let fits : SFits w64 z = search rules in
    let before = variable_lines (take c.loop-i.i c.args.declarations.now) c.args.point.now in
    c.in_ok-push_variable.ensures
    ∙ ap (λ n. c.loop-i.text.items ++ variable_line n (to_z w64 (of_z w64 z))) c.as_slice.ensures
    ∙ ap (λ v. c.loop-i.text.items ++ variable_line c.index-declarations-i.result.name v) (to_z-of_z fits)
    ∙ ap (λ t. t ++ variable_line c.index-declarations-i.result.name z) c.loop-i.invariant
    ∙ append_assoc c.args.text.now.items before (variable_line c.index-declarations-i.result.name z)
    ∙ ap (λ t. c.args.text.now.items ++ t)
    (sym (rw add-one (lines_more c.args.declarations.now c.args.point.now c.loop-i.i c.index-declarations-i.result z (pos 0) c.loop-i-test.true c.requires c.index-declarations-i.is refl)))
