use Rattle.std.proofs.Common.{◌≡◌, sym, ◌∙◌, ap, drop}
use Rattle.ms_syntax.specs.Form.{byte_at}
use Rattle.ms_lexer.proofs.Fronts.{form_symbol, ne_eqb, others_are}
use Rattle.ms_lexer.proofs.form.form.Goals as goal

pub returns-clause-form : goal.returns-clause-form
returns-clause-form c =
    let second : c.byte_at-c.result ≡ byte_at (drop 1 c.args.bytes.now) 0 = c.byte_at-c.ensures.value ∙ ap (λ r. byte_at r 0) (others_are c.args.bytes.now) in
    let third : c.byte_at.result ≡ byte_at (drop 1 c.args.bytes.now) 1 = c.byte_at.ensures.value ∙ ap (λ r. byte_at r 1) (others_are c.args.bytes.now) in
    form_symbol c.args.bytes.now _ c.requires.more (sym c.is_white.ensures ∙ c.if-is_white.false) (ne_eqb _ 37 c.if-b-eq37.false)
    (sym c.is_letter.ensures ∙ c.if-is_letter.false) (sym c.is_digit.ensures ∙ c.if-is_digit.false) (ne_eqb _ 34 c.if-b-eq34.false)
    (rw (← second) (sym c.opens_comment.ensures ∙ c.if-opens_comment.false))
    (rw (← second, ← third) c.in_ok-token-4.ensures.form)
