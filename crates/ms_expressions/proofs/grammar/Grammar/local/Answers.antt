use Rattle.std.proofs.Common.{map, ap, ◌∙◌}
use Rattle.ms_syntax.specs.Tree.{ex_view, declaration_view}
use Rattle.ms_cursor.specs.Reading.{ok}
use Rattle.ms_expressions.specs.Rules.{under, inmost}
use Rattle.ms_expressions.proofs.Views.{as_let}
use Rattle.ms_expressions.proofs.Entered.{let_read}
use Rattle.ms_expressions.proofs.grammar.Grammar.local.Goals as goal

pub returns : goal.returns
returns g c =
    let d = c.args.self.now.depth in
    let_read d (under d) (inmost d) c.args.place c.args.tokens.now c.enter.new.tokens c.locals_inside.new.tokens c.expect.new.self c.up_to.new.tokens (tt, c.in_ok-enter.field-0.now) (tt, c.in_ok-expect.field-0.now)
    (map declaration_view c.in_ok-locals.locals.items, c.in_ok-locals.closed) (ex_view c.in_ok-body.body) c.in_ok-enter.ensures c.in_ok-locals.ensures c.in_ok-expect.ensures c.in_ok-body.ensures
    ∙ ap (λ v. ok v c.up_to.new.tokens) (as_let c.args.place c.in_ok-locals.locals c.in_ok-locals.closed c.in_ok-body-2.body c.in_ok-body.body (c.in_ok-body-2.ensures {u = tt {0}}).ok)
