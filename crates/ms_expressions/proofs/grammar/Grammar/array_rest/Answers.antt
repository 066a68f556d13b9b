use Rattle.std.proofs.Common.{◌≡◌, List, [], ◌∷◌, ◌++◌, map, subst, sym, ap, ◌∙◌}
use Rattle.std.proofs.lemmas.Result.{err_from_is_err_and}
use Rattle.ms_syntax.specs.declared.token.Symbol.TheVariants as s
use Rattle.ms_syntax.specs.Tree.{Ex, ex_view}
use Rattle.ms_expressions.specs.declared.reach.Reach.TheVariants as reach
use Rattle.ms_cursor.specs.Kinds.{symbol}
use Rattle.ms_cursor.specs.Reading.{Out, ok, many, grown}
use Rattle.ms_cursor.specs.Reads.{Fails}
use Rattle.ms_expressions.specs.Rules.{under}
use Rattle.ms_expressions.proofs.Views.{as_empty, as_array}
use Rattle.ms_expressions.proofs.Where.{array_empty, array_goes_on, until_fails, until_open, until_closed}
use Rattle.ms_expressions.proofs.grammar.Grammar.array_rest.Goals as goal

pub returns-then-takes : goal.returns-then-takes
returns-then-takes g c =
    array_empty (under c.args.self.now.depth) c.args.place c.args.tokens.now c.takes.new.self c.takes.result c.takes.ensures.taken c.if-takes.true c.takes.ensures.rest
    ∙ ap (λ v. ok v c.takes.new.self) (as_empty c.args.place c.new.result c.new.ensures.items)

pub returns-in_err-found : goal.returns-in_err-found
returns-in_err-found g c =
    let inner = under c.args.self.now.depth in
    let others = many (symbol s.Comma) (λ a y. inner reach.Any) c.takes-2.new.self in
    let found : Out (List Ex) = grown (map ex_view c.push.new.self.items) others in
    let first : found ≡ grown (ex_view c.in_ok-first.first ∷ []) others =
    ap (λ v. grown (map ex_view v) others) (c.in_ok-push.ensures.items ∙ ap (λ v. v ++ c.in_ok-first.first ∷ []) c.new-found.ensures.items) in
    let went = array_goes_on c.args.place inner c.args.tokens.now c.takes.new.self c.any.new.tokens c.takes-2.new.self c.takes.result c.takes-2.result (ex_view c.in_ok-first.first) found
    c.takes.ensures.taken c.takes.ensures.rest c.if-takes.false c.in_ok-first.ensures c.takes-2.ensures.taken c.takes-2.ensures.rest c.if-takes-2.false first in
    let failed = subst (λ o. Fails o c.in_err-found.field-0.0) (sym went) (until_fails c.args.place found c.in_err-found.field-0.0 c.in_err-found.ensures) in
    let p = err_from_is_err_and c.from_residual-in_err-found.result c.from_residual-in_err-found.ensures.1 in
    rw (p.1, p.2) failed

pub returns-in_err-expect : goal.returns-in_err-expect
returns-in_err-expect g c =
    let inner = under c.args.self.now.depth in
    let others = many (symbol s.Comma) (λ a y. inner reach.Any) c.takes-2.new.self in
    let found : Out (List Ex) = grown (map ex_view c.push.new.self.items) others in
    let first : found ≡ grown (ex_view c.in_ok-first.first ∷ []) others =
    ap (λ v. grown (map ex_view v) others) (c.in_ok-push.ensures.items ∙ ap (λ v. v ++ c.in_ok-first.first ∷ []) c.new-found.ensures.items) in
    let went = array_goes_on c.args.place inner c.args.tokens.now c.takes.new.self c.any.new.tokens c.takes-2.new.self c.takes.result c.takes-2.result (ex_view c.in_ok-first.first) found
    c.takes.ensures.taken c.takes.ensures.rest c.if-takes.false c.in_ok-first.ensures c.takes-2.ensures.taken c.takes-2.ensures.rest c.if-takes-2.false first in
    let failed = subst (λ o. Fails o c.in_err-expect.field-0.0) (sym went)
    (until_open c.args.place found (map ex_view c.in_ok-found.found.items) c.more.new.tokens c.in_err-expect.field-0.0 c.in_ok-found.ensures c.in_err-expect.ensures) in
    let p = err_from_is_err_and c.from_residual-in_err-expect.result c.from_residual-in_err-expect.ensures.1 in
    rw (p.1, p.2) failed

pub returns : goal.returns
returns g c =
    let inner = under c.args.self.now.depth in
    let others = many (symbol s.Comma) (λ a y. inner reach.Any) c.takes-2.new.self in
    let found : Out (List Ex) = grown (map ex_view c.push.new.self.items) others in
    let first : found ≡ grown (ex_view c.in_ok-first.first ∷ []) others =
    ap (λ v. grown (map ex_view v) others) (c.in_ok-push.ensures.items ∙ ap (λ v. v ++ c.in_ok-first.first ∷ []) c.new-found.ensures.items) in
    let went = array_goes_on c.args.place inner c.args.tokens.now c.takes.new.self c.any.new.tokens c.takes-2.new.self c.takes.result c.takes-2.result (ex_view c.in_ok-first.first) found
    c.takes.ensures.taken c.takes.ensures.rest c.if-takes.false c.in_ok-first.ensures c.takes-2.ensures.taken c.takes-2.ensures.rest c.if-takes-2.false first in
    went ∙ until_closed c.args.place found (map ex_view c.in_ok-found.found.items) c.more.new.tokens c.expect.new.self (tt, c.in_ok-expect.field-0.now) c.in_ok-found.ensures c.in_ok-expect.ensures
    ∙ ap (λ v. ok v c.expect.new.self) (as_array c.args.place c.in_ok-found.found)
