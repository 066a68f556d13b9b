use Rattle.std.proofs.Common.{◌∙◌, ◌++◌, ◌∷◌, [], ap, map, subst, Vec, Global}
use Rattle.std.proofs.lemmas.Result.{err_from_is_err_and}
use Rattle.ms_cursor.specs.Reading.{many, grown}
use Rattle.ms_cursor.specs.Reads.{Reads}
use Rattle.ms_expressions.proofs.Separated.{after_first, first_fails, some_read}
use Rattle.ms_expressions.proofs.grammar.Grammar.separated.Goals as goal

pub returns-clause-reads : goal.returns-clause-reads
returns-clause-reads g c =
    let f = g.M.Mark.matches c.args.mark in
    let p = g.T.Part.rule c.args.self.now in
    let x = c.in_ok-read.field-0 in
    let rest = many f (λ a y. p) c.read.new.tokens in
    subst (λ o. Reads (λ (v : Vec g.row.T.Denot Global). map g.T.Part.view v.items) o c.more.result c.more.new.tokens)
    (ap (λ v. grown (map g.T.Part.view v) rest) (c.in_ok-push.ensures.items ∙ ap (λ v. v ++ x ∷ []) c.new-found.ensures.items)
    ∙ after_first f p c.args.tokens.now (g.T.Part.view x) c.read.new.tokens c.in_ok-read.ensures) c.more.ensures

pub returns-clause-some : goal.returns-clause-some
returns-clause-some g c =
    some_read g.T.Part.view (many (g.M.Mark.matches c.args.mark) (λ a y. g.T.Part.rule c.args.self.now) c.read.new.tokens) c.push.new.self.items c.new-found.result.items c.in_ok-read.field-0 c.in_ok-push.ensures.items c.more.result c.more.new.tokens c.more.ensures

pub returns-in_err-read-clause-reads : goal.returns-in_err-read-clause-reads
returns-in_err-read-clause-reads g c =
    let failed = first_fails (g.M.Mark.matches c.args.mark) (g.T.Part.rule c.args.self.now) c.args.tokens.now c.in_err-read.field-0.0 c.in_err-read.ensures in
    let p = err_from_is_err_and c.from_residual.result c.from_residual.ensures.1 in
    rw (p.1, p.2) failed
