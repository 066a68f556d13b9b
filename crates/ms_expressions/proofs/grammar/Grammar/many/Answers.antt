use Rattle.std.proofs.Common.{◌∙◌, ap, map, subst, Vec, Global}
use Rattle.ms_cursor.specs.Reading.{many, grown}
use Rattle.ms_cursor.specs.Reads.{Reads}
use Rattle.ms_expressions.proofs.Loops.{grown_none}
use Rattle.ms_expressions.proofs.grammar.Grammar.many.Goals as goal

pub returns : goal.returns
returns g c =
    let all = many (g.M.Mark.matches c.args.mark) (λ a y. g.T.Part.rule c.args.self.now) c.args.tokens.now in
    subst (λ o. Reads (λ (v : Vec g.row.T.Denot Global). map g.T.Part.view v.items) o c.more.result c.more.new.tokens) (ap (λ v. grown (map g.T.Part.view v) all) c.new.ensures.items ∙ grown_none all) c.more.ensures
