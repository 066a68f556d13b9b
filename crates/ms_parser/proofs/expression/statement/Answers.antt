use Rattle.std.proofs.Common.{sym, subst}
use Rattle.ms_syntax.specs.Tree.{ex_view}
use Rattle.ms_syntax.specs.Grammar.{Writes}
use Rattle.ms_parser.proofs.Accepted.{within, answered}
use Rattle.ms_parser.proofs.Answered.{Answered}
use Rattle.ms_parser.proofs.expression.statement.Goals as goal

pub answer-requires : goal.answer-requires
answer-requires c = within c.args.tokens.now c.whole_statement.result c.whole_statement.ensures

pub returns : goal.returns
returns c =
    let all = subst (Answered ex_view Writes c.args.tokens.now) (sym c.answer.ensures) (answered c.args.tokens.now c.whole_statement.result c.whole_statement.ensures) in
    record { found = all.found; only = all.only; syntax = all.syntax_found; syntax_given = all.syntax_given; deep = all.deep_found; deep_given = all.deep_given }
