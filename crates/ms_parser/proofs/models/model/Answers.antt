use Rattle.std.proofs.Common.{sym, subst}
use Rattle.ms_syntax.specs.Tree.{tree_view}
use Rattle.ms_syntax.specs.Grammar.{WritesTree}
use Rattle.ms_parser.proofs.Modeled.{within, answered}
use Rattle.ms_parser.proofs.Answered.{Answered}
use Rattle.ms_parser.proofs.models.model.Goals as goal

pub answer-requires : goal.answer-requires
answer-requires c = within c.args.tokens.now c.whole_model.result c.whole_model.ensures

pub returns : goal.returns
returns c =
    let all = subst (Answered tree_view WritesTree c.args.tokens.now) (sym c.answer.ensures) (answered c.args.tokens.now c.whole_model.result c.whole_model.ensures) in
    record { found = all.found; only = all.only; syntax = all.syntax_found; syntax_given = all.syntax_given; deep = all.deep_found; deep_given = all.deep_given }
