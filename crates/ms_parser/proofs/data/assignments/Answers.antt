use Rattle.std.proofs.Common.{sym, subst}
use Rattle.ms_syntax.specs.Tree.{assignments_view}
use Rattle.ms_syntax.specs.Grammar.{WritesPairs}
use Rattle.ms_parser.proofs.Assigned.{within, answered}
use Rattle.ms_parser.proofs.Answered.{Answered}
use Rattle.ms_parser.proofs.data.assignments.Goals as goal

pub answer-requires : goal.answer-requires
answer-requires c = within c.args.tokens.now c.whole_data.result c.whole_data.ensures

pub returns : goal.returns
returns c =
    let all = subst (Answered assignments_view WritesPairs c.args.tokens.now) (sym c.answer.ensures) (answered c.args.tokens.now c.whole_data.result c.whole_data.ensures) in
    record { found = all.found; only = all.only; syntax = all.syntax_found; syntax_given = all.syntax_given; deep = all.deep_found; deep_given = all.deep_given }
