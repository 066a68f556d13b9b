use Rattle.std.proofs.Common.{map, subst, sym, Vec, Global}
use Rattle.ms_syntax.specs.declared.token.Symbol.TheVariants as s
use Rattle.ms_syntax.specs.declared.tree.Expr.{Expr}
use Rattle.ms_syntax.specs.Tree.{ex_view, exs_of}
use Rattle.ms_expressions.specs.declared.reach.Reach.TheVariants as reach
use Rattle.ms_cursor.specs.Kinds.{symbol}
use Rattle.ms_cursor.specs.Reading.{separated}
use Rattle.ms_cursor.specs.Reads.{Reads}
use Rattle.ms_expressions.specs.Rules.{under}
use Rattle.ms_expressions.proofs.Separated.{list_is, reads_as}
use Rattle.ms_expressions.proofs.grammar.Grammar.list.Goals as goal

pub returns : goal.returns
returns g c =
    let d = c.args.self.now.depth in
    subst (λ o. Reads (λ (v : Vec Expr Global). exs_of (map ex_view v.items)) o c.separated.result c.separated.new.tokens) (sym (list_is (under d) c.args.tokens.now))
    (reads_as (λ (v : Vec Expr Global). map ex_view v.items) exs_of (separated (symbol s.Comma) (under d reach.Any) c.args.tokens.now) c.separated.result c.separated.new.tokens c.separated.ensures.reads)
