use Rattle.std.proofs.Common.{map, subst, sym, Vec, Global}
use Rattle.ms_syntax.specs.declared.token.Symbol.TheVariants as s
use Rattle.ms_syntax.specs.declared.tree.Row.{Row}
use Rattle.ms_syntax.specs.Tree.{row_view, rows_of}
use Rattle.ms_cursor.specs.Kinds.{symbol}
use Rattle.ms_cursor.specs.Reading.{separated}
use Rattle.ms_cursor.specs.Reads.{Reads}
use Rattle.ms_expressions.specs.Rules.{under, list}
use Rattle.ms_expressions.proofs.Separated.{rows_are, reads_as}
use Rattle.ms_expressions.proofs.grammar.Grammar.rows.Goals as goal

pub returns : goal.returns
returns g c =
    let d = c.args.self.now.depth in
    subst (λ o. Reads (λ (v : Vec Row Global). rows_of (map row_view v.items)) o c.separated.result c.separated.new.tokens) (sym (rows_are (under d) c.args.tokens.now))
    (reads_as (λ (v : Vec Row Global). map row_view v.items) rows_of (separated (symbol s.Bar) (list (under d)) c.args.tokens.now) c.separated.result c.separated.new.tokens c.separated.ensures.reads)
