use Rattle.std.proofs.Common.{map, subst, sym, Vec, Global}
use Rattle.ms_syntax.specs.declared.token.Symbol.TheVariants as s
use Rattle.ms_syntax.specs.declared.tree.Generator.{Generator}
use Rattle.ms_syntax.specs.Tree.{generator_view, gens_of}
use Rattle.ms_cursor.specs.Kinds.{symbol}
use Rattle.ms_cursor.specs.Reading.{separated}
use Rattle.ms_cursor.specs.Reads.{Reads}
use Rattle.ms_expressions.specs.Rules.{under, generator}
use Rattle.ms_expressions.proofs.Separated.{generators_are, reads_as}
use Rattle.ms_expressions.proofs.grammar.Grammar.generators.Goals as goal

pub returns : goal.returns
returns g c =
    let d = c.args.self.now.depth in
    subst (λ o. Reads (λ (v : Vec Generator Global). gens_of (map generator_view v.items)) o c.separated.result c.separated.new.tokens) (sym (generators_are (under d) c.args.tokens.now))
    (reads_as (λ (v : Vec Generator Global). map generator_view v.items) gens_of (separated (symbol s.Comma) (generator (under d)) c.args.tokens.now) c.separated.result c.separated.new.tokens c.separated.ensures.reads)
