use Rattle.std.proofs.Common.{suc, subst}
use Rattle.ms_syntax.specs.Tree.{kind_view, declaration_view}
use Rattle.ms_cursor.specs.Reads.{Reads}
use Rattle.ms_expressions.specs.Rules.{under}
use Rattle.ms_expressions.proofs.Declared.{as_declared}
use Rattle.ms_expressions.proofs.grammar.Grammar.declaration.Goals as goal

pub returns : goal.returns
returns g c =
    let d = c.args.self.now.depth in
    subst (λ o. Reads declaration_view o c.declared.result c.declared.new.tokens)
    (as_declared d (under (suc d)) (under d) c.args.tokens.now c.kind.new.tokens (kind_view c.in_ok-kind.kind) c.place-place.result c.place-place.ensures c.in_ok-kind.ensures) c.declared.ensures
