use Rattle.std.proofs.Common.{map, subst, sym, Vec, Global}
use Rattle.ms_syntax.specs.declared.tree.Binder.{Binder}
use Rattle.ms_syntax.specs.Tree.{binder_view}
use Rattle.ms_cursor.specs.Reads.{Reads}
use Rattle.ms_expressions.proofs.Separated.{names_are}
use Rattle.ms_expressions.proofs.grammar.Grammar.names.Goals as goal

pub returns-clause-reads : goal.returns-clause-reads
returns-clause-reads g c = subst (λ o. Reads (λ (v : Vec Binder Global). map binder_view v.items) o c.separated.result c.separated.new.tokens) (sym (names_are c.args.tokens.now)) c.separated.ensures.reads
