use Rattle.std.proofs.Common.{◌-◌, sym, ap, ◌∙◌, subst, arith}
use Rattle.ms_syntax.specs.Tree.{ex_view}
use Rattle.ms_cursor.specs.Reading.{bad}
use Rattle.ms_cursor.specs.Reads.{Reads}
use Rattle.ms_expressions.proofs.Depth.{under_none, under_step}
use Rattle.ms_expressions.proofs.recursion.+expr.Goals as goal

pub returns-then-depth-eq0 : goal.returns-then-depth-eq0
returns-then-depth-eq0 t c = under_none c.args.depth c.args.reach c.args.tokens.now (omega arith) ∙ ap bad (sym c.left.ensures)

pub returns : goal.returns
returns t c = subst (λ o. Reads ex_view o c.reads.result c.reads.new.tokens) (sym (under_step c.args.depth (c.args.depth - 1) c.args.reach c.args.tokens.now (omega arith))) c.reads.ensures
