use Rattle.ms_syntax.specs.Tree.{tree_view}
use Rattle.ms_top.proofs.Refusing.{type_refused}
use Rattle.ms_top.proofs.accept.tree_model.Goals as goal

pub returns-in-Err-clause-refused : goal.returns-in-Err-clause-refused
returns-in-Err-clause-refused c = type_refused (tree_view c.args.tree) (tree_view c.library.result).0 c.in-Err.fault c.type_refusal.result c.library.ensures c.type_refusal.ensures (c.check.ensures.refused c.in-Err.fault c.in-Err.is)
