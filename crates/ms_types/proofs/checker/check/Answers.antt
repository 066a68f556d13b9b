use Rattle.ms_syntax.specs.Tree.{tree_view}
use Rattle.ms_types.proofs.Deciding.{fails, succeeds}
use Rattle.ms_types.proofs.checker.check.Goals as goal

pub returns-clause-accepted_given : goal.returns-clause-accepted_given
returns-clause-accepted_given c = succeeds c.one_first_fault.ensures (tree_view c.args.model).0 (tree_view c.args.library).0 c.checked.result c.checked.ensures.verdict

pub returns-clause-refused_given : goal.returns-clause-refused_given
returns-clause-refused_given c = fails c.one_first_fault.ensures (tree_view c.args.model).0 (tree_view c.args.library).0 c.checked.result c.checked.ensures.verdict
