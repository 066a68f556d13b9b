use Rattle.ms_syntax.specs.Tree.{tree_view}
use Rattle.ms_top.specs.Typing.{IsTextOf}
use Rattle.ms_top.proofs.Refusing.{tree_accepted, tree_refused}
use Rattle.ms_top.proofs.accept.model_of.Goals as goal

text : (c : goal.After-tree_model) → IsTextOf (tree_view c.in_ok-tree.tree) c.args.bytes.now
text c = (c.args.tokens.now, c.requires.tokens, c.in_ok-tree.ensures.tree)

pub returns-clause-accepted : goal.returns-clause-accepted
returns-clause-accepted c = tree_accepted c.args.bytes.now (tree_view c.in_ok-tree.tree) c.requires.short (text c) c.tree_model.result c.tree_model.ensures.typed c.tree_model.ensures.plain

pub returns-clause-refused : goal.returns-clause-refused
returns-clause-refused c = tree_refused c.args.bytes.now (tree_view c.in_ok-tree.tree) c.requires.short (text c) c.tree_model.result c.tree_model.ensures.refused
