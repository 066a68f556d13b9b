use Rattle.std.proofs.Common.{map}
use Rattle.ms_syntax.specs.Tree.{item_view, names_view}
use Rattle.ms_declarations.proofs.Twices.{same_answer}
use Rattle.ms_declarations.proofs.items.declared_names.Goals as goal

pub returns : goal.returns
returns c = same_answer (map item_view c.args.items.now) (names_view c.in_ok-types.types) c.in_ok-types.ensures names_view c.declare_items.result c.declare_items.ensures
