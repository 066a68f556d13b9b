use Rattle.std.proofs.Common.{map}
use Rattle.ms_syntax.specs.Tree.{item_view}
use Rattle.ms_names.specs.Worlds.{world_view}
use Rattle.ms_types.proofs.Deciding.{types_found}
use Rattle.ms_types.proofs.checker.check_types.Goals as goal

pub returns-clause-typing : goal.returns-clause-typing
returns-clause-typing c = types_found _ (map item_view c.args.model.now) (map item_view c.args.library.now) (world_view c.args.world.now) c.check_items.result c.check_items.ensures.typing
