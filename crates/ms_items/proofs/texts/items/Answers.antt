use Rattle.std.proofs.Common.{map, subst, sym}
use Rattle.ms_syntax.specs.Tree.{item_view}
use Rattle.ms_names.specs.Worlds.{world_view}
use Rattle.ms_typing.specs.Least.{Typing}
use Rattle.ms_elaborator.specs.Answers.{TellsOf}
use Rattle.ms_items.proofs.Walked.{items_walked}
use Rattle.ms_items.proofs.texts.items.Goals as goal

pub returns-clause-typing : goal.returns-clause-typing
returns-clause-typing c =
    subst (λ (r : Typing (Unit {0})). TellsOf (λ a. tt) r c.walk_items.result) (sym (items_walked (world_view c.args.world.now) (map item_view c.args.list.now)))
    c.walk_items.ensures.typing
