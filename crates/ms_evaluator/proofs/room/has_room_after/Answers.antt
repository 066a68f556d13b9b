use Rattle.std.proofs.Common.{sym, ◌∙◌, ap}
use Rattle.ms_trees.specs.Enclosure.{room_from}
use Rattle.ms_evaluator.proofs.Turns.{no_range}
use Rattle.ms_evaluator.proofs.room.has_room_after.Goals as goal

pub returns-in-None : goal.returns-in-None
returns-in-None c = sym (ap (room_from c.args.parts.now) c.in-None.is ∙ no_range c.args.parts.now c.args.parts.now)
