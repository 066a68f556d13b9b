use Rattle.ms_trees.proofs.Apart.{ends_decide}
use Rattle.ms_trees.proofs.laws.room_law.Goals as goal

pub returns : goal.returns
returns c = ends_decide
