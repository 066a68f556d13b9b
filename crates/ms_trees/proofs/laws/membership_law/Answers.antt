use Rattle.ms_trees.proofs.Outside.{sets_meet, sets_hold}
use Rattle.ms_trees.proofs.laws.membership_law.Goals as goal

pub returns-clause-shared : goal.returns-clause-shared
returns-clause-shared c = sets_meet

pub returns-clause-outside : goal.returns-clause-outside
returns-clause-outside c = sets_hold
