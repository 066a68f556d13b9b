use Rattle.ms_trees.proofs.Selections.{selection_one, selection_none}
use Rattle.ms_trees.proofs.laws.selection_law.Goals as goal

pub returns-clause-one : goal.returns-clause-one
returns-clause-one c = selection_one

pub returns-clause-none : goal.returns-clause-none
returns-clause-none c = selection_none
