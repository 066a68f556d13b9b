-- What the code's values stand for.
use Rattle.ms_made.specs.Constraining as c
use Rattle.ms_making.specs.declared.constraints.Constraints.{Constraints}

abbrev pub constraints_of : Constraints → c.Constraints
constraints_of k = record { trees = k.trees.items; nodes = k.nodes }
