use Rattle.std.proofs.Common.{◌≡◌, take, map}
use Rattle.ms_top.specs.Solution.{comparison_tree}
use Rattle.ms_top.proofs.trees.trees_of.Given as goal

abbrev pub invariant-loop-comparison : goal.invariant-loop-comparison
invariant-loop-comparison l = l.trees.items ≡ map (comparison_tree l.declarations) (take l.comparison-index l.comparisons)
