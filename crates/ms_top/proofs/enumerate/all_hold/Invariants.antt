use Rattle.std.proofs.Common.{◌≡◌, take, true}
use Rattle.ms_top.specs.Solution.{meets}
use Rattle.ms_top.proofs.enumerate.all_hold.Given as goal

abbrev pub invariant-loop-tree : goal.invariant-loop-tree
invariant-loop-tree l = meets (take l.tree-index l.trees) l.point ≡ true
