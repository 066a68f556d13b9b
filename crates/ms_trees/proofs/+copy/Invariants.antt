use Rattle.std.proofs.Common.{◌≡◌, take}
use Rattle.ms_trees.proofs.+copy.Given as goal

abbrev pub invariant-copies::copy_trees-loop-part : goal.invariant-copies::copy_trees-loop-part
invariant-copies::copy_trees-loop-part l = l.all ≡ take l.part-index l.parts
