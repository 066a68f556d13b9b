use Rattle.std.proofs.Common.{◌≡◌, map, take}
use Rattle.ms_rules.specs.Cells as c
use Rattle.ms_rules.proofs.cells.bit_leaves.Given as goal

abbrev pub invariant-loop-truth : goal.invariant-loop-truth
invariant-loop-truth l = l.trees ≡ map c.bit_leaf (take l.truth-index l.truths)
