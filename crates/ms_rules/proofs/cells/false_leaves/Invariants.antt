use Rattle.std.proofs.Common.{◌≡◌, replicate, false}
use Rattle.ms_tree_nodes.specs.Nodes as n
use Rattle.ms_rules.proofs.cells.false_leaves.Given as goal

abbrev pub invariant-loop : goal.invariant-loop
invariant-loop l = l.trees ≡ replicate l.counter (n.truth_leaf false)
