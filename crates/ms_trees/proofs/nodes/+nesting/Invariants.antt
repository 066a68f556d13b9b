use Rattle.std.proofs.Common.{◌≡◌, ◌≤◌, ◌-◌, ◌^◌, min, map, drop, max}
use Rattle.ms_trees.specs.Size.{nesting_of, deepest}
use Rattle.ms_trees.proofs.nodes.+nesting.Given as goal

abbrev pub invariant-deepest_of-loop-part : goal.invariant-deepest_of-loop-part
invariant-deepest_of-loop-part l = record {
  most : l.most ≤ 2 ^ 64 - 1;
  rest : min (max l.most (deepest (map nesting_of (drop l.part-index l.parts)))) (2 ^ 64 - 1) ≡ min (deepest (map nesting_of l.parts)) (2 ^ 64 - 1);
}
