use Rattle.std.proofs.Common.{◌≡◌, ◌≤◌, ◌+◌, drop}
use Rattle.ms_trees.specs.Value.{how_many}
use Rattle.ms_trees.specs.Enclosure.{compare_intervals, same_single}
use Rattle.ms_trees.specs.declared.tree.Enclosure.{Enclosure}
use Rattle.ms_evaluator.proofs.lists.certain.Given as goal

abbrev pub invariant-loop-part : goal.invariant-loop-part
invariant-loop-part l = record {
  count : l.count + how_many (λ (x : Enclosure). compare_intervals same_single x.interval l.fn.y.interval) (drop l.part-index l.parts) ≡ how_many (λ (x : Enclosure). compare_intervals same_single x.interval l.fn.y.interval) l.parts;
  few : l.count ≤ l.part-index;
}
