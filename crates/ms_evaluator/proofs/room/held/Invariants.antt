use Rattle.std.proofs.Common.{◌≡◌, ◌≤◌, ◌+◌, drop}
use Rattle.ms_trees.specs.Value.{how_many}
use Rattle.ms_trees.specs.Enclosure.{test_interval}
use Rattle.ms_trees.specs.declared.tree.Enclosure.{Enclosure}
use Rattle.ms_ground.specs.Room.{lies_in}
use Rattle.ms_evaluator.proofs.room.held.Given as goal

abbrev pub invariant-loop-part : goal.invariant-loop-part
invariant-loop-part l = record {
  count : l.held + how_many (λ (x : Enclosure). test_interval (lies_in l.range) x.interval) (drop l.part-index l.parts) ≡ how_many (λ (x : Enclosure). test_interval (lies_in l.range) x.interval) l.parts;
  few : l.held ≤ l.part-index;
}
