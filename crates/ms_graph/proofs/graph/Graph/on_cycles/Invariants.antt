use Rattle.std.proofs.Common.{◌≡◌, ℕ, ◌<◌, length}
use Rattle.ms_graph.specs.declared.graph.Mark.TheVariants.{New}
use Rattle.ms_graph.specs.Search.{IsSearch, mark_of}
use Rattle.ms_graph.proofs.graph.Graph.on_cycles.Given as goal

abbrev pub invariant-loop-node : goal.invariant-loop-node
invariant-loop-node l = record {
  search : IsSearch l.self l.search;
  idle : length l.search.path.items ≡ 0;
  met : (a : ℕ) → a < l.node → mark_of l.search a ≡ New → ⊥;
}
