use Rattle.ms_graph.specs.Search.{IsSearch, Stays, left}
use Rattle.ms_graph.proofs.graph.Search.walk_on.Given as goal

abbrev pub invariant-loop-place : goal.invariant-loop-place
invariant-loop-place l = record {
  search : IsSearch l.graph l.self;
  stays : Stays l.initial.self l.self;
}

abbrev pub decreases-loop-place : goal.decreases-loop-place
decreases-loop-place l = left l.graph l.self
