use Rattle.std.proofs.Common.{◌≡◌, map}
use Rattle.ms_order.specs.Finding.{Finds, left}
use Rattle.ms_order.proofs.finder.Finder.search.Given as goal

abbrev pub invariant-loop-node : goal.invariant-loop-node
invariant-loop-node l = record {
  finds : Finds (map (λ v. v.items) l.graph) l.flags l.start l.self;
  turn : l.self.turn ≡ l.initial.self.turn;
}

abbrev pub decreases-loop-node : goal.decreases-loop-node
decreases-loop-node l = left l.self
