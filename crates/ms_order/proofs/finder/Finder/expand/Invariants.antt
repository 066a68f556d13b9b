use Rattle.std.proofs.Common.{◌≡◌, ◌<◌, ◌≤◌, ℕ, Some, map}
use Rattle.std.specs.Prelude.{slice_get}
use Rattle.ms_order.specs.Finding.{FindsBut, Inner, Seen, left}
use Rattle.ms_order.proofs.finder.Finder.expand.Given as goal

abbrev pub invariant-loop-target : goal.invariant-loop-target
invariant-loop-target l = record {
  finds : FindsBut (map (λ v. v.items) l.graph) l.flags l.start l.node l.self;
  inner : Inner l.flags l.start l.self l.node;
  turn : l.self.turn ≡ l.initial.self.turn;
  falls : left l.self ≤ left l.initial.self;
  done : (k b : ℕ) → k < l.target-index → slice_get l.target-items k ≡ Some b → Seen l.self b;
}
