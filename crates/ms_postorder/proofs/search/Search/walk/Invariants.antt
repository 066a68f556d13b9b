use Rattle.std.proofs.Common.{ℕ, List, map}
use Rattle.ms_postorder.specs.Stacks.{Finish, IsSearch, left, stack}
use Rattle.ms_postorder.proofs.search.Search.walk.Given as goal

abbrev pub invariant-loop-frame : goal.invariant-loop-frame
invariant-loop-frame l = record {
  search : IsSearch (map (λ v. v.items) l.graph) l.self;
  finishes : (after : List ℕ) → Finish (map (λ v. v.items) l.graph) (stack l.self) l.self.order.items after
      → Finish (map (λ v. v.items) l.graph) (stack l.initial.self) l.initial.self.order.items after;
}

abbrev pub decreases-loop-frame : goal.decreases-loop-frame
decreases-loop-frame l = left (map (λ v. v.items) l.graph) l.self.seen.items (stack l.self)
