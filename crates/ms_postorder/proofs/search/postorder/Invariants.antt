use Rattle.std.proofs.Common.{◌≡◌, ℕ, List, [], map, drop}
use Rattle.ms_postorder.specs.Postorder.{ComeAll, IsPostorder, nodes_from}
use Rattle.ms_postorder.specs.Stacks.{IsSearch}
use Rattle.ms_postorder.proofs.search.postorder.Given as goal

abbrev pub invariant-loop-node : goal.invariant-loop-node
invariant-loop-node l = record {
  search : IsSearch (map (λ v. v.items) l.graph) l.search;
  idle : l.search.waiting.items ≡ [];
  come : (after : List ℕ) → ComeAll (map (λ v. v.items) l.graph) [] l.search.order.items
      (nodes_from l.node (drop l.node (map (λ v. v.items) l.graph))) after → IsPostorder (map (λ v. v.items) l.graph) after;
}
