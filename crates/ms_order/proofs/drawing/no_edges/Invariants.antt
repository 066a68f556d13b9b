use Rattle.std.proofs.Common.{◌≡◌, [], map, replicate}
use Rattle.ms_order.proofs.drawing.no_edges.Given as goal

abbrev pub invariant-loop : goal.invariant-loop
invariant-loop l = map (λ v. v.items) l.graph.items ≡ replicate (l.counter) []
