use Rattle.std.proofs.Common.{◌≡◌, ◌<◌, ℕ, [], length, get_or, map}
use Rattle.ms_order.specs.Finding.{IsRow, Rests}
use Rattle.ms_order.proofs.finder.rows.Given as goal

abbrev pub invariant-loop-node : goal.invariant-loop-node
invariant-loop-node l = record {
  rests : Rests (map (λ v. v.items) l.graph) l.node l.finder;
  size : length l.rows.items ≡ l.node;
  rows : (a : ℕ) → a < l.node → IsRow (map (λ v. v.items) l.graph) l.flags a (get_or (map (λ v. v.items) l.rows.items) a []);
}
