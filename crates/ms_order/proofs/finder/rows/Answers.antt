use Rattle.std.proofs.Common.{◌<◌, ◌+◌, ◌∷◌, ℕ, [], length, map, get_or, sym, ap, subst, ◌∙◌, arith}
use Rattle.std.proofs.lemmas.List.{length-append, length-map}
use Rattle.ms_order.specs.Finding.{IsRow}
use Rattle.ms_order.proofs.Closing.{next_row}
use Rattle.ms_order.proofs.finder.rows.Goals as goal

pub loop-node-init : goal.loop-node-init
loop-node-init c = record {
  rests = c.in_ok-finder.ensures (map (λ v. v.items) c.args.graph.now) c.requires.leads (length-map c.args.graph.now (λ v. v.items));
  size = ap length c.new-rows.ensures.items;
  rows = λ a less. absurd (omega arith);
}

pub loop-node-preserved : goal.loop-node-preserved
loop-node-preserved c =
    let g = map (λ v. v.items) c.args.graph.now in
    let h = c.loop-node.invariant in
    record {
      rests = c.in_ok-row.ensures.rests;
      size = ap length c.in_ok-push.ensures.items ∙ length-append c.loop-node.rows.items (c.in_ok-row.field-0 ∷ []) ∙ ap (λ n. n + 1) h.size;
      rows = subst (λ xs. (a : ℕ) → a < c.loop-node.node + 1 → IsRow g c.args.flags.now a (get_or (map (λ v. v.items) xs) a [])) (sym c.in_ok-push.ensures.items)
          (next_row (λ v. v.items) g c.args.flags.now c.loop-node.rows.items c.loop-node.node c.in_ok-row.field-0 h.size h.rows c.in_ok-row.ensures.row);
    }
