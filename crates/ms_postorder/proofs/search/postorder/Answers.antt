use Rattle.std.proofs.Common.{◌<◌, ◌≤◌, [], length, map, sym, subst}
use Rattle.std.proofs.lemmas.List.{length-map}
use Rattle.ms_postorder.specs.Postorder.{ComeAll, nodes_from}
use Rattle.ms_postorder.proofs.Moves.{next_node, no_node}
use Rattle.ms_postorder.proofs.search.postorder.Goals as goal

pub loop-node-init : goal.loop-node-init
loop-node-init c =
    let g = map (λ v. v.items) c.args.graph.now in
    record {
      search = c.in_ok-search.ensures.search g c.requires (length-map c.args.graph.now (λ v. v.items));
      idle = c.in_ok-search.ensures.idle;
      come = λ after h. subst (λ o. ComeAll g [] o (nodes_from 0 g) after) c.in_ok-search.ensures.order h;
    }

pub loop-node-preserved : goal.loop-node-preserved
loop-node-preserved c =
    let g = map (λ v. v.items) c.args.graph.now in
    let s = c.in_ok-search_from.ensures in
    let less : c.loop-node.node < length g = subst (λ n. c.loop-node.node < n) (sym (length-map c.args.graph.now (λ v. v.items))) c.loop-node-test.true in
    record {
      search = s.search;
      idle = s.idle;
      come = λ after h. c.loop-node.invariant.come after
          (next_node g c.loop-node.node c.loop-node.search.order.items c.search_from.new.self.order.items after less s.come h);
    }

pub returns : goal.returns
returns c =
    let g = map (λ v. v.items) c.args.graph.now in
    let past : length g ≤ c.loop-node.node = subst (λ n. n ≤ c.loop-node.node) (sym (length-map c.args.graph.now (λ v. v.items))) c.loop-node-test.false in
    c.loop-node.invariant.come c.loop-node.search.order.items (no_node g c.loop-node.node c.loop-node.search.order.items past)
