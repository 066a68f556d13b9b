use Rattle.std.proofs.Common.{◌≡◌, map, sym, ap, subst, ◌∙◌}
use Rattle.std.proofs.lemmas.Result.{IfOk-weaker}
use Rattle.ms_syntax.specs.Tree.{item_view}
use Rattle.ms_graph.specs.Graph.{LeadToNodes}
use Rattle.ms_order.specs.Order.{AreNeeds}
use Rattle.ms_order.proofs.Drawn.{graph_leads, graph_of}
use Rattle.ms_order.proofs.Needed.{flags_are, graph_is, needs_lead, needs_made, sizes}
use Rattle.ms_order.proofs.order.order_of.Goals as goal

pub rows-requires-clause-leads : goal.rows-requires-clause-leads
rows-requires-clause-leads c =
    let items = map item_view c.args.items.now in
    let fs = flags_are items c.in_ok-names.names c.in_ok-flags.flags.items c.in_ok-names.ensures c.in_ok-flags.ensures in
    let gs : map (λ v. v.items) c.deref-2.result.now ≡ graph_of items = ap (map (λ v. v.items)) c.deref-2.ensures.value
    ∙ graph_is items c.in_ok-names.names c.deref.result.now _ c.in_ok-names.ensures (c.deref.ensures.value ∙ fs) c.in_ok-graph.ensures in
    subst LeadToNodes (sym gs) (graph_leads items)

pub rows-requires-clause-size : goal.rows-requires-clause-size
rows-requires-clause-size c =
    let items = map item_view c.args.items.now in
    let fs = flags_are items c.in_ok-names.names c.in_ok-flags.flags.items c.in_ok-names.ensures c.in_ok-flags.ensures in
    let gs : map (λ v. v.items) c.deref-2.result.now ≡ graph_of items = ap (map (λ v. v.items)) c.deref-2.ensures.value
    ∙ graph_is items c.in_ok-names.names c.deref.result.now _ c.in_ok-names.ensures (c.deref.ensures.value ∙ fs) c.in_ok-graph.ensures in
    sizes (λ v. v.items) items c.deref-2.result.now c.deref-3.result.now gs (c.deref-3.ensures.value ∙ fs)

pub postorder-requires : goal.postorder-requires
postorder-requires c =
    let items = map item_view c.args.items.now in
    let fs = flags_are items c.in_ok-names.names c.in_ok-flags.flags.items c.in_ok-names.ensures c.in_ok-flags.ensures in
    let gs : map (λ v. v.items) c.deref-2.result.now ≡ graph_of items = ap (map (λ v. v.items)) c.deref-2.ensures.value
    ∙ graph_is items c.in_ok-names.names c.deref.result.now _ c.in_ok-names.ensures (c.deref.ensures.value ∙ fs) c.in_ok-graph.ensures in
    let made = needs_made (λ v. v.items) items c.deref-2.result.now c.in_ok-needs.needs.items c.deref-3.result.now gs (c.deref-3.ensures.value ∙ fs)
    c.in_ok-needs.ensures.size c.in_ok-needs.ensures.rows in
    needs_lead items _ (subst (λ ns. AreNeeds items (map (λ v. v.items) ns)) (sym c.deref-4.ensures.value) made)

pub returns : goal.returns
returns c =
    let items = map item_view c.args.items.now in
    let fs = flags_are items c.in_ok-names.names c.in_ok-flags.flags.items c.in_ok-names.ensures c.in_ok-flags.ensures in
    let gs : map (λ v. v.items) c.deref-2.result.now ≡ graph_of items = ap (map (λ v. v.items)) c.deref-2.ensures.value
    ∙ graph_is items c.in_ok-names.names c.deref.result.now _ c.in_ok-names.ensures (c.deref.ensures.value ∙ fs) c.in_ok-graph.ensures in
    let made = needs_made (λ v. v.items) items c.deref-2.result.now c.in_ok-needs.needs.items c.deref-3.result.now gs (c.deref-3.ensures.value ∙ fs)
    c.in_ok-needs.ensures.size c.in_ok-needs.ensures.rows in
    IfOk-weaker c.postorder.result _ _ (λ order p. record {
      needs = map (λ v. v.items) c.deref-4.result.now;
      are = subst (λ ns. AreNeeds items (map (λ v. v.items) ns)) (sym c.deref-4.ensures.value) made;
      come = p;
    }) c.postorder.ensures
