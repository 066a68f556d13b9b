use Rattle.std.proofs.Common.{◌≡◌, ◌<◌, map, sym, subst, ◌∙◌}
use Rattle.std.proofs.lemmas.List.{append-nil, length-map}
use Rattle.ms_order.specs.Finding.{FindsIn}
use Rattle.ms_postorder.specs.Postorder.{In}
use Rattle.ms_postorder.proofs.SharedMembers.{in_last}
use Rattle.ms_order.proofs.Closing.{inner_node, nothing, popped}
use Rattle.ms_order.proofs.finder.Finder.search.Goals as goal

pub expand-requires-clause-finds : goal.expand-requires-clause-finds
expand-requires-clause-finds c =
    let g = map (λ v. v.items) c.args.graph.now in
    let s = c.loop-node.self in
    popped g c.args.flags.now c.args.start s.marks.items s.turn c.pop.new.self.items s.found.items c.in-Some.node
    (subst (λ ws. FindsIn g c.args.flags.now c.args.start s.marks.items s.turn ws s.found.items (λ a. In a ws)) c.in-Some.ensures.items c.loop-node.invariant.finds)

pub expand-requires-clause-inner : goal.expand-requires-clause-inner
expand-requires-clause-inner c =
    c.loop-node.invariant.finds.waits c.in-Some.node (subst (In c.in-Some.node) (sym c.in-Some.ensures.items) (in_last c.pop.new.self.items c.in-Some.node))

pub expand-requires-clause-inside : goal.expand-requires-clause-inside
expand-requires-clause-inside c =
    let g = map (λ v. v.items) c.args.graph.now in
    let h = c.loop-node.invariant.finds in
    let s = c.loop-node.self in
    let long = length-map c.args.graph.now (λ v. v.items) in
    subst (λ n. c.in-Some.node < n) long
    (inner_node g c.args.flags.now c.args.start s.marks.items s.turn c.in-Some.node h.size h.some (subst (λ n. c.args.start < n) (sym long) c.requires.inside)
    (h.waits c.in-Some.node (subst (In c.in-Some.node) (sym c.in-Some.ensures.items) (in_last c.pop.new.self.items c.in-Some.node))))

pub returns : goal.returns
returns c =
    let g = map (λ v. v.items) c.args.graph.now in
    let s = c.loop-node.self in
    let same : s.waiting.items ≡ c.pop.new.self.items = c.in_default.ensures.items ∙ append-nil c.pop.new.self.items in
    record {
      finds = subst (λ ws. FindsIn g c.args.flags.now c.args.start s.marks.items s.turn ws s.found.items (λ a. In a ws)) same c.loop-node.invariant.finds;
      idle = nothing c.pop.new.self.items (sym c.pop.new.self.ok.0 ∙ c.in_default.ensures.cases.1);
      turn = c.loop-node.invariant.turn;
    }
