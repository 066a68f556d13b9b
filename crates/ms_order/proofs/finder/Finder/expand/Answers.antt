use Rattle.std.proofs.Common.{◌≡◌, ◌<◌, ◌≤◌, [], length, map, get_or, inl, inr, sym, subst, ◌∙◌, arith}
use Rattle.std.proofs.lemmas.Bool.{cases_eq}
use Rattle.ms_order.specs.Finding.{Seen}
use Rattle.ms_order.proofs.Closing.{edge_at, edge_place, followed, inner_meets, same_read, targets_are}
use Rattle.ms_order.proofs.finder.Finder.expand.Goals as goal

pub visit-requires-clause-inside : goal.visit-requires-clause-inside
visit-requires-clause-inside c =
    let g = map (λ v. v.items) c.args.graph.now in
    let es = c.deref-target-items.result.now in
    let is : es ≡ get_or g c.args.node [] = targets_are (λ v. v.items) c.args.graph.now c.args.node c.index-graph-node.result es c.requires.inside c.index-graph-node.is c.deref-target-items.ensures.value in
    let e = edge_at g c.args.node es is c.loop-target.target-index c.loop-target-test.true in
    subst (λ n. get_or es c.loop-target.target-index 0 < n) (sym c.loop-target.invariant.finds.size) (c.requires.finds.leads c.args.node (get_or es c.loop-target.target-index 0) e)

pub loop-target-preserved : goal.loop-target-preserved
loop-target-preserved c =
    let g = map (λ v. v.items) c.args.graph.now in
    let es = c.deref-target-items.result.now in
    let i = c.loop-target.target-index in
    let h = c.loop-target.invariant in
    let s = c.loop-target.self in
    let is : es ≡ get_or g c.args.node [] = targets_are (λ v. v.items) c.args.graph.now c.args.node c.index-graph-node.result es c.requires.inside c.index-graph-node.is c.deref-target-items.ensures.value in
    let e = edge_at g c.args.node es is i c.loop-target-test.true in
    let v = c.in_ok-visit.ensures g c.args.start c.args.node h.finds (inner_meets g c.args.flags.now c.args.start s.marks.items s.turn c.args.node (get_or es i 0) h.finds.sound h.inner e) in
    record {
      finds = v.finds;
      inner = elim h.inner [
        | inl same ↦ inl same
        | inr seen ↦ inr (v.stays c.args.node seen.0, seen.1)
      ];
      turn = v.turn ∙ h.turn;
      falls = omega (arith, v.falls, h.falls);
      done = λ k b less read. elim (cases_eq k i) [
        | inl same ↦ subst (Seen c.visit.new.self) (same_read es i k b same read) v.seen
        | inr apart ↦ v.stays b (h.done k b (omega arith) read)
      ];
    }

pub returns : goal.returns
returns c =
    let g = map (λ v. v.items) c.args.graph.now in
    let es = c.deref-target-items.result.now in
    let h = c.loop-target.invariant in
    let is : es ≡ get_or g c.args.node [] = targets_are (λ v. v.items) c.args.graph.now c.args.node c.index-graph-node.result es c.requires.inside c.index-graph-node.is c.deref-target-items.ensures.value in
    let end : length es ≤ c.loop-target.target-index = c.loop-target-test.false in
    record {
      finds = followed g c.args.flags.now c.args.start c.args.node c.loop-target.self h.finds (λ b e. let p = edge_place g c.args.node es is b e in h.done p.0 b (omega (arith, p.1)) p.2);
      turn = h.turn;
      falls = h.falls;
    }
