use Rattle.std.proofs.Common.{rules, arith, ◌≡◌, ◌<◌, ◌≤◌, ◌+◌, ◌-◌, ℕ, length, get_or, take, sym, ap, subst, ◌∙◌, refl}
use Rattle.ms_graph.specs.Search.{AreDone, at_of}
use Rattle.ms_graph.proofs.Places.{read_is}
use Rattle.ms_graph.proofs.Searches.{done_more}
use Rattle.ms_graph.proofs.graph.Search.close.Goals as goal

pub index_mut-requires : goal.index_mut-requires
index_mut-requires c =
    let i_in : c.loop-place.place < length c.args.self.now.path.items = subst (λ n. c.loop-place.place < n) (c.len-place-end.ensures ∙ c.args.self.now.path.ok.0) c.loop-place-test.true in
    let is = read_is c.args.self.now.path.items c.loop-place.place c.index-node.result.now 0 i_in
    (subst (λ p. c.index-node.result.now ≡ get_or p.items c.loop-place.place c.index-node.result.now) c.loop-place.invariant.path c.index-node.ensures) in
    subst (λ n. c.index-node.result.now < n) (sym (c.loop-place.self.marks.ok.0 ∙ c.loop-place.invariant.nodes.marks))
    (subst (λ a. a < length c.args.self.now.marks.items) is (c.requires.marks c.loop-place.place i_in))

pub index_mut-requires-in-loop-place : goal.index_mut-requires-in-loop-place
index_mut-requires-in-loop-place c =
    let i_in : c.loop-place.place < length c.args.self.now.path.items = subst (λ n. c.loop-place.place < n) (c.len-place-end.ensures ∙ c.args.self.now.path.ok.0) c.loop-place-test.true in
    let is = read_is c.args.self.now.path.items c.loop-place.place c.index-node.result.now 0 i_in
    (subst (λ p. c.index-node.result.now ≡ get_or p.items c.loop-place.place c.index-node.result.now) c.loop-place.invariant.path c.index-node.ensures) in
    subst (λ n. c.index-node.result.now < n) (sym (c.loop-place.self.cyclic.ok.0 ∙ c.loop-place.invariant.nodes.cyclic))
    (subst (λ a. a < length c.args.self.now.cyclic.items) is (c.requires.cyclic c.loop-place.place i_in))

pub loop-place-preserved : goal.loop-place-preserved
loop-place-preserved c =
    let i_in : c.loop-place.place < length c.args.self.now.path.items = subst (λ n. c.loop-place.place < n) (c.len-place-end.ensures ∙ c.args.self.now.path.ok.0) c.loop-place-test.true in
    let is = read_is c.args.self.now.path.items c.loop-place.place c.index-node.result.now 0 i_in
    (subst (λ p. c.index-node.result.now ≡ get_or p.items c.loop-place.place c.index-node.result.now) c.loop-place.invariant.path c.index-node.ensures) in
    let h = c.loop-place.invariant in
    record {
      nodes = done_more c.args.self.now.path.items c.args.start c.loop-place.place c.args.is_cyclic _ _ _ _ c.index-node.result.now h.nodes c.loop-place.auto.place is
          (subst (λ n. c.index-node.result.now < n) (sym h.nodes.marks) (subst (λ a. a < length c.args.self.now.marks.items) is (c.requires.marks c.loop-place.place i_in)))
          (subst (λ n. c.index-node.result.now < n) (sym h.nodes.cyclic) (subst (λ a. a < length c.args.self.now.cyclic.items) is (c.requires.cyclic c.loop-place.place i_in)));
      followed = h.followed;
      path = h.path;
      groups = h.groups;
      walk = h.walk;
    }

pub returns : goal.returns
returns c =
    let h = c.loop-place.invariant in
    let size : c.len-place-end.result ≡ length c.args.self.now.path.items = c.len-place-end.ensures ∙ c.args.self.now.path.ok.0 in
    let end : c.loop-place.place ≤ c.len-place-end.result = c.loop-place.auto.place-end (subst (λ n. c.args.start ≤ n) (sym size) c.requires.start) in
    let done : c.loop-place.place ≡ length c.args.self.now.path.items = omega (arith, c.loop-place-test.false) in
    record {
      nodes = subst (λ n. AreDone c.args.self.now.path.items c.args.start n c.args.is_cyclic c.args.self.now.marks.items c.loop-place.self.marks.items c.args.self.now.cyclic.items c.loop-place.self.cyclic.items) done h.nodes;
      followed = ap (λ v. v.items) h.followed;
      path = c.truncate.ensures.items ∙ ap (λ v. take c.args.start v.items) h.path;
      groups = c.pop.ensures.rest ∙ ap (λ v. take (v.len - 1) v.items) h.groups ∙ ap (λ n. take (n - 1) c.args.self.now.groups.items) c.args.self.now.groups.ok.0;
      walk = c.pop-2.ensures.rest ∙ ap (λ v. take (v.len - 1) v.items) h.walk ∙ ap (λ n. take (n - 1) c.args.self.now.walk.items) c.args.self.now.walk.ok.0;
    }
