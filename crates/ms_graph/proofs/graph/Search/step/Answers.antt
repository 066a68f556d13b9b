use Rattle.std.proofs.Common.{rules, arith, ◌≡◌, ◌+◌, ◌<◌, ℕ, List, [], length, get_or, set, Some, ◌≤◌, sym, ap, subst, ◌∙◌, refl}
use Rattle.ms_graph.specs.Search.{IsSearch, IsTop, at_of, followed_of}
use Rattle.ms_graph.specs.declared.graph.Search.{Search}
use Rattle.ms_graph.specs.Graph.{Edges, ending, HasEdge}
use Rattle.ms_graph.proofs.Places.{none_past, read_is}
use Rattle.ms_graph.proofs.Searches.{node_in, top_in, followed_search}
use Rattle.ms_graph.proofs.graph.Search.step.Goals as goal

node_known : (g : Edges) (s : Search) → IsSearch g s → (place : ℕ) → IsTop s place → (node : ℕ) → node ≡ get_or s.path.items place node → node < length s.followed.items
node_known g s h place top node e =
    let i_in : place < length s.path.items = top_in g s h place top in
    subst (λ n. node < n) (sym h.followed) (subst (λ a. a < length g) (read_is s.path.items place node 0 i_in e) (node_in g s h place i_in))

pub index-node-requires : goal.index-node-requires
index-node-requires c =
    let i_in : c.args.place < length c.args.self.now.path.items = top_in c.args.graph.now c.args.self.now c.requires.search c.args.place c.requires.top in
    subst (λ n. c.args.place < n) (sym c.args.self.now.path.ok.0) i_in

pub index-requires : goal.index-requires
index-requires c =
    let i_in : c.args.place < length c.args.self.now.path.items = top_in c.args.graph.now c.args.self.now c.requires.search c.args.place c.requires.top in
    let stands = read_is c.args.self.now.path.items c.args.place c.index-node.result.now 0 i_in c.index-node.ensures in
    let known : at_of c.args.self.now c.args.place < length c.args.graph.now = node_in c.args.graph.now c.args.self.now c.requires.search c.args.place i_in in
    subst (λ n. c.index-node.result.now < n) (sym (c.args.self.now.followed.ok.0 ∙ c.requires.search.followed)) (subst (λ a. a < length c.args.graph.now) stands known)

pub target-requires : goal.target-requires
target-requires c =
    let i_in : c.args.place < length c.args.self.now.path.items = top_in c.args.graph.now c.args.self.now c.requires.search c.args.place c.requires.top in
    let stands = read_is c.args.self.now.path.items c.args.place c.index-node.result.now 0 i_in c.index-node.ensures in
    let known : at_of c.args.self.now c.args.place < length c.args.graph.now = node_in c.args.graph.now c.args.self.now c.requires.search c.args.place i_in in
    subst (λ a. a < length c.args.graph.now) stands known

pub meet-requires : goal.meet-requires
meet-requires c =
    let edge : HasEdge c.args.graph.now c.index-node.result.now c.in-Some.target = (c.index.result.now, sym c.in-Some.ensures.value) in
    let known : c.in-Some.target < length c.args.graph.now = c.requires.search.leads c.index-node.result.now c.in-Some.target edge in
    subst (λ n. c.in-Some.target < n) (sym c.requires.search.marks) known

pub overflow_add-index_mut : goal.overflow_add-index_mut
overflow_add-index_mut c =
    let same : get_or c.meet.new.self.followed.items c.index-node.result.now 0 ≡ get_or c.args.self.now.followed.items c.index-node.result.now 0 =
    ap (λ fs. get_or fs c.index-node.result.now 0) c.in_ok-meet-in-Some.ensures.followed in
    let known = node_known _ _ c.requires.search c.args.place c.requires.top c.index-node.result.now c.index-node.ensures in
    let first = read_is c.args.self.now.followed.items c.index-node.result.now c.index.result.now 0 known c.index.ensures in
    let known' : c.index-node.result.now < length c.meet.new.self.followed.items =
    subst (λ fs. c.index-node.result.now < length fs) (sym c.in_ok-meet-in-Some.ensures.followed) known in
    let second = read_is c.meet.new.self.followed.items c.index-node.result.now c.index_mut.result.now 0 known' c.index_mut.ensures.value in
    let is : c.index_mut.result.now ≡ c.index.result.now = sym second ∙ same ∙ first in
    omega (arith, c.in-Some.ensures.small)

pub leave-requires-clause-stands : goal.leave-requires-clause-stands
leave-requires-clause-stands c =
    let i_in : c.args.place < length c.args.self.now.path.items = top_in c.args.graph.now c.args.self.now c.requires.search c.args.place c.requires.top in
    read_is c.args.self.now.path.items c.args.place c.index-node.result.now 0 i_in c.index-node.ensures

pub leave-requires-clause-followed : goal.leave-requires-clause-followed
leave-requires-clause-followed c =
    let known = node_known _ _ c.requires.search c.args.place c.requires.top c.index-node.result.now c.index-node.ensures in
    let is = read_is c.args.self.now.followed.items c.index-node.result.now c.index.result.now 0 known c.index.ensures in
    subst (λ n. length (get_or c.args.graph.now c.index-node.result.now []) ≤ n) (sym is) (none_past _ _ (sym c.in-None.ensures.value))

pub returns-in_ok-meet-in-Some : goal.returns-in_ok-meet-in-Some
returns-in_ok-meet-in-Some c =
    let i_in : c.args.place < length c.args.self.now.path.items = top_in c.args.graph.now c.args.self.now c.requires.search c.args.place c.requires.top in
    let stands = read_is c.args.self.now.path.items c.args.place c.index-node.result.now 0 i_in c.index-node.ensures in
    let known = node_known _ _ c.requires.search c.args.place c.requires.top c.index-node.result.now c.index-node.ensures in
    let is = read_is c.args.self.now.followed.items c.index-node.result.now c.index.result.now 0 known c.index.ensures in
    let leads : ending c.args.graph.now c.index-node.result.now (followed_of c.args.self.now c.index-node.result.now) ≡ Some c.in-Some.target =
    subst (λ k. ending c.args.graph.now c.index-node.result.now k ≡ Some c.in-Some.target) (sym is) (sym c.in-Some.ensures.value) in
    let edge : HasEdge c.args.graph.now (at_of c.args.self.now c.args.place) c.in-Some.target =
    subst (λ a. HasEdge c.args.graph.now a c.in-Some.target) (sym stands) (c.index.result.now, sym c.in-Some.ensures.value) in
    let known' : c.index-node.result.now < length c.meet.new.self.followed.items =
    subst (λ fs. c.index-node.result.now < length fs) (sym c.in_ok-meet-in-Some.ensures.followed) known in
    let second = read_is c.meet.new.self.followed.items c.index-node.result.now c.index_mut.result.now 0 known' c.index_mut.ensures.value in
    followed_search c.args.graph.now c.args.self.now c.meet.new.self _ c.args.place c.index-node.result.now c.in-Some.target c.requires.search c.requires.top stands leads
    (c.in_ok-meet-in-Some.ensures.met c.args.graph.now c.requires.search c.requires.top edge) c.in_ok-meet-in-Some.ensures.followed
    refl (ap (λ n. set c.meet.new.self.followed.items c.index-node.result.now (n + 1)) (sym second)) refl refl refl refl
