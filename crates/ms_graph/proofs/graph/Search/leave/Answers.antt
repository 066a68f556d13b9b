use Rattle.std.proofs.Common.{rules, arith, ◌≡◌, ◌<◌, ◌≤◌, ℕ, length, get_or, take, ◌-◌, true, false, sym, ap, subst, ◌∙◌, refl}
use Rattle.ms_graph.specs.Search.{at_of}
use Rattle.ms_graph.proofs.Searches.{closed_search, left_search, node_in, top_in}
use Rattle.ms_graph.proofs.graph.Search.leave.Goals as goal

pub is_cyclic-is_cyclic-requires-clause-inside : goal.is_cyclic-is_cyclic-requires-clause-inside
is_cyclic-is_cyclic-requires-clause-inside c = top_in c.args.graph.now c.args.self.now c.requires.search c.args.place c.requires.top

pub is_cyclic-is_cyclic-requires-clause-known : goal.is_cyclic-is_cyclic-requires-clause-known
is_cyclic-is_cyclic-requires-clause-known c =
    subst (λ a. a < length c.args.graph.now) c.requires.stands
    (node_in c.args.graph.now c.args.self.now c.requires.search c.args.place (top_in c.args.graph.now c.args.self.now c.requires.search c.args.place c.requires.top))

pub close-requires-clause-start : goal.close-requires-clause-start
close-requires-clause-start c =
    let i_in : c.args.place < length c.args.self.now.path.items = top_in c.args.graph.now c.args.self.now c.requires.search c.args.place c.requires.top in
    omega arith

pub close-requires-clause-marks : goal.close-requires-clause-marks
close-requires-clause-marks c = λ i i_in.
    subst (λ n. at_of c.args.self.now i < n) (sym c.requires.search.marks) (node_in c.args.graph.now c.args.self.now c.requires.search i i_in)

pub close-requires-clause-cyclic : goal.close-requires-clause-cyclic
close-requires-clause-cyclic c = λ i i_in.
    subst (λ n. at_of c.args.self.now i < n) (sym c.requires.search.cyclic) (node_in c.args.graph.now c.args.self.now c.requires.search i i_in)

pub returns-then-ends_with : goal.returns-then-ends_with
returns-then-ends_with c =
    closed_search c.args.graph.now c.args.self.now c.close.new.self c.args.place c.args.node c.is_cyclic-is_cyclic.result
    c.requires.search c.requires.top c.requires.stands c.requires.followed
    (subst (λ xs. (0 < length xs) × (get_or xs (length xs - 1) 0 ≡ c.args.place)) c.deref.ensures.value (c.ends_with.ensures.0 c.if-ends_with.true))
    c.is_cyclic-is_cyclic.ensures.many c.is_cyclic-is_cyclic.ensures.one c.close.ensures

pub returns-else-ends_with : goal.returns-else-ends_with
returns-else-ends_with c =
    left_search c.args.graph.now c.args.self.now _ c.args.place c.args.node
    c.requires.search c.requires.top c.requires.stands c.requires.followed
    (λ ends. let wrong : false ≡ true = c.if-ends_with.ensures.1 (subst (λ xs. (0 < length xs) × (get_or xs (length xs - 1) 0 ≡ c.args.place)) (sym c.deref.ensures.value) ends) in cc)
    refl refl refl refl (c.pop.ensures.rest ∙ ap (λ n. take (n - 1) c.args.self.now.walk.items) c.args.self.now.walk.ok.0) refl
