use Rattle.std.proofs.Common.{rules, arith, ◌≡◌, ◌<◌, ◌≤◌, ◌+◌, ◌-◌, ℕ, length, get_or, take, sym, ap, subst, ◌∙◌, refl, inl, inr}
use Rattle.std.proofs.lemmas.Bool.{cases_eq}
use Rattle.ms_graph.proofs.Searches.{all_told}
use Rattle.ms_graph.specs.Search.{mark_of}
use Rattle.ms_graph.specs.declared.graph.Mark.TheVariants.{New}
use Rattle.ms_graph.proofs.graph.Graph.on_cycles.Goals as goal

pub loop-node-preserved : goal.loop-node-preserved
loop-node-preserved c =
    let s = c.in_ok-search_from.ensures in
    record {
      search = s.search;
      idle = s.idle;
      met = λ a a_in new. elim (cases_eq a c.loop-node.node) [
        | inl same ↦ s.met (subst (λ b. mark_of c.search_from.new.self b ≡ New) same new)
        | inr other ↦ c.loop-node.invariant.met a (omega arith) (s.stays a new)
      ];
    }

pub returns : goal.returns
returns c =
    let h = c.loop-node.invariant in
    let end : length c.args.self.now ≤ c.loop-node.node = subst (λ n. n ≤ c.loop-node.node) c.nodes-node-end.ensures c.loop-node-test.false in
    all_told c.args.self.now c.loop-node.search h.search h.idle (λ a a_in new. h.met a (omega arith) new)
