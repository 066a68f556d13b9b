use Rattle.std.proofs.Common.{rules, arith, ◌≡◌, ◌<◌, ◌≤◌, ◌+◌, ◌-◌, ℕ, length, get_or, take, sym, ap, subst, ◌∙◌, refl}
use Rattle.ms_graph.specs.declared.graph.Mark.TheVariants.{New}
use Rattle.ms_graph.proofs.Places.{read_is}
use Rattle.ms_graph.proofs.Searches.{begun_search, searched_new}
use Rattle.ms_graph.proofs.graph.Search.search_from.Goals as goal

pub walk_on-requires : goal.walk_on-requires
walk_on-requires c =
    let known : c.args.node < length c.args.self.now.marks.items = subst (λ n. c.args.node < n) (sym c.requires.search.marks) c.requires.inside in
    let mark = read_is c.args.self.now.marks.items c.args.node c.index.result.now New known c.index.ensures ∙ c.in-New.is in
    begun_search c.args.graph.now c.args.self.now c.open.new.self c.args.node c.requires.search c.requires.idle c.requires.inside mark c.in_ok-open.ensures
