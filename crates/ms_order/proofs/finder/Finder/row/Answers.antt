use Rattle.std.proofs.Common.{map, ◌∙◌}
use Rattle.ms_order.proofs.finder.Finder.row.Goals as goal

pub search-requires-clause-finds : goal.search-requires-clause-finds
search-requires-clause-finds c =
    let b = c.in_ok-begin.ensures (map (λ v. v.items) c.args.graph.now) c.args.flags.now c.requires.rests in b.finds

pub finish-requires-clause-turn : goal.finish-requires-clause-turn
finish-requires-clause-turn c =
    let b = c.in_ok-begin.ensures (map (λ v. v.items) c.args.graph.now) c.args.flags.now c.requires.rests in c.in_ok-search.ensures.turn ∙ b.turn
