use Rattle.std.proofs.Common.{map, ap}
use Rattle.ms_order.proofs.Closing.{row_found}
use Rattle.ms_order.proofs.finder.Finder.finish.Goals as goal

pub returns-clause-row : goal.returns-clause-row
returns-clause-row c =
    row_found (map (λ v. v.items) c.args.graph.now) c.args.flags.now c.args.start c.args.self.now c.replace-found.result.items c.sort.new.self.items
    c.requires.finds c.requires.idle c.requires.flag (ap (λ v. v.items) c.replace-found.ensures.value) c.in_ok-sort.ensures.permutation c.in_ok-sort.ensures.sorted
