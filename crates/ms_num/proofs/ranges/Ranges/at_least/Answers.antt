use Rattle.std.proofs.Common.{◌≡◌, rules}
use Rattle.std.specs.List.{filter_map}
use Rattle.std.proofs.lemmas.Iterator.{items_from_collect, YieldsList-from_slice}
use Rattle.std.proofs.lemmas.Iterator.Consumers.{YieldsList-from_filter_map}
use Rattle.ms_num.specs.Ranges.{span_at_least}
use Rattle.ms_num.proofs.Cuts.{members_kept, rises_kept, keeps_at_least, shrinks_at_least}
use Rattle.ms_num.proofs.ranges.Ranges.at_least.Goals as goal
use Rattle.ms_num.proofs.ranges.Ranges.at_least.Goals.{In_ok-collect}

items : (c : In_ok-collect) → c.in_ok-collect.field-0.items ≡ filter_map (span_at_least c.args.n) c.args.self.now
items c =
    let chain = items_from_collect c.collect.result c.collect.ensures.ran (YieldsList-from_filter_map _ (span_at_least c.args.n) (YieldsList-from_slice c.args.self.now cc) c.filter_map-kept.ensures.closure (λ x r q k. search rules)) in
    rw c.in_ok-collect.was at chain

pub invariant_of-result : goal.invariant_of-result
invariant_of-result c = rw (items c, ← c.self.view_is) (rises_kept _ (shrinks_at_least c.args.n) _ _ c.self.invariant)

pub returns-clause-members : goal.returns-clause-members
returns-clause-members c = rw (items c) (members_kept _ _ (keeps_at_least c.args.n) c.args.self.now)

pub returns-clause-proper : goal.returns-clause-proper
returns-clause-proper c = rw (items c, ← c.self.view_is) (rises_kept _ (shrinks_at_least c.args.n) _ _ c.self.invariant)
