use Rattle.std.proofs.Common.{◌≡◌, ◌∙◌, sym, ◌<◌, ◌^◌, rules, arith}
use Rattle.std.proofs.lemmas.Int.{ints}
use Rattle.std.proofs.lemmas.Iterator.{YieldsList-from_slice, YieldsList-from_map}
use Rattle.std.proofs.lemmas.Iterator.Consumers.{fits_by_from_yields_list}
use Rattle.ms_num.specs.Ranges.{size_of, span_size}
use Rattle.ms_num.proofs.SharedMembers.{size_bound}
use Rattle.ms_num.proofs.SharedSizes.{size_ranges}
use Rattle.ms_num.proofs.ranges.Ranges.size.Goals as goal

pub sum-requires-clause-fits : goal.sum-requires-clause-fits
sum-requires-clause-fits c =
    let bound = size_bound _ c.self.inside.ranges.items c.self.invariant (omega (arith, ints)) in
    let fits : size_of c.args.self.now < 2 ^ 64 = rw (← c.self.view_is) (omega (arith, ints)) in
    fits_by_from_yields_list span_size c.args.self.now c.map.result _ (YieldsList-from_map _ span_size (YieldsList-from_slice c.args.self.now cc) c.map.ensures.closure (λ x r q k. search rules)) fits

value : (c : goal.After-sum) → c.sum.result ≡ size_of c.args.self.now
value c = search rules

pub returns-clause-set : goal.returns-clause-set
returns-clause-set c = value c ∙ sym (rw (← c.self.view_is) (size_ranges c.self.inside.ranges.items c.self.invariant))
