use Rattle.std.proofs.Common.{◌≡◌, ◌++◌, ◌^◌, sym, rules, arith, true, w64, SFits}
use Rattle.std.specs.Prelude.{◌-ℤ◌, ◌+ℤ◌, ◌<ℤ◌, ◌≤ℤ◌, pos, negsuc}
use Rattle.std.proofs.lemmas.Int.{ints, to_z-of_z}
use Rattle.std.proofs.lemmas.Iterator.{items_from_collect, YieldsList-from_slice}
use Rattle.std.proofs.lemmas.Iterator.Consumers.{YieldsList-from_filter_map, YieldsList-from_chain, YieldsList-at}
use Rattle.ms_num.specs.Ranges.{is_member, span_at_most, span_at_least}
use Rattle.ms_num.proofs.Build.{below, beyond, members_without, rises_without, member_low, member_high}
use Rattle.ms_num.proofs.ranges.Ranges.without.Goals as goal
use Rattle.ms_num.proofs.ranges.Ranges.without.Goals.{Else-not-has, In_ok-collect}

member : (c : Else-not-has) → is_member c.self.inside.ranges.items c.args.n ≡ true
member c = rw (to_z-of_z w64 c.args.n c.ranges.n, ← c.self.view_is) at (sym c.if-not-has.ensures)

low : (c : Else-not-has) → negsuc (2 ^ 50) <ℤ c.args.n
low c = member_low _ c.args.n _ c.self.invariant (member c)

high : (c : Else-not-has) → c.args.n ≤ℤ pos (2 ^ 50)
high c = member_high _ c.args.n _ c.self.invariant (member c)

pub overflow_sub-before : goal.overflow_sub-before
overflow_sub-before c = let l = low c in omega (arith, ints)

pub overflow_add-after : goal.overflow_add-after
overflow_add-after c = let h = high c in omega (arith, ints)

items : (c : In_ok-collect) → negsuc (2 ^ 50) <ℤ c.args.n → c.args.n ≤ℤ pos (2 ^ 50) → c.in_ok-collect.field-0.items ≡ below c.args.n c.args.self.now ++ beyond c.args.n c.args.self.now
items c l h =
    let fits : SFits w64 c.args.n = c.ranges.n in
    let fits_before : SFits w64 (c.args.n -ℤ pos 1) = omega (arith, ints) in
    let fits_after : SFits w64 (c.args.n +ℤ pos 1) = omega (arith, ints) in
    let chain = items_from_collect c.collect.result c.collect.ensures.ran (YieldsList-from_chain
    (YieldsList-at c.chain.ensures.first (YieldsList-from_filter_map _ (span_at_most (c.args.n -ℤ pos 1)) (YieldsList-from_slice c.args.self.now cc) c.filter_map-below.ensures.closure (λ x r q k. search rules)))
    (YieldsList-at c.chain.ensures.second (YieldsList-from_filter_map _ (span_at_least (c.args.n +ℤ pos 1)) (YieldsList-from_slice c.args.self.now cc) c.filter_map-above.ensures.closure (λ x r q k. search rules)))
    c.chain.ensures.first_done c.chain.ensures.second_done) in
    rw c.in_ok-collect.was at chain

pub invariant_of-result : goal.invariant_of-result
invariant_of-result c =
    let l = low (goal.at.invariant_of-result c).Else-not-has in
    let h = high (goal.at.invariant_of-result c).Else-not-has in
    rw (items c l h, ← c.self.view_is) (rises_without _ c.args.n _ c.self.invariant (omega (arith, ints)))

pub returns-clause-members : goal.returns-clause-members
returns-clause-members c =
    let l = low (goal.at.returns-clause-members c).Else-not-has in
    let h = high (goal.at.returns-clause-members c).Else-not-has in
    rw (items c l h) (members_without c.args.n c.args.self.now)

pub returns-clause-proper : goal.returns-clause-proper
returns-clause-proper c =
    let l = low (goal.at.returns-clause-proper c).Else-not-has in
    let h = high (goal.at.returns-clause-proper c).Else-not-has in
    rw (items c l h, ← c.self.view_is) (rises_without _ c.args.n _ c.self.invariant (omega (arith, ints)))
