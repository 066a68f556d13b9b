use Rattle.std.proofs.Common.{◌≡◌, ◌∙◌, ap, sym, true, rules, SFits, w64, []}
use Rattle.std.specs.Prelude.{ℤ, ◌&&◌, slice_index_or}
use Rattle.std.proofs.lemmas.Int.{to_z-of_z}
use Rattle.std.proofs.lemmas.List.{get_or_default}
use Rattle.ms_num.specs.Ranges.{is_member}
use Rattle.ms_num.specs.Sets.{Set}
use Rattle.ms_num.proofs.SharedSpans.{of_le}
use Rattle.ms_num.proofs.SharedSets.{not_le}
use Rattle.ms_store.specs.Stored.{set_at, at_most}
use Rattle.ms_trail.specs.Trailed.{sets_of, slot_at}
use Rattle.ms_trail.proofs.Filling.{domain_unlisted}
use Rattle.ms_trail.proofs.Written.{any_lists, reads}
use Rattle.ms_trail.proofs.Cutting.{cut_unlisted, cut_put, members_listed, listed_place, stays_in}
use Rattle.ms_trail.proofs.trail.Trail.keep_at_most.Goals as goal

pub at_most-kept-requires-clause-proper : goal.at_most-kept-requires-clause-proper
at_most-kept-requires-clause-proper c = rw c.row.ensures.value (domain_unlisted c.args.self.now.ranges [] (slot_at c.args.self.now c.args.v).1 c.args.domain c.in-None.ensures c.requires.read.proper).0

pub set_domain-requires-clause-proper : goal.set_domain-requires-clause-proper
set_domain-requires-clause-proper c = (any_lists c.args.self.now.ranges (slot_at c.args.self.now c.args.v).1 c.at_most-kept.result (rw c.row.ensures.value at c.at_most-kept.ensures.proper)).0

pub returns-in_ok-set_domain-in-None-clause-ok : goal.returns-in_ok-set_domain-in-None-clause-ok
returns-in_ok-set_domain-in-None-clause-ok c =
    let n : SFits w64 c.args.n = search rules in
    let t = c.args.self.now in
    let row = (slot_at t c.args.v).1 in
    cut_unlisted c.cut_law.ensures.one c.cut_law.ensures.computed (at_most c.args.n) t c.set_domain.new.self c.args.v c.args.domain c.at_most-kept.result row c.args.domain.hi c.requires.read c.in-None.ensures (record { held = c.requires.read.proper.proper.high; gone = not_le c.args.n c.args.domain.hi c.requires.high }) (rw c.row.ensures.value at c.at_most-kept.ensures.proper) (rw (c.row.ensures.value, to_z-of_z w64 c.args.n n) at c.at_most-kept.ensures.cut) c.in_ok-set_domain-in-None.ensures.ok

pub returns-in_ok-put-in-Some-clause-ok : goal.returns-in_ok-put-in-Some-clause-ok
returns-in_ok-put-in-Some-clause-ok c =
    let n : SFits w64 c.args.n = search rules in
    let t = c.args.self.now in
    let row = (slot_at t c.args.v).1 in
    let ss = c.index-lists-place.result in
    let left = c.in_ok-kept-in-Some.kept in
    let r : slice_index_or t.ranges c.in-Some.place [] ≡ ss = get_or_default t.ranges c.in-Some.place [] ss (listed_place t c.args.v c.args.domain row c.in-Some.place c.requires.read c.in-Some.ensures) ∙ sym (rw c.lists.ensures at c.index-lists-place.is) in
    let members : (q : ℤ) → is_member left q ≡ ((set_at (sets_of t) c.args.v).has q && at_most c.args.n q) = members_listed (at_most c.args.n) t c.args.v c.args.domain row c.in-Some.place ss left c.requires.read c.in-Some.ensures r (rw (to_z-of_z w64 c.args.n n) at c.in_ok-kept-in-Some.ensures.members) in
    let held : (set_at (sets_of t) c.args.v).has c.args.domain.hi ≡ true = ap (λ (s : Set). s.has c.args.domain.hi) c.requires.read.set ∙ c.requires.read.proper.proper.high in
    let other : (set_at (sets_of t) c.args.v).has c.args.domain.lo ≡ true = ap (λ (s : Set). s.has c.args.domain.lo) c.requires.read.set ∙ c.requires.read.proper.proper.low in
    cut_put c.cut_law.ensures.one c.cut_law.ensures.computed (at_most c.args.n) c.args.v (sets_of t) (sets_of c.put.new.self) left c.args.domain.hi c.args.domain.lo (reads t c.args.v c.args.domain row c.requires.read).proper members c.in_ok-kept-in-Some.ensures.proper (record { held = held; gone = not_le c.args.n c.args.domain.hi c.requires.high }) (stays_in (at_most c.args.n) (set_at (sets_of t) c.args.v) left c.args.domain.lo members other (of_le c.args.domain.lo c.args.n c.requires.low)) c.in_ok-put-in-Some.ensures.ok
