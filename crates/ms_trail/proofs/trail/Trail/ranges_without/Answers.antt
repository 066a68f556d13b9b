use Rattle.std.proofs.Common.{◌≡◌, ◌∙◌, sym, ap, List, rules, SFits, w64, [], ◌∷◌}
use Rattle.std.specs.Prelude.{slice_index_or}
use Rattle.std.proofs.lemmas.Int.{to_z-of_z}
use Rattle.std.proofs.lemmas.List.{get_or_default}
use Rattle.ms_num.specs.Span.{Span}
use Rattle.ms_store.specs.Stored.{other_than}
use Rattle.ms_trail.specs.Trailed.{slot_at}
use Rattle.ms_trail.proofs.Cutting.{if_ok, members_listed, members_whole, listed_place}
use Rattle.ms_trail.proofs.trail.Trail.ranges_without.Goals as goal

pub returns-in-Some-clause-members : goal.returns-in-Some-clause-members
returns-in-Some-clause-members c =
    let n : SFits w64 c.args.n = search rules in
    let t = c.args.self.now in
    let row = (slot_at t c.args.v).1 in
    let ss = c.index-lists-place.result in
    let r : slice_index_or t.ranges c.in-Some.place [] ≡ ss = get_or_default t.ranges c.in-Some.place [] ss (listed_place t c.args.v c.args.domain row c.in-Some.place c.requires.read c.in-Some.ensures) ∙ sym (rw c.lists.ensures at c.index-lists-place.is) in
    if_ok c.without.result (λ (left : List Span) h. members_listed (other_than c.args.n) t c.args.v c.args.domain row c.in-Some.place ss left c.requires.read c.in-Some.ensures r h) (rw (to_z-of_z w64 c.args.n n) at c.without.ensures.members)

pub returns-in_ok-whole-in-None-clause-members : goal.returns-in_ok-whole-in-None-clause-members
returns-in_ok-whole-in-None-clause-members c =
    let n : SFits w64 c.args.n = search rules in
    let lo : SFits w64 c.args.domain.lo = search rules in
    let hi : SFits w64 c.args.domain.hi = search rules in
    let t = c.args.self.now in
    let row = (slot_at t c.args.v).1 in
    if_ok c.without-in-None.result (λ (left : List Span) h. members_whole (other_than c.args.n) t c.args.v c.args.domain row c.in_ok-whole-in-None.whole left _ _ c.requires.read c.requires.free c.in-None.ensures (c.in_ok-whole-in-None.ensures ∙ ap (λ (s : Span). s ∷ []) c.new.ensures) (to_z-of_z w64 c.args.domain.lo lo) (to_z-of_z w64 c.args.domain.hi hi) h) (rw (to_z-of_z w64 c.args.n n) at c.without-in-None.ensures.members)
