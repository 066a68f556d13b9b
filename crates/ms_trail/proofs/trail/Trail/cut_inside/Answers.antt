use Rattle.std.proofs.Common.{◌≡◌, ◌∙◌, sym, ap, subst, arith, rules, SFits, w64, true, []}
use Rattle.std.specs.Prelude.{ℤ, ◌&&◌}
use Rattle.std.proofs.lemmas.Int.{to_z-of_z, ints}
use Rattle.ms_num.specs.Ranges.{is_member}
use Rattle.ms_num.specs.Sets.{Set, set_of}
use Rattle.ms_cells.specs.Cells.{Lists}
use Rattle.ms_domains.specs.Domains.{domain_set}
use Rattle.ms_store.specs.Stored.{set_at, other_than, Cuts}
use Rattle.ms_trail.specs.Trailed.{sets_of, slot_at, IsRoomy}
use Rattle.ms_trail.proofs.Written.{any_lists, reads}
use Rattle.ms_trail.proofs.Cutting.{cut_written, cut_put, members_as, written_as, stays_in, some_left, passes_other, goes_other}
use Rattle.ms_trail.proofs.trail.Trail.cut_inside.Goals as goal

pub set_domain-requires-clause-proper : goal.set_domain-requires-clause-proper
set_domain-requires-clause-proper c = (any_lists c.roomy.new.self.ranges (slot_at c.roomy.new.self c.args.v).1 c.without-kept.result (rw c.row.ensures.value at c.without-kept.ensures.proper)).0

pub put-requires-clause-filled : goal.put-requires-clause-filled
put-requires-clause-filled c =
    let n : SFits w64 c.args.n = search rules in
    let t = c.args.self.now in
    let same : sets_of c.roomy.new.self ≡ sets_of t = c.in_ok-roomy.ensures.same in
    let lo : (set_at (sets_of t) c.args.v).has c.args.domain.lo ≡ true = ap (λ (s : Set). s.has c.args.domain.lo) c.requires.read.set ∙ c.requires.read.proper.proper.low in
    let apart : c.args.domain.lo ≡ c.args.n → ⊥ = λ (e : c.args.domain.lo ≡ c.args.n). absurd (omega (arith, ints, c.requires.low, e)) in
    let members : (q : ℤ) → is_member c.in_ok-kept-in-None.kept q ≡ ((set_at (sets_of t) c.args.v).has q && other_than c.args.n q) = members_as (other_than c.args.n) (sets_of t) (sets_of c.roomy.new.self) c.args.v c.in_ok-kept-in-None.kept same (rw (to_z-of_z w64 c.args.n n) at c.in_ok-kept-in-None.ensures.members) in
    let stays = stays_in (other_than c.args.n) (set_at (sets_of t) c.args.v) c.in_ok-kept-in-None.kept c.args.domain.lo members lo (passes_other c.args.domain.lo c.args.n apart) in
    some_left c.in_ok-kept-in-None.kept c.args.domain.lo stays

pub returns-in_ok-set_domain-in-Some-clause-ok : goal.returns-in_ok-set_domain-in-Some-clause-ok
returns-in_ok-set_domain-in-Some-clause-ok c =
    let n : SFits w64 c.args.n = search rules in
    let t = c.args.self.now in
    let u = c.roomy.new.self in
    let row = (slot_at u c.args.v).1 in
    let r : IsRoomy u c.args.v c.args.n c.in-Some.roomy = rw (c.in-Some.is, to_z-of_z w64 c.args.n n) at c.in_ok-roomy.ensures.some in
    let s = domain_set [] row c.in-Some.roomy in
    let held : s.has c.args.n ≡ true = ap (λ (x : Set). x.has c.args.n) r.stands.set ∙ ap (λ (l : Lists Set). (set_at l c.args.v).has c.args.n) c.in_ok-roomy.ensures.same ∙ c.requires.held in
    let proper = rw c.row.ensures.value at c.without-kept.ensures.proper in
    let cut = rw (c.row.ensures.value, to_z-of_z w64 c.args.n n) at c.without-kept.ensures.cut in
    subst (λ (l : Lists Set). Cuts (other_than c.args.n) c.args.v l (sets_of c.set_domain.new.self)) c.in_ok-roomy.ensures.same
    (cut_written c.cut_law.ensures.one c.cut_law.ensures.computed (other_than c.args.n) u c.set_domain.new.self c.args.v s c.without-kept.result row c.args.n (sym r.stands.set) r.stands.proper.proper (record { held = held; gone = goes_other c.args.n }) proper cut c.in_ok-set_domain-in-Some.ensures.ok)

pub returns-in_ok-put-in-None-clause-ok : goal.returns-in_ok-put-in-None-clause-ok
returns-in_ok-put-in-None-clause-ok c =
    let n : SFits w64 c.args.n = search rules in
    let t = c.args.self.now in
    let same : sets_of c.roomy.new.self ≡ sets_of t = c.in_ok-roomy.ensures.same in
    let lo : (set_at (sets_of t) c.args.v).has c.args.domain.lo ≡ true = ap (λ (s : Set). s.has c.args.domain.lo) c.requires.read.set ∙ c.requires.read.proper.proper.low in
    let apart : c.args.domain.lo ≡ c.args.n → ⊥ = λ (e : c.args.domain.lo ≡ c.args.n). absurd (omega (arith, ints, c.requires.low, e)) in
    let members : (q : ℤ) → is_member c.in_ok-kept-in-None.kept q ≡ ((set_at (sets_of t) c.args.v).has q && other_than c.args.n q) = members_as (other_than c.args.n) (sets_of t) (sets_of c.roomy.new.self) c.args.v c.in_ok-kept-in-None.kept same (rw (to_z-of_z w64 c.args.n n) at c.in_ok-kept-in-None.ensures.members) in
    let stays = stays_in (other_than c.args.n) (set_at (sets_of t) c.args.v) c.in_ok-kept-in-None.kept c.args.domain.lo members lo (passes_other c.args.domain.lo c.args.n apart) in
    let written = written_as (sets_of t) (sets_of c.roomy.new.self) (sets_of c.put.new.self) c.args.v (set_of c.in_ok-kept-in-None.kept) same c.in_ok-put-in-None.ensures.ok in
    cut_put c.cut_law.ensures.one c.cut_law.ensures.computed (other_than c.args.n) c.args.v (sets_of t) (sets_of c.put.new.self) c.in_ok-kept-in-None.kept c.args.n c.args.domain.lo (reads t c.args.v c.args.domain (slot_at t c.args.v).1 c.requires.read).proper members c.in_ok-kept-in-None.ensures.proper (record { held = c.requires.held; gone = goes_other c.args.n }) stays written
