use Rattle.std.proofs.Common.{◌≡◌, ◌∙◌, sym, ap, subst, set, rules, SFits, w64, List, ℕ, []}
use Rattle.std.proofs.lemmas.Int.{to_z-of_z}
use Rattle.ms_domains.specs.declared.domain.Domain.{Domain}
use Rattle.ms_domains.specs.declared.domain.Holes.{Holes}
use Rattle.ms_domains.specs.Domains.{IsDomain, IsWritten}
use Rattle.ms_trail.specs.Spread.{IsUnlisted}
use Rattle.ms_trail.specs.Trailed.{slot_at, IsAt}
use Rattle.ms_trail.proofs.Written.{word_proper, word_written}
use Rattle.ms_trail.proofs.Filling.{domain_unlisted}
use Rattle.ms_trail.proofs.Filled.{roomy_itself, moved_roomy, row_proper, row_sets, row_at, row_written}
use Rattle.ms_trail.proofs.trail.Trail.roomy.Goals as goal

pub returns-then-has_room-clause-some : goal.returns-then-has_room-clause-some
returns-then-has_room-clause-some c =
    let l : IsUnlisted c.args.domain.holes = subst (λ (h : Holes). IsUnlisted h) (sym c.in-Row.is) tt in
    let n : SFits w64 c.args.n = search rules in
    roomy_itself c.args.self.now c.args.v c.args.n c.args.domain c.requires.read l (rw (to_z-of_z w64 c.args.n n) at (c.has_room.ensures c.if-has_room.true))

pub set_word-requires-clause-proper : goal.set_word-requires-clause-proper
set_word-requires-clause-proper c =
    let t = c.args.self.now in
    let row = (slot_at t c.args.v).1 in
    word_proper t c.args.v c.args.domain row (set row c.in-Row.at c.in-Row.bits) c.requires.read (row_proper t c.args.v c.args.domain row c.in-Row.base c.in-Row.at c.in-Row.bits c.requires.read c.in-Row.is)

pub moved-requires-clause-proper : goal.moved-requires-clause-proper
moved-requires-clause-proper c =
    let t = c.args.self.now in
    let u = c.set_word.new.self in
    let row = (slot_at t c.args.v).1 in
    let ws = set row c.in-Row.at c.in-Row.bits in
    let w = word_written t u c.args.v c.args.domain row ws c.requires.read c.in_ok-set_word-in-Row.ensures.ok in
    let a = row_at t u c.args.v c.args.domain row c.in-Row.base c.in-Row.at c.in-Row.bits c.requires.there c.requires.read c.in-Row.is w in
    let e : (slot_at u c.args.v).1 ≡ ws = ap (λ (s : Domain × List ℕ). s.1) a.slot in
    let l : IsUnlisted c.args.domain.holes = subst (λ (h : Holes). IsUnlisted h) (sym c.in-Row.is) tt in
    subst (λ (r : List ℕ). IsDomain [] r c.args.domain) (sym (c.row-in-Row.ensures.value ∙ e)) (domain_unlisted u.ranges [] ws c.args.domain l a.proper).0

pub moved-requires-clause-written : goal.moved-requires-clause-written
moved-requires-clause-written c =
    let t = c.args.self.now in
    let u = c.set_word.new.self in
    let row = (slot_at t c.args.v).1 in
    let ws = set row c.in-Row.at c.in-Row.bits in
    let w = word_written t u c.args.v c.args.domain row ws c.requires.read c.in_ok-set_word-in-Row.ensures.ok in
    let a = row_at t u c.args.v c.args.domain row c.in-Row.base c.in-Row.at c.in-Row.bits c.requires.there c.requires.read c.in-Row.is w in
    let e : (slot_at u c.args.v).1 ≡ ws = ap (λ (s : Domain × List ℕ). s.1) a.slot in
    subst (λ (r : List ℕ). IsWritten r c.args.domain.holes) (sym (c.row-in-Row.ensures.value ∙ e)) (row_written row c.args.domain.holes c.in-Row.base c.in-Row.at c.in-Row.bits c.in-Row.is)

pub returns-in_ok-set_word-in-Row-clause-same : goal.returns-in_ok-set_word-in-Row-clause-same
returns-in_ok-set_word-in-Row-clause-same c =
    let t = c.args.self.now in
    let u = c.set_word.new.self in
    let row = (slot_at t c.args.v).1 in
    let ws = set row c.in-Row.at c.in-Row.bits in
    let w = word_written t u c.args.v c.args.domain row ws c.requires.read c.in_ok-set_word-in-Row.ensures.ok in
    let a = row_at t u c.args.v c.args.domain row c.in-Row.base c.in-Row.at c.in-Row.bits c.requires.there c.requires.read c.in-Row.is w in
    row_sets t u c.args.v c.args.domain row c.in-Row.base c.in-Row.at c.in-Row.bits c.requires.read c.in-Row.is w

pub returns-in_ok-set_word-in-Row-clause-some : goal.returns-in_ok-set_word-in-Row-clause-some
returns-in_ok-set_word-in-Row-clause-some c =
    let t = c.args.self.now in
    let u = c.set_word.new.self in
    let row = (slot_at t c.args.v).1 in
    let ws = set row c.in-Row.at c.in-Row.bits in
    let w = word_written t u c.args.v c.args.domain row ws c.requires.read c.in_ok-set_word-in-Row.ensures.ok in
    let a = row_at t u c.args.v c.args.domain row c.in-Row.base c.in-Row.at c.in-Row.bits c.requires.there c.requires.read c.in-Row.is w in
    let e : (slot_at u c.args.v).1 ≡ ws = ap (λ (s : Domain × List ℕ). s.1) a.slot in
    let l : IsUnlisted c.args.domain.holes = subst (λ (h : Holes). IsUnlisted h) (sym c.in-Row.is) tt in
    let n : SFits w64 c.args.n = search rules in
    let b = subst (λ (r : List ℕ). IsAt u c.args.v c.args.domain r) (sym e) a in
    moved_roomy u c.args.v c.args.n c.args.domain c.moved.result b l (rw c.row-in-Row.ensures.value at c.moved.ensures.same) (rw (to_z-of_z w64 c.args.n n) at (c.moved.ensures.room c.in-Row.base c.in-Row.at c.in-Row.bits c.in-Row.is))
