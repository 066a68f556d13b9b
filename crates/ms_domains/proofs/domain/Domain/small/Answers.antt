use Rattle.std.proofs.Common.{rules, SFits, w64, ◌∙◌, ◌≡◌, ap, sym, subst, List, length, pos, ◌-ℤ◌}
use Rattle.std.proofs.lemmas.Int.{to_z-of_z}
use Rattle.ms_num.specs.Span.{Span, IsInterval}
use Rattle.ms_num.specs.Ranges.{is_member}
use Rattle.ms_num.specs.Sets.{lo_of, hi_of}
use Rattle.ms_domains.specs.Domains.{IsWordOf}
use Rattle.ms_domains.proofs.Making.{stands_whole, stands_window}
use Rattle.ms_domains.proofs.domain.Domain.small.Goals as goal

pub returns-then-ranges-eq1 : goal.returns-then-ranges-eq1
returns-then-ranges-eq1 c = λ lists row.
    let lo : SFits w64 c.lo-lo.result = search rules in
    let hi : SFits w64 c.hi-hi.result = search rules in
    let e = c.ends-ends.ensures.value in
    let el = c.lo-lo.ensures.value ∙ ap (λ (s : Span). s.lo) e in
    let eh = c.hi-hi.ensures.value ∙ ap (λ (s : Span). s.hi) e in
    let one : length c.args.set.now ≡ 1 = ap (λ (s : List Span). length s) (sym c.ranges-2.ensures.value) ∙ c.if-ranges-eq1.true in
    stands_whole lists row c.args.set.now c.between.result one c.ends-ends.ensures.proper (subst (λ (s : Span). IsInterval s) e c.lo-lo.ensures.within) (c.between.ensures.lo ∙ to_z-of_z w64 c.lo-lo.result lo ∙ el) (c.between.ensures.hi ∙ to_z-of_z w64 c.hi-hi.result hi ∙ eh) c.between.ensures.whole (rw (← el, ← eh) (rw (to_z-of_z w64 c.lo-lo.result lo, to_z-of_z w64 c.hi-hi.result hi) at c.between.ensures.size))

pub returns : goal.returns
returns c = λ lists row.
    let lo : SFits w64 c.lo-lo.result = search rules in
    let hi : SFits w64 c.hi-hi.result = search rules in
    let e = c.ends-ends.ensures.value in
    let el = c.lo-lo.ensures.value ∙ ap (λ (s : Span). s.lo) e in
    let eh = c.hi-hi.ensures.value ∙ ap (λ (s : Span). s.hi) e in
    let far : pos c.distance.result ≡ hi_of c.args.set.now -ℤ lo_of c.args.set.now = rw (← el, ← eh) (rw (to_z-of_z w64 c.hi-hi.result hi, to_z-of_z w64 c.lo-lo.result lo) at c.distance.ensures) in
    let word : IsWordOf (is_member c.args.set.now) (lo_of c.args.set.now) c.word_of.result = rw (← el) (rw (to_z-of_z w64 c.lo-lo.result lo) at c.word_of.ensures) in
    stands_window lists row c.args.set.now _ _ _ c.size.result c.word_of.result c.distance.result c.ends-ends.ensures.proper (subst (λ (s : Span). IsInterval s) e c.lo-lo.ensures.within) (to_z-of_z w64 c.lo-lo.result lo ∙ el) (to_z-of_z w64 c.hi-hi.result hi ∙ eh) (to_z-of_z w64 c.lo-lo.result lo ∙ el) c.size.ensures.set far c.if-distance-ge64.false word
