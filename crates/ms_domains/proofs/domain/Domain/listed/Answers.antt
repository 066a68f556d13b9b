use Rattle.std.proofs.Common.{rules, SFits, w64, ◌∙◌, ap, subst}
use Rattle.std.proofs.lemmas.Int.{to_z-of_z}
use Rattle.ms_num.specs.Span.{Span, IsInterval}
use Rattle.ms_domains.proofs.Making.{stands_listed}
use Rattle.ms_domains.proofs.domain.Domain.listed.Goals as goal

pub returns : goal.returns
returns c = λ lists row there is.
    let lo : SFits w64 c.lo.result = search rules in
    let hi : SFits w64 c.hi.result = search rules in
    let e = c.ends-ends.ensures.value in
    stands_listed lists row c.args.set.now _ _ c.size.result c.args.place c.ends-ends.ensures.proper (subst (λ (s : Span). IsInterval s) e c.lo.ensures.within) (to_z-of_z w64 c.lo.result lo ∙ c.lo.ensures.value ∙ ap (λ (s : Span). s.lo) e) (to_z-of_z w64 c.hi.result hi ∙ c.hi.ensures.value ∙ ap (λ (s : Span). s.hi) e) c.size.ensures.set there is
