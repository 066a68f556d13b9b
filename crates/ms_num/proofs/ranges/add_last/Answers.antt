use Rattle.std.proofs.Common.{refl, ◌≡◌, ◌∙◌, ◌++◌, ◌∷◌, [], sym, rules, arith, true, false, w64, to_z, of_z, SFits}
use Rattle.std.specs.Prelude.{ℤ, ◌+ℤ◌, ◌<ℤ◌, ◌≤ℤ◌, pos, int_le}
use Rattle.std.proofs.lemmas.Int.{ints, to_z-of_z}
use Rattle.ms_num.specs.Span.{Span, IsInterval, is_within, point}
use Rattle.ms_num.proofs.Build.{up_to, last_end, rises_grown, members_grown, rises_pushed, end_with, end_push}
use Rattle.ms_num.proofs.SharedSpans.{within_low, within_high, le_from, read_51}
use Rattle.ms_num.proofs.Cuts.{gt_from}
use Rattle.std.specs.Int.Signed.{≤ℤ_refl}
use Rattle.ms_num.proofs.ranges.add_last.Goals as goal
use Rattle.ms_num.proofs.ranges.add_last.Goals.{After-lo, In_ok-push-in-Some, In_ok-push-in-Some-2-2}

grown_interval : (s : Span) (n : ℤ) → IsInterval s → s.hi ≤ℤ n → is_within n ≡ true → IsInterval (up_to s n)
grown_interval s n i e w =
    let o = i.ordered in
    record { ordered = omega (arith, ints); low = i.low; high = within_high n w }

-- the code's test of a number against a range's end
test : (s : Span) (h n : ℤ) → h ≡ s.hi → IsInterval s → SFits w64 n → int_le (to_z w64 (of_z w64 n)) (to_z w64 (of_z w64 (to_z w64 (of_z w64 h) +ℤ pos 1))) ≡ int_le n (s.hi +ℤ pos 1)
test s h n e i f =
    let o = i.ordered in let l = i.low in let u = i.high in
    rw (e, to_z-of_z w64 n f, read_51 s.hi (omega (arith, ints)) (omega (arith, ints)), read_51 (s.hi +ℤ pos 1) (omega (arith, ints)) (omega (arith, ints))) refl

near : (s : Span) (h n : ℤ) → h ≡ s.hi → IsInterval s → SFits w64 n → int_le (to_z w64 (of_z w64 n)) (to_z w64 (of_z w64 (to_z w64 (of_z w64 h) +ℤ pos 1))) ≡ true → n ≤ℤ (s.hi +ℤ pos 1)
near s h n e i f k = le_from n (s.hi +ℤ pos 1) (sym (test s h n e i f) ∙ k)

far : (s : Span) (h n : ℤ) → h ≡ s.hi → IsInterval s → SFits w64 n → int_le (to_z w64 (of_z w64 n)) (to_z w64 (of_z w64 (to_z w64 (of_z w64 h) +ℤ pos 1))) ≡ false → (s.hi +ℤ pos 1) <ℤ n
far s h n e i f k = gt_from n (s.hi +ℤ pos 1) (sym (test s h n e i f) ∙ k)

end : (c : After-lo) → c.in-Some.last.hi ≤ℤ c.args.n
end c = last_end c.args.n c.pop.new.self.items c.in-Some.last (rw c.in-Some.ensures.items at c.requires.last)

within : (c : After-lo) → is_within c.args.n ≡ true
within c = search (rules, c.requires.within)

pub new-requires : goal.new-requires
new-requires c =
    let fits : SFits w64 c.lo.result = search rules in
    rw (to_z-of_z w64 c.lo.result fits, to_z-of_z w64 c.args.n c.ranges.n, c.lo.ensures.value) (grown_interval c.in-Some.last c.args.n c.lo.ensures.within (end c) (within c))

made : (c : In_ok-push-in-Some) → c.push.new.self.items ≡ c.pop.new.self.items ++ up_to c.in-Some.last c.args.n ∷ []
made c =
    let fits : SFits w64 c.lo.result = search rules in
    rw (to_z-of_z w64 c.lo.result fits, to_z-of_z w64 c.args.n c.ranges.n, c.lo.ensures.value) at (rw c.new.ensures at c.in_ok-push-in-Some.ensures.items)

pub returns-in_ok-push-in-Some-clause-proper : goal.returns-in_ok-push-in-Some-clause-proper
returns-in_ok-push-in-Some-clause-proper c =
    let k = (goal.at.returns-in_ok-push-in-Some-clause-proper c).After-lo in
    rw (made c) (rises_grown _ c.args.n c.pop.new.self.items c.in-Some.last (rw c.in-Some.ensures.items at c.requires.proper) (grown_interval c.in-Some.last c.args.n c.lo.ensures.within (end k) (within k)))

pub returns-in_ok-push-in-Some-clause-members : goal.returns-in_ok-push-in-Some-clause-members
returns-in_ok-push-in-Some-clause-members c =
    let k = (goal.at.returns-in_ok-push-in-Some-clause-members c).After-lo in
    let i = c.hi.ensures.within in
    rw (made c, c.in-Some.ensures.items) (members_grown c.pop.new.self.items c.in-Some.last c.args.n i.ordered (end k) (near c.in-Some.last c.hi.result c.args.n c.hi.ensures.value i c.ranges.n c.if-n-hi.true))

pub returns-in_ok-push-in-Some-clause-last : goal.returns-in_ok-push-in-Some-clause-last
returns-in_ok-push-in-Some-clause-last c =
    rw (made c) (end_with c.args.n c.pop.new.self.items c.in-Some.last (up_to c.in-Some.last c.args.n) (rw c.in-Some.ensures.items at c.requires.last) (≤ℤ_refl c.args.n))

point_interval : (n : ℤ) → is_within n ≡ true → IsInterval (point n)
point_interval n w = record { ordered = ≤ℤ_refl n; low = within_low n w; high = within_high n w }

added : (c : In_ok-push-in-Some-2-2) → c.push-in-Some-2-2.new.self.items ≡ (c.pop.new.self.items ++ c.in-Some.last ∷ []) ++ point c.args.n ∷ []
added c = rw (c.in_ok-push-in-Some-2.ensures.items, c.single.ensures, to_z-of_z w64 c.args.n c.ranges.n) at c.in_ok-push-in-Some-2-2.ensures.items

pub returns-in_ok-push-in-Some-2-2-clause-proper : goal.returns-in_ok-push-in-Some-2-2-clause-proper
returns-in_ok-push-in-Some-2-2-clause-proper c =
    rw (added c) (rises_pushed _ c.args.n c.pop.new.self.items c.in-Some.last (rw c.in-Some.ensures.items at c.requires.proper) (far c.in-Some.last c.hi.result c.args.n c.hi.ensures.value c.hi.ensures.within c.ranges.n c.if-n-hi.false) (point_interval c.args.n (search (rules, c.requires.within))))

pub returns-in_ok-push-in-Some-2-2-clause-last : goal.returns-in_ok-push-in-Some-2-2-clause-last
returns-in_ok-push-in-Some-2-2-clause-last c =
    rw (added c) (end_push c.args.n (c.pop.new.self.items ++ c.in-Some.last ∷ []) (point c.args.n) (rw c.in-Some.ensures.items at c.requires.last) (≤ℤ_refl c.args.n))
