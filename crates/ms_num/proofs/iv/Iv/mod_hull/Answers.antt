use Rattle.std.proofs.Common.{◌^◌, ◌≡◌, ◌∙◌, ap, arith, Some, w64, to_z, of_z}
use Rattle.std.specs.Prelude.{FitsSigned, ℤ, pos, neg_ℤ, ◌-ℤ◌, ◌≤ℤ◌, unsigned_abs}
use Rattle.std.specs.Int.{int_max}
use Rattle.std.proofs.lemmas.Int.{ints, clamps}
use Rattle.ms_num.specs.Span.{Span, IsInterval, remainder_bound}
use Rattle.ms_num.proofs.SharedSpans.{lo_within, hi_within, read_within}
use Rattle.ms_num.proofs.SharedImages.{abs_is}
use Rattle.ms_num.proofs.SharedRemainders.{mod_has, mod_single, mod_value_single, mod_value_hull, single_bits, not_zero_bits, not_single_bits, read_rem, bound_not_negative, cut_is}
use Rattle.ms_num.proofs.iv.Iv.mod_hull.Goals as goal

pub returns-then-other-clause-value : goal.returns-then-other-clause-value
returns-then-other-clause-value c =
    let i = c.self.invariant in
    let j = c.other.invariant in
    let read = rw (read_rem c.self.inside.lo c.other.inside.lo (lo_within _ i) (lo_within _ j)) at c.single.ensures in
    rw (← c.self.view_is, ← c.other.view_is) (ap (λ s. Some s) read ∙ mod_value_single _ _ (not_zero_bits _ c.else-other-eq0.either) (single_bits _ i c.if-self.true) (single_bits _ j c.if-other.true))

pub returns-then-other-clause-all : goal.returns-then-other-clause-all
returns-then-other-clause-all c = rw (← returns-then-other-clause-value c) at (mod_has c.args.self c.args.other)

pub returns-then-other-clause-single : goal.returns-then-other-clause-single
returns-then-other-clause-single c = λ p q. rw (← returns-then-other-clause-value c) at (mod_single c.args.self c.args.other p q)

-- the bound, as the code computes it
bound : (s : Span) (u v m : ℤ) → IsInterval s → u ≡ pos (unsigned_abs (to_z w64 (of_z w64 s.lo))) → v ≡ pos (unsigned_abs (to_z w64 (of_z w64 s.hi))) → m ≡ int_max (to_z w64 (of_z w64 u)) (to_z w64 (of_z w64 v)) → to_z w64 (of_z w64 (to_z w64 (of_z w64 m) -ℤ pos 1)) ≡ remainder_bound s
bound s u v m i e f g =
    let e' = rw (read_within s.lo (lo_within s i)) at e in
    let f' = rw (read_within s.hi (hi_within s i)) at f in
    let o = i.ordered in let a = i.low in let b = i.high in
    let l = abs_is s.lo in let h = abs_is s.hi in
    omega (arith, ints, clamps)

most_high : (s : Span) → IsInterval s → remainder_bound s ≤ℤ pos (2 ^ 50)
most_high s i =
    let o = i.ordered in let a = i.low in let b = i.high in
    let l = abs_is s.lo in let h = abs_is s.hi in
    omega (arith, ints, clamps)

-- and its negation
turned : (m n : ℤ) → to_z w64 (of_z w64 n) ≡ m → pos 0 ≤ℤ m → m ≤ℤ pos (2 ^ 50) → to_z w64 (of_z w64 (pos 0 -ℤ to_z w64 (of_z w64 n))) ≡ neg_ℤ m
turned m n e h k = rw e (omega (arith, ints))

not_above : (m : ℤ) → pos 0 ≤ℤ m → neg_ℤ m ≤ℤ pos 0
not_above m h = omega (arith, ints)

pub remainders-requires-clause-negative : goal.remainders-requires-clause-negative
remainders-requires-clause-negative c =
    let b : Span = record { lo = c.other.inside.lo; hi = c.other.inside.hi } in
    let same = bound b c.abs.result c.abs-2.result c.max-most.result c.other.invariant c.abs.ensures.value c.abs-2.ensures.value c.max-most.ensures.value in
    let n = bound_not_negative b c.other.invariant.ordered (not_zero_bits b c.else-other-eq0.either) in
    rw (turned (remainder_bound b) _ same n (most_high b c.other.invariant)) (not_above (remainder_bound b) n)

pub remainders-requires-clause-positive : goal.remainders-requires-clause-positive
remainders-requires-clause-positive c =
    let b : Span = record { lo = c.other.inside.lo; hi = c.other.inside.hi } in
    rw (bound b c.abs.result c.abs-2.result c.max-most.result c.other.invariant c.abs.ensures.value c.abs-2.ensures.value c.max-most.ensures.value)
    (bound_not_negative b c.other.invariant.ordered (not_zero_bits b c.else-other-eq0.either))

pub returns-clause-value : goal.returns-clause-value
returns-clause-value c =
    let a : Span = record { lo = c.self.inside.lo; hi = c.self.inside.hi } in
    let b : Span = record { lo = c.other.inside.lo; hi = c.other.inside.hi } in
    let same = bound b c.abs.result c.abs-2.result c.max-most.result c.other.invariant c.abs.ensures.value c.abs-2.ensures.value c.max-most.ensures.value in
    let n = bound_not_negative b c.other.invariant.ordered (not_zero_bits b c.else-other-eq0.either) in
    let hull = rw (turned (remainder_bound b) _ same n (most_high b c.other.invariant), same, ← c.self.view_is, cut_is a (remainder_bound b) n) at c.remainders.ensures in
    rw (← c.self.view_is, ← c.other.view_is) (ap (λ s. Some s) hull ∙ mod_value_hull a b (not_zero_bits b c.else-other-eq0.either) (not_single_bits a b c.else-self.either))

pub returns-clause-all : goal.returns-clause-all
returns-clause-all c = rw (← returns-clause-value c) at (mod_has c.args.self c.args.other)

pub returns-clause-single : goal.returns-clause-single
returns-clause-single c = λ p q. rw (← returns-clause-value c) at (mod_single c.args.self c.args.other p q)

fits_turned : (m : ℤ) → pos 0 ≤ℤ m → m ≤ℤ pos (2 ^ 50) → FitsSigned w64 (pos 0 -ℤ m)
fits_turned m h k = omega (arith, ints)

pub overflow_sub-most-2 : goal.overflow_sub-most-2
overflow_sub-most-2 c =
    let b : Span = record { lo = c.other.inside.lo; hi = c.other.inside.hi } in
    let same = bound b c.abs.result c.abs-2.result c.max-most.result c.other.invariant c.abs.ensures.value c.abs-2.ensures.value c.max-most.ensures.value in
    rw same (fits_turned (remainder_bound b) (bound_not_negative b c.other.invariant.ordered (not_zero_bits b c.else-other-eq0.either)) (most_high b c.other.invariant))
