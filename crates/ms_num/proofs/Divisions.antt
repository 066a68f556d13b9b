-- The quotient and the remainder of one number by another.
use Rattle.std.proofs.Common.{◌≡◌, ◌∙◌, ℕ, zero, suc, ◌<◌, refl, sym, arith, Some, None}
use Rattle.std.specs.Prelude.{ℤ, pos, negsuc, ◌-ℤ◌, ◌*ℤ◌, ◌≤ℤ◌, int_div, int_rem, unsigned_abs}
use Rattle.std.proofs.lemmas.Int.{ints, quot-rem, rem_below}
use Rattle.std.proofs.Math.IntN.{*ℤ_comm}
use Rattle.std.proofs.Math.Nat.{zero-mod}
use Rattle.std.specs.Int.Signed.{≤ℤ_refl}
use Rattle.ms_num.specs.Laws.{IsDivision, DivisionCutsTowardZero, OnlyZeroDoesNotDivide, SameMembersSameRanges}
use Rattle.ms_num.proofs.SharedSpans.{same_some}
use Rattle.ms_num.proofs.SharedMembers.{one_list}

-- what the cut quotient leaves is the remainder of std
pub left_over : (x d : ℤ) → x -ℤ (d *ℤ int_div x d) ≡ int_rem x d
left_over x d = let e = quot-rem x d in let c = *ℤ_comm d (int_div x d) in omega (arith, ints)

pub rem_not_negative : (x d : ℤ) → pos 0 ≤ℤ x → pos 0 ≤ℤ int_rem x d
rem_not_negative (pos a) d h = omega (arith, ints)
rem_not_negative (negsuc a) d h = absurd (omega (arith, ints))

pub rem_not_positive : (x d : ℤ) → x ≤ℤ pos 0 → int_rem x d ≤ℤ pos 0
rem_not_positive (pos zero) d h = rw zero-mod (≤ℤ_refl (pos 0))
rem_not_positive (pos (suc a)) d h = absurd (omega (arith, ints))
rem_not_positive (negsuc a) d h = omega (arith, ints)

division : (x d q r : ℤ) → 0 < unsigned_abs d → int_div x d ≡ q → (x -ℤ (d *ℤ int_div x d)) ≡ r → IsDivision x d q r
division x d q r n e f =
    let same : int_rem x d ≡ r = sym (left_over x d) ∙ f in
    record {
      whole = rw (← e) (omega (arith, ints));
      smaller = rw (← same) (rem_below x d n);
      not_negative = λ h. rw (← same) (rem_not_negative x d h);
      not_positive = λ h. rw (← same) (rem_not_positive x d h);
    }

pub cuts_toward_zero : DivisionCutsTowardZero
cuts_toward_zero x (pos zero) q r e f = absurd (none e)
  where
    none : None ≡ Some q → ⊥
    none e = cc
cuts_toward_zero x (pos (suc n)) q r e f = division x (pos (suc n)) q r (omega arith) (same_some e) (same_some f)
cuts_toward_zero x (negsuc n) q r e f = division x (negsuc n) q r (omega arith) (same_some e) (same_some f)

some_none : (z : ℤ) → Some z ≡ None → ⊥
some_none z e = cc

no_zero : (n : ℕ) → pos (suc n) ≡ pos 0 → ⊥
no_zero n e = omega (arith, ints)

no_zero_below : (n : ℕ) → negsuc n ≡ pos 0 → ⊥
no_zero_below n e = cc

pub only_zero : OnlyZeroDoesNotDivide
only_zero x (pos zero) = ((λ _. refl, λ _. refl), (λ _. refl, λ _. refl))
only_zero x (pos (suc n)) = ((λ e. absurd (some_none _ e), λ e. absurd (no_zero n e)), (λ e. absurd (some_none _ e), λ e. absurd (no_zero n e)))
only_zero x (negsuc n) = ((λ e. absurd (some_none _ e), λ e. absurd (no_zero_below n e)), (λ e. absurd (some_none _ e), λ e. absurd (no_zero_below n e)))

pub same_ranges : SameMembersSameRanges
same_ranges ss ts r q h = one_list _ _ ss ts r q h
