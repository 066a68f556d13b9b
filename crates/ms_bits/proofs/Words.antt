-- On the bits of a word.
use Rattle.std.proofs.Common.{Some, None, ◌≡◌, ℕ, zero, suc, ◌+◌, ◌-◌, ◌*◌, ◌<◌, ◌≤◌, ◌⊎◌, inl, inr, refl, sym, ap, ◌∙◌, arith, true, false, nat_eq, if◌then◌else◌, ◌/◌, ◌%◌, ◌^◌, w64}
use Rattle.std.specs.Int.{bit_at, trailing_zeros, leading_zeros}
use lib.Count.{ones, ones-ones}
use Rattle.std.specs.Int.Bits.{bit_and}
use Rattle.std.proofs.Math.Nat.{div-div-eq-div-mul, div-le_self}
use Rattle.std.proofs.lemmas.Nat.{pow-add, pow_pos, and_mask, shr_split, mod_below, mod-pow-add, ones_cat, leading_top, shr-shr, le-div, div_below}
use Rattle.std.proofs.lemmas.Nat.Bits.{bit_at-trailing_zeros, bit_at_above, bit_at_cat_low, bit_at-zero, ones_shr}
use Rattle.std.proofs.lemmas.Bool.Decides.{nat_tests}
use Rattle.ms_bits.specs.Word.{has_bit, bits_from, IsFirst, IsLast}

pub bit_true : (w k : ℕ) → bit_at w k ≡ 1 → has_bit w k ≡ true
bit_true w k e = grind (arith, nat_tests)

pub bit_false : (w k : ℕ) → bit_at w k ≡ 0 → has_bit w k ≡ false
bit_false w k e = grind (arith, nat_tests)

bit_set : (w k : ℕ) → has_bit w k ≡ true → bit_at w k ≡ 1
bit_set w k e = grind (arith, nat_tests)

pub bit_same : (w v j : ℕ) → bit_at w j ≡ bit_at v j → has_bit w j ≡ has_bit v j
bit_same w v j e = ap (λ b. nat_eq b 1) e

split : (a b : ℕ) → (a < b) ⊎ (b ≤ a)
split a b = grind arith

-- ---- a shifted word

bit_at-shr : (n k i : ℕ) → bit_at (n / 2 ^ k) i ≡ bit_at n (k + i)
bit_at-shr n k i = ap (λ m. m % 2) (div-div-eq-div-mul n (2 ^ k) (2 ^ i) ∙ ap (λ p. n / p) (sym (pow-add 2 k i)))

shr_less : (n k : ℕ) → n < 2 ^ 64 → n / 2 ^ k < 2 ^ 64
shr_less n k h = let l : n / 2 ^ k ≤ n = div-le_self n (2 ^ k) in omega arith

absurd_bit : (w k : ℕ) → has_bit w k ≡ true → bit_at w k ≡ 0 → {A : Type 0} → A
absurd_bit w k h e {A} = absurd (let s = bit_set w k h in omega (arith, s, e))

at_distance : (w from k : ℕ) → from ≤ k → bit_at (w / 2 ^ from) (k - from) ≡ bit_at w k
at_distance w from k l = bit_at-shr w from (k - from) ∙ ap (bit_at w) (omega (arith, l))

pub first_none : (w from : ℕ) → w / 2 ^ from ≡ 0 → IsFirst w from None
first_none w from e = λ k l b. bit_false w k (sym (at_distance w from k l) ∙ ap (λ n. bit_at n (k - from)) e ∙ bit_at-zero (k - from))

pub first_some : (w from t : ℕ) → w < 2 ^ 64 → 0 < w / 2 ^ from → t ≡ trailing_zeros w64 (w / 2 ^ from) → IsFirst w from (Some (from + t))
first_some w from t h p e =
    let all = bit_at-trailing_zeros w64 (w / 2 ^ from) p (shr_less w from h) in
    let here : bit_at w (from + t) ≡ 1 = sym (bit_at-shr w from t) ∙ ap (bit_at (w / 2 ^ from)) e ∙ all.1 in
    record {
      bound = within here (split (from + t) 64);
      there = bit_true w (from + t) here;
      after = omega arith;
      least = λ k l b s. by_case k l s (split k (from + t));
    }
  where
    within : bit_at w (from + t) ≡ 1 → (from + t < 64) ⊎ (64 ≤ from + t) → from + t < 64
    within here (inl l) = l
    within here (inr l) = absurd (let z = bit_at_above w 64 (from + t) h l in omega (arith, here, z))

    by_case : (k : ℕ) → from ≤ k → has_bit w k ≡ true → (k < from + t) ⊎ (from + t ≤ k) → from + t ≤ k
    by_case k l s (inr a) = a
    by_case k l s (inl a) = absurd_bit w k s (sym (at_distance w from k l) ∙ (bit_at-trailing_zeros w64 (w / 2 ^ from) p (shr_less w from h)).2 (k - from) (omega (arith, a, l, e)))

-- ---- the low part of a word

pub low_part : (w to : ℕ) → to < 64 → bit_and w ((2 ^ 64 - 1) / 2 ^ (63 - to)) ≡ w % 2 ^ (to + 1)
low_part w to l = ap (bit_and w) (ones_shr 64 (63 - to) (omega arith) ∙ ap (λ k. 2 ^ k - 1) (omega (arith, l))) ∙ and_mask w (to + 1)

low_bit : (w n i : ℕ) → i < n → bit_at (w % 2 ^ n) i ≡ bit_at w i
low_bit w n i l = sym (bit_at_cat_low (w / 2 ^ n) n (w % 2 ^ n) i l) ∙ ap (λ m. bit_at m i) (shr_split w n)

pub last_none : (w to : ℕ) → w % 2 ^ (to + 1) ≡ 0 → IsLast w to None
last_none w to e = λ k l. bit_false w k (sym (low_bit w (to + 1) k (omega (arith, l))) ∙ ap (λ n. bit_at n k) e ∙ bit_at-zero k)

top_bit : (n j : ℕ) → 2 ^ j ≤ n → n < 2 ^ suc j → bit_at n j ≡ 1
top_bit n j a b =
    let p = pow_pos j in
    let l : 1 ≤ n / 2 ^ j = le-div 1 n (2 ^ j) p (omega (arith, a)) in
    let twice : 2 ^ suc j ≡ 2 * 2 ^ j = doubled j in
    let u : n / 2 ^ j < 2 = div_below n (2 ^ j) 2 p (omega (arith, b, twice)) in
    let one : n / 2 ^ j ≡ 1 = omega (arith, l, u) in
    ap (λ m. m % 2) one
  where
    doubled : (j : ℕ) → 2 ^ suc j ≡ 2 * 2 ^ j
    doubled j = ap (λ k. 2 ^ k) (suc_one j) ∙ pow-add 2 1 j
      where
        suc_one : (j : ℕ) → suc j ≡ 1 + j
        suc_one j = omega arith

-- the place of the highest bit of a number
record IsTop (n z j : ℕ) : Type 0 where
  place : 63 - z ≡ j
  set : bit_at n j ≡ 1
  above : (k : ℕ) → j < k → bit_at n k ≡ 0

top_of : (n z : ℕ) → 0 < n → n < 2 ^ 64 → z ≡ leading_zeros w64 n → (j : ℕ) × IsTop n z j
top_of n z p b e =
    let t = leading_top 64 n p b in
    let j = t.0 in
    let same : z + suc t.0 ≡ 64 = ap (λ x. x + suc t.0) e ∙ t.1 in
    (t.0, record { place = omega (arith, same); set = top_bit n t.0 t.2 t.3; above = λ k l. bit_at_above n (suc t.0) k t.3 (omega (arith, l)) })

pub last_some : (w to z : ℕ) → to < 64 → w % 2 ^ (to + 1) < 2 ^ 64 → 0 < w % 2 ^ (to + 1) → z ≡ leading_zeros w64 (w % 2 ^ (to + 1)) → IsLast w to (Some (63 - z))
last_some w to z l b p e = by_top (top_of (w % 2 ^ (to + 1)) z p b e)
  where
    inside : (j : ℕ) → IsTop (w % 2 ^ (to + 1)) z j → (j < to + 1) ⊎ (to + 1 ≤ j) → j < to + 1
    inside j t (inl a) = a
    inside j t (inr a) = absurd (let s = t.set in let y = bit_at_above (w % 2 ^ (to + 1)) (to + 1) j (mod_below w (2 ^ (to + 1)) (pow_pos (to + 1))) a in omega (arith, s, y))

    below : (j k : ℕ) → IsTop (w % 2 ^ (to + 1)) z j → k ≤ to → has_bit w k ≡ true → (j < k) ⊎ (k ≤ j) → k ≤ j
    below j k t a h (inr c) = c
    below j k t a h (inl c) = absurd_bit w k h (sym (low_bit w (to + 1) k (omega (arith, a))) ∙ t.above k c)

    by_top : (j : ℕ) × IsTop (w % 2 ^ (to + 1)) z j → IsLast w to (Some (63 - z))
    by_top (j, t) =
        let r = inside j t (split j (to + 1)) in
        let q = t.place in record {
          there = bit_true w (63 - z) (ap (bit_at w) q ∙ sym (low_bit w (to + 1) j r) ∙ t.set);
          before = omega (arith, r, q);
          greatest = λ k a h. let c = below j k t a h (split j k) in omega (arith, c, q);
        }

-- ---- counting

lowest_one : (w k r : ℕ) → r ≡ bit_at w k → r < 2 → ones r ≡ (if has_bit w k then 1 else 0)
lowest_one w k zero e l = ones-ones 0 ∙ ap (λ b. if nat_eq b 1 then 1 else 0) e
lowest_one w k (suc zero) e l = ones-ones 1 ∙ ap (λ b. if nat_eq b 1 then 1 else 0) e
lowest_one w k (suc (suc r)) e l = absurd (omega (arith, l))

pub count_bits : (w k n : ℕ) → ones (w / 2 ^ k % 2 ^ n) ≡ bits_from w k n
count_bits w k zero = ap ones (let m = mod_below (w / 2 ^ k) 1 (omega arith) in let z : w / 2 ^ k % 1 ≡ 0 = omega (arith, m) in z) ∙ ones-ones 0
count_bits w k (suc n) =
    let x = w / 2 ^ k in
    let r : w / 2 ^ k % 2 < 2 = mod_below (w / 2 ^ k) 2 (omega arith) in
    let parts : w / 2 ^ k % 2 ^ suc n ≡ (w / 2 ^ k / 2 ^ 1 % 2 ^ n) * 2 ^ 1 + w / 2 ^ k % 2 ^ 1 = ap (λ m. w / 2 ^ k % 2 ^ m) (suc_end n) ∙ mod-pow-add (w / 2 ^ k) n 1 in
    let cat = ones_cat 1 (w / 2 ^ k / 2 ^ 1 % 2 ^ n) (w / 2 ^ k % 2 ^ 1) r in
    let shifted : w / 2 ^ k / 2 ^ 1 ≡ w / 2 ^ suc k = shr-shr w k 1 ∙ ap (λ m. w / 2 ^ m) (sym (suc_end k)) in
    let rest : ones (w / 2 ^ k / 2 ^ 1 % 2 ^ n) ≡ bits_from w (suc k) n = ap (λ m. ones (m % 2 ^ n)) shifted ∙ count_bits w (suc k) n in
    let low = lowest_one w k (w / 2 ^ k % 2 ^ 1) refl r in
    ap ones parts ∙ cat ∙ omega (arith, rest, low)
  where
    suc_end : (n : ℕ) → suc n ≡ n + 1
    suc_end n = omega arith

pub positive : (n : ℕ) → (n ≡ 0 → ⊥) → 0 < n
positive zero h = absurd (h refl)
positive (suc n) h = omega arith
