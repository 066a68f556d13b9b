-- How many numbers of a row there are, word by word.
use Rattle.std.proofs.Common.{◌≡◌, ℕ, zero, suc, ◌+◌, ◌-◌, ◌*◌, ◌/◌, ◌%◌, ◌<◌, ◌≤◌, refl, sym, ap, ◌∙◌, arith, Bool, true, false, List, [], ◌∷◌, Option, Some, None, if◌then◌else◌}
use Rattle.std.specs.Prelude.{slice_index}
use Rattle.std.proofs.lemmas.Nat.{div-mul-add, mod-mul-add}
use Rattle.ms_bits.specs.Word as words
use Rattle.ms_bits.specs.Word.{has_bit, bits_from}
use Rattle.ms_domains.specs.Row.{in_row, row_count, IsLast, IsFirst}

pub row_split : (row : List ℕ) (k a b : ℕ) → row_count row k (a + b) ≡ row_count row k a + row_count row (k + a) b
row_split row k zero b = ap (row_count row k) (plain b) ∙ (let e : row_count row k b ≡ row_count row (k + 0) b = ap (λ x. row_count row x b) (same k) in omega (arith, e))
  where
    plain : (b : ℕ) → 0 + b ≡ b
    plain b = omega arith

    same : (k : ℕ) → k ≡ k + 0
    same k = omega arith
row_split row k (suc a) b =
    let e : row_count row k (suc a + b) ≡ row_count row k (suc (a + b)) = ap (row_count row k) (out a b) in
    let r = row_split row (suc k) a b in
    let m : row_count row (suc k + a) b ≡ row_count row (k + suc a) b = ap (λ x. row_count row x b) (over k a) in
    omega (arith, e, r, m)
  where
    out : (a b : ℕ) → suc a + b ≡ suc (a + b)
    out a b = omega arith

    over : (k a : ℕ) → suc k + a ≡ k + suc a
    over k a = omega arith

pub row_bound : (row : List ℕ) (k n : ℕ) → row_count row k n ≤ n
row_bound row k zero = omega arith
row_bound row k (suc n) = one (in_row row k) (row_count row (suc k) n) n (row_bound row (suc k) n)
  where
    one : (b : Bool) (m n : ℕ) → m ≤ n → (if b then 1 else 0) + m ≤ suc n
    one true m n l = omega (arith, l)
    one false m n l = omega (arith, l)

place : (row : List ℕ) (i a : ℕ) → a < 64 → in_row row (64 * i + a) ≡ has_bit (slice_index row i) a
place row i a l = ap (λ k. in_row row k) (turned i a) ∙ ap (λ j. has_bit (slice_index row j) ((i * 64 + a) % 64)) (div-mul-add i 64 a l) ∙ ap (has_bit (slice_index row i)) (mod-mul-add i 64 a l)
  where
    turned : (i a : ℕ) → 64 * i + a ≡ i * 64 + a
    turned i a = omega arith

pub row_word : (row : List ℕ) (i a n : ℕ) → a + n ≤ 64 → row_count row (64 * i + a) n ≡ bits_from (slice_index row i) a n
row_word row i a zero l = refl
row_word row i a (suc n) l =
    let e : in_row row (64 * i + a) ≡ has_bit (slice_index row i) a = place row i a (omega (arith, l)) in
    let r = row_word row i (suc a) n (omega (arith, l)) in
    let m : row_count row (suc (64 * i + a)) n ≡ row_count row (64 * i + suc a) n = ap (λ x. row_count row x n) (over i a) in
    joined (in_row row (64 * i + a)) (has_bit (slice_index row i) a) _ _ e (m ∙ r)
  where
    over : (i a : ℕ) → suc (64 * i + a) ≡ 64 * i + suc a
    over i a = omega arith

    joined : (b c : Bool) (m n : ℕ) → b ≡ c → m ≡ n → (if b then 1 else 0) + m ≡ (if c then 1 else 0) + n
    joined true true m n e f = omega (arith, f)
    joined false false m n e f = omega (arith, f)
    joined true false m n e f = absurd (cc)
    joined false true m n e f = absurd (cc)

-- the numbers of one word, from any of its numbers on
pub row_within : (row : List ℕ) (k n : ℕ) → k % 64 + n ≤ 64 → row_count row k n ≡ bits_from (slice_index row (k / 64)) (k % 64) n
row_within row k n l = ap (λ x. row_count row x n) (parts k) ∙ row_word row (k / 64) (k % 64) n l
  where
    parts : (k : ℕ) → k ≡ 64 * (k / 64) + k % 64
    parts k = omega arith

pub row_start : (row : List ℕ) (i n : ℕ) → n ≤ 64 → row_count row (64 * i) n ≡ bits_from (slice_index row i) 0 n
row_start row i n l = ap (λ x. row_count row x n) (plain i) ∙ row_word row i 0 n (omega (arith, l))
  where
    plain : (i : ℕ) → 64 * i ≡ 64 * i + 0
    plain i = omega arith

pub row_join : (row : List ℕ) (from mid n total more : ℕ) → from ≤ mid → total ≡ row_count row from (mid - from) → more ≡ row_count row mid n → total + more ≡ row_count row from (mid - from + n)
row_join row from mid n total more l e f =
    let s = row_split row from (mid - from) n in
    let m : row_count row (from + (mid - from)) n ≡ row_count row mid n = ap (λ x. row_count row x n) (omega (arith, l)) in
    omega (arith, s, m, e, f)

-- the first word, one word in between, the last one
pub across_first : (row : List ℕ) (from w total : ℕ) → total ≡ bits_from w (from % 64) (63 - from % 64 + 1) → w ≡ slice_index row (from / 64) → total ≡ row_count row from (64 * (from / 64 + 1) - from)
across_first row from w total e f =
    e ∙ ap (λ v. bits_from v (from % 64) (63 - from % 64 + 1)) f ∙ sym (row_within row from (63 - from % 64 + 1) (omega arith)) ∙ ap (row_count row from) (omega arith)

pub across_more : (row : List ℕ) (from i w total more : ℕ) → from < 64 * i → total ≡ row_count row from (64 * i - from) → more ≡ bits_from w 0 64 → w ≡ slice_index row i → total + more ≡ row_count row from (64 * (i + 1) - from)
across_more row from i w total more l e f g =
    row_join row from (64 * i) 64 total more (omega (arith, l)) e (f ∙ ap (λ v. bits_from v 0 64) g ∙ sym (row_start row i 64 (omega arith))) ∙ ap (row_count row from) (omega (arith, l))

pub across_last : (row : List ℕ) (from to i w total more : ℕ) → from < 64 * i → i ≡ to / 64 → total ≡ row_count row from (64 * i - from) → more ≡ bits_from w 0 (to % 64 + 1) → w ≡ slice_index row i → total + more ≡ row_count row from (to - from + 1)
across_last row from to i w total more l h e f g =
    row_join row from (64 * i) (to % 64 + 1) total more (omega (arith, l)) e (f ∙ ap (λ v. bits_from v 0 (to % 64 + 1)) g ∙ sym (row_start row i (to % 64 + 1) (omega arith))) ∙ ap (row_count row from) (omega (arith, l, h))

pub across_fits : (row : List ℕ) (from i n total more : ℕ) → total ≡ row_count row from (64 * i - from) → more ≤ n → total + more ≤ 64 * i + n
across_fits row from i n total more e b = let r = row_bound row from (64 * i - from) in omega (arith, e, b, r)

pub bits_bound : (w k n : ℕ) → bits_from w k n ≤ n
bits_bound w k zero = omega arith
bits_bound w k (suc n) = one (has_bit w k) (bits_from w (suc k) n) n (bits_bound w (suc k) n)
  where
    one : (b : Bool) (m n : ℕ) → m ≤ n → (if b then 1 else 0) + m ≤ suc n
    one true m n l = omega (arith, l)
    one false m n l = omega (arith, l)

-- ---- a word as a row

pub in_word : (word k : ℕ) → k < 64 → in_row (word ∷ []) k ≡ has_bit word k
in_word word k l = ap (in_row (word ∷ [])) (plain k) ∙ place (word ∷ []) 0 k l
  where
    plain : (k : ℕ) → k ≡ 64 * 0 + k
    plain k = omega arith

pub word_last : (word to : ℕ) (o : Option ℕ) → to < 64 → words.IsLast word to o → IsLast (word ∷ []) to o
word_last word to None b h = λ k l. in_word word k (omega (arith, b, l)) ∙ h k l
word_last word to (Some m) b h =
    let f = h.before in record {
      there = in_word word m (omega (arith, b, f)) ∙ h.there;
      before = h.before;
      greatest = λ k l e. h.greatest k l (sym (in_word word k (omega (arith, b, l))) ∙ e);
    }

pub word_first : (word from : ℕ) (o : Option ℕ) → words.IsFirst word from o → IsFirst (word ∷ []) from o
word_first word from None h = λ k l b. in_word word k (omega (arith, b)) ∙ h k l (omega (arith, b))
word_first word from (Some m) h =
    let f = h.bound in record {
      there = in_word word m f ∙ h.there;
      after = h.after;
      within = omega (arith, f);
      least = λ k l b e. let c : k < 64 = omega (arith, b) in h.least k l c (sym (in_word word k c) ∙ e);
    }

pub word_count : (word from n : ℕ) → from + n ≤ 64 → row_count (word ∷ []) from n ≡ bits_from word from n
word_count word from n l = ap (λ k. row_count (word ∷ []) k n) (plain from) ∙ row_word (word ∷ []) 0 from n l
  where
    plain : (k : ℕ) → k ≡ 64 * 0 + k
    plain k = omega arith
