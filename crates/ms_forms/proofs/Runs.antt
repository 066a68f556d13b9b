-- Runs of bytes of a kind, and which form a first byte begins.
use Rattle.std.proofs.Common.{◌≡◌, ℕ, suc, ◌+◌, ◌≤◌, ◌<◌, List, [], ◌∷◌, ◌++◌, length, take, Bool, true, false, refl, sym, ap, ◌∙◌, arith, inl, inr}
use Rattle.std.specs.Prelude.{◌==◌, ◌&&◌, ◌⊎◌}
use Rattle.std.specs.List.{list_all}
use Rattle.std.proofs.lemmas.Bool.Decides.{eqb_tells, nat_tests}
use Rattle.std.proofs.lemmas.List.Sums.{take_while-cons}
use Rattle.ms_syntax.specs.Form.{form, word, number, run, byte_at, is_white, is_letter, is_digit, is_name_byte}

-- ---- tests

pub tested : (b : Bool) → (b ≡ true) ⊎ (b ≡ false)
tested true = inl refl
tested false = inr refl

pub and_left : (a b : Bool) → (a && b) ≡ true → a ≡ true
and_left true b h = refl
and_left false b h = h

pub and_right : (a b : Bool) → (a && b) ≡ true → b ≡ true
and_right true b h = h
and_right false b h = absurd (let no : false ≡ true = h in cc)

pub both : (a b : Bool) → a ≡ true → b ≡ true → (a && b) ≡ true
both true b h i = i
both false b h i = h

pub same_eqb : (a b : ℕ) → (a == b) ≡ true → a ≡ b
same_eqb a b h = elim (eqb_tells a b) as (λ _. a ≡ b) [ inl e ↦ e.1 | inr e ↦ absurd (let no : false ≡ true = sym e.0 ∙ h in cc) ]

pub ne_eqb : (a b : ℕ) → (a ≡ b → ⊥) → (a == b) ≡ false
ne_eqb a b h = elim (eqb_tells a b) as (λ _. (a == b) ≡ false) [ inl e ↦ absurd (h e.1) | inr e ↦ e.0 ]

letter_range : (b : ℕ) → is_letter b ≡ true → (65 ≤ b) × (b ≤ 122)
letter_range b h = grind (arith, nat_tests)

pub digit_range : (b : ℕ) → is_digit b ≡ true → (48 ≤ b) × (b ≤ 57)
digit_range b h = grind (arith, nat_tests)

not_white : (b : ℕ) → 33 ≤ b → is_white b ≡ false
not_white b h = grind (arith, nat_tests)

no_letter : (b : ℕ) → b ≤ 57 → is_letter b ≡ false
no_letter b h = grind (arith, nat_tests)

pub digit_no_letter : (b : ℕ) → is_digit b ≡ true → is_letter b ≡ false
digit_no_letter b h = no_letter b (digit_range b h).1

pub letter_no_digit : (b : ℕ) → is_letter b ≡ true → is_digit b ≡ false
letter_no_digit b h = let low = (letter_range b h).0 in grind (arith, nat_tests)

pub letter_name_byte : (b : ℕ) → is_letter b ≡ true → is_name_byte b ≡ true
letter_name_byte b h = rw h refl

-- ---- what a first byte begins

pub form_word : (b : ℕ) (bs : List ℕ) → is_letter b ≡ true → form (b ∷ bs) ≡ word (b ∷ bs)
unfolding form
form_word b bs h =
    let range = letter_range b h in
    let white : is_white b ≡ false = not_white b (omega arith) in
    let percent : (b == 37) ≡ false = ne_eqb b 37 (λ e. omega arith) in
    rw (white, percent, h) refl

pub form_number : (b : ℕ) (bs : List ℕ) → is_digit b ≡ true → form (b ∷ bs) ≡ number (b ∷ bs)
unfolding form
form_number b bs h =
    let range = digit_range b h in
    let white : is_white b ≡ false = not_white b (omega arith) in
    let percent : (b == 37) ≡ false = ne_eqb b 37 (λ e. omega arith) in
    let letter : is_letter b ≡ false = digit_no_letter b h in
    rw (white, percent, letter, h) refl

-- ---- runs

pub run_cons : (p : ℕ → Bool) (b : ℕ) (bs : List ℕ) → p b ≡ true → run p (b ∷ bs) ≡ suc (run p bs)
run_cons p b bs h = ap length (take_while-cons p b bs) ∙ rw h refl

pub run_front : (p : ℕ → Bool) (s r : List ℕ) → list_all p s ≡ true → run p (s ++ r) ≡ length s + run p r
run_front p [] r h = omega arith
run_front p (b ∷ bs) r h = omega (arith, run_cons p b (bs ++ r) (and_left (p b) (list_all p bs) h), run_front p bs r (and_right (p b) (list_all p bs) h))

pub run_stop : (p : ℕ → Bool) (r : List ℕ) → p (byte_at r 0) ≡ false → run p r ≡ 0
run_stop p [] h = refl
run_stop p (b ∷ bs) h = ap length (take_while-cons p b bs) ∙ (let here : p b ≡ false = h in rw here refl)

pub run_some : (p : ℕ → Bool) (b : ℕ) (bs : List ℕ) → p b ≡ true → 0 < run p (b ∷ bs)
run_some p b bs h = omega (arith, run_cons p b bs h)

pub run_within : (p : ℕ → Bool) (bytes : List ℕ) → run p bytes ≤ length bytes
run_within p [] = omega arith
run_within p (b ∷ bs) = elim (tested (p b)) as (λ _. run p (b ∷ bs) ≤ suc (length bs)) [
  | inl h ↦ omega (arith, run_cons p b bs h, run_within p bs)
  | inr h ↦ omega (arith, run_stop p (b ∷ bs) h)
]

-- the bytes of a run are all of the kind
pub run_all : (p : ℕ → Bool) (bytes : List ℕ) → list_all p (take (run p bytes) bytes) ≡ true
run_all p [] = refl
run_all p (b ∷ bs) = elim (tested (p b)) as (λ _. list_all p (take (run p (b ∷ bs)) (b ∷ bs)) ≡ true) [
  | inl h ↦ rw (run_cons p b bs h) (both (p b) (list_all p (take (run p bs) bs)) h (run_all p bs))
  | inr h ↦ rw (run_stop p (b ∷ bs) h) refl
]

-- a run that begins with b is b and the run behind it
pub run_begins : (p : ℕ → Bool) (b : ℕ) (bs : List ℕ) → p b ≡ true → take (run p (b ∷ bs)) (b ∷ bs) ≡ b ∷ take (run p bs) bs
run_begins p b bs h = rw (run_cons p b bs h) refl
