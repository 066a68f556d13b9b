-- A set has one cut.
use Rattle.std.proofs.Common.{◌≡◌, ℕ, zero, suc, refl, sym, ap, ◌∙◌, subst, arith, true, false, Bool, if◌then◌else◌}
use Rattle.std.specs.Prelude.{ℤ, pos, ◌+ℤ◌, ◌-ℤ◌, ◌≤ℤ◌, ◌≤◌}
use Rattle.std.proofs.lemmas.Int.{ints}
use Rattle.std.proofs.Math.Path.{fun_ext}
use Rattle.ms_num.specs.Sets.{Set, IsSet, kept, first_from, last_from, width}
use Rattle.ms_num.specs.Laws.{CutsAreOne, CutIsCut}
use Rattle.ms_num.proofs.SharedSpans.{and_left}
use Rattle.ms_num.proofs.SharedCounts.{IsNat, nat_of, here_ℤ}

abbrev set_of_parts : ℤ → ℤ → (ℤ → Bool) → Set
set_of_parts a b f = record { lo = a; hi = b; has = f }

set_is : (a b c d : ℤ) (f g : ℤ → Bool) → a ≡ c → b ≡ d → f ≡ g → set_of_parts a b f ≡ set_of_parts c d g
set_is a b c d f g h k l = ap (λ x. set_of_parts x b f) h ∙ ap (λ x. set_of_parts c x f) k ∙ ap (λ x. set_of_parts c d x) l

pub set_same : (s t : Set) → IsSet s → IsSet t → ((z : ℤ) → s.has z ≡ t.has z) → s ≡ t
set_same s t i j same =
    let a = i.from t.lo (same t.lo ∙ j.low) in
    let b = j.from s.lo (sym (same s.lo) ∙ i.low) in
    let c = i.to t.hi (same t.hi ∙ j.high) in
    let d = j.to s.hi (sym (same s.hi) ∙ i.high) in
    set_is s.lo s.hi t.lo t.hi s.has t.has (omega (arith, ints, a, b)) (omega (arith, ints, c, d)) (fun_ext same)

pub cuts_are_one : CutsAreOne
cuts_are_one keep s t u c d = set_same t u c.proper d.proper (λ z. c.members z ∙ sym (d.members z))

back : (z : ℤ) → z -ℤ pos 0 ≡ z
back z = omega (arith, ints)

first_passes : (p : ℤ → Bool) (z : ℤ) (n k : ℕ) → k ≤ n → p (z +ℤ pos k) ≡ true → p (first_from p z n) ≡ true
first_passes p z zero zero l e = ap p (sym (here_ℤ z)) ∙ e
first_passes p z zero (suc k) l e = absurd (omega (arith, l))
first_passes p z (suc n) k l e = by_test (p z) refl (λ k l e. first_passes p (z +ℤ pos 1) n k l e)
  where
    later : p z ≡ false → (k : ℕ) → k ≤ suc n → p (z +ℤ pos k) ≡ true → ((k : ℕ) → k ≤ n → p ((z +ℤ pos 1) +ℤ pos k) ≡ true → p (first_from p (z +ℤ pos 1) n) ≡ true) → p (first_from p (z +ℤ pos 1) n) ≡ true
    later f zero l e rest = absurd (let g : p z ≡ true = ap p (sym (here_ℤ z)) ∙ e in cc)
    later f (suc k) l e rest = rest k (omega (arith, l)) (ap p (omega (arith, ints)) ∙ e)

    by_test : (t : Bool) → p z ≡ t → ((k : ℕ) → k ≤ n → p ((z +ℤ pos 1) +ℤ pos k) ≡ true → p (first_from p (z +ℤ pos 1) n) ≡ true) → p (if p z then z else first_from p (z +ℤ pos 1) n) ≡ true
    by_test true f rest = ap (λ b. p (if b then z else first_from p (z +ℤ pos 1) n)) f ∙ f
    by_test false f rest = ap (λ b. p (if b then z else first_from p (z +ℤ pos 1) n)) f ∙ later f k l e rest

first_least : (p : ℤ → Bool) (z : ℤ) (n k : ℕ) → k ≤ n → p (z +ℤ pos k) ≡ true → first_from p z n ≤ℤ (z +ℤ pos k)
first_least p z zero k l e = omega (arith, ints)
first_least p z (suc n) k l e = by_test (p z) refl (λ k l e. first_least p (z +ℤ pos 1) n k l e)
  where
    later : p z ≡ false → (k : ℕ) → k ≤ suc n → p (z +ℤ pos k) ≡ true → ((k : ℕ) → k ≤ n → p ((z +ℤ pos 1) +ℤ pos k) ≡ true → first_from p (z +ℤ pos 1) n ≤ℤ ((z +ℤ pos 1) +ℤ pos k)) → first_from p (z +ℤ pos 1) n ≤ℤ (z +ℤ pos k)
    later f zero l e rest = absurd (let g : p z ≡ true = ap p (sym (here_ℤ z)) ∙ e in cc)
    later f (suc k) l e rest = let r = rest k (omega (arith, l)) (ap p (omega (arith, ints)) ∙ e) in omega (arith, ints, r)

    by_test : (t : Bool) → p z ≡ t → ((k : ℕ) → k ≤ n → p ((z +ℤ pos 1) +ℤ pos k) ≡ true → first_from p (z +ℤ pos 1) n ≤ℤ ((z +ℤ pos 1) +ℤ pos k)) → (if p z then z else first_from p (z +ℤ pos 1) n) ≤ℤ (z +ℤ pos k)
    by_test true f rest = subst (λ b. (if b then z else first_from p (z +ℤ pos 1) n) ≤ℤ (z +ℤ pos k)) (sym f) (omega (arith, ints))
    by_test false f rest = subst (λ b. (if b then z else first_from p (z +ℤ pos 1) n) ≤ℤ (z +ℤ pos k)) (sym f) (later f k l e rest)

last_passes : (p : ℤ → Bool) (z : ℤ) (n k : ℕ) → k ≤ n → p (z -ℤ pos k) ≡ true → p (last_from p z n) ≡ true
last_passes p z zero zero l e = ap p (sym (back z)) ∙ e
last_passes p z zero (suc k) l e = absurd (omega (arith, l))
last_passes p z (suc n) k l e = by_test (p z) refl (λ k l e. last_passes p (z -ℤ pos 1) n k l e)
  where
    later : p z ≡ false → (k : ℕ) → k ≤ suc n → p (z -ℤ pos k) ≡ true → ((k : ℕ) → k ≤ n → p ((z -ℤ pos 1) -ℤ pos k) ≡ true → p (last_from p (z -ℤ pos 1) n) ≡ true) → p (last_from p (z -ℤ pos 1) n) ≡ true
    later f zero l e rest = absurd (let g : p z ≡ true = ap p (sym (back z)) ∙ e in cc)
    later f (suc k) l e rest = rest k (omega (arith, l)) (ap p (omega (arith, ints)) ∙ e)

    by_test : (t : Bool) → p z ≡ t → ((k : ℕ) → k ≤ n → p ((z -ℤ pos 1) -ℤ pos k) ≡ true → p (last_from p (z -ℤ pos 1) n) ≡ true) → p (if p z then z else last_from p (z -ℤ pos 1) n) ≡ true
    by_test true f rest = ap (λ b. p (if b then z else last_from p (z -ℤ pos 1) n)) f ∙ f
    by_test false f rest = ap (λ b. p (if b then z else last_from p (z -ℤ pos 1) n)) f ∙ later f k l e rest

last_most : (p : ℤ → Bool) (z : ℤ) (n k : ℕ) → k ≤ n → p (z -ℤ pos k) ≡ true → (z -ℤ pos k) ≤ℤ last_from p z n
last_most p z zero k l e = omega (arith, ints)
last_most p z (suc n) k l e = by_test (p z) refl (λ k l e. last_most p (z -ℤ pos 1) n k l e)
  where
    later : p z ≡ false → (k : ℕ) → k ≤ suc n → p (z -ℤ pos k) ≡ true → ((k : ℕ) → k ≤ n → p ((z -ℤ pos 1) -ℤ pos k) ≡ true → ((z -ℤ pos 1) -ℤ pos k) ≤ℤ last_from p (z -ℤ pos 1) n) → (z -ℤ pos k) ≤ℤ last_from p (z -ℤ pos 1) n
    later f zero l e rest = absurd (let g : p z ≡ true = ap p (sym (back z)) ∙ e in cc)
    later f (suc k) l e rest = let r = rest k (omega (arith, l)) (ap p (omega (arith, ints)) ∙ e) in omega (arith, ints, r)

    by_test : (t : Bool) → p z ≡ t → ((k : ℕ) → k ≤ n → p ((z -ℤ pos 1) -ℤ pos k) ≡ true → ((z -ℤ pos 1) -ℤ pos k) ≤ℤ last_from p (z -ℤ pos 1) n) → (z -ℤ pos k) ≤ℤ (if p z then z else last_from p (z -ℤ pos 1) n)
    by_test true f rest = subst (λ b. (z -ℤ pos k) ≤ℤ (if b then z else last_from p (z -ℤ pos 1) n)) (sym f) (omega (arith, ints))
    by_test false f rest = subst (λ b. (z -ℤ pos k) ≤ℤ (if b then z else last_from p (z -ℤ pos 1) n)) (sym f) (later f k l e rest)

pub cut_is_cut : CutIsCut
cut_is_cut keep s z i h = record {
  members = λ y. refl;
  proper = record { low = below.0; high = above.0; from = λ y e. (from_low y e).1; to = λ y e. (to_high y e).1 };
}
  where
    p : ℤ → Bool
    p = kept keep s

    n : ℕ
    n = width (s.hi -ℤ s.lo)

    from_low : (y : ℤ) → p y ≡ true → (p (first_from p s.lo n) ≡ true) × (first_from p s.lo n ≤ℤ y)
    from_low y e = by_nats (nat_of (y -ℤ s.lo) (let a = i.from y (and_left (s.has y) (keep y) e) in omega (arith, ints, a))) (nat_of (s.hi -ℤ s.lo) (let a = i.from s.hi i.high in omega (arith, ints, a)))
      where
        by_nats : IsNat (y -ℤ s.lo) → IsNat (s.hi -ℤ s.lo) → (p (first_from p s.lo n) ≡ true) × (first_from p s.lo n ≤ℤ y)
        by_nats k m =
            let ek = k.is in let em = m.is in
            let w : n ≡ suc m.number = ap width em in
            let top = i.to y (and_left (s.has y) (keep y) e) in
            let at : s.lo +ℤ pos k.number ≡ y = omega (arith, ints, ek) in
            let l : k.number ≤ n = omega (arith, ints, ek, em, w, top) in
            let q : p (s.lo +ℤ pos k.number) ≡ true = ap p at ∙ e in
            (first_passes p s.lo n k.number l q, subst (λ x. first_from p s.lo n ≤ℤ x) at (first_least p s.lo n k.number l q))

    to_high : (y : ℤ) → p y ≡ true → (p (last_from p s.hi n) ≡ true) × (y ≤ℤ last_from p s.hi n)
    to_high y e = by_nats (nat_of (s.hi -ℤ y) (let a = i.to y (and_left (s.has y) (keep y) e) in omega (arith, ints, a))) (nat_of (s.hi -ℤ s.lo) (let a = i.from s.hi i.high in omega (arith, ints, a)))
      where
        by_nats : IsNat (s.hi -ℤ y) → IsNat (s.hi -ℤ s.lo) → (p (last_from p s.hi n) ≡ true) × (y ≤ℤ last_from p s.hi n)
        by_nats k m =
            let ek = k.is in let em = m.is in
            let w : n ≡ suc m.number = ap width em in
            let low = i.from y (and_left (s.has y) (keep y) e) in
            let at : s.hi -ℤ pos k.number ≡ y = omega (arith, ints, ek) in
            let l : k.number ≤ n = omega (arith, ints, ek, em, w, low) in
            let q : p (s.hi -ℤ pos k.number) ≡ true = ap p at ∙ e in
            (last_passes p s.hi n k.number l q, subst (λ x. x ≤ℤ last_from p s.hi n) at (last_most p s.hi n k.number l q))

    below : (p (first_from p s.lo n) ≡ true) × (first_from p s.lo n ≤ℤ z)
    below = from_low z h

    above : (p (last_from p s.hi n) ≡ true) × (z ≤ℤ last_from p s.hi n)
    above = to_high z h
