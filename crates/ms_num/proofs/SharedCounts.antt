-- How many numbers sets have: of a smaller set at most as many, and of the two parts of a cut as many together.
use Rattle.std.proofs.Common.{◌≡◌, ℕ, ◌+◌, ◌<◌, ◌≤◌, zero, suc, refl, sym, ap, ◌∙◌, arith, ◌&&◌, true, false, Bool, if◌then◌else◌, not}
use Rattle.std.specs.Prelude.{ℤ, pos, negsuc, ◌+ℤ◌, ◌-ℤ◌, ◌≤ℤ◌}
use Rattle.std.proofs.lemmas.Int.{ints}
use Rattle.ms_num.specs.Sets.{Set, IsSet, IsCut, Among, set_size, count_from, width}

pub step_ℤ : (z : ℤ) (k : ℕ) → (z +ℤ pos 1) +ℤ pos k ≡ z +ℤ pos (suc k)
step_ℤ z k = omega (arith, ints)

pub here_ℤ : (z : ℤ) → z +ℤ pos 0 ≡ z
here_ℤ z = omega (arith, ints)

count_none : (p : ℤ → Bool) (z : ℤ) (n : ℕ) → ((k : ℕ) → k < n → p (z +ℤ pos k) ≡ false) → count_from p z n ≡ 0
count_none p z zero h = refl
count_none p z (suc n) h = one (p z) _ (ap p (sym (here_ℤ z)) ∙ h 0 (omega arith)) (count_none p (z +ℤ pos 1) n (λ k b. ap p (step_ℤ z k) ∙ h (suc k) (omega (arith, b))))
  where
    one : (b : Bool) (m : ℕ) → b ≡ false → m ≡ 0 → (if b then 1 else 0) + m ≡ 0
    one false m e f = omega (arith, f)
    one true m e f = absurd (cc)

count_le : (p q : ℤ → Bool) → ((z : ℤ) → p z ≡ true → q z ≡ true) → (z : ℤ) (n : ℕ) → count_from p z n ≤ count_from q z n
count_le p q h z zero = omega arith
count_le p q h z (suc n) = one (p z) (q z) _ _ (h z) (count_le p q h (z +ℤ pos 1) n)
  where
    one : (a b : Bool) (m k : ℕ) → (a ≡ true → b ≡ true) → m ≤ k → (if a then 1 else 0) + m ≤ (if b then 1 else 0) + k
    one false false m k h l = omega (arith, l)
    one false true m k h l = omega (arith, l)
    one true true m k h l = omega (arith, l)
    one true false m k h l = absurd (let e = h refl in cc)

count_parts : (s f g keep : ℤ → Bool) → ((z : ℤ) → f z ≡ (s z && keep z)) → ((z : ℤ) → g z ≡ (s z && not (keep z))) → (z : ℤ) (n : ℕ) → count_from f z n + count_from g z n ≡ count_from s z n
count_parts s f g keep hf hg z zero = refl
count_parts s f g keep hf hg z (suc n) = one (s z) (keep z) (f z) (g z) _ _ _ (hf z) (hg z) (count_parts s f g keep hf hg (z +ℤ pos 1) n)
  where
    one : (a k b c : Bool) (m l t : ℕ) → b ≡ (a && k) → c ≡ (a && not k) → m + l ≡ t → ((if b then 1 else 0) + m) + ((if c then 1 else 0) + l) ≡ (if a then 1 else 0) + t
    one false k false false m l t e f h = omega (arith, h)
    one true true true false m l t e f h = omega (arith, h)
    one true false false true m l t e f h = omega (arith, h)
    one false k true c m l t e f h = absurd (cc)
    one false k false true m l t e f h = absurd (cc)
    one true true false c m l t e f h = absurd (cc)
    one true true true true m l t e f h = absurd (cc)
    one true false true c m l t e f h = absurd (cc)
    one true false false false m l t e f h = absurd (cc)

pub count_some : (p : ℤ → Bool) (z : ℤ) (n : ℕ) → 0 < n → p z ≡ true → 1 ≤ count_from p z n
count_some p z zero l e = absurd (omega (arith, l))
count_some p z (suc n) l e = one (p z) (count_from p (z +ℤ pos 1) n) e
  where
    one : (b : Bool) (m : ℕ) → b ≡ true → 1 ≤ (if b then 1 else 0) + m
    one true m e = omega arith
    one false m e = absurd (cc)

shift_ℤ : (z : ℤ) (a : ℕ) → (z +ℤ pos 1) +ℤ pos a ≡ z +ℤ pos (suc a)
shift_ℤ = step_ℤ

zero_plus : (n : ℕ) → 0 + n ≡ n
zero_plus n = omega arith

suc_plus : (a n : ℕ) → suc a + n ≡ suc (a + n)
suc_plus a n = omega arith

pub count_split : (p : ℤ → Bool) (z : ℤ) (a n : ℕ) → count_from p z (a + n) ≡ count_from p z a + count_from p (z +ℤ pos a) n
count_split p z zero n =
    let e : count_from p z n ≡ count_from p (z +ℤ pos 0) n = ap (λ x. count_from p x n) (sym (here_ℤ z)) in
    let w : count_from p z (0 + n) ≡ count_from p z n = ap (count_from p z) (zero_plus n) in
    omega (arith, e, w)
count_split p z (suc a) n =
    let w : count_from p z (suc a + n) ≡ count_from p z (suc (a + n)) = ap (count_from p z) (suc_plus a n) in
    let e = count_split p (z +ℤ pos 1) a n in
    let s : count_from p ((z +ℤ pos 1) +ℤ pos a) n ≡ count_from p (z +ℤ pos (suc a)) n = ap (λ x. count_from p x n) (shift_ℤ z a) in
    omega (arith, e, s, w)

-- the number that an integer is, where it is none below 0
pub record IsNat (x : ℤ) : Type 0 where
  pub number : ℕ
  pub is : x ≡ pos number

pub nat_of : (x : ℤ) → pos 0 ≤ℤ x → IsNat x
nat_of (pos n) h = record { number = n; is = refl }
nat_of (negsuc n) h = absurd (omega (arith, ints, h))

pub width_of : (x : ℤ) (n : ℕ) → x ≡ pos n → width x ≡ suc n
width_of x n e = ap width e

-- numbers that lie in a smaller interval are as many in a larger one
pub window : (p : ℤ → Bool) (lo hi l h : ℤ) → lo ≤ℤ l → l ≤ℤ h → h ≤ℤ hi → ((z : ℤ) → p z ≡ true → l ≤ℤ z) → ((z : ℤ) → p z ≡ true → z ≤ℤ h) → count_from p lo (width (hi -ℤ lo)) ≡ count_from p l (width (h -ℤ l))
window p lo hi l h a b c from to = by_parts (nat_of (l -ℤ lo) (omega (arith, ints, a))) (nat_of (h -ℤ l) (omega (arith, ints, b))) (nat_of (hi -ℤ h) (omega (arith, ints, c)))
  where
    outside : (z : ℤ) → (p z ≡ true → ⊥) → p z ≡ false
    outside z never = by_value (p z) refl
      where
        by_value : (v : Bool) → p z ≡ v → p z ≡ false
        by_value true e = absurd (never e)
        by_value false e = e

    by_parts : IsNat (l -ℤ lo) → IsNat (h -ℤ l) → IsNat (hi -ℤ h) → count_from p lo (width (hi -ℤ lo)) ≡ count_from p l (width (h -ℤ l))
    by_parts x y z =
        let ex = x.is in let ey = y.is in let ez = z.is in
        let n = x.number in let m = y.number in let k = z.number in
        let whole : hi -ℤ lo ≡ pos (n + (m + k)) = omega (arith, ints, ex, ey, ez) in
        let wide : width (hi -ℤ lo) ≡ n + (suc m + k) = width_of (hi -ℤ lo) (n + (m + k)) whole ∙ omega arith in
        let narrow : width (h -ℤ l) ≡ suc m = width_of (h -ℤ l) m ey in
        let start : lo +ℤ pos n ≡ l = omega (arith, ints, ex) in
        let before : count_from p lo n ≡ 0 = count_none p lo n (λ j j<n. outside (lo +ℤ pos j) (λ t. let f = from (lo +ℤ pos j) t in omega (arith, ints, f, ex, j<n))) in
        let after : count_from p (l +ℤ pos (suc m)) k ≡ 0 = count_none p (l +ℤ pos (suc m)) k (λ j j<k. outside ((l +ℤ pos (suc m)) +ℤ pos j) (λ t. let f = to ((l +ℤ pos (suc m)) +ℤ pos j) t in omega (arith, ints, f, ey))) in
        let first : count_from p lo (n + (suc m + k)) ≡ count_from p lo n + count_from p (lo +ℤ pos n) (suc m + k) = count_split p lo n (suc m + k) in
        let moved : count_from p (lo +ℤ pos n) (suc m + k) ≡ count_from p l (suc m + k) = ap (λ q. count_from p q (suc m + k)) start in
        let second : count_from p l (suc m + k) ≡ count_from p l (suc m) + count_from p (l +ℤ pos (suc m)) k = count_split p l (suc m) k in
        ap (count_from p lo) wide ∙ omega (arith, first, moved, second, before, after) ∙ sym (ap (count_from p l) narrow)

pub size_some : (s : Set) → IsSet s → 1 ≤ set_size s
size_some s i = by_nat (nat_of (s.hi -ℤ s.lo) (let f = i.from s.hi i.high in omega (arith, ints, f)))
  where
    by_nat : IsNat (s.hi -ℤ s.lo) → 1 ≤ set_size s
    by_nat n = count_some s.has s.lo (width (s.hi -ℤ s.lo)) (let e = width_of _ n.number n.is in omega (arith, e)) i.low

-- the numbers of a smaller set, counted between the ends of the larger one
pub size_within : (s t : Set) → IsSet s → IsSet t → Among t s → count_from t.has s.lo (width (s.hi -ℤ s.lo)) ≡ set_size t
size_within s t i j among = window t.has s.lo s.hi t.lo t.hi (i.from t.lo (among t.lo j.low)) (j.from t.hi j.high) (i.to t.hi (among t.hi j.high)) j.from j.to

pub size_among : (s t : Set) → IsSet s → IsSet t → Among t s → set_size t ≤ set_size s
size_among s t i j among = let e = size_within s t i j among in let l = count_le t.has s.has among s.lo (width (s.hi -ℤ s.lo)) in omega (arith, e, l)

first_of : (a b : Bool) → (a && b) ≡ true → a ≡ true
first_of true b h = refl
first_of false b h = h

second_of : (a b : Bool) → (a && b) ≡ true → b ≡ true
second_of true b h = h
second_of false b h = absurd (cc)

pub cut_among : (keep : ℤ → Bool) (s t : Set) → IsCut keep s t → Among t s
cut_among keep s t c z h = first_of (s.has z) (keep z) (sym (c.members z) ∙ h)

pub cut_passes : (keep : ℤ → Bool) (s t : Set) → IsCut keep s t → (z : ℤ) → t.has z ≡ true → keep z ≡ true
cut_passes keep s t c z h = second_of (s.has z) (keep z) (sym (c.members z) ∙ h)

pub cut_back : (keep : ℤ → Bool) (s t : Set) → IsCut keep s t → (z : ℤ) → s.has z ≡ true → keep z ≡ true → t.has z ≡ true
cut_back keep s t c z h k = c.members z ∙ ap (λ q. q && keep z) h ∙ k

pub size_parts : (keep : ℤ → Bool) (s t u : Set) → IsSet s → IsCut keep s t → IsCut (λ z. not (keep z)) s u → set_size t + set_size u ≡ set_size s
size_parts keep s t u i c d =
    let e = size_within s t i c.proper (cut_among keep s t c) in
    let f = size_within s u i d.proper (cut_among (λ z. not (keep z)) s u d) in
    let g = count_parts s.has t.has u.has keep c.members d.members s.lo (width (s.hi -ℤ s.lo)) in
    omega (arith, e, f, g)
