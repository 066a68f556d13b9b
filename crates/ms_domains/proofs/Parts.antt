-- What cuts leave of the numbers between two ends that pass, and how many there are.
use Rattle.std.proofs.Common.{◌≡◌, ℕ, zero, suc, ◌+◌, ◌<◌, refl, sym, ap, ◌∙◌, arith, Bool, true, false, not, ◌&&◌, ◌⊎◌, inl, inr, if◌then◌else◌}
use Rattle.std.specs.Prelude.{ℤ, pos, ◌+ℤ◌, ◌-ℤ◌, ◌≤ℤ◌, ◌<ℤ◌, int_le}
use Rattle.std.proofs.lemmas.Int.{ints}
use Rattle.ms_num.specs.Numbers.{int_eq}
use Rattle.ms_num.specs.Sets.{Set, IsSet, IsCut, set_size, count_from, width}
use Rattle.ms_num.proofs.SharedSpans.{le_from, of_le, and_left, and_right}
use Rattle.ms_num.proofs.SharedMembers.{same_tests}
use Rattle.ms_num.proofs.SharedCounts.{width_of, count_split, size_parts, step_ℤ, here_ℤ}
use Rattle.ms_domains.specs.Bounded.{bounded}

-- a number of such a set
pub record IsIn (lo hi : ℤ) (p : ℤ → Bool) (z : ℤ) : Type 0 where
  pub from : lo ≤ℤ z
  pub to : z ≤ℤ hi
  pub passes : p z ≡ true

pub in_of : (lo hi : ℤ) (p : ℤ → Bool) (z : ℤ) → (bounded lo hi p).has z ≡ true → IsIn lo hi p z
in_of lo hi p z h = record {
  from = le_from lo z (and_left (int_le lo z) (int_le z hi) (and_left (int_le lo z && int_le z hi) (p z) h));
  to = le_from z hi (and_right (int_le lo z) (int_le z hi) (and_left (int_le lo z && int_le z hi) (p z) h));
  passes = and_right (int_le lo z && int_le z hi) (p z) h;
}

pub both : (a b : Bool) → a ≡ true → b ≡ true → (a && b) ≡ true
both a b e f = ap (λ x. x && b) e ∙ f

pub of_in : (lo hi : ℤ) (p : ℤ → Bool) (z : ℤ) → IsIn lo hi p z → (bounded lo hi p).has z ≡ true
of_in lo hi p z i = both (int_le lo z && int_le z hi) (p z) (both (int_le lo z) (int_le z hi) (of_le lo z i.from) (of_le z hi i.to)) i.passes

-- a set by its ends, which pass
pub bounded_set : (lo hi : ℤ) (p : ℤ → Bool) → lo ≤ℤ hi → p lo ≡ true → p hi ≡ true → IsSet (bounded lo hi p)
bounded_set lo hi p o a b = record {
  low = of_in lo hi p lo (record { from = omega (arith, ints); to = o; passes = a });
  high = of_in lo hi p hi (record { from = o; to = omega (arith, ints); passes = b });
  from = λ z h. (in_of lo hi p z h).from;
  to = λ z h. (in_of lo hi p z h).to;
}

-- the ends of such a set pass
pub low_in : (lo hi : ℤ) (p : ℤ → Bool) → IsSet (bounded lo hi p) → IsIn lo hi p lo
low_in lo hi p i = in_of lo hi p lo i.low

pub high_in : (lo hi : ℤ) (p : ℤ → Bool) → IsSet (bounded lo hi p) → IsIn lo hi p hi
high_in lo hi p i = in_of lo hi p hi i.high

-- the numbers up to n: m is the greatest of them
pub cut_above : (lo hi n m : ℤ) (p : ℤ → Bool) → IsSet (bounded lo hi p) → n ≤ℤ hi → IsIn lo n p m → ((z : ℤ) → IsIn lo n p z → z ≤ℤ m) → IsCut (λ z. int_le z n) (bounded lo hi p) (bounded lo m p)
cut_above lo hi n m p i b h top = record {
  members = λ z. same_tests ((bounded lo m p).has z) ((bounded lo hi p).has z && int_le z n)
      (λ e. let q = in_of lo m p z e in let f = q.to in let g = h.to in both ((bounded lo hi p).has z) (int_le z n) (of_in lo hi p z (record { from = q.from; to = omega (arith, ints, b, f, g); passes = q.passes })) (of_le z n (omega (arith, ints, f, g))))
      (λ e. let q = in_of lo hi p z (and_left ((bounded lo hi p).has z) (int_le z n) e) in let f = le_from z n (and_right ((bounded lo hi p).has z) (int_le z n) e) in of_in lo m p z (record { from = q.from; to = top z (record { from = q.from; to = f; passes = q.passes }); passes = q.passes }));
  proper = bounded_set lo m p h.from (low_in lo hi p i).passes h.passes;
}

-- the numbers from n on: m is the least of them
pub cut_below : (lo hi n m : ℤ) (p : ℤ → Bool) → IsSet (bounded lo hi p) → lo ≤ℤ n → IsIn n hi p m → ((z : ℤ) → IsIn n hi p z → m ≤ℤ z) → IsCut (λ z. int_le n z) (bounded lo hi p) (bounded m hi p)
cut_below lo hi n m p i b h low = record {
  members = λ z. same_tests ((bounded m hi p).has z) ((bounded lo hi p).has z && int_le n z)
      (λ e. let q = in_of m hi p z e in let f = q.from in let g = h.from in both ((bounded lo hi p).has z) (int_le n z) (of_in lo hi p z (record { from = omega (arith, ints, b, f, g); to = q.to; passes = q.passes })) (of_le n z (omega (arith, ints, f, g))))
      (λ e. let q = in_of lo hi p z (and_left ((bounded lo hi p).has z) (int_le n z) e) in let f = le_from n z (and_right ((bounded lo hi p).has z) (int_le n z) e) in of_in m hi p z (record { from = low z (record { from = f; to = q.to; passes = q.passes }); to = q.to; passes = q.passes }));
  proper = bounded_set m hi p h.to h.passes (high_in lo hi p i).passes;
}

-- a number between the ends goes
pub cut_out : (lo hi n : ℤ) (p q : ℤ → Bool) → IsSet (bounded lo hi p) → lo <ℤ n → n <ℤ hi → ((z : ℤ) → lo ≤ℤ z → z ≤ℤ hi → q z ≡ (p z && not (int_eq z n))) → IsCut (λ z. not (int_eq z n)) (bounded lo hi p) (bounded lo hi q)
cut_out lo hi n p q i a b h = record {
  members = λ z. same_tests ((bounded lo hi q).has z) ((bounded lo hi p).has z && not (int_eq z n))
      (λ e. let r = in_of lo hi q z e in let f = sym (h z r.from r.to) ∙ r.passes in both ((bounded lo hi p).has z) (not (int_eq z n)) (of_in lo hi p z (record { from = r.from; to = r.to; passes = and_left (p z) (not (int_eq z n)) f })) (and_right (p z) (not (int_eq z n)) f))
      (λ e. let r = in_of lo hi p z (and_left ((bounded lo hi p).has z) (not (int_eq z n)) e) in of_in lo hi q z (record { from = r.from; to = r.to; passes = h z r.from r.to ∙ both (p z) (not (int_eq z n)) r.passes (and_right ((bounded lo hi p).has z) (not (int_eq z n)) e) }));
  proper = bounded_set lo hi q (let x = low_in lo hi p i in let f = x.from in omega (arith, ints, a, b)) (stays lo (low_in lo hi p i) (differ_low)) (stays hi (high_in lo hi p i) (differ_high));
}
  where
    not_eq : (x y : ℤ) → (x <ℤ y) ⊎ (y <ℤ x) → not (int_eq x y) ≡ true
    not_eq x y l = by_value (int_eq x y) refl l
      where
        by_value : (t : Bool) → int_eq x y ≡ t → (x <ℤ y) ⊎ (y <ℤ x) → not t ≡ true
        by_value false e l = refl
        by_value true e (inl l) = absurd (let f = le_from y x (and_right (int_le x y) (int_le y x) e) in omega (arith, ints, f, l))
        by_value true e (inr l) = absurd (let f = le_from x y (and_left (int_le x y) (int_le y x) e) in omega (arith, ints, f, l))

    differ_low : not (int_eq lo n) ≡ true
    differ_low = not_eq lo n (inl a)

    differ_high : not (int_eq hi n) ≡ true
    differ_high = not_eq hi n (inr b)

    stays : (z : ℤ) → IsIn lo hi p z → not (int_eq z n) ≡ true → q z ≡ true
    stays z r d = h z r.from r.to ∙ both (p z) (not (int_eq z n)) r.passes d

-- ---- sizes

pub count_same : (p q : ℤ → Bool) (z : ℤ) (n : ℕ) → ((k : ℕ) → k < n → p (z +ℤ pos k) ≡ q (z +ℤ pos k)) → count_from p z n ≡ count_from q z n
count_same p q z zero h = refl
count_same p q z (suc n) h = one (p z) (q z) _ _ (ap p (sym (here_ℤ z)) ∙ h 0 (omega arith) ∙ ap q (here_ℤ z)) (count_same p q (z +ℤ pos 1) n (λ k b. ap p (step_ℤ z k) ∙ h (suc k) (omega (arith, b)) ∙ ap q (sym (step_ℤ z k))))
  where
    one : (a b : Bool) (m n : ℕ) → a ≡ b → m ≡ n → (if a then 1 else 0) + m ≡ (if b then 1 else 0) + n
    one true true m n e f = omega (arith, f)
    one false false m n e f = omega (arith, f)
    one true false m n e f = absurd (cc)
    one false true m n e f = absurd (cc)

count_all : (p : ℤ → Bool) (z : ℤ) (n : ℕ) → ((k : ℕ) → k < n → p (z +ℤ pos k) ≡ true) → count_from p z n ≡ n
count_all p z zero h = refl
count_all p z (suc n) h = one (p z) _ (ap p (sym (here_ℤ z)) ∙ h 0 (omega arith)) (count_all p (z +ℤ pos 1) n (λ k b. ap p (step_ℤ z k) ∙ h (suc k) (omega (arith, b))))
  where
    one : (b : Bool) (m : ℕ) → b ≡ true → m ≡ n → (if b then 1 else 0) + m ≡ suc n
    one true m e f = omega (arith, f)
    one false m e f = absurd (cc)

-- all numbers between the ends
pub size_whole : (lo hi : ℤ) (k : ℕ) → hi -ℤ lo ≡ pos k → set_size (bounded lo hi (λ z. true)) ≡ suc k
size_whole lo hi k e = ap (count_from (bounded lo hi (λ z. true)).has lo) (width_of (hi -ℤ lo) k e) ∙ count_all (bounded lo hi (λ z. true)).has lo (suc k) (λ j b. of_in lo hi (λ z. true) (lo +ℤ pos j) (record { from = omega (arith, ints); to = omega (arith, ints, e, b); passes = refl }))

-- the numbers that an upper end takes away, those that a lower end takes away
pub size_above : (lo hi m : ℤ) (a k : ℕ) (p : ℤ → Bool) → m -ℤ lo ≡ pos a → hi -ℤ m ≡ pos k → set_size (bounded lo m p) + count_from (bounded lo hi p).has (m +ℤ pos 1) k ≡ set_size (bounded lo hi p)
size_above lo hi m a k p e f =
    let s = (bounded lo hi p).has in
    let t = (bounded lo m p).has in
    let whole : hi -ℤ lo ≡ pos (a + k) = omega (arith, ints, e, f) in
    let wide : width (hi -ℤ lo) ≡ suc a + k = width_of (hi -ℤ lo) (a + k) whole ∙ omega arith in
    let narrow : width (m -ℤ lo) ≡ suc a = width_of (m -ℤ lo) a e in
    let start : lo +ℤ pos (suc a) ≡ m +ℤ pos 1 = omega (arith, ints, e) in
    let split : count_from (bounded lo hi p).has lo (suc a + k) ≡ count_from (bounded lo hi p).has lo (suc a) + count_from (bounded lo hi p).has (lo +ℤ pos (suc a)) k = count_split (bounded lo hi p).has lo (suc a) k in
    let moved : count_from (bounded lo hi p).has (lo +ℤ pos (suc a)) k ≡ count_from (bounded lo hi p).has (m +ℤ pos 1) k = ap (λ z. count_from (bounded lo hi p).has z k) start in
    let same : count_from (bounded lo m p).has lo (suc a) ≡ count_from (bounded lo hi p).has lo (suc a) = count_same (bounded lo m p).has (bounded lo hi p).has lo (suc a) (λ j b. inside j b) in
    let front : set_size (bounded lo m p) ≡ count_from (bounded lo m p).has lo (suc a) = ap (count_from (bounded lo m p).has lo) narrow in
    let all : set_size (bounded lo hi p) ≡ count_from (bounded lo hi p).has lo (suc a + k) = ap (count_from (bounded lo hi p).has lo) wide in
    omega (arith, split, moved, same, front, all)
  where
    inside : (j : ℕ) → j < suc a → (bounded lo m p).has (lo +ℤ pos j) ≡ (bounded lo hi p).has (lo +ℤ pos j)
    inside j b = same_tests ((bounded lo m p).has (lo +ℤ pos j)) ((bounded lo hi p).has (lo +ℤ pos j))
        (λ g. let r = in_of lo m p (lo +ℤ pos j) g in of_in lo hi p (lo +ℤ pos j) (record { from = r.from; to = omega (arith, ints, e, f, b); passes = r.passes }))
        (λ g. let r = in_of lo hi p (lo +ℤ pos j) g in of_in lo m p (lo +ℤ pos j) (record { from = r.from; to = omega (arith, ints, e, b); passes = r.passes }))

pub size_below : (lo hi m : ℤ) (a k : ℕ) (p : ℤ → Bool) → m -ℤ lo ≡ pos k → hi -ℤ m ≡ pos a → count_from (bounded lo hi p).has lo k + set_size (bounded m hi p) ≡ set_size (bounded lo hi p)
size_below lo hi m a k p e f =
    let whole : hi -ℤ lo ≡ pos (k + a) = omega (arith, ints, e, f) in
    let wide : width (hi -ℤ lo) ≡ k + suc a = width_of (hi -ℤ lo) (k + a) whole ∙ omega arith in
    let narrow : width (hi -ℤ m) ≡ suc a = width_of (hi -ℤ m) a f in
    let start : lo +ℤ pos k ≡ m = omega (arith, ints, e) in
    let split : count_from (bounded lo hi p).has lo (k + suc a) ≡ count_from (bounded lo hi p).has lo k + count_from (bounded lo hi p).has (lo +ℤ pos k) (suc a) = count_split (bounded lo hi p).has lo k (suc a) in
    let moved : count_from (bounded lo hi p).has (lo +ℤ pos k) (suc a) ≡ count_from (bounded lo hi p).has m (suc a) = ap (λ z. count_from (bounded lo hi p).has z (suc a)) start in
    let same : count_from (bounded m hi p).has m (suc a) ≡ count_from (bounded lo hi p).has m (suc a) = count_same (bounded m hi p).has (bounded lo hi p).has m (suc a) (λ j b. inside j b) in
    let front : set_size (bounded m hi p) ≡ count_from (bounded m hi p).has m (suc a) = ap (count_from (bounded m hi p).has m) narrow in
    let all : set_size (bounded lo hi p) ≡ count_from (bounded lo hi p).has lo (k + suc a) = ap (count_from (bounded lo hi p).has lo) wide in
    omega (arith, split, moved, same, front, all)
  where
    inside : (j : ℕ) → j < suc a → (bounded m hi p).has (m +ℤ pos j) ≡ (bounded lo hi p).has (m +ℤ pos j)
    inside j b = same_tests ((bounded m hi p).has (m +ℤ pos j)) ((bounded lo hi p).has (m +ℤ pos j))
        (λ g. let r = in_of m hi p (m +ℤ pos j) g in of_in lo hi p (m +ℤ pos j) (record { from = omega (arith, ints, e); to = r.to; passes = r.passes }))
        (λ g. let r = in_of lo hi p (m +ℤ pos j) g in of_in m hi p (m +ℤ pos j) (record { from = omega (arith, ints); to = r.to; passes = r.passes }))

-- one number fewer
pub size_out : (s t : Set) (n : ℤ) → IsSet s → s.has n ≡ true → IsCut (λ z. not (int_eq z n)) s t → set_size t + 1 ≡ set_size s
size_out s t n i h c =
    let alone : IsCut (λ z. not (not (int_eq z n))) s (record { lo = n; hi = n; has = λ z. int_eq z n }) = record {
      members = λ z. same_tests (int_eq z n) (s.has z && not (not (int_eq z n))) (λ e. both (s.has z) (not (not (int_eq z n))) (ap s.has (eq_of z n e) ∙ h) (ap (λ b. not (not b)) e)) (λ e. twice (int_eq z n) (and_right (s.has z) (not (not (int_eq z n))) e));
      proper = record { low = eq_refl n; high = eq_refl n; from = λ z e. let q = eq_of z n e in omega (arith, ints, q); to = λ z e. let q = eq_of z n e in omega (arith, ints, q) };
    } in
    let parts = size_parts (λ z. not (int_eq z n)) s t (record { lo = n; hi = n; has = λ z. int_eq z n }) i c alone in
    let one : set_size (record { lo = n; hi = n; has = λ z. int_eq z n }) ≡ 1 = ap (count_from (λ z. int_eq z n) n) (width_of (n -ℤ n) 0 (omega (arith, ints))) ∙ single n in
    omega (arith, parts, one)
  where
    eq_refl : (n : ℤ) → int_eq n n ≡ true
    eq_refl n = both (int_le n n) (int_le n n) (of_le n n (omega (arith, ints))) (of_le n n (omega (arith, ints)))

    eq_of : (x y : ℤ) → int_eq x y ≡ true → x ≡ y
    eq_of x y e = let a = le_from x y (and_left (int_le x y) (int_le y x) e) in let b = le_from y x (and_right (int_le x y) (int_le y x) e) in omega (arith, ints, a, b)

    twice : (b : Bool) → not (not b) ≡ true → b ≡ true
    twice true e = e
    twice false e = e

    single : (n : ℤ) → count_from (λ z. int_eq z n) n 1 ≡ 1
    single n = ap (λ b. (if b then 1 else 0) + 0) (eq_refl n)
