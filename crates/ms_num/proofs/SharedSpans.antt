-- The least intervals of sums and products.
use Rattle.std.proofs.Common.{◌≡◌, ℕ, zero, suc, ◌⊎◌, inl, inr, refl, sym, ap, ◌∙◌, subst, arith, Option, Some, None}
use Rattle.std.proofs.lemmas.Bool.{false≢true}
use Rattle.std.proofs.Common.{T, ◌-◌, ◌&&◌}
use Rattle.std.specs.Prelude.{int_lt, int_le, ℤ, pos, negsuc, ◌+ℤ◌, ◌-ℤ◌, ◌*ℤ◌, ◌≤ℤ◌}
use Rattle.std.specs.Int.{int_min, int_max}
use Rattle.std.specs.Prelude.{IfSome, Bool, true, false}
use Rattle.std.proofs.Common.{cond}
use Rattle.std.specs.Int.Signed.{≤ℤ_refl}
use Rattle.std.proofs.Math.IntN.{*ℤ_comm, suc_ℤ-*ℤ, +ℤ-suc_ℤ, +ℤ_idr, nat_abs}
use Rattle.std.proofs.Common.{SFits, w64, to_z, of_z, ◌^◌}
use Rattle.std.proofs.lemmas.Int.{ints, clamps, by_lt_z, to_z-of_z}
use Rattle.ms_num.specs.Numbers.{add_at, mul_at}
use Rattle.ms_num.specs.Span.{Span, Has, IsResult, IsLeast, add_span, mul_span, span_of_four, is_narrow, if_narrow, is_within, if_within, IsInterval, Inside}

abbrev unwrap : Option ℤ → ℤ
unwrap None = pos 0
unwrap (Some z) = z

pub same_some : {x y : ℤ} → Some x ≡ Some y → x ≡ y
same_some e = ap unwrap e

pub add_least : (a b : Span) → a.lo ≤ℤ a.hi → b.lo ≤ℤ b.hi → IsLeast (IsResult add_at a b) (add_span a b)
add_least a b p q = record {
  all = λ z r.
      let e = same_some r.gives in
      let f1 = r.left_in.from in let t1 = r.left_in.to in let f2 = r.right_in.from in let t2 = r.right_in.to in
      record { from = omega (arith, ints); to = omega (arith, ints) };
  low = record { left = a.lo; right = b.lo; left_in = record { from = ≤ℤ_refl a.lo; to = p }; right_in = record { from = ≤ℤ_refl b.lo; to = q }; gives = refl };
  high = record { left = a.hi; right = b.hi; left_in = record { from = p; to = ≤ℤ_refl a.hi }; right_in = record { from = q; to = ≤ℤ_refl b.hi }; gives = refl };
}

-- a product grows with its first factor where the second is not negative
pub mul_up : (d : ℕ) (a y : ℤ) → pos 0 ≤ℤ y → (a *ℤ y) ≤ℤ ((a +ℤ pos d) *ℤ y)
mul_up zero a y h = rw +ℤ_idr (≤ℤ_refl (a *ℤ y))
mul_up (suc d) a y h =
    let ih = mul_up d a y h in
    let e : (a +ℤ pos (suc d)) *ℤ y ≡ ((a +ℤ pos d) *ℤ y) +ℤ y = ap (λ z. z *ℤ y) (+ℤ-suc_ℤ a (pos d)) ∙ suc_ℤ-*ℤ (a +ℤ pos d) y in
    omega (arith, ints)

-- and falls where it is not positive
pub mul_down : (d : ℕ) (a y : ℤ) → y ≤ℤ pos 0 → ((a +ℤ pos d) *ℤ y) ≤ℤ (a *ℤ y)
mul_down zero a y h = rw +ℤ_idr (≤ℤ_refl (a *ℤ y))
mul_down (suc d) a y h =
    let ih = mul_down d a y h in
    let e : (a +ℤ pos (suc d)) *ℤ y ≡ ((a +ℤ pos d) *ℤ y) +ℤ y = ap (λ z. z *ℤ y) (+ℤ-suc_ℤ a (pos d)) ∙ suc_ℤ-*ℤ (a +ℤ pos d) y in
    omega (arith, ints)

-- a number well inside 64 bits
pub fits_51 : (z : ℤ) → negsuc (2 ^ 51) ≤ℤ z → z ≤ℤ pos (2 ^ 51) → SFits w64 z
fits_51 z l h = omega (arith, ints)

pub read_51 : (z : ℤ) → negsuc (2 ^ 51) ≤ℤ z → z ≤ℤ pos (2 ^ 51) → to_z w64 (of_z w64 z) ≡ z
read_51 z l h = to_z-of_z w64 z (fits_51 z l h)

-- what an interval says of the narrowed one
pub if_narrow_some : (P : Span → Type 0) (o : Option Span) (s : Span) → o ≡ if_narrow s → P s → IfSome o P
if_narrow_some P o s e h = rw e (by_case (is_narrow s))
  where
    by_case : (b : Bool) → IfSome (cond b (Some s) None) P
    by_case true = h
    by_case false = tt

-- of the factor x between a and b, the product lies between those of a and b
pub mul_between : (a b x y : ℤ) → a ≤ℤ x → x ≤ℤ b → (((a *ℤ y) ≤ℤ (x *ℤ y)) × ((x *ℤ y) ≤ℤ (b *ℤ y))) ⊎ (((b *ℤ y) ≤ℤ (x *ℤ y)) × ((x *ℤ y) ≤ℤ (a *ℤ y)))
mul_between a b x y h k = by_lt_z y (pos 0) (λ n. inr (down_by x b (omega (arith, ints)) k, down_by a x (omega (arith, ints)) h)) (λ n. inl (up_by a x n h, up_by x b n k))
  where
    gap : (u v : ℤ) → u ≤ℤ v → (d : ℕ) × (v ≡ u +ℤ pos d)
    gap u v l = (nat_abs (v -ℤ u), omega (arith, ints))

    up_by : (u v : ℤ) → pos 0 ≤ℤ y → u ≤ℤ v → (u *ℤ y) ≤ℤ (v *ℤ y)
    up_by u v n l = let g = gap u v l in rw g.1 (mul_up g.0 u y n)

    down_by : (u v : ℤ) → y ≤ℤ pos 0 → u ≤ℤ v → (v *ℤ y) ≤ℤ (u *ℤ y)
    down_by u v n l = let g = gap u v l in rw g.1 (mul_down g.0 u y n)

-- the number lies between the two, whichever is the less
pub record Between (p q z : ℤ) : Type 0 where
  pub low : int_min p q ≤ℤ z
  pub high : z ≤ℤ int_max p q

pub between : (p q z : ℤ) → ((p ≤ℤ z) × (z ≤ℤ q)) ⊎ ((q ≤ℤ z) × (z ≤ℤ p)) → Between p q z
between p q z (inl h) = let l = h.0 in let k = h.1 in record { low = omega (arith, ints, clamps); high = omega (arith, ints, clamps) }
between p q z (inr h) = let l = h.0 in let k = h.1 in record { low = omega (arith, ints, clamps); high = omega (arith, ints, clamps) }

-- a number between u and v, which lie between two ends each
pub four_have : (p q r s u v z : ℤ) → Between p q u → Between r s v → Between u v z → Has (span_of_four p q r s) z
four_have p q r s u v z a b c = record {
  from = low (int_min p q) (int_min r s) u v z a.low b.low c.low;
  to = high (int_max p q) (int_max r s) u v z a.high b.high c.high;
}
  where
    low : (m n u v z : ℤ) → m ≤ℤ u → n ≤ℤ v → int_min u v ≤ℤ z → int_min m n ≤ℤ z
    low m n u v z a b c = omega (arith, ints, clamps)

    high : (m n u v z : ℤ) → u ≤ℤ m → v ≤ℤ n → z ≤ℤ int_max u v → z ≤ℤ int_max m n
    high m n u v z a b c = omega (arith, ints, clamps)

pub min_is : (P : ℤ → Type 0) (x y : ℤ) → P x → P y → P (int_min x y)
min_is P x y p q = pick (int_lt y x)
  where
    pick : (b : Bool) → P (cond b y x)
    pick true = q
    pick false = p

pub max_is : (P : ℤ → Type 0) (x y : ℤ) → P x → P y → P (int_max x y)
max_is P x y p q = pick (int_lt y x)
  where
    pick : (b : Bool) → P (cond b x y)
    pick true = p
    pick false = q

pub mul_least : (a b : Span) → a.lo ≤ℤ a.hi → b.lo ≤ℤ b.hi → IsLeast (IsResult mul_at a b) (mul_span a b)
mul_least a b p q = record {
  all = λ z r.
      let u = a.lo *ℤ r.right in
      let v = a.hi *ℤ r.right in
      let across : (c : ℤ) → Between (c *ℤ b.lo) (c *ℤ b.hi) (c *ℤ r.right) = λ c.
      rw (*ℤ_comm c b.lo, *ℤ_comm c b.hi, *ℤ_comm c r.right) (between _ _ _ (mul_between b.lo b.hi r.right c r.right_in.from r.right_in.to)) in
      let h = four_have (a.lo *ℤ b.lo) (a.lo *ℤ b.hi) (a.hi *ℤ b.lo) (a.hi *ℤ b.hi) u v (r.left *ℤ r.right) (across a.lo) (across a.hi)
      (between u v (r.left *ℤ r.right) (mul_between a.lo a.hi r.left r.right r.left_in.from r.left_in.to)) in
      rw (← same_some r.gives) h;
  low = min_is P _ _ (min_is P _ _ ll lh) (min_is P _ _ hl hh);
  high = max_is P _ _ (max_is P _ _ ll lh) (max_is P _ _ hl hh);
}
  where
    P : ℤ → Type 0
    P = IsResult mul_at a b

    at : (x y : ℤ) → Has a x → Has b y → IsResult mul_at a b (x *ℤ y)
    at x y h k = record { left = x; right = y; left_in = h; right_in = k; gives = refl }

    al : Has a a.lo
    al = record { from = ≤ℤ_refl a.lo; to = p }

    ah : Has a a.hi
    ah = record { from = p; to = ≤ℤ_refl a.hi }

    bl : Has b b.lo
    bl = record { from = ≤ℤ_refl b.lo; to = q }

    bh : Has b b.hi
    bh = record { from = q; to = ≤ℤ_refl b.hi }

    ll : IsResult mul_at a b (a.lo *ℤ b.lo)
    ll = at a.lo b.lo al bl

    lh : IsResult mul_at a b (a.lo *ℤ b.hi)
    lh = at a.lo b.hi al bh

    hl : IsResult mul_at a b (a.hi *ℤ b.lo)
    hl = at a.hi b.lo ah bl

    hh : IsResult mul_at a b (a.hi *ℤ b.hi)
    hh = at a.hi b.hi ah bh

pub inside_has : (s t : Span) (z : ℤ) → Inside s t → Has s z → Has t z
inside_has s t z i h = let a = i.lo in let b = i.hi in let c = h.from in let d = h.to in record { from = omega (arith, ints); to = omega (arith, ints) }

-- the least intervals of the results on smaller intervals are smaller
pub least_inside : (f : ℤ → ℤ → Option ℤ) (a b a' b' s s' : Span) → IsLeast (IsResult f a b) s → IsLeast (IsResult f a' b') s' → Inside a a' → Inside b b' → Inside s s'
least_inside f a b a' b' s s' l l' i j = record {
  lo = (l'.all s.lo (more s.lo l.low)).from;
  proper = (l.all s.lo l.low).to;
  hi = (l'.all s.hi (more s.hi l.high)).to;
}
  where
    more : (z : ℤ) → IsResult f a b z → IsResult f a' b' z
    more z r = record { left = r.left; right = r.right; left_in = inside_has a a' r.left i r.left_in; right_in = inside_has b b' r.right j r.right_in; gives = r.gives }

pub le_from : (a b : ℤ) → int_le a b ≡ true → a ≤ℤ b
le_from a b h = record { le = subst T (sym h) tt }

pub of_le : (a b : ℤ) → a ≤ℤ b → int_le a b ≡ true
of_le a b h = is_true (int_le a b) h.le
  where
    is_true : (b : Bool) → T b → b ≡ true
    is_true true t = refl
    is_true false t = absurd t

pub and_left : (a b : Bool) → (a && b) ≡ true → a ≡ true
and_left true b h = refl
and_left false b h = h

pub and_right : (a b : Bool) → (a && b) ≡ true → b ≡ true
and_right true b h = h
and_right false b h = absurd (false≢true h)

abbrev floor : ℤ
floor = negsuc (2 ^ 50 - 1)

abbrev ceiling : ℤ
ceiling = pos (2 ^ 50)

pub within_low : (z : ℤ) → is_within z ≡ true → floor ≤ℤ z
within_low z h = le_from floor z (and_left (int_le floor z) (int_le z ceiling) h)

pub within_high : (z : ℤ) → is_within z ≡ true → z ≤ℤ ceiling
within_high z h = le_from z ceiling (and_right (int_le floor z) (int_le z ceiling) h)

-- four numbers within the limits
pub four_within : (p q r s : ℤ) → is_within p ≡ true → is_within q ≡ true → is_within r ≡ true → is_within s ≡ true → IsInterval (span_of_four p q r s)
four_within p q r s a b c d = record {
  ordered = order (int_min p q) (int_min r s) (int_max p q) (int_max r s) (min_max p q);
  low = min_is (λ z. floor ≤ℤ z) _ _ (min_is (λ z. floor ≤ℤ z) p q (within_low p a) (within_low q b)) (min_is (λ z. floor ≤ℤ z) r s (within_low r c) (within_low s d));
  high = max_is (λ z. z ≤ℤ ceiling) _ _ (max_is (λ z. z ≤ℤ ceiling) p q (within_high p a) (within_high q b)) (max_is (λ z. z ≤ℤ ceiling) r s (within_high r c) (within_high s d));
}
  where
    min_max : (x y : ℤ) → int_min x y ≤ℤ int_max x y
    min_max x y = omega (arith, ints, clamps)

    order : (m n u v : ℤ) → m ≤ℤ u → int_min m n ≤ℤ int_max u v
    order m n u v h = omega (arith, ints, clamps)

pub narrow_if : (s : Span) → IsInterval s → if_narrow s ≡ Some s
narrow_if s i = let a = of_le floor s.lo i.low in let b = of_le s.hi ceiling i.high in rw (a, b) refl

pub wide_none : (s : Span) (z : ℤ) → Has s z → None ≡ if_within z → None ≡ if_narrow s
wide_none s z h e = by_case (is_narrow s) refl
  where
    none_false : (b : Bool) → b ≡ true → None ≡ cond b (Some z) None → ⊥
    none_false true t e = cc
    none_false false t e = absurd (false≢true t)

    inside : is_narrow s ≡ true → is_within z ≡ true
    inside n =
        let l = le_from floor s.lo (and_left (int_le floor s.lo) (int_le s.hi ceiling) n) in
        let k = le_from s.hi ceiling (and_right (int_le floor s.lo) (int_le s.hi ceiling) n) in
        let f = h.from in let t = h.to in
        let a : int_le floor z ≡ true = of_le floor z (omega (arith, ints)) in
        let b : int_le z ceiling ≡ true = of_le z ceiling (omega (arith, ints)) in
        rw (a, b) refl

    by_case : (b : Bool) → is_narrow s ≡ b → None ≡ cond b (Some s) None
    by_case true n = absurd (none_false (is_within z) (inside n) e)
    by_case false n = refl

pub some_within : (z p : ℤ) → Some p ≡ if_within z → (is_within p ≡ true) × (p ≡ z)
some_within z p e = by_case (is_within z) refl e
  where
    by_case : (b : Bool) → is_within z ≡ b → Some p ≡ cond b (Some z) None → (is_within p ≡ true) × (p ≡ z)
    by_case true n e = let same = same_some e in (ap is_within same ∙ n, same)
    by_case false n e = absurd (no e)
      where
        no : Some p ≡ None → ⊥
        no e = cc

-- the four products of the ends lie in the interval of the products
pub corner_p : (p q r s : ℤ) → Has (span_of_four p q r s) p
corner_p p q r s = four_have p q r s p r p (own_left p q) (own_left r s) (own_left p r)
  where
    own_left : (x y : ℤ) → Between x y x
    own_left x y = record { low = omega (arith, ints, clamps); high = omega (arith, ints, clamps) }

pub corner_q : (p q r s : ℤ) → Has (span_of_four p q r s) q
corner_q p q r s = four_have p q r s q r q (own_right p q) (own_left r s) (own_left q r)
  where
    own_left : (x y : ℤ) → Between x y x
    own_left x y = record { low = omega (arith, ints, clamps); high = omega (arith, ints, clamps) }

    own_right : (x y : ℤ) → Between x y y
    own_right x y = record { low = omega (arith, ints, clamps); high = omega (arith, ints, clamps) }

pub corner_r : (p q r s : ℤ) → Has (span_of_four p q r s) r
corner_r p q r s = four_have p q r s p r r (own_left p q) (own_left r s) (own_right p r)
  where
    own_left : (x y : ℤ) → Between x y x
    own_left x y = record { low = omega (arith, ints, clamps); high = omega (arith, ints, clamps) }

    own_right : (x y : ℤ) → Between x y y
    own_right x y = record { low = omega (arith, ints, clamps); high = omega (arith, ints, clamps) }

pub corner_s : (p q r s : ℤ) → Has (span_of_four p q r s) s
corner_s p q r s = four_have p q r s p s s (own_left p q) (own_right r s) (own_right p s)
  where
    own_left : (x y : ℤ) → Between x y x
    own_left x y = record { low = omega (arith, ints, clamps); high = omega (arith, ints, clamps) }

    own_right : (x y : ℤ) → Between x y y
    own_right x y = record { low = omega (arith, ints, clamps); high = omega (arith, ints, clamps) }

-- a product of ends, as the code computes it
pub product_of : (a b : Span) → IsInterval a → IsInterval b → (o : Option ℤ) → (x y : ℤ) → Has a x → Has b y → o ≡ if_within (to_z w64 (of_z w64 x) *ℤ to_z w64 (of_z w64 y)) → o ≡ if_within (x *ℤ y)
product_of a b i j o x y h k e =
    let f = h.from in let t = h.to in let f' = k.from in let t' = k.to in
    let l = i.low in let u = i.high in let l' = j.low in let u' = j.high in
    rw (read_51 x (omega (arith, ints)) (omega (arith, ints)), read_51 y (omega (arith, ints)) (omega (arith, ints))) at e

-- an interval that is not empty has both its ends
pub first_number : (a : Span) → a.lo ≤ℤ a.hi → Has a a.lo
first_number a i = record { from = ≤ℤ_refl a.lo; to = i }

pub last_number : (a : Span) → a.lo ≤ℤ a.hi → Has a a.hi
last_number a i = record { from = i; to = ≤ℤ_refl a.hi }

pub low_end : (a : Span) → IsInterval a → Has a a.lo
low_end a i = first_number a i.ordered

pub high_end : (a : Span) → IsInterval a → Has a a.hi
high_end a i = last_number a i.ordered

pub mul_ll : (a b : Span) → Has (mul_span a b) (a.lo *ℤ b.lo)
mul_ll a b = corner_p (a.lo *ℤ b.lo) (a.lo *ℤ b.hi) (a.hi *ℤ b.lo) (a.hi *ℤ b.hi)

pub mul_lh : (a b : Span) → Has (mul_span a b) (a.lo *ℤ b.hi)
mul_lh a b = corner_q (a.lo *ℤ b.lo) (a.lo *ℤ b.hi) (a.hi *ℤ b.lo) (a.hi *ℤ b.hi)

pub mul_hl : (a b : Span) → Has (mul_span a b) (a.hi *ℤ b.lo)
mul_hl a b = corner_r (a.lo *ℤ b.lo) (a.lo *ℤ b.hi) (a.hi *ℤ b.lo) (a.hi *ℤ b.hi)

pub mul_hh : (a b : Span) → Has (mul_span a b) (a.hi *ℤ b.hi)
mul_hh a b = corner_s (a.lo *ℤ b.lo) (a.lo *ℤ b.hi) (a.hi *ℤ b.lo) (a.hi *ℤ b.hi)

-- a number within the limits, read back from 64 bits
pub read_within : (z : ℤ) → is_within z ≡ true → to_z w64 (of_z w64 z) ≡ z
read_within z h = let l = within_low z h in let u = within_high z h in read_51 z (omega (arith, ints)) (omega (arith, ints))

pub lo_within : (s : Span) → IsInterval s → is_within s.lo ≡ true
lo_within s i = let o = i.ordered in let h = i.high in rw (of_le floor s.lo i.low, of_le s.lo ceiling (omega (arith, ints))) refl

pub hi_within : (s : Span) → IsInterval s → is_within s.hi ≡ true
hi_within s i = let o = i.ordered in let l = i.low in rw (of_le floor s.hi (omega (arith, ints)), of_le s.hi ceiling i.high) refl
