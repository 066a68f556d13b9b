-- What a cut of one variable of a box does to its assignments and to its size.
use Rattle.std.proofs.Common.{◌≡◌, ℕ, ◌+◌, ◌*◌, ◌<◌, ◌≤◌, zero, suc, sym, ap, ◌∙◌, arith, true, Bool, not, [], ◌∷◌, length}
use Rattle.std.specs.Prelude.{ℤ, slice_set}
use Rattle.ms_num.specs.Sets.{Set, IsCut, set_size}
use Rattle.ms_boxes.specs.Boxes.{Assignment, Box, InBox, IsBox, box_size, set_at, number_at}
use Rattle.ms_num.proofs.SharedCounts.{size_some, size_parts, cut_among, cut_passes, cut_back}

-- the box c has those assignments of b whose number of v passes
pub record CutBox (keep : ℤ → Bool) (v : ℕ) (b c : Box) : Type 0 where
  pub inside : (p : Assignment) → InBox p c → InBox p b
  pub passes : (p : Assignment) → InBox p c → keep (number_at p v) ≡ true
  pub back : (p : Assignment) → InBox p b → keep (number_at p v) ≡ true → InBox p c

pub cut_box : (keep : ℤ → Bool) (b : Box) (v : ℕ) (t : Set) → v < length b → IsCut keep (set_at b v) t → CutBox keep v b (slice_set b v t)
cut_box keep [] v t l c = absurd (omega (arith, l))
cut_box keep (s ∷ b) zero t l c = record { inside = inside; passes = passes; back = back }
  where
    inside : (p : Assignment) → InBox p (t ∷ b) → InBox p (s ∷ b)
    inside [] h = absurd h
    inside (n ∷ p) h = (cut_among keep s t c n h.0, h.1)

    passes : (p : Assignment) → InBox p (t ∷ b) → keep (number_at p 0) ≡ true
    passes [] h = absurd h
    passes (n ∷ p) h = cut_passes keep s t c n h.0

    back : (p : Assignment) → InBox p (s ∷ b) → keep (number_at p 0) ≡ true → InBox p (t ∷ b)
    back [] h k = absurd h
    back (n ∷ p) h k = (cut_back keep s t c n h.0 k, h.1)
cut_box keep (s ∷ b) (suc v) t l c = under s (cut_box keep b v t (omega (arith, l)) c)
  where
    under : {b' c' : Box} (s : Set) → CutBox keep v b' c' → CutBox keep (suc v) (s ∷ b') (s ∷ c')
    under {b'} {c'} s rest = record { inside = inside; passes = passes; back = back }
      where
        inside : (p : Assignment) → InBox p (s ∷ c') → InBox p (s ∷ b')
        inside [] h = absurd h
        inside (n ∷ p) h = (h.0, rest.inside p h.1)

        passes : (p : Assignment) → InBox p (s ∷ c') → keep (number_at p (suc v)) ≡ true
        passes [] h = absurd h
        passes (n ∷ p) h = rest.passes p h.1

        back : (p : Assignment) → InBox p (s ∷ b') → keep (number_at p (suc v)) ≡ true → InBox p (s ∷ c')
        back [] h k = absurd h
        back (n ∷ p) h k = (h.0, rest.back p h.1 k)

pub cut_is_box : (keep : ℤ → Bool) (sets b : Box) (v : ℕ) (t : Set) → IsBox sets b → v < length b → IsCut keep (set_at b v) t → IsBox sets (slice_set b v t)
cut_is_box keep [] [] v t i l c = absurd (omega (arith, l))
cut_is_box keep [] (s ∷ b) v t i l c = absurd i
cut_is_box keep (d ∷ sets) [] v t i l c = absurd i
cut_is_box keep (d ∷ sets) (s ∷ b) zero t i l c = (c.proper, λ z h. i.1 z (cut_among keep s t c z h), i.2)
cut_is_box keep (d ∷ sets) (s ∷ b) (suc v) t i l c = (i.0, i.1, cut_is_box keep sets b v t i.2 (omega (arith, l)) c)

-- a box has an assignment
pub box_some : (sets b : Box) → IsBox sets b → 1 ≤ box_size b
box_some [] [] i = omega arith
box_some [] (s ∷ b) i = absurd i
box_some (d ∷ sets) [] i = absurd i
box_some (d ∷ sets) (s ∷ b) i = product (set_size s) (box_size b) (size_some s i.0) (box_some sets b i.2)
  where
    product : (m n : ℕ) → 1 ≤ m → 1 ≤ n → 1 ≤ m * n
    product zero n h k = absurd (omega (arith, h))
    product (suc m) zero h k = absurd (omega (arith, k))
    product (suc m) (suc n) h k = omega arith

sum_times : (x y m : ℕ) → (x + y) * m ≡ x * m + y * m
sum_times x y m = omega arith

times_sum : (m x y : ℕ) → m * (x + y) ≡ m * x + m * y
times_sum m x y = omega arith

pub size_sum : (keep : ℤ → Bool) (sets b : Box) (v : ℕ) (t u : Set) → IsBox sets b → v < length b → IsCut keep (set_at b v) t → IsCut (λ z. not (keep z)) (set_at b v) u → box_size (slice_set b v t) + box_size (slice_set b v u) ≡ box_size b
size_sum keep [] [] v t u i l c e = absurd (omega (arith, l))
size_sum keep [] (s ∷ b) v t u i l c e = absurd i
size_sum keep (d ∷ sets) [] v t u i l c e = absurd i
size_sum keep (d ∷ sets) (s ∷ b) zero t u i l c e = over (set_size t) (set_size u) (set_size s) (box_size b) (size_parts keep s t u i.0 c e)
  where
    over : (x y z m : ℕ) → x + y ≡ z → x * m + y * m ≡ z * m
    over x y z m h = sym (sum_times x y m) ∙ ap (λ q. q * m) h
size_sum keep (d ∷ sets) (s ∷ b) (suc v) t u i l c e = over (set_size s) _ _ _ (size_sum keep sets b v t u i.2 (omega (arith, l)) c e)
  where
    over : (m x y z : ℕ) → x + y ≡ z → m * x + m * y ≡ m * z
    over m x y z h = sym (times_sum m x y) ∙ ap (λ q. m * q) h
