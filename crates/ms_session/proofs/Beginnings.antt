-- What is known of the declared sets, one by one, and of the sizes of a list of trees.
use Rattle.std.proofs.Common.{◌≡◌, ◌≢◌, inl, inr, ℕ, ◌+◌, ◌<◌, ◌≤◌, zero, suc, refl, sym, ap, ◌∙◌, subst, arith, true, false, List, [], ◌∷◌, ◌++◌, length, take, drop, get_or, eqb, Some, ◌-◌}
use Rattle.std.specs.Prelude.{ℤ, sum_by, slice_get}
use Rattle.ms_session.specs.Scopes.{last_of}
use Rattle.std.proofs.lemmas.Bool.{false≢true}
use Rattle.std.proofs.lemmas.Bool.Decides.{nat_tests}
use Rattle.std.proofs.lemmas.List.{take-append-drop, take_all, take_more}
use Rattle.std.proofs.lemmas.List.Sums.{sum_by_more, sum_by-append}
use Rattle.ms_num.specs.Span.{Span}
use Rattle.ms_num.specs.Ranges.{IsRanges, is_member}
use Rattle.ms_num.specs.Sets.{Set, set_of}
use Rattle.ms_boxes.specs.Boxes.{Assignment, Box, Each, set_at, IsDeclared, box_of}
use Rattle.ms_session.specs.Stored.{IsVoid}
use Rattle.ms_num.proofs.SharedSets.{ranges_is_set}
use Rattle.ms_session.proofs.RangeBoxes.{box_more, box_within, set_read}

each_last : {X : Type 0} (P : X → Type 0) (xs : List X) (x : X) → Each P xs → P x → Each P (xs ++ x ∷ [])
each_last P [] x h p = (p, tt)
each_last P (y ∷ xs) x h p = (h.0, each_last P xs x h.1 p)

-- one set more of which P holds
pub each_more : (P : Set → Type 0) (sets : List (List Span)) (i : ℕ) (r : List Span) → i < length sets → r ≡ get_or sets i r → Each P (box_of (take i sets)) → P (set_of r) → Each P (box_of (take (i + 1) sets))
each_more P sets i r l e h p = subst (Each P) (sym (box_more sets i r l e)) (each_last P (box_of (take i sets)) (set_of r) h p)

pub each_all : (P : Set → Type 0) (sets : List (List Span)) (i : ℕ) → length sets ≤ i → Each P (box_of (take i sets)) → Each P (box_of sets)
each_all P sets i l h = subst (λ q. Each P (box_of q)) (take_all i sets l) h

pub ranges_declared : (ss : List Span) → IsRanges ss → IsDeclared (set_of ss)
ranges_declared [] r = inr refl
ranges_declared (s ∷ ss) r = inl (ranges_is_set (s ∷ ss) r (λ e. absurd (cc)))

pub not_empty : (ss : List Span) → false ≡ eqb (length ss) 0 → ss ≢ []
not_empty ss h e = false≢true (h ∙ ap (λ q. eqb (length q) 0) e)

pub is_empty : (ss : List Span) → true ≡ eqb (length ss) 0 → ss ≡ []
is_empty [] h = refl
is_empty (s ∷ ss) h = absurd (none (length ss) (sym h))
  where
    none : (n : ℕ) → eqb (suc n) 0 ≡ true → ⊥
    none n e = let z : suc n ≡ 0 = grind (arith, nat_tests) in omega (arith, z)

void_box : (b : Box) (i : ℕ) → i < length b → ((z : ℤ) → (set_at b i).has z ≡ false) → IsVoid b
void_box [] i l none p h = omega (arith, l)
void_box (s ∷ b) i l none [] h = h
void_box (s ∷ b) zero l none (n ∷ p) h = false≢true (sym (none n) ∙ h.0)
void_box (s ∷ b) (suc i) l none (n ∷ p) h = void_box b i (omega (arith, l)) none p h.1

-- a box with an empty set has no assignment
pub void_at : (sets : List (List Span)) (i : ℕ) (r : List Span) → i < length sets → r ≡ get_or sets i r → true ≡ eqb (length r) 0 → IsVoid (box_of sets)
void_at sets i r l e h = void_box (box_of sets) i (box_within sets i l) (λ z. ap (λ s. s.has z) (sym (set_read sets i r l e)) ∙ ap (λ q. is_member q z) (is_empty r h))

-- the sum over the first elements, and over one more
pub sum_one_more : {X : Type 0} (f : X → ℕ) (xs : List X) (i : ℕ) (x : X) → i < length xs → x ≡ get_or xs i x → sum_by f (take (i + 1) xs) ≡ sum_by f (take i xs) + f x
sum_one_more f xs i x l e = sum_by_more f xs i x l ∙ ap (λ y. sum_by f (take i xs) + f y) (sym e)

pub sum_within : {X : Type 0} (f : X → ℕ) (xs : List X) (i : ℕ) → sum_by f (take i xs) ≤ sum_by f xs
sum_within f xs i = let e : sum_by f xs ≡ sum_by f (take i xs) + sum_by f (drop i xs) = ap (sum_by f) (sym (take-append-drop i xs)) ∙ sum_by-append f (take i xs) (drop i xs) in omega (arith, e)

-- the last of a list, by its place
pub last_at : (gs : List Assignment) (p : Assignment) → slice_get gs (length gs - 1) ≡ Some p → last_of gs ≡ Some p
last_at [] p e = absurd (cc)
last_at (g ∷ gs) p e = at g gs ∙ ap (slice_get (g ∷ gs)) (less (length gs)) ∙ e
  where
    at : (g : Assignment) (gs : List Assignment) → last_of (g ∷ gs) ≡ slice_get (g ∷ gs) (length gs)
    at g [] = refl
    at g (h ∷ gs) = at h gs

    less : (n : ℕ) → n ≡ suc n - 1
    less n = omega arith

pub copied_more : {X : Type 0} (xs ys : List X) (i : ℕ) (x y : X) → i < length xs → x ≡ get_or xs i x → ys ≡ take i xs → y ≡ x → ys ++ y ∷ [] ≡ take (i + 1) xs
copied_more xs ys i x y l e f g = ap (λ q. q ++ y ∷ []) f ∙ ap (λ z. take i xs ++ z ∷ []) (g ∙ e) ∙ sym (take_more xs i x l)
