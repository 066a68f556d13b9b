-- Laws of lists of places, which rise.
use Rattle.std.proofs.Common.{◌≡◌, ℕ, zero, suc, Some, None, ◌+◌, ◌-◌, ◌<◌, ◌≤◌, List, [], ◌∷◌, ◌++◌, length, get_or, set, map, take, ◌⊎◌, inl, inr, refl, sym, ap, subst, ◌∙◌, arith, min}
use Rattle.std.proofs.lemmas.Bool.{cases_eq, cases_lt}
use Rattle.std.proofs.lemmas.List.{length-append, length-take, length-take-le, get_or_append_left, get_or_at, get_or-take, get_or_past, get_or_default, get_or-map, length-map, map-set}
use Rattle.std.specs.Prelude.{slice_get}
use Rattle.ms_graph.specs.Search.{Among, AreUpTo, Rises}

pub at_or_before : {X : Type 0} (xs : List X) (y d : X) (k : ℕ) → k < length (xs ++ y ∷ [])
    → ((k < length xs) × (get_or (xs ++ y ∷ []) k d ≡ get_or xs k d)) ⊎ ((k ≡ length xs) × (get_or (xs ++ y ∷ []) k d ≡ y))
at_or_before xs y d k k_in = elim (cases_lt k (length xs)) [
  | inl l ↦ inl (l, get_or_append_left xs (y ∷ []) d k l)
  | inr from ↦
      let e : length xs ≡ k = omega (arith, length-append xs (y ∷ [])) in
      inr (sym e, get_or_at xs y [] d k e)
]

pub rises_last : (xs : List ℕ) → Rises xs → (n : ℕ) → Among xs n → n ≤ get_or xs (length xs - 1) 0
rises_last xs r n (k, k_in, is_n) = elim (cases_lt k (length xs - 1)) [
  | inl l ↦ (let lt : get_or xs k 0 < get_or xs (length xs - 1) 0 = r k (length xs - 1) l (omega arith) in omega arith)
  | inr from ↦ (let same : k ≡ length xs - 1 = omega arith in let e : get_or xs k 0 ≡ get_or xs (length xs - 1) 0 = ap (λ i. get_or xs i 0) same in omega arith)
]

-- ---- one more

pub among_push_old : (xs : List ℕ) (y n : ℕ) → Among xs n → Among (xs ++ y ∷ []) n
among_push_old xs y n (k, k_in, is_n) = (k, omega (arith, length-append xs (y ∷ [])), get_or_append_left xs (y ∷ []) 0 k k_in ∙ is_n)

pub among_push_new : (xs : List ℕ) (y : ℕ) → Among (xs ++ y ∷ []) y
among_push_new xs y = (length xs, omega (arith, length-append xs (y ∷ [])), get_or_at xs y [] 0 (length xs) refl)

pub among_push : (xs : List ℕ) (y n : ℕ) → Among (xs ++ y ∷ []) n → Among xs n ⊎ (n ≡ y)
among_push xs y n (k, k_in, is_n) = elim (at_or_before xs y 0 k k_in) [
  | inl l ↦ inl (k, l.0, sym l.1 ∙ is_n)
  | inr e ↦ inr (sym is_n ∙ e.1)
]

pub rises_push : (xs : List ℕ) (y : ℕ) → Rises xs → ((n : ℕ) → Among xs n → n < y) → Rises (xs ++ y ∷ [])
rises_push xs y r below i j less j_in = elim (at_or_before xs y 0 j j_in) [
  | inl l ↦ (let i_in : i < length xs = omega (arith, l.0) in
      let read : get_or (xs ++ y ∷ []) i 0 ≡ get_or xs i 0 = get_or_append_left xs (y ∷ []) 0 i i_in in
      let lt : get_or xs i 0 < get_or xs j 0 = r i j less l.0 in omega (arith, l.1))
  | inr e ↦ (let i_in : i < length xs = omega (arith, e.0) in
      let read : get_or (xs ++ y ∷ []) i 0 ≡ get_or xs i 0 = get_or_append_left xs (y ∷ []) 0 i i_in in
      let lt : get_or xs i 0 < y = below _ (i, i_in, refl) in omega (arith, e.1))
]

-- ---- the first ones

pub among_first : (xs : List ℕ) (m k : ℕ) → k < m → k < length xs → Among (take m xs) (get_or xs k 0)
among_first xs m k less k_in = (k, omega (arith, length-take m xs), get_or-take m xs k 0 less)

first_read : (xs : List ℕ) (m k : ℕ) → k < length (take m xs) → (k < m) × (k < length xs) × (get_or (take m xs) k 0 ≡ get_or xs k 0)
first_read xs m k k_in =
    let less : k < m = omega (arith, length-take m xs) in
    (less, omega (arith, length-take m xs), get_or-take m xs k 0 less)

pub among_take : (xs : List ℕ) (m n : ℕ) → Among (take m xs) n → Among xs n
among_take xs m n (k, k_in, is_n) = let r = first_read xs m k k_in in (k, r.1, sym r.2 ∙ is_n)

pub rises_take : (xs : List ℕ) (m : ℕ) → Rises xs → Rises (take m xs)
rises_take xs m r i j less j_in =
    let second = first_read xs m j j_in in
    let first = first_read xs m i (omega arith) in
    let lt : get_or xs i 0 < get_or xs j 0 = r i j less second.1 in
    omega (arith, first.2, second.2)

-- but the last
pub among_most : (xs : List ℕ) (n : ℕ) → Among xs n → Among (take (length xs - 1) xs) n ⊎ (n ≡ get_or xs (length xs - 1) 0)
among_most xs n (k, k_in, is_n) = elim (cases_lt k (length xs - 1)) [
  | inl l ↦ inl (subst (Among (take (length xs - 1) xs)) is_n (among_first xs (length xs - 1) k l k_in))
  | inr from ↦ (let same : k ≡ length xs - 1 = omega arith in inr (sym is_n ∙ ap (λ i. get_or xs i 0) same))
]

pub most_below : (xs : List ℕ) → Rises xs → (n : ℕ) → Among (take (length xs - 1) xs) n → n < get_or xs (length xs - 1) 0
most_below xs r n (k, k_in, is_n) =
    let read = first_read xs (length xs - 1) k k_in in
    let lt : get_or xs k 0 < get_or xs (length xs - 1) 0 = r k (length xs - 1) read.0 (omega (arith, read.1)) in
    omega (arith, read.2)

-- ---- up to a place

pub up_to_below : (xs : List ℕ) (place m : ℕ) → Rises xs → AreUpTo xs place m → (n : ℕ) → Among (take m xs) n → n ≤ place
up_to_below xs place m r u n (k, k_in, is_n) =
    let read = first_read xs m k k_in in
    let top : get_or xs (m - 1) 0 ≤ place = u.last (omega (arith, read.0)) in
    elim (cases_lt k (m - 1)) [
      | inl l ↦ (let lt : get_or xs k 0 < get_or xs (m - 1) 0 = r k (m - 1) l (omega (arith, u.inside, read.0)) in omega (arith, read.2))
      | inr from ↦ (let same : k ≡ m - 1 = omega (arith, read.0) in let e : get_or xs k 0 ≡ get_or xs (m - 1) 0 = ap (λ i. get_or xs i 0) same in omega (arith, read.2))
    ]

pub up_to_kept : (xs : List ℕ) (place m : ℕ) → AreUpTo xs place m → (n : ℕ) → Among xs n → n ≤ place → Among (take m xs) n
up_to_kept xs place m u n (k, k_in, is_n) le = elim (cases_lt k m) [
  | inl l ↦ subst (Among (take m xs)) is_n (among_first xs m k l k_in)
  | inr from ↦ absurd (let lt : place < get_or xs k 0 = u.behind k from k_in in omega arith)
]

-- ---- reads

-- what is read at a place, at any default
pub read_is : {X : Type 0} (xs : List X) (i : ℕ) (x d : X) → i < length xs → x ≡ get_or xs i x → get_or xs i d ≡ x
read_is xs i x d i_in e = sym (e ∙ get_or_default xs i x d i_in)

pub none_past : {X : Type 0} (xs : List X) (i : ℕ) → slice_get xs i ≡ None → length xs ≤ i
none_past [] i e = omega arith
none_past (x ∷ xs) zero e = absurd (let wrong : Some x ≡ None = e in cc)
none_past (x ∷ xs) (suc i) e = let rest : length xs ≤ i = none_past xs i e in omega arith

-- an element of a list is replaced by one that shows more
pub added : {V : Type 0} (f : V → List ℕ) (xs : List V) (i : ℕ) (new x : V) (more : List ℕ) (now : List (List ℕ)) → i < length now → map f xs ≡ now
    → x ≡ get_or xs i x → f new ≡ f x ++ more → map f (set xs i new) ≡ set now i (get_or now i [] ++ more)
added f xs i new x more now i_in shown is_x grown =
    let i_known : i < length xs = subst (λ n. i < n) (ap length (sym shown) ∙ length-map xs f) i_in in
    let read : get_or now i [] ≡ f x = ap (λ ys. get_or ys i []) (sym shown) ∙ get_or-map f xs i x [] i_known ∙ ap f (sym is_x) in
    map-set f xs i new ∙ ap (λ ys. set ys i (f new)) shown ∙ ap (set now i) (grown ∙ ap (λ a. a ++ more) (sym read))
