-- Lists of numbers that rise.
use Rattle.std.proofs.Common.{◌≡◌, ℕ, zero, suc, ◌+◌, ◌<◌, ◌≤◌, List, [], ◌∷◌, length, get_or, inl, inr, ◌↔◌, ◌≢◌, refl, sym, ap, subst, ◌∙◌, arith}
use Rattle.std.proofs.lemmas.Bool.{cases_lt, eq-eqb, eqb-true}
use Rattle.std.proofs.lemmas.Bool.Decides.{eqb_tells}
use Rattle.std.proofs.lemmas.Map.Made.{AllPairs-from_IsDistinct, IsDistinct-from_AllPairs}
use Rattle.std.proofs.lemmas.List.{get_or_default}
use Rattle.std.proofs.lemmas.List.Sorted.{Contains-permutation, IsPermutation-sym}
use Rattle.std.proofs.lemmas.Map.Keys.{IsDistinct-IsPermutation, ge_from_not_lt}
use Rattle.std.proofs.lemmas.List.Kept.{AllPairs-from_increasing}
use Rattle.std.specs.Prelude.{Decides, eqb}
use Rattle.std.specs.List.{AllPairs, Contains, IsDistinct}
use Rattle.std.specs.List.Sorted.{IsPermutation, IsSorted, IsStrictlyIncreasing}
use Rattle.std.specs.Ordering.{nat_cmp}
use Rattle.ms_postorder.specs.Postorder.{In}
use Rattle.ms_postorder.specs.Laws.{Differ}

pub in_contains : (xs : List ℕ) (b : ℕ) → In b xs → Contains xs b
in_contains [] b m = absurd m
in_contains (x ∷ xs) b (inl e) = (0, omega arith, sym e)
in_contains (x ∷ xs) b (inr m) = let r = in_contains xs b m in (suc r.0, omega (arith, r.1), r.2)

pub contains_in : (xs : List ℕ) (b : ℕ) → Contains xs b → In b xs
contains_in [] b (k, k_in, e) = absurd (omega arith)
contains_in (x ∷ xs) b (zero, k_in, e) = inl (sym e)
contains_in (x ∷ xs) b (suc k, k_in, e) = inr (contains_in xs b (k, omega arith, e))

in_at : (xs : List ℕ) (i : ℕ) → i < length xs → In (get_or xs i 0) xs
in_at [] i i_in = absurd (omega arith)
in_at (x ∷ xs) zero i_in = inl refl
in_at (x ∷ xs) (suc i) i_in = inr (in_at xs i (omega arith))

-- the numbers of two places are not the same
differ_at : (xs : List ℕ) → Differ xs → (i j : ℕ) → i < j → j < length xs → get_or xs i 0 ≡ get_or xs j 0 → ⊥
differ_at [] d i j less j_in e = omega arith
differ_at (x ∷ xs) d zero zero less j_in e = omega arith
differ_at (x ∷ xs) d zero (suc j) less j_in e = d.0 (subst (λ y. In y xs) (sym e) (in_at xs j (omega arith)))
differ_at (x ∷ xs) d (suc i) zero less j_in e = omega arith
differ_at (x ∷ xs) d (suc i) (suc j) less j_in e = differ_at xs d.1 i j (omega arith) (omega arith) e

same_eqb : (a b : ℕ) → Decides (eqb a b) (a ≡ b)
same_eqb a b = (eqb-true a b, eq-eqb a b)

flips : (a b : ℕ) → eqb a b ≡ eqb b a
flips a b = elim (eqb_tells a b) [
  | inl t ↦ t.0 ∙ sym (eq-eqb b a (sym t.1))
  | inr f ↦ elim (eqb_tells b a) [
    | inl t ↦ absurd (f.1 (sym t.1))
    | inr h ↦ f.0 ∙ sym h.0
  ]
]

pairs : (xs : List ℕ) → Differ xs → AllPairs (λ x y. x ≢ y) xs
pairs xs d i j e less j_in same =
    differ_at xs d i j less j_in (sym (get_or_default xs i e 0 (omega arith)) ∙ same ∙ get_or_default xs j e 0 j_in)

-- numbers that differ rise when they are sorted
pub sorted_rises : (xs ys : List ℕ) → Differ xs → IsPermutation xs ys → IsSorted nat_cmp ys → IsStrictlyIncreasing ys
sorted_rises xs ys d p s k k_in =
    let apart : IsDistinct eqb ys = IsDistinct-IsPermutation eqb flips xs ys p (IsDistinct-from_AllPairs same_eqb xs (pairs xs d)) in
    let differ : get_or ys k 0 ≢ get_or ys (k + 1) 0 = AllPairs-from_IsDistinct same_eqb ys apart k (k + 1) 0 (omega arith) k_in in
    let le : get_or ys k 0 ≤ get_or ys (k + 1) 0 = ge_from_not_lt (get_or ys (k + 1) 0) (get_or ys k 0) (s k 0 (omega arith) k_in) in
    elim (cases_lt (get_or ys k 0) (get_or ys (k + 1) 0)) [
      | inl l ↦ l
      | inr from ↦ absurd (differ (omega arith))
    ]

pub in_permutation : (xs ys : List ℕ) (b : ℕ) → IsPermutation xs ys → In b xs ↔ In b ys
in_permutation xs ys b p = (
  λ m. contains_in ys b (Contains-permutation xs ys b p (in_contains xs b m)),
  λ m. contains_in xs b (Contains-permutation ys xs b (IsPermutation-sym xs ys p) (in_contains ys b m)),
)

-- ---- lists that rise are known by their members

above_first : (x : ℕ) (xs : List ℕ) → IsStrictlyIncreasing (x ∷ xs) → (b : ℕ) → In b xs → x < b
above_first x xs r b m =
    let c = in_contains xs b m in
    let at : get_or xs c.0 0 ≡ b = sym (get_or_default xs c.0 b 0 c.1) ∙ c.2 in
    let less : x < get_or xs c.0 0 = AllPairs-from_increasing (x ∷ xs) r 0 (suc c.0) 0 (omega arith) (omega (arith, c.1)) in
    subst (λ n. x < n) at less

rest_rises : (x : ℕ) (xs : List ℕ) → IsStrictlyIncreasing (x ∷ xs) → IsStrictlyIncreasing xs
rest_rises x xs r k k_in =
    AllPairs-from_increasing (x ∷ xs) r (suc k) (suc (k + 1)) 0 (omega arith) (omega arith)

pub same_rising : (xs ys : List ℕ) → IsStrictlyIncreasing xs → IsStrictlyIncreasing ys → ((b : ℕ) → In b xs ↔ In b ys) → xs ≡ ys
same_rising [] [] r s h = refl
same_rising [] (y ∷ ys) r s h = absurd ((h y).1 (inl refl))
same_rising (x ∷ xs) [] r s h = absurd ((h x).0 (inl refl))
same_rising (x ∷ xs) (y ∷ ys) r s h =
    let first : x ≡ y = elim ((h x).0 (inl refl)) [
      | inl e ↦ e
      | inr m ↦ (let l : y < x = above_first y ys s x m in elim ((h y).1 (inl refl)) [
        | inl e ↦ sym e
        | inr n ↦ (let k : x < y = above_first x xs r y n in absurd (omega arith))
      ])
    ] in
    let rest : xs ≡ ys = same_rising xs ys (rest_rises x xs r) (rest_rises y ys s) (λ b. (
      λ m. elim ((h b).0 (inr m)) [
        | inl e ↦ (let l : x < b = above_first x xs r b m in absurd (omega arith))
        | inr n ↦ n
      ],
      λ m. elim ((h b).1 (inr m)) [
        | inl e ↦ (let l : y < b = above_first y ys s b m in absurd (omega arith))
        | inr n ↦ n
      ],
    )) in
    ap (λ z. z ∷ xs) first ∙ ap (λ zs. y ∷ zs) rest
