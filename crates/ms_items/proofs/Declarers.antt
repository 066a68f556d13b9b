-- The items that declare names.
use Rattle.std.proofs.Common.{◌≡◌, ℕ, zero, suc, ◌+◌, ◌<◌, ◌⊎◌, List, [], ◌∷◌, ◌++◌, length, map, Some, refl, subst, ◌∙◌, inl, inr, arith}
use Rattle.std.specs.List.{slice_get}
use Rattle.std.proofs.lemmas.List.{length-append, length-map}
use Rattle.ms_syntax.specs.Tree.{It}
use Rattle.ms_typing.specs.Items.{globals, globals_of}
use Rattle.ms_items.specs.Declaring.{AllHaveDeclarers, DeclarersDeclare, IsDeclaredAt, declarers}

as_many : (k : ℕ) (is : List It) → length (declarers k is) ≡ length (globals is)
as_many k [] = refl
as_many k (i ∷ is) =
    let a : length (map (λ g. k) (globals_of i) ++ declarers (suc k) is) ≡ length (map (λ g. k) (globals_of i)) + length (declarers (suc k) is) = length-append (map (λ g. k) (globals_of i)) (declarers (suc k) is) in
    let b : length (map (λ g. k) (globals_of i)) ≡ length (globals_of i) = length-map (globals_of i) (λ g. k) in
    let c : length (globals_of i ++ globals is) ≡ length (globals_of i) + length (globals is) = length-append (globals_of i) (globals is) in
    let d : length (declarers (suc k) is) ≡ length (globals is) = as_many (suc k) is in
    omega arith

pub all_have_declarers : AllHaveDeclarers
all_have_declarers = λ is. as_many 0 is

-- what stands at a place of two lists, of which the first has one value alone
either : {G : Type 0} (gs more : List G) (rest : List ℕ) (k n m : ℕ) → slice_get (map (λ (g : G). k) gs ++ rest) n ≡ Some m
    → ((m ≡ k) × (n < length gs) × (slice_get (gs ++ more) n ≡ slice_get gs n)) ⊎ ((j : ℕ) × (slice_get rest j ≡ Some m) × (slice_get (gs ++ more) n ≡ slice_get more j))
either [] more rest k n m h = inr (n, h, refl)
either (g ∷ gs) more rest k zero m h = inl (cc, omega arith, refl)
either (g ∷ gs) more rest k (suc n) m h = elim (either gs more rest k n m h) [ inl p ↦ inl (p.0, omega (arith, p.1), p.2) | inr q ↦ inr q ]

there : (is : List It) (k n m : ℕ) → slice_get (declarers k is) n ≡ Some m → (d : ℕ) × (m ≡ k + d) × IsDeclaredAt is n d
there [] k n m h = absurd (cc)
there (i ∷ is) k n m h = elim (either (globals_of i) (globals is) (declarers (suc k) is) k n m h) [
  | inl p ↦ (0, omega (arith, p.0), (i, n, refl, p.1, p.2))
  | inr q ↦ (let r = there is (suc k) q.0 m q.1 in (suc r.0, omega (arith, r.1), (r.2.0, r.2.1, r.2.2, r.2.3, q.2 ∙ r.2.4)))
]

pub declarers_declare : DeclarersDeclare
declarers_declare = λ is n k h. at_start is n k (there is 0 n k h)
  where
    at_start : (is : List It) (n k : ℕ) → (d : ℕ) × (k ≡ 0 + d) × IsDeclaredAt is n d → IsDeclaredAt is n k
    at_start is n k r = let e : r.0 ≡ k = omega (arith, r.1) in subst (λ (d : ℕ). IsDeclaredAt is n d) e r.2
