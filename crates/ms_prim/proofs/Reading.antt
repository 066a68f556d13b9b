-- Lists of parts, read one by one.
use Rattle.std.proofs.Common.{◌≡◌, ℕ, ◌+◌, ◌*◌, ◌^◌, ◌<◌, List, [], ◌∷◌, ◌++◌, Bool, true, false, ◌&&◌, Option, Some, None, map, length, drop, drop-cons, get_or, add-one, add-zero, suc, zero, refl, sym, ap, ◌∙◌, arith, if◌then◌else◌}
use Rattle.std.specs.Prelude.{ℤ, pos, negsuc, ◌+ℤ◌, ◌*ℤ◌, ◌≤ℤ◌, ◌-◌, is_some}
use Rattle.std.proofs.Common.{SFits, ◌≤◌}
use Rattle.std.specs.Int.{w128}
use Rattle.std.specs.Prelude.{int_le}
use Rattle.ms_num.specs.Span.{Span, IsWithin, is_within}
use Rattle.ms_trees.specs.WellFormed.{has_variable}
use Rattle.ms_trees.proofs.Bools.{and_left, and_right, le_of}
use Rattle.ms_prim.specs.declared.primitive.Primitive.TheVariants.{Sum}
use Rattle.ms_prim.specs.Fitting.{terms_fit, is_fit}
use Rattle.std.proofs.lemmas.Int.{ints}
use Rattle.ms_num.specs.Numbers.{int_eq}
use Rattle.ms_trees.specs.Value as v
use Rattle.ms_trees.specs.Value.{Meaning, compare, how_many, all_defined, counted, selected, is_place, is_place2, is_row, are_distinct, first_differs}
use Rattle.ms_trees.specs.Laws.{number_there}
use Rattle.ms_trees.specs.Access.{FindsPlace, number_of}
use Rattle.ms_trees.proofs.Found.{found_selected}
use Rattle.std.proofs.Math.ListN.{length-map}
use Rattle.ms_prim.specs.declared.pieces.Part.{Part}
use Rattle.ms_prim.specs.declared.pieces.Lit.{Lit}
use Rattle.ms_prim.specs.declared.pieces.Term.{Term}
use Rattle.ms_prim.specs.Results.{at, part_at, meant, all_meant, weighted}

none_and : (b : Bool) → (b && false) ≡ false
none_and true = refl
none_and false = refl

-- a row of another length
pub other_length : (a : List ℤ) (ps : List Part) (zs : List ℤ) → (length ps ≡ length zs → ⊥) → false ≡ is_row (all_meant a ps) zs
other_length a [] [] h = absurd (h refl)
other_length a [] (z ∷ zs) h = refl
other_length a (p ∷ ps) [] h = refl
other_length a (p ∷ ps) (z ∷ zs) h = sym (ap (λ b. int_eq (part_at a p) z && b) (sym (other_length a ps zs (λ e. h (ap suc e)))) ∙ none_and (int_eq (part_at a p) z))

-- parts are defined
all_there : (a : List ℤ) (ps : List Part) → all_defined (all_meant a ps) ≡ true
all_there a [] = refl
all_there a (p ∷ ps) = all_there a ps

pub counted_all : (a : List ℤ) (ps rest : List Part) (n : ℤ) (k : ℕ) → rest ≡ [] → k + how_many (λ (m : Meaning). compare int_eq m.number (Some n)) (all_meant a rest) ≡ how_many (λ (m : Meaning). compare int_eq m.number (Some n)) (all_meant a ps) → counted (all_meant a ps) (Some n) ≡ Some (pos k)
counted_all a ps rest n k none e =
    ap (λ b. if b && true then Some (pos (how_many (λ (m : Meaning). compare int_eq m.number (Some n)) (all_meant a ps))) else None) (all_there a ps)
    ∙ ap (λ c. Some (pos c)) (sym e ∙ ap (λ xs. k + how_many (λ (m : Meaning). compare int_eq m.number (Some n)) (all_meant a xs)) none ∙ add-zero k)

-- the rest of a list from a place on
from_place : {X : Type 0} (xs : List X) (i : ℕ) (d : X) → i < length xs → drop i xs ≡ get_or xs i d ∷ drop (i + 1) xs
from_place xs i d lt = drop-cons xs i d lt ∙ ap (λ n. get_or xs i d ∷ drop n xs) (sym (add-one i))

pub distinct_next : (a : List ℤ) (ps : List Part) (i : ℕ) (d : Part) → i < length ps → first_differs (all_meant a (drop i ps)) ≡ true → are_distinct (all_meant a (drop (i + 1) ps)) ≡ are_distinct (all_meant a (drop i ps))
distinct_next a ps i d lt h =
    let e = from_place ps i d lt in
    let f : first_differs (all_meant a (get_or ps i d ∷ drop (i + 1) ps)) ≡ true = ap (λ xs. first_differs (all_meant a xs)) (sym e) ∙ h in
    sym (ap (λ xs. are_distinct (all_meant a xs)) e ∙ ap (λ b. b && are_distinct (all_meant a (drop (i + 1) ps))) f)

-- one term more
pub record IsNextTotal (a : List ℤ) (ts : List Term) (i : ℕ) (s : ℤ) : Type 0 where
  pub rest : (s +ℤ weighted a (drop (i + 1) ts)) ≡ weighted a ts
  pub low : pos 0 ≤ℤ (s +ℤ pos ((i + 1) * 2 ^ 100))
  pub high : s ≤ℤ pos ((i + 1) * 2 ^ 100)

pub next_total : (a : List ℤ) (ts : List Term) (i : ℕ) (d : Term) (s p : ℤ) → i < length ts → p ≡ (get_or ts i d).factor *ℤ at a (get_or ts i d).var →
    negsuc (2 ^ 100 - 1) ≤ℤ p → p ≤ℤ pos (2 ^ 100) → (s +ℤ weighted a (drop i ts)) ≡ weighted a ts → pos 0 ≤ℤ (s +ℤ pos (i * 2 ^ 100)) → s ≤ℤ pos (i * 2 ^ 100) → IsNextTotal a ts i (s +ℤ p)
next_total a ts i d s p lt e low high rest from to = record {
  rest = added s p (weighted a (drop (i + 1) ts)) ∙ ap (λ z. s +ℤ (z +ℤ weighted a (drop (i + 1) ts))) e ∙ ap (λ xs. s +ℤ weighted a xs) (sym (from_place ts i d lt)) ∙ rest;
  low = omega (arith, ints, low, from);
  high = omega (arith, ints, high, to);
}
  where
    added : (x y z : ℤ) → (x +ℤ y) +ℤ z ≡ x +ℤ (y +ℤ z)
    added x y z = omega (arith, ints)

-- a sum of so many terms fits
pub fits_total : (z : ℤ) (k : ℕ) → k ≤ 2000000 → pos 0 ≤ℤ (z +ℤ pos (k * 2 ^ 100)) → z ≤ℤ pos (k * 2 ^ 100) → SFits w128 z
fits_total z k few low high = omega (arith, ints)

-- one more number still fits
pub fits_more : (z n : ℤ) → negsuc (2 ^ 121 - 1) ≤ℤ z → z ≤ℤ pos (2 ^ 121) → IsWithin n → SFits w128 (z +ℤ n)
fits_more z n low high h = let a = h.low in let b = h.high in omega (arith, ints)

-- the added number of a sum that may be asked
pub sum_within : (b : List Span) (ts : List Term) (n : ℤ) (v : ℕ) → is_fit b (Sum ts n v) ≡ true → IsWithin n
sum_within b ts n v h =
    let w = and_right (terms_fit b ts) (is_within n) (and_left (terms_fit b ts && is_within n) (has_variable b v) h) in
    record { low = le_of (negsuc (2 ^ 50 - 1)) n (and_left (int_le (negsuc (2 ^ 50 - 1)) n) (int_le n (pos (2 ^ 50))) w); high = le_of n (pos (2 ^ 50)) (and_right (int_le (negsuc (2 ^ 50 - 1)) n) (int_le n (pos (2 ^ 50))) w) }

-- ---- elements

pub element_there : (a : List ℤ) (ps : List Part) (p : ℕ) (d : Part) → p < length ps → number_there (all_meant a ps) p ≡ Some (part_at a (get_or ps p d))
element_there a [] p d l = absurd (omega arith)
element_there a (q ∷ ps) zero d l = refl
element_there a (q ∷ ps) (suc p) d l = element_there a ps p d (omega arith)

pub element_found : (a : List ℤ) (ps : List Part) (at : ℕ → Bool) (p : ℕ) (d : Part) → p < length ps → FindsPlace at (length ps) (Some p) → Some (part_at a (get_or ps p d)) ≡ selected at 0 (all_meant a ps)
element_found a ps at p d l f = sym (element_there a ps p d l) ∙ found_selected at (length ps) (Some p) (all_meant a ps) (length-map ps (meant a)) f

pub none_found : (a : List ℤ) (ps : List Part) (at : ℕ → Bool) → FindsPlace at (length ps) None → None ≡ selected at 0 (all_meant a ps)
none_found a ps at f = found_selected at (length ps) None (all_meant a ps) (length-map ps (meant a)) f
