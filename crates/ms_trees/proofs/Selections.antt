-- Which element an index takes.
use Rattle.std.proofs.Common.{◌≡◌, ℕ, ◌+◌, List, [], ◌∷◌, Bool, true, false, Option, Some, None, zero, suc, refl, ap, ◌∙◌, arith}
use Rattle.std.proofs.lemmas.Int.{ints}
use Rattle.std.specs.Prelude.{ℤ, pos, ◌+ℤ◌, ◌<ℤ◌, if◌then◌else◌}
use Rattle.ms_num.specs.Numbers.{int_eq}
use Rattle.ms_trees.specs.Value.{Meaning, selected, is_place}
use Rattle.ms_trees.specs.Laws.{number_there, SelectionIsOfOnePlace, NoPlaceSelectsNothing}
use Rattle.ms_trees.proofs.Bools.{eq_of, of_eq, is_false}

-- a place takes no other index
apart : (low z : ℤ) (p : ℕ) → (z ≡ (low +ℤ pos p) → ⊥) → int_eq z (low +ℤ pos p) ≡ false
apart low z p h = is_false (int_eq z (low +ℤ pos p)) (λ e. h (eq_of z (low +ℤ pos p) e))

pub turn_off : (at : ℕ → Bool) (k : ℕ) (m : Meaning) (ms : List Meaning) → at k ≡ false → selected at k (m ∷ ms) ≡ selected at (suc k) ms
turn_off at k m ms e = ap (λ b. if b then m.number else selected at (suc k) ms) e

pub turn_on : (at : ℕ → Bool) (k : ℕ) (m : Meaning) (ms : List Meaning) → at k ≡ true → selected at k (m ∷ ms) ≡ m.number
turn_on at k m ms e = ap (λ b. if b then m.number else selected at (suc k) ms) e

no_sum : (low : ℤ) (k p : ℕ) → (low +ℤ pos (k + suc p)) ≡ (low +ℤ pos k) → ⊥
no_sum low k p e = omega (arith, ints, e)

from_place : (low : ℤ) (k p : ℕ) (ms : List Meaning) → selected (is_place low (Some (low +ℤ pos (k + p)))) k ms ≡ number_there ms p
from_place low k p [] = refl
from_place low k zero (m ∷ ms) = turn_on (is_place low (Some (low +ℤ pos (k + zero)))) k m ms (of_eq (low +ℤ pos (k + zero)) (low +ℤ pos k) (omega (arith, ints)))
from_place low k (suc p) (m ∷ ms) =
    turn_off (is_place low (Some (low +ℤ pos (k + suc p)))) k m ms (apart low (low +ℤ pos (k + suc p)) k (no_sum low k p))
    ∙ ap (λ n. selected (is_place low (Some (low +ℤ pos n))) (suc k) ms) (omega arith) ∙ from_place low (suc k) p ms

pub selection_one : SelectionIsOfOnePlace
selection_one low p ms = ap (λ n. selected (is_place low (Some (low +ℤ pos n))) 0 ms) (omega arith) ∙ from_place low 0 p ms

none_from : (low : ℤ) (i : Option ℤ) (k : ℕ) (ms : List Meaning) → ((z : ℤ) → i ≡ Some z → z <ℤ low) → selected (is_place low i) k ms ≡ None
none_from low i k [] h = refl
none_from low None k (m ∷ ms) h = none_from low None (suc k) ms h
none_from low (Some z) k (m ∷ ms) h = turn_off (is_place low (Some z)) k m ms (apart low z k (below z low k (h z refl))) ∙ none_from low (Some z) (suc k) ms h
  where
    below : (z low : ℤ) (k : ℕ) → z <ℤ low → z ≡ (low +ℤ pos k) → ⊥
    below z low k l e = omega (arith, ints, l, e)

pub selection_none : NoPlaceSelectsNothing
selection_none low i ms h = none_from low i 0 ms h
