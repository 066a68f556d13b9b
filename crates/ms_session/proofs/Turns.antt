-- The search for a variable to split, turn by turn.
use Rattle.std.proofs.Common.{◌≡◌, ℕ, ◌+◌, ◌-◌, ◌<◌, suc, refl, sym, ap, ◌∙◌, arith, add-zero, add-one, drop-cons, true, false, Bool, if◌then◌else◌, List, ◌∷◌, length, drop, get_or, Option, Some, None}
use Rattle.std.specs.Prelude.{nat_le}
use Rattle.std.proofs.lemmas.Bool.Decides.{nat_tests}
use Rattle.ms_num.specs.Sets.{set_size}
use Rattle.ms_boxes.specs.Boxes.{Box, set_at}
use Rattle.ms_boxes.specs.Branchings.{is_unfixed, first_unfixed, smaller_of, smallest_unfixed, places, places_from}
use Rattle.ms_session.specs.Plain.{best_of}

-- the best so far, and then the best of the others
abbrev pub joined : Box → Option ℕ → Option ℕ → Option ℕ
joined b None other = other
joined b (Some u) other = smaller_of b u other

-- one variable more is joined to the best so far, or to the best of the others
joined_more : (b : Box) (best : Option ℕ) (v : ℕ) (other : Option ℕ) → joined b (Some (best_of b best v)) other ≡ joined b best (smaller_of b v other)
joined_more b None v other = refl
joined_more b (Some u) v None = pushed (nat_le (set_size (set_at b u)) (set_size (set_at b v)))
  where
    pushed : (t : Bool) → Some (if t then u else v) ≡ (if t then Some u else Some v)
    pushed true = refl
    pushed false = refl
joined_more b (Some u) v (Some w) = by_tests (nat_le x y) (nat_le y z) (nat_le x z) refl refl refl
  where
    x : ℕ
    x = set_size (set_at b u)

    y : ℕ
    y = set_size (set_at b v)

    z : ℕ
    z = set_size (set_at b w)

    by_tests : (p q r : Bool) → nat_le x y ≡ p → nat_le y z ≡ q → nat_le x z ≡ r → smaller_of b (if nat_le x y then u else v) (Some w) ≡ smaller_of b u (if nat_le y z then Some v else Some w)
    by_tests true true r e f g = ap (λ t. smaller_of b (if t then u else v) (Some w)) e ∙ ap (λ t. if t then Some u else Some w) (above x y z e f) ∙ sym (ap (λ t. smaller_of b u (if t then Some v else Some w)) f ∙ ap (λ t. if t then Some u else Some v) e)
      where
        above : (x y z : ℕ) → nat_le x y ≡ true → nat_le y z ≡ true → nat_le x z ≡ true
        above x y z e f = grind (arith, nat_tests)
    by_tests true false r e f g = ap (λ t. smaller_of b (if t then u else v) (Some w)) e ∙ sym (ap (λ t. smaller_of b u (if t then Some v else Some w)) f)
    by_tests false true r e f g = ap (λ t. smaller_of b (if t then u else v) (Some w)) e ∙ ap (λ t. if t then Some v else Some w) f ∙ sym (ap (λ t. smaller_of b u (if t then Some v else Some w)) f ∙ ap (λ t. if t then Some u else Some v) e)
    by_tests false false r e f g = ap (λ t. smaller_of b (if t then u else v) (Some w)) e ∙ ap (λ t. if t then Some v else Some w) f ∙ sym (ap (λ t. smaller_of b u (if t then Some v else Some w)) f ∙ ap (λ t. if t then Some u else Some w) (below x y z e f))
      where
        below : (x y z : ℕ) → nat_le x y ≡ false → nat_le y z ≡ false → nat_le x z ≡ false
        below x y z e f = grind (arith, nat_tests)

-- one turn of the search for the variable with the fewest values
pub smallest_taken : (b : Box) (best : Option ℕ) (v : ℕ) (vs : List ℕ) → is_unfixed b v ≡ true → joined b (Some (best_of b best v)) (smallest_unfixed b vs) ≡ joined b best (smallest_unfixed b (v ∷ vs))
smallest_taken b best v vs e = joined_more b best v (smallest_unfixed b vs) ∙ ap (λ t. joined b best (if t then smaller_of b v (smallest_unfixed b vs) else smallest_unfixed b vs)) (sym e)

pub smallest_passed : (b : Box) (best : Option ℕ) (v : ℕ) (vs : List ℕ) → is_unfixed b v ≡ false → joined b best (smallest_unfixed b vs) ≡ joined b best (smallest_unfixed b (v ∷ vs))
smallest_passed b best v vs e = ap (λ t. joined b best (if t then smaller_of b v (smallest_unfixed b vs) else smallest_unfixed b vs)) (sym e)

-- ---- the first unfixed variable

-- what is found from the variable v on is what is found of all n
abbrev pub FirstFrom : Box → ℕ → ℕ → Type 0
FirstFrom b n v = (k : ℕ) → k + v ≡ n → first_unfixed b (places_from v k) ≡ first_unfixed b (places n)

pub first_start : (b : Box) (n : ℕ) → FirstFrom b n 0
first_start b n k e = ap (λ m. first_unfixed b (places m)) (sym (add-zero k) ∙ e)

pub first_more : (b : Box) (n v : ℕ) → FirstFrom b n v → is_unfixed b v ≡ false → FirstFrom b n (v + 1)
first_more b n v h is k e =
    ap (λ m. first_unfixed b (places_from m k)) (add-one v)
    ∙ ap (λ t. if t then Some v else first_unfixed b (places_from (suc v) k)) (sym is)
    ∙ h (suc k) (omega (arith, e))

pub first_found : (b : Box) (n v : ℕ) → FirstFrom b n v → v < n → is_unfixed b v ≡ true → Some v ≡ first_unfixed b (places n)
first_found b n v h l is =
    ap (λ t. if t then Some v else first_unfixed b (places_from (suc v) (n - suc v))) (sym is)
    ∙ h (suc (n - suc v)) (omega (arith, l))

pub first_end : (b : Box) (n v : ℕ) → FirstFrom b n v → v ≡ n → None ≡ first_unfixed b (places n)
first_end b n v h e = h 0 (omega (arith, e))

-- ---- the same over the variables that a branching names

pub rest_here : (vs : List ℕ) (i : ℕ) → i < length vs → drop i vs ≡ get_or vs i 0 ∷ drop (i + 1) vs
rest_here vs i l = rw (add-one, drop-cons vs i 0)
