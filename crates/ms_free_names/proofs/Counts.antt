-- Names and how often they are counted.
use Rattle.std.proofs.Common.{◌≡◌, ℕ, suc, ◌+◌, ◌-◌, ◌≤◌, List, [], ◌∷◌, ◌++◌, length, Bool, true, false, cond, Option, Some, None, refl, sym, ap, ◌∙◌, arith, rules}
use Rattle.std.specs.Prelude.{unwrap_or, IsSome, nat_lt, ◌||◌}
use Rattle.std.specs.Str.{bytes_eq}
use Rattle.std.proofs.lemmas.Bool.Decides.{nat_tests}
use Rattle.std.proofs.lemmas.Slice.Eq.{bytes_eq-Decides}
use Rattle.ms_free_names.specs.Uses.{Words, is_bound}
use Rattle.ms_free_names.specs.Bound.{times_of}

-- one more at the end
pub times_push : (bs : Words) (b w : List ℕ) → times_of (bs ++ b ∷ []) w ≡ cond (bytes_eq b w) (suc (times_of bs w)) (times_of bs w)
times_push [] b w = refl
times_push (a ∷ bs) b w =
    ap (λ n. cond (bytes_eq a w) (suc n) n) (times_push bs b w) ∙ swap (bytes_eq a w) (bytes_eq b w) (times_of bs w)
  where
    swap : (s t : Bool) (n : ℕ) → cond s (suc (cond t (suc n) n)) (cond t (suc n) n) ≡ cond t (suc (cond s (suc n) n)) (cond s (suc n) n)
    swap true true n = refl
    swap true false n = refl
    swap false true n = refl
    swap false false n = refl

pub times_short : (bs : Words) (w : List ℕ) → times_of bs w ≤ length bs
times_short [] w = omega arith
times_short (b ∷ bs) w = by (bytes_eq b w) (times_short bs w)
  where
    by : (t : Bool) → times_of bs w ≤ length bs → cond t (suc (times_of bs w)) (times_of bs w) ≤ suc (length bs)
    by true h = omega (arith, h)
    by false h = omega (arith, h)

same_name : (b : List ℕ) → bytes_eq b b ≡ true
same_name b = (bytes_eq-Decides b b).1 refl

-- the count of one name is one more
pub raised : (bs : Words) (b : List ℕ) (old new : List ℕ → Option ℕ) (n : ℕ) → ((w : List ℕ) → unwrap_or (old w) 0 ≡ times_of bs w)
    → n ≡ unwrap_or (old b) 0 → ((w : List ℕ) → new w ≡ cond (bytes_eq b w) (Some (n + 1)) (old w))
    → (w : List ℕ) → unwrap_or (new w) 0 ≡ times_of (bs ++ b ∷ []) w
raised bs b old new n held is made w = ap (λ o. unwrap_or o 0) (made w) ∙ by (bytes_eq b w) refl ∙ sym (times_push bs b w)
  where
    by : (t : Bool) → bytes_eq b w ≡ t → unwrap_or (cond t (Some (n + 1)) (old w)) 0 ≡ cond t (suc (times_of bs w)) (times_of bs w)
    by true e = let all : n ≡ times_of bs w = is ∙ held b ∙ ap (times_of bs) ((bytes_eq-Decides b w).0 e) in omega (arith, all)
    by false e = held w

-- the last name is counted once at least
pub counted_once : (bs : Words) (b : List ℕ) → times_of (bs ++ b ∷ []) b ≡ suc (times_of bs b)
counted_once bs b = times_push bs b b ∙ ap (λ t. cond t (suc (times_of bs b)) (times_of bs b)) (same_name b)

pub is_counted : (o : Option ℕ) (n : ℕ) → unwrap_or o 0 ≡ suc n → IsSome o
is_counted None n e = absurd (omega (arith, e))
is_counted (Some k) n e = search rules

-- the count of the last name is one less without it
pub lowered : (bs : Words) (b : List ℕ) (old new : List ℕ → Option ℕ) (n : ℕ) → ((w : List ℕ) → unwrap_or (old w) 0 ≡ times_of (bs ++ b ∷ []) w)
    → n ≡ unwrap_or (old b) 0 → ((w : List ℕ) → new w ≡ cond (bytes_eq b w) (Some (n - 1)) (old w))
    → (w : List ℕ) → unwrap_or (new w) 0 ≡ times_of bs w
lowered bs b old new n held is made w = ap (λ o. unwrap_or o 0) (made w) ∙ by (bytes_eq b w) refl
  where
    by : (t : Bool) → bytes_eq b w ≡ t → unwrap_or (cond t (Some (n - 1)) (old w)) 0 ≡ times_of bs w
    by true e = let all : n ≡ suc (times_of bs b) = is ∙ held b ∙ counted_once bs b in
        let less : n - 1 ≡ times_of bs b = omega (arith, all) in less ∙ ap (times_of bs) ((bytes_eq-Decides b w).0 e)
    by false e = held w ∙ times_push bs b w ∙ ap (λ t. cond t (suc (times_of bs w)) (times_of bs w)) e

-- a name is bound where it is counted
pub bound_counted : (bs : Words) (w : List ℕ) → is_bound bs w ≡ nat_lt 0 (times_of bs w)
bound_counted [] w = refl
bound_counted (b ∷ bs) w = by (bytes_eq b w) (bound_counted bs w)
  where
    by : (t : Bool) → is_bound bs w ≡ nat_lt 0 (times_of bs w) → (t || is_bound bs w) ≡ nat_lt 0 (cond t (suc (times_of bs w)) (times_of bs w))
    by true h = grind (arith, nat_tests)
    by false h = h
