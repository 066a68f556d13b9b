-- Numbers of which no two are the same, from the last on.
use Rattle.std.proofs.Common.{◌≡◌, ℕ, zero, suc, List, [], ◌∷◌, map, drop, Option, Some, None, Bool, true, false, not, ◌&&◌, ◌||◌, refl, sym, ap, ◌∙◌, arith}
use Rattle.std.specs.Prelude.{ℤ, int_le}
use Rattle.std.specs.Ordering.{int_eq as same}
use Rattle.std.specs.List.{list_any, list_all}
use Rattle.std.proofs.lemmas.Int.{ints}
use Rattle.std.proofs.lemmas.Bool.{false≢true}
use Rattle.std.proofs.lemmas.Bool.Decides.{same_from_decides, Decides-int_eq}
use Rattle.ms_num.proofs.SharedSpans.{le_from, of_le, and_left, and_right}
use Rattle.ms_num.specs.Numbers.{int_eq}
use Rattle.ms_trees.specs.Value.{Meaning, numeric_meaning, compare, int_ne, test, are_distinct, first_differs}

eq_from : (x y : ℤ) → int_eq x y ≡ true → x ≡ y
eq_from x y h =
    let a = le_from x y (and_left (int_le x y) (int_le y x) h) in
    let b = le_from y x (and_right (int_le x y) (int_le y x) h) in
    omega (arith, ints, a, b)

eq_of : (x y : ℤ) → x ≡ y → int_eq x y ≡ true
eq_of x y e = rw e (both (int_le y y) (of_le y y (omega (arith, ints))))
  where
    both : (b : Bool) → b ≡ true → (b && b) ≡ true
    both true h = refl
    both false h = h

-- the two tests of equality
pub one_test : (x y : ℤ) → int_eq x y ≡ same x y
one_test x y = same_from_decides (int_eq x y) (same x y) (eq_from x y, eq_of x y) (Decides-int_eq x y)

-- the number is one of the list
abbrev pub is_among : List (Option ℤ) → ℤ → Bool
is_among ns z = list_any (test (same z)) ns

-- it is not, where all are numbers
apart : (z : ℤ) (ns : List (Option ℤ)) → are_distinct (map numeric_meaning ns) ≡ true → list_all (λ (n : Meaning). compare int_ne (Some z) n.number) (map numeric_meaning ns) ≡ not (is_among ns z)
apart z [] h = refl
apart z (None ∷ ns) h = absurd (false≢true h)
apart z (Some y ∷ ns) h =
    ap (λ b. not b && list_all (λ (n : Meaning). compare int_ne (Some z) n.number) (map numeric_meaning ns)) (one_test z y)
    ∙ at (same z y) (list_all (λ (n : Meaning). compare int_ne (Some z) n.number) (map numeric_meaning ns)) (is_among ns z) (apart z ns (and_right (first_differs (map numeric_meaning (Some y ∷ ns))) (are_distinct (map numeric_meaning ns)) h))
  where
    at : (a b c : Bool) → b ≡ not c → (not a && b) ≡ not (a || c)
    at true b c e = refl
    at false b c e = e

-- one number before those that are distinct
pub one_before : (n : Option ℤ) (rest : List (Option ℤ)) (has : ℤ → Bool) → are_distinct (map numeric_meaning rest) ≡ true → ((z : ℤ) → has z ≡ is_among rest z) →
    test (λ z. not (has z)) n ≡ are_distinct (map numeric_meaning (n ∷ rest))
one_before None rest has h k = refl
one_before (Some z) rest has h k = ap not (k z) ∙ sym (apart z rest h) ∙ sym (at (list_all (λ (n : Meaning). compare int_ne (Some z) n.number) (map numeric_meaning rest)) (are_distinct (map numeric_meaning rest)) h)
  where
    at : (a b : Bool) → b ≡ true → (a && b) ≡ a
    at true b e = e
    at false b e = refl

-- where a part at the end is not distinct, the whole is not
pub not_behind : (k : ℕ) (ns : List (Option ℤ)) → are_distinct (map numeric_meaning (drop k ns)) ≡ false → are_distinct (map numeric_meaning ns) ≡ false
not_behind zero ns h = h
not_behind (suc k) [] h = h
not_behind (suc k) (n ∷ ns) h = at (first_differs (map numeric_meaning (n ∷ ns))) (are_distinct (map numeric_meaning ns)) (not_behind k ns h)
  where
    at : (a b : Bool) → b ≡ false → (a && b) ≡ false
    at true b e = e
    at false b e = refl

pub among_more : (n : Option ℤ) (rest : List (Option ℤ)) (z : ℤ) (had : Bool) → had ≡ is_among rest z → (test (int_eq z) n || had) ≡ is_among (n ∷ rest) z
among_more None rest z had h = h
among_more (Some y) rest z had h = ap (λ b. b || had) (one_test z y) ∙ ap (λ b. same z y || b) h
