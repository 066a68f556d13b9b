-- Walks over the elements of an array.
use Rattle.std.proofs.Common.{◌≡◌, ℕ, zero, suc, ◌+◌, ◌-◌, ◌<◌, ◌≤◌, List, [], ◌∷◌, ◌++◌, length, map, drop, take, get_or, replicate, Option, Some, None, Bool, true, false, ◌&&◌, ◌||◌, refl, sym, ap, ◌∙◌, arith, add-one, append_assoc, min}
use Rattle.std.specs.Prelude.{ℤ, pos, is_some, if◌then◌else◌}
use Rattle.std.specs.List.{list_any, list_all}
use Rattle.std.proofs.lemmas.Bool.{false≢true}
use Rattle.std.proofs.Math.Seq.{drop-cons}
use Rattle.std.proofs.lemmas.List.{take_min, drop_min}
use Rattle.ms_num.specs.Numbers.{int_eq}
use Rattle.ms_trees.specs.Value.{Meaning, numeric_meaning, boolean_meaning, all_true, any_true, all_defined, how_many, compare, counted, is_row, test}
use Rattle.ms_rules.specs.Tables.{in_rows}

pub here : {A : Type 0} (xs : List A) (i : ℕ) (x : A) → i < length xs → x ≡ get_or xs i x → drop i xs ≡ x ∷ drop (i + 1) xs
here xs i x lt e = drop-cons xs i x lt ∙ ap (λ y. y ∷ drop (suc i) xs) (sym e) ∙ ap (λ n. x ∷ drop n xs) (sym (add-one i))

pub before : {A : Type 0} (xs : List A) (i : ℕ) (x : A) → 0 < i → i ≤ length xs → x ≡ get_or xs (i - 1) x → drop (i - 1) xs ≡ x ∷ drop i xs
before xs i x low high e = let k : i - 1 + 1 ≡ i = omega (arith, low) in here xs (i - 1) x (omega (arith, low, high)) e ∙ ap (λ n. x ∷ drop n xs) k

-- ---- Booleans

pub all_are : (bs : List Bool) → list_all (λ (b : Bool). b) bs ≡ all_true (map boolean_meaning bs)
all_are [] = refl
all_are (b ∷ bs) = ap (λ c. b && c) (all_are bs)

pub any_is : (bs : List Bool) → list_any (λ (b : Bool). b) bs ≡ any_true (map boolean_meaning bs)
any_is [] = refl
any_is (b ∷ bs) = ap (λ c. b || c) (any_is bs)

-- elements that count as false
pub any_of_none : (n : ℕ) → false ≡ any_true (map boolean_meaning (replicate n false))
any_of_none zero = refl
any_of_none (suc n) = any_of_none n

-- ---- numbers

pub all_are_defined : (ns : List (Option ℤ)) → list_all (λ (n : Option ℤ). is_some n) ns ≡ all_defined (map numeric_meaning ns)
all_are_defined [] = refl
all_are_defined (n ∷ ns) = ap (λ c. is_some n && c) (all_are_defined ns)

pub counted_all : (ns : List (Option ℤ)) (y : ℤ) → list_all (λ (n : Option ℤ). is_some n) ns ≡ true → counted (map numeric_meaning ns) (Some y) ≡ Some (pos (how_many (λ (m : Meaning). compare int_eq m.number (Some y)) (map numeric_meaning ns)))
counted_all ns y h = at (all_defined (map numeric_meaning ns)) (sym (all_are_defined ns) ∙ h)
  where
    at : (b : Bool) → b ≡ true → (if b && true then Some (pos (how_many (λ (m : Meaning). compare int_eq m.number (Some y)) (map numeric_meaning ns))) else None) ≡ Some (pos (how_many (λ (m : Meaning). compare int_eq m.number (Some y)) (map numeric_meaning ns)))
    at true e = refl
    at false e = absurd (false≢true e)

pub counted_none : (ns : List (Option ℤ)) (y : ℤ) → list_all (λ (n : Option ℤ). is_some n) ns ≡ false → counted (map numeric_meaning ns) (Some y) ≡ None
counted_none ns y h = at (all_defined (map numeric_meaning ns)) (sym (all_are_defined ns) ∙ h)
  where
    at : (b : Bool) → b ≡ false → (if b && true then Some (pos (how_many (λ (m : Meaning). compare int_eq m.number (Some y)) (map numeric_meaning ns))) else None) ≡ None
    at true e = absurd (false≢true (sym e))
    at false e = refl

-- ---- rows

pub other_length : (ns : List (Option ℤ)) (row : List ℤ) → (length ns ≡ length row → ⊥) → is_row (map numeric_meaning ns) row ≡ false
other_length [] [] h = absurd (h refl)
other_length [] (z ∷ zs) h = refl
other_length (n ∷ ns) [] h = refl
other_length (n ∷ ns) (z ∷ zs) h = at (test (λ x. int_eq x z) n) (other_length ns zs (λ e. h (ap suc e)))
  where
    at : (b : Bool) → is_row (map numeric_meaning ns) zs ≡ false → (b && is_row (map numeric_meaning ns) zs) ≡ false
    at true e = e
    at false e = refl

-- one row more

pub row_more : (width left : ℕ) (made : List (List ℤ)) (rest row behind : List ℤ) → row ≡ take (min width (length rest)) rest → behind ≡ drop (min width (length rest)) rest →
    (made ++ row ∷ []) ++ in_rows width left behind ≡ made ++ in_rows width (suc left) rest
row_more width left made rest row behind e f =
    append_assoc made (row ∷ []) (in_rows width left behind)
    ∙ ap (λ (r : List ℤ). made ++ r ∷ in_rows width left behind) (e ∙ take_min width rest)
    ∙ ap (λ (b : List ℤ). made ++ take width rest ∷ in_rows width left b) (f ∙ drop_min width rest)
