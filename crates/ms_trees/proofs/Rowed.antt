-- Walks over parts and a row of numbers.
use Rattle.std.proofs.Common.{◌≡◌, ℕ, ◌+◌, List, [], ◌∷◌, Bool, false, true, ◌&&◌, map, length, drop, get_or, ◌<◌, suc, refl, ap, ◌∙◌, sym}
use Rattle.std.specs.Prelude.{ℤ, pos}
use Rattle.std.proofs.Math.ListN.{length-map}
use Rattle.ms_num.specs.Numbers.{int_eq}
use Rattle.ms_num.specs.Span.{Span, has}
use Rattle.ms_trees.specs.Value as v
use Rattle.ms_trees.specs.Value.{Meaning, value}
use Rattle.ms_trees.specs.Enclosure as r
use Rattle.ms_trees.specs.Enclosure.{enclosure, points}
use Rattle.ms_trees.specs.WellFormed.{is_number, are_numbers, checked}
use Rattle.ms_trees.specs.declared.tree.Enclosure.{Enclosure}
use Rattle.ms_trees.specs.declared.tree.Ground.{Ground}
use Rattle.ms_trees.proofs.Bools.{ap2, and_right}
use Rattle.ms_trees.proofs.Fits.{drop_here, read_default}

none : (b : Bool) → (b && false) ≡ false
none true = refl
none false = refl

-- a row of another length fits no parts
longer : (ms : List Meaning) (zs : List ℤ) → (length ms ≡ length zs → ⊥) → v.is_row ms zs ≡ false
longer [] [] h = absurd (h refl)
longer [] (z ∷ zs) h = refl
longer (m ∷ ms) [] h = refl
longer (m ∷ ms) (z ∷ zs) h = ap (λ b. v.test (λ x. int_eq x z) m.number && b) (longer ms zs (λ e. h (ap suc e))) ∙ none (v.test (λ x. int_eq x z) m.number)

longer_on : (rs : List Enclosure) (zs : List ℤ) → (length rs ≡ length zs → ⊥) → r.may_be_row rs zs ≡ false
longer_on [] [] h = absurd (h refl)
longer_on [] (z ∷ zs) h = refl
longer_on (q ∷ rs) [] h = refl
longer_on (q ∷ rs) (z ∷ zs) h = ap (λ b. r.test_interval (λ s. has s z) q.interval && b) (longer_on rs zs (λ e. h (ap suc e))) ∙ none (r.test_interval (λ s. has s z) q.interval)

pub no_row : (a : List ℤ) (xs : List Ground) (zs : List ℤ) → (length xs ≡ length zs → ⊥) → false ≡ v.is_row (map (value a) xs) zs
no_row a xs zs h = sym (longer (map (value a) xs) zs (λ e. h (sym (length-map xs (value a)) ∙ e)))

pub no_row_on : (b : List Span) (xs : List Ground) (zs : List ℤ) → (length xs ≡ length zs → ⊥) → false ≡ r.may_be_row (map (enclosure b) xs) zs
no_row_on b xs zs h = sym (longer_on (map (enclosure b) xs) zs (λ e. h (sym (length-map xs (enclosure b)) ∙ e)))

-- the rest of a row from a place on
pub entry_here : (zs : List ℤ) (k : ℕ) → k < length zs → drop k zs ≡ get_or zs k (pos 0) ∷ drop (k + 1) zs
entry_here zs k lt = drop_here zs k (get_or zs k (pos 0)) lt (read_default zs k (pos 0) (get_or zs k (pos 0)) lt)

-- one turn on an assignment
pub record RowAt (a : List ℤ) (ys rest : List Ground) (zs more : List ℤ) (t : Bool) : Type 0 where
  pub fit : are_numbers (map (checked (points a)) rest) ≡ true
  pub turn : v.is_row (map (value a) ys) zs ≡ (t && v.is_row (map (value a) rest) more)

pub row_at : (a : List ℤ) (ys rest : List Ground) (x : Ground) (zs more : List ℤ) (z : ℤ) (t : Bool) → ys ≡ x ∷ rest → zs ≡ z ∷ more → t ≡ v.test (λ n. int_eq n z) (value a x).number → are_numbers (map (checked (points a)) ys) ≡ true → RowAt a ys rest zs more t
row_at a ys rest x zs more z t e f k fit = record {
  fit = and_right (is_number (checked (points a) x)) (are_numbers (map (checked (points a)) rest)) (ap (λ us. are_numbers (map (checked (points a)) us)) (sym e) ∙ fit);
  turn = ap2 (λ us ws. v.is_row (map (value a) us) ws) e f ∙ ap (λ b. b && v.is_row (map (value a) rest) more) (sym k);
}

-- one turn on a box
pub record RowOn (b : List Span) (ys rest : List Ground) (zs more : List ℤ) (t : Bool) : Type 0 where
  pub fit : are_numbers (map (checked b) rest) ≡ true
  pub turn : r.may_be_row (map (enclosure b) ys) zs ≡ (t && r.may_be_row (map (enclosure b) rest) more)

pub row_on : (b : List Span) (ys rest : List Ground) (x : Ground) (q : Enclosure) (zs more : List ℤ) (z : ℤ) (t : Bool) → ys ≡ x ∷ rest → zs ≡ z ∷ more → q ≡ r.numeric_enclosure (enclosure b x).interval (enclosure b x).may_be_undefined → t ≡ r.test_interval (λ s. has s z) q.interval → are_numbers (map (checked b) ys) ≡ true → RowOn b ys rest zs more t
row_on b ys rest x q zs more z t e f is k fit = record {
  fit = and_right (is_number (checked b x)) (are_numbers (map (checked b) rest)) (ap (λ us. are_numbers (map (checked b) us)) (sym e) ∙ fit);
  turn = ap2 (λ us ws. r.may_be_row (map (enclosure b) us) ws) e f ∙ ap (λ (u : Enclosure). r.test_interval (λ s. has s z) u.interval && r.may_be_row (map (enclosure b) rest) more) (sym is) ∙ ap (λ w. w && r.may_be_row (map (enclosure b) rest) more) (sym k);
}
