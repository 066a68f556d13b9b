-- Walks over parts that are to be distinct, on an assignment.
use Rattle.std.proofs.Common.{◌≡◌, ℕ, ◌+◌, ◌<◌, List, ◌∷◌, Bool, true, ◌&&◌, Option, map, length, drop, get_or, sym, ap, ◌∙◌}
use Rattle.std.specs.Prelude.{ℤ, pos, is_some}
use Rattle.std.specs.List.{list_all}
use Rattle.ms_trees.specs.Value as v
use Rattle.ms_trees.specs.Value.{Meaning, value}
use Rattle.ms_trees.specs.Enclosure.{points}
use Rattle.ms_trees.specs.WellFormed.{is_number, are_numbers, checked}
use Rattle.ms_trees.specs.declared.tree.Ground.{Ground}
use Rattle.ms_trees.specs.declared.tree.Ground.TheVariants as g
use Rattle.ms_trees.proofs.Bools.{and_right}
use Rattle.ms_trees.proofs.Fits.{drop_here, read_default}

-- the part at a place, with the later ones
pub record Place (xs : List Ground) (k : ℕ) : Type 0 where
  pub item : Ground
  pub here : drop k xs ≡ item ∷ drop (k + 1) xs

pub place : (xs : List Ground) (k : ℕ) → k < length xs → Place xs k
place xs k lt =
    let d : Ground = g.Num (pos 0) in
    let x = get_or xs k d in
    record { item = x; here = drop_here xs k x lt (read_default xs k d x lt) }

-- ---- on an assignment

-- one turn over the places
pub record DistinctOn (a : List ℤ) (xs : List Ground) (k : ℕ) : Type 0 where
  pub fit : are_numbers (map (checked (points a)) (drop (k + 1) xs)) ≡ true
  pub turn : v.are_distinct (map (value a) (drop k xs)) ≡ (v.first_differs (map (value a) (drop k xs)) && v.are_distinct (map (value a) (drop (k + 1) xs)))

pub distinct_on : (a : List ℤ) (xs : List Ground) (k : ℕ) → k < length xs → are_numbers (map (checked (points a)) (drop k xs)) ≡ true → DistinctOn a xs k
distinct_on a xs k lt fit =
    let p = place xs k lt in
    record {
      fit = and_right (is_number (checked (points a) p.item)) (are_numbers (map (checked (points a)) (drop (k + 1) xs))) (ap (λ zs. are_numbers (map (checked (points a)) zs)) (sym p.here) ∙ fit);
      turn = ap (λ zs. v.are_distinct (map (value a) zs)) p.here ∙ sym (ap (λ zs. v.first_differs (map (value a) zs) && v.are_distinct (map (value a) (drop (k + 1) xs))) p.here);
    }

-- whether the first part is a number, and those behind it differ from it
pub first_part : (a : List ℤ) (ys rest : List Ground) (x : Ground) (o : Option ℤ) (b : Bool) → ys ≡ x ∷ rest → o ≡ (value a x).number → is_some o ≡ b →
    (b && list_all (λ (m : Meaning). v.compare v.int_ne o m.number) (map (value a) rest)) ≡ v.first_differs (map (value a) ys)
first_part a ys rest x o b e k i =
    ap (λ b. b && list_all (λ (m : Meaning). v.compare v.int_ne o m.number) (map (value a) rest)) (sym i)
    ∙ ap (λ o. is_some o && list_all (λ (m : Meaning). v.compare v.int_ne o m.number) (map (value a) rest)) k ∙ sym (ap (λ zs. v.first_differs (map (value a) zs)) e)

-- one turn over parts of which all are to pass
pub record PassOn (a : List ℤ) (ys rest : List Ground) (p : Meaning → Bool) (b : Bool) : Type 0 where
  pub fit : are_numbers (map (checked (points a)) rest) ≡ true
  pub all : list_all p (map (value a) ys) ≡ (b && list_all p (map (value a) rest))

pub pass_on : (a : List ℤ) (ys rest : List Ground) (x : Ground) (p : Meaning → Bool) (b : Bool) → ys ≡ x ∷ rest → b ≡ p (value a x) → are_numbers (map (checked (points a)) ys) ≡ true → PassOn a ys rest p b
pass_on a ys rest x p b e k fit = record {
  fit = and_right (is_number (checked (points a) x)) (are_numbers (map (checked (points a)) rest)) (ap (λ zs. are_numbers (map (checked (points a)) zs)) (sym e) ∙ fit);
  all = ap (λ zs. list_all p (map (value a) zs)) e ∙ ap (λ c. c && list_all p (map (value a) rest)) (sym k);
}
