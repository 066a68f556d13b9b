-- Output items, by their places.
use Rattle.std.proofs.Common.{◌≡◌, ℕ, zero, suc, ◌+◌, List, [], ◌∷◌, ◌++◌, length, Some, refl, ap, subst, arith}
use Rattle.std.specs.List.{slice_get, filter_map}
use Rattle.std.proofs.lemmas.List.{append_assoc, length-append}
use Rattle.ms_code.specs.declared.item.Item.{Item}
use Rattle.ms_code.specs.declared.item.Item.TheVariants as i
use Rattle.ms_instance.specs.Reading.{output_at, output_of, output_of_item, output_places}

pub output_count : (k : ℕ) (is : List Item) → length (output_places k is) ≡ length (filter_map output_of is)
output_count k [] = refl
output_count k (i.Include ∷ is) = output_count (suc k) is
output_count k (i.Declare d ∷ is) = output_count (suc k) is
output_count k (i.Enum ∷ is) = output_count (suc k) is
output_count k (i.Assign p n e ∷ is) = output_count (suc k) is
output_count k (i.Constraint p e ∷ is) = output_count (suc k) is
output_count k (i.Solve p g ∷ is) = output_count (suc k) is
output_count k (i.Output p e ∷ is) = ap suc (output_count (suc k) is)
output_count k (i.Function f ∷ is) = output_count (suc k) is

seam : (before : List Item) (x : Item) (is : List Item) → slice_get (before ++ x ∷ is) (length before) ≡ Some x
seam [] x is = refl
seam (y ∷ before) x is = seam before x is

-- the place of an item counts those before it
abbrev Stands : List Item → List Item → ℕ → Type 0
Stands before is n = output_at (before ++ is) (slice_get (output_places (length before) is) n) ≡ slice_get (filter_map output_of is) n

moved : (before : List Item) (x : Item) (is : List Item) (n : ℕ) → Stands (before ++ x ∷ []) is n
    → output_at (before ++ x ∷ is) (slice_get (output_places (suc (length before)) is) n) ≡ slice_get (filter_map output_of is) n
moved before x is n h =
    let e : length (before ++ x ∷ []) ≡ length before + 1 = length-append before (x ∷ []) in
    let f : length (before ++ x ∷ []) ≡ suc (length before) = omega arith in
    subst (λ (k : ℕ). output_at (before ++ x ∷ is) (slice_get (output_places k is) n) ≡ slice_get (filter_map output_of is) n) f
    (subst (λ (xs : List Item). output_at xs (slice_get (output_places (length (before ++ x ∷ [])) is) n) ≡ slice_get (filter_map output_of is) n) (append_assoc before (x ∷ []) is) h)

stands : (before is : List Item) (n : ℕ) → Stands before is n
stands before [] n = refl
stands before (i.Include ∷ is) n = moved before i.Include is n (stands (before ++ i.Include ∷ []) is n)
stands before (i.Declare d ∷ is) n = moved before (i.Declare d) is n (stands (before ++ i.Declare d ∷ []) is n)
stands before (i.Enum ∷ is) n = moved before i.Enum is n (stands (before ++ i.Enum ∷ []) is n)
stands before (i.Assign p m e ∷ is) n = moved before (i.Assign p m e) is n (stands (before ++ i.Assign p m e ∷ []) is n)
stands before (i.Constraint p e ∷ is) n = moved before (i.Constraint p e) is n (stands (before ++ i.Constraint p e ∷ []) is n)
stands before (i.Solve p g ∷ is) n = moved before (i.Solve p g) is n (stands (before ++ i.Solve p g ∷ []) is n)
stands before (i.Output p e ∷ is) zero = ap output_of_item (seam before (i.Output p e) is)
stands before (i.Output p e ∷ is) (suc n) = moved before (i.Output p e) is n (stands (before ++ i.Output p e ∷ []) is n)
stands before (i.Function f ∷ is) n = moved before (i.Function f) is n (stands (before ++ i.Function f ∷ []) is n)

pub output_found : (is : List Item) (n : ℕ) → output_at is (slice_get (output_places 0 is) n) ≡ slice_get (filter_map output_of is) n
output_found is n = stands [] is n
