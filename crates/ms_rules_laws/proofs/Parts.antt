-- What holds of each element holds of each element of a part, of joined lists, and of images.
use Rattle.std.proofs.Common.{ℕ, zero, suc, ◌*◌, List, [], ◌∷◌, ◌++◌, Option, Some, None, map, take, drop, replicate}
use Rattle.std.specs.Prelude.{IfSome, slice_get, option_to_list}
use Rattle.std.specs.List.{AllByRecursion}
use Rattle.ms_rules.specs.Access.{row, column}

module _ {X : Type 0} (P : X → Type 0) where
  pub appended : (xs ys : List X) → AllByRecursion P xs → AllByRecursion P ys → AllByRecursion P (xs ++ ys)
  appended [] ys h i = i
  appended (x ∷ xs) ys h i = (h.0, appended xs ys h.1 i)

  pub one_more : (xs : List X) (y : X) → AllByRecursion P xs → P y → AllByRecursion P (xs ++ y ∷ [])
  one_more xs y h i = appended xs (y ∷ []) h (i, tt)

  pub taken : (k : ℕ) (xs : List X) → AllByRecursion P xs → AllByRecursion P (take k xs)
  taken zero xs h = tt
  taken (suc k) [] h = tt
  taken (suc k) (x ∷ xs) h = (h.0, taken k xs h.1)

  pub dropped : (k : ℕ) (xs : List X) → AllByRecursion P xs → AllByRecursion P (drop k xs)
  dropped zero xs h = h
  dropped (suc k) [] h = tt
  dropped (suc k) (x ∷ xs) h = dropped k xs h.1

  pub repeated : (k : ℕ) (x : X) → P x → AllByRecursion P (replicate k x)
  repeated zero x h = tt
  repeated (suc k) x h = (h, repeated k x h)

  pub found : (xs : List X) (k : ℕ) → AllByRecursion P xs → IfSome (slice_get xs k) P
  found [] k h = tt
  found (x ∷ xs) zero h = h.0
  found (x ∷ xs) (suc k) h = found xs k h.1

  listed : (m : Option X) → IfSome m P → AllByRecursion P (option_to_list m)
  listed None h = tt
  listed (Some x) h = (h, tt)

  pub in_row : (width k : ℕ) (xs : List X) → AllByRecursion P xs → AllByRecursion P (row width k xs)
  in_row width k xs h = taken width (drop (k * width) xs) (dropped (k * width) xs h)

  pub in_column : (width k rows : ℕ) (xs : List X) → AllByRecursion P xs → AllByRecursion P (column width k rows xs)
  in_column width k zero xs h = tt
  in_column width k (suc rows) xs h =
      appended (option_to_list (slice_get xs k)) (column width k rows (drop width xs)) (listed (slice_get xs k) (found xs k h)) (in_column width k rows (drop width xs) (dropped width xs h))

module _ {X Y : Type 0} (P : X → Type 0) (Q : Y → Type 0) (f : X → Y) where
  pub mapped : ((x : X) → P x → Q (f x)) → (xs : List X) → AllByRecursion P xs → AllByRecursion Q (map f xs)
  mapped e [] h = tt
  mapped e (x ∷ xs) h = (e x h.0, mapped e xs h.1)

module _ {X Y : Type 0} (Q : Y → Type 0) (f : X → Y) where
  pub all_mapped : ((x : X) → Q (f x)) → (xs : List X) → AllByRecursion Q (map f xs)
  all_mapped e [] = tt
  all_mapped e (x ∷ xs) = (e x, all_mapped e xs)
