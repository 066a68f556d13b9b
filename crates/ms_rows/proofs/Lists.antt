-- Lists of types and of what they are to convert to.
use Rattle.std.proofs.Common.{◌≡◌, ℕ, ◌≤◌, drop, suc, Bool, false, true, ◌&&◌, List, [], ◌∷◌, ◌++◌, length, map, refl, ap, ◌∙◌, sym, Some}
use Rattle.std.proofs.lemmas.Bool.{and_right}
use Rattle.ms_typing.specs.declared.types.ExprType.{ExprType}
use Rattle.std.proofs.Math.ListN.{drop_of_length-le}
use Rattle.ms_typing.specs.Conversion.{converts, known_of}
use Rattle.ms_typing.specs.Least.{Kind, are_known, convert_all, fixed, follows, last_of}

pub lengths : (ts us : List ExprType) → (length ts ≡ length us → ⊥) → convert_all ts us ≡ false
lengths [] [] h = absurd (h refl)
lengths [] (u ∷ us) h = refl
lengths (t ∷ ts) [] h = refl
lengths (t ∷ ts) (u ∷ us) h = and_right (converts t u) (convert_all ts us) (lengths ts us (λ e. h (ap suc e)))

pub lengths_mapped : {A : Type 0} → (f : A → ExprType) (ts : List ExprType) (us : List A) → (length ts ≡ length us → ⊥) → convert_all ts (map f us) ≡ false
lengths_mapped f [] [] h = absurd (h refl)
lengths_mapped f [] (u ∷ us) h = refl
lengths_mapped f (t ∷ ts) [] h = refl
lengths_mapped f (t ∷ ts) (u ∷ us) h = and_right (converts t (f u)) (convert_all ts (map f us)) (lengths_mapped f ts us (λ e. h (ap suc e)))

pub lengths_twice : {A B : Type 0} → (f : B → ExprType) (g : A → B) (ts : List ExprType) (us : List A) → (length ts ≡ length us → ⊥) → convert_all ts (map f (map g us)) ≡ false
lengths_twice f g [] [] h = absurd (h refl)
lengths_twice f g [] (u ∷ us) h = refl
lengths_twice f g (t ∷ ts) [] h = refl
lengths_twice f g (t ∷ ts) (u ∷ us) h = and_right (converts t (f (g u))) (convert_all ts (map f (map g us))) (lengths_twice f g ts us (λ e. h (ap suc e)))

pub none_with_last : (us : List ExprType) (u : ExprType) → convert_all [] (us ++ (u ∷ [])) ≡ false
none_with_last [] u = refl
none_with_last (x ∷ us) u = refl

pub last_without : (ts : List ExprType) (t : ExprType) → convert_all (ts ++ (t ∷ [])) [] ≡ false
last_without [] t = refl
last_without (x ∷ ts) t = refl

and_assoc : (a b c : Bool) → (a && (b && c)) ≡ ((a && b) && c)
and_assoc true b c = refl
and_assoc false b c = refl

and_true : (a : Bool) → (a && true) ≡ a
and_true true = refl
and_true false = refl

pub with_last : (ts us : List ExprType) (t u : ExprType) → convert_all (ts ++ (t ∷ [])) (us ++ (u ∷ [])) ≡ (convert_all ts us && converts t u)
with_last [] [] t u = and_true (converts t u)
with_last [] (x ∷ us) t u = and_right (converts t x) (convert_all [] (us ++ (u ∷ []))) (none_with_last us u)
with_last (x ∷ ts) [] t u = and_right (converts x u) (convert_all (ts ++ (t ∷ [])) []) (last_without ts t)
with_last (x ∷ ts) (y ∷ us) t u = ap (λ b. converts x y && b) (with_last ts us t u) ∙ and_assoc (converts x y) (convert_all ts us) (converts t u)

pub last_of_append : (ts : List ExprType) (t : ExprType) → last_of (ts ++ (t ∷ [])) ≡ Some t
last_of_append [] t = refl
last_of_append (x ∷ []) t = refl
last_of_append (x ∷ (y ∷ ts)) t = last_of_append (y ∷ ts) t

pub known_past : (ks : List Kind) (ts : List ExprType) (i : ℕ) → length ts ≤ i → are_known ks (drop i ts) ≡ true
known_past [] ts i h = refl
known_past (k ∷ ks) ts i h = rw (drop_of_length-le ts h) refl

pub known_step : (k : Kind) (ks : List Kind) (t : ExprType) (ts : List ExprType) → are_known (k ∷ ks) (t ∷ ts) ≡ (are_known (k ∷ []) (t ∷ []) && are_known ks ts)
known_step (follows c s) ks t ts = ap (λ b. b && are_known ks ts) (sym (and_true (known_of t)))
known_step (fixed u) ks t ts = refl

pub split_fits : (ts os us : List ExprType) (t u : ExprType) → ts ≡ os ++ (t ∷ []) → convert_all ts (us ++ (u ∷ [])) ≡ (convert_all os us && converts t u)
split_fits ts os us t u h = rw h (with_last os us t u)

pub split_last_of : (ts os : List ExprType) (t : ExprType) → ts ≡ os ++ (t ∷ []) → last_of ts ≡ Some t
split_last_of ts os t h = rw h (last_of_append os t)
