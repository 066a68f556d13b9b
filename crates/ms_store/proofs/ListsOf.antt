-- Lists, and what is seen of them.
use Rattle.std.proofs.Common.{◌≡◌, ℕ, ◌+◌, ◌<◌, ◌≤◌, List, [], ◌∷◌, ◌++◌, length, take, map, get_or, refl, sym, ap, ◌∙◌, All, Some, slice_get, zero, suc, arith, subst}
use Rattle.std.specs.Prelude.{slice_set, slice_index_or}
use Rattle.std.proofs.lemmas.List.{map-append, map-set, take-map, get_or-map, length-map}
use Rattle.std.proofs.lemmas.List.Elements.{All-map}
use Rattle.std.proofs.lemmas.Simd.{map-map}
use Rattle.ms_num.specs.Sets.{Set, empty_set}
use Rattle.ms_cells.specs.Cells.{Lists, grown, shrunk, seen}
use Rattle.ms_store.specs.Stored.{set_at, lists_of}

pub maps_same : {A B : Type 0} (f g : A → B) (xs : List A) → ((x : A) → f x ≡ g x) → map f xs ≡ map g xs
maps_same f g [] h = refl
maps_same f g (x ∷ xs) h = ap (λ y. y ∷ map f xs) (h x) ∙ ap (λ ys. g x ∷ ys) (maps_same f g xs h)

-- the set of a variable, by what is kept of it
pub set_at-lists : {A : Type 0} (f : A → Set) (l : Lists A) (v : ℕ) (x : A) → v < length l.current → x ≡ get_or l.current v x → set_at (lists_of f l) v ≡ f x
set_at-lists f l v x b e = get_or-map f l.current v x empty_set b ∙ ap f (sym e)

pub set_at-some : {A : Type 0} (f : A → Set) (l : Lists A) (v : ℕ) (x : A) → slice_get l.current v ≡ Some x → set_at (lists_of f l) v ≡ f x
set_at-some {A} f l v x e = at l.current v e
  where
    some : (y : A) → Some y ≡ Some x → y ≡ x
    some y e = cc

    at : (xs : List A) (v : ℕ) → slice_get xs v ≡ Some x → slice_index_or (map f xs) v empty_set ≡ f x
    at [] v e = absurd (cc)
    at (y ∷ ys) zero e = ap f (some y e)
    at (y ∷ ys) (suc v) e = at ys v e

pub lengths_of : {A B : Type 0} (f : A → B) (l : Lists A) → All (λ (s : List A). length s ≡ length l.current) l.saved → All (λ (s : List B). length s ≡ length (map f l.current)) (map (λ (s : List A). map f s) l.saved)
lengths_of f l h = All-map (λ s. length s ≡ length (map f l.current)) (λ s. map f s) l.saved (λ k d b. length-map (get_or l.saved k d) f ∙ h k d b ∙ sym (length-map l.current f))

pub written_of : {A B : Type 0} (f : A → B) (l m : Lists A) (v : ℕ) (x : A) → m ≡ record l { current = slice_set l.current v x } → lists_of f m ≡ record (lists_of f l) { current = slice_set (lists_of f l).current v (f x) }
written_of f l m v x e = ap (lists_of f) e ∙ ap (λ s. seen s (lists_of f l).saved) (map-set f l.current v x)

pub grown_of : {A B : Type 0} (f : A → B) (l m : Lists A) (xs : List A) → m ≡ grown l xs → lists_of f m ≡ grown (lists_of f l) (map f xs)
grown_of f l m xs e = ap (lists_of f) e
    ∙ ap (λ s. seen s (lists_of f (grown l xs)).saved) (map-append f l.current xs)
    ∙ ap (λ s. seen (map f l.current ++ map f xs) s) (map-map _ _ l.saved ∙ maps_same _ _ l.saved (λ s. map-append f s xs) ∙ sym (map-map _ _ l.saved))

pub shrunk_of : {A B : Type 0} (f : A → B) (l m : Lists A) (n : ℕ) → m ≡ shrunk l n → lists_of f m ≡ shrunk (lists_of f l) n
shrunk_of f l m n e = ap (lists_of f) e
    ∙ ap (λ s. seen s (lists_of f (shrunk l n)).saved) (sym (take-map f n l.current))
    ∙ ap (λ s. seen (take n (map f l.current)) s) (map-map _ _ l.saved ∙ maps_same _ _ l.saved (λ s. sym (take-map f n s)) ∙ sym (map-map _ _ l.saved))

pub marked_of : {A B : Type 0} (f : A → B) (l m : Lists A) → m ≡ record l { saved = l.saved ++ l.current ∷ [] } → lists_of f m ≡ record (lists_of f l) { saved = (lists_of f l).saved ++ (lists_of f l).current ∷ [] }
marked_of f l m e = ap (lists_of f) e ∙ ap (λ s. seen (map f l.current) s) (map-append (λ s. map f s) l.saved (l.current ∷ []))

pub saved_some : {A B : Type 0} (f : A → B) (saved : List (List A)) (n : ℕ) (s : List A) → slice_get saved n ≡ Some s → slice_get (map (λ s. map f s) saved) n ≡ Some (map f s)
saved_some f [] n s e = absurd (cc)
saved_some f (x ∷ xs) zero s e = ap (λ y. Some (map f y)) (some x s e)
  where
    some : {A : Type 0} (x s : List A) → Some x ≡ Some s → x ≡ s
    some x s e = cc
saved_some f (x ∷ xs) (suc n) s e = saved_some f xs n s e
