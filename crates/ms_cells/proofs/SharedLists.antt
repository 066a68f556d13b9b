-- Lists, element by element; for the crates above as well.
use Rattle.std.proofs.Common.{◌≡◌, ℕ, ◌+◌, ◌<◌, List, [], ◌∷◌, ◌++◌, length, take, drop, map, get_or, refl, sym, ap, ◌∙◌, suc, arith, set}
use Rattle.std.proofs.lemmas.List.{length-append, length-map, length-take, length-drop, length-take-le, drop_more, get_or_at, set_at, take_more, map-append, append_assoc}

pub map_same : {A B : Type 0} (f g : A → B) (d : A) (xs : List A) → ((k : ℕ) → k < length xs → f (get_or xs k d) ≡ g (get_or xs k d)) → map f xs ≡ map g xs
map_same f g d [] h = refl
map_same f g d (x ∷ xs) h = let e : f x ≡ g x = h 0 (omega arith) in rw (e, map_same f g d xs (λ k b. h (suc k) (omega (arith, b)))) refl

-- one more element is mapped in its place
pub map_step : {X : Type 0} (f : X → X) (xs ys : List X) (i : ℕ) (y d : X) → i < length ys → ys ≡ map f (take i xs) ++ drop i xs → y ≡ f (get_or ys i d) → set ys i y ≡ map f (take (i + 1) xs) ++ drop (i + 1) xs
map_step f xs ys i y d b' h e =
    let all : length ys ≡ length (map f (take i xs)) + length (drop i xs) = ap length h ∙ length-append (map f (take i xs)) (drop i xs) in
    let b : i < length xs = omega (arith, b', all, length-map (take i xs) f, length-take i xs, length-drop i xs) in
    let len : length (map f (take i xs)) ≡ i = length-map (take i xs) f ∙ length-take-le i xs (omega (arith, b)) in
    let parts : ys ≡ map f (take i xs) ++ get_or xs i d ∷ drop (i + 1) xs = h ∙ ap (λ s. map f (take i xs) ++ s) (drop_more xs i d b) in
    let same : get_or ys i d ≡ get_or xs i d = ap (λ s. get_or s i d) parts ∙ get_or_at _ _ _ d i len in
    ap (λ s. set s i y) parts ∙ set_at _ _ _ y i len ∙ ap (λ v. map f (take i xs) ++ v ∷ drop (i + 1) xs) (e ∙ ap f same) ∙ sym (ap (λ s. s ++ drop (i + 1) xs) (ap (map f) (take_more xs i d b) ∙ map-append f (take i xs) (get_or xs i d ∷ [])) ∙ append_assoc (map f (take i xs)) (f (get_or xs i d) ∷ []) (drop (i + 1) xs))
