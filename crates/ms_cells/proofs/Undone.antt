-- On old values and what they give back.
use Rattle.std.proofs.Common.{◌≡◌, ℕ, ◌+◌, ◌<◌, ◌≤◌, List, [], ◌∷◌, ◌++◌, length, take, drop, map, get_or, refl, sym, ap, ◌∙◌, suc, arith, All, set, ◌⊎◌, inl, inr, slice_get, Some, zero}
use Rattle.std.proofs.lemmas.List.{length-map, take-map, take-set-le, get_or-take, take_at, take-take, drop-append-le, set-set, set-get_or, set-append_left, set_past, length-set, take-append-drop, length_push, length-append, length-take}
use Rattle.std.proofs.lemmas.List.Elements.{All-map, All-drop, All-take}
use Rattle.std.proofs.lemmas.Bool.Decides.{nat_tests}
use Rattle.std.proofs.lemmas.Simd.{map-map}
use Rattle.ms_cells.proofs.SharedLists.{map_same}
use Rattle.ms_cells.specs.Cells.{lists, seen, grown, undone, saved_at, IsKnown, IsTrail, forgotten, kept_place_of, shrunk}

pub undone-append : {T : Type 0} (now : List T) (xs ys : List (ℕ × T)) → undone now (xs ++ ys) ≡ undone (undone now ys) xs
undone-append now [] ys = refl
undone-append now (x ∷ xs) ys = ap (λ s. set s x.0 x.1) (undone-append now xs ys)

pub length-undone : {T : Type 0} (now : List T) (xs : List (ℕ × T)) → length (undone now xs) ≡ length now
length-undone now [] = refl
length-undone now (x ∷ xs) = length-set (undone now xs) x.0 x.1 ∙ length-undone now xs

-- a write and the old value that was kept for it
pub undone_write : {T : Type 0} (now : List T) (i : ℕ) (x v d : T) → v ≡ get_or now i d → set (set now i x) i v ≡ now
undone_write now i x v d e = set-set now i x v ∙ ap (λ w. set now i w) e ∙ set-get_or now i d

-- one more old value, of a place that is written: the marks stand for what they did
pub saved_at-set : {T : Type 0} (now : List T) (old : List (ℕ × T)) (marks : List ℕ) (i : ℕ) (x v d : T) → v ≡ get_or now i d → ((k : ℕ) → k < length marks → get_or marks k 0 ≤ length old) → saved_at (set now i x) (old ++ (i, v) ∷ []) marks ≡ saved_at now old marks
saved_at-set now old marks i x v d e h = map_same _ _ 0 marks (λ k b. ap (undone (set now i x)) (drop-append-le _ old _ (h k b)) ∙ undone-append (set now i x) (drop (get_or marks k 0) old) ((i, v) ∷ []) ∙ ap (λ s. undone s (drop (get_or marks k 0) old)) (undone_write now i x v d e))

-- the values from the n-th on are written back: the marks up to there stand for what they did
pub saved_at-back : {T : Type 0} (now : List T) (old : List (ℕ × T)) (marks : List ℕ) (n : ℕ) → ((k : ℕ) → k < length marks → get_or marks k 0 ≤ n) → n ≤ length old → saved_at (undone now (drop n old)) (take n old) marks ≡ saved_at now old marks
saved_at-back now old marks n h b = map_same _ _ 0 marks (λ k c. back now old (get_or marks k 0) n (h k c) b)
  where
    back : {T : Type 0} (now : List T) (old : List (ℕ × T)) (m n : ℕ) → m ≤ n → n ≤ length old → undone (undone now (drop n old)) (drop m (take n old)) ≡ undone now (drop m old)
    back now old m n h b = sym (undone-append now (drop m (take n old)) (drop n old)) ∙ ap (undone now) (sym (drop-append-le m (take n old) (drop n old) (omega (arith, length-take n old))) ∙ ap (drop m) (take-append-drop n old))

-- one step of the way back
pub undone_step : {T : Type 0} (now : List T) (before rest : List (ℕ × T)) (e : ℕ × T) (keep : ℕ) → before ≡ rest ++ e ∷ [] → keep < length before → undone (set now e.0 e.1) (drop keep rest) ≡ undone now (drop keep before)
undone_step now before rest e keep h b = let len : length before ≡ length rest + 1 = ap length h ∙ length_push rest e in sym (ap (λ s. undone now (drop keep s)) h ∙ ap (undone now) (drop-append-le keep rest (e ∷ []) (omega (arith, b, len))) ∙ undone-append now (drop keep rest) (e ∷ []))

-- the same, where the place is not there
pub undone_past : {T : Type 0} (now : List T) (before rest : List (ℕ × T)) (e : ℕ × T) (keep : ℕ) → before ≡ rest ++ e ∷ [] → keep < length before → length now ≤ e.0 → undone now (drop keep rest) ≡ undone now (drop keep before)
undone_past now before rest e keep h b p = ap (λ s. undone s (drop keep rest)) (sym (set_past now e.0 e.1 p)) ∙ undone_step now before rest e keep h b

pub front_step : {T : Type 0} (all before rest : List T) (e : T) → before ≡ rest ++ e ∷ [] → before ≡ take (length before) all → rest ≡ take (length rest) all
front_step all before rest e h f = let len : length before ≡ length rest + 1 = ap length h ∙ length_push rest e in sym (take_at rest (e ∷ []) (length rest) refl) ∙ ap (take (length rest)) (sym h ∙ f) ∙ take-take (length rest) (length before) all (omega (arith, len))

-- a write, as the lists that are seen
pub lists-set : {T : Type 0} (now : List T) (old : List (ℕ × T)) (marks : List ℕ) (i : ℕ) (x v : T) → v ≡ get_or now i v → IsTrail now old marks → lists (set now i x) (old ++ (i, v) ∷ []) marks ≡ record (lists now old marks) { current = set now i x }
lists-set now old marks i x v e h = ap (λ s. seen (set now i x) s) (saved_at-set now old marks i x v v e h.within)

-- the way back to a mark: the lists below it, its own list, and the invariant
mark_below : {T : Type 0} (now : List T) (old : List (ℕ × T)) (marks : List ℕ) (n m : ℕ) → IsTrail now old marks → n < length marks → m ≡ get_or marks n 0 → (k : ℕ) → k < length (take n marks) → get_or (take n marks) k 0 ≤ m
mark_below now old marks n m h b e k c = let d : k < n = omega (arith, c, length-take n marks) in rw (get_or-take n marks k 0 d, e) (h.rising k n (omega (arith, d)) b)

mark_within : {T : Type 0} (now : List T) (old : List (ℕ × T)) (marks : List ℕ) (n m : ℕ) → IsTrail now old marks → n < length marks → m ≡ get_or marks n 0 → m ≤ length old
mark_within now old marks n m h b e = rw e (h.within n b)

pub mark_there : {T : Type 0} (now : List T) (old : List (ℕ × T)) (marks : List ℕ) (n : ℕ) → n < length (saved_at now old marks) → n < length marks
mark_there now old marks n h = omega (arith, h, length-map marks (λ m. undone now (drop m old)))

pub saved_at-undo : {T : Type 0} (now : List T) (old : List (ℕ × T)) (marks : List ℕ) (n m : ℕ) → IsTrail now old marks → n < length marks → m ≡ get_or marks n 0 → saved_at (undone now (drop m old)) (take m old) (take n marks) ≡ take n (saved_at now old marks)
saved_at-undo now old marks n m h b e = saved_at-back now old (take n marks) m (mark_below now old marks n m h b e) (mark_within now old marks n m h b e) ∙ sym (take-map _ n marks)

pub saved_at-get : {T : Type 0} (now : List T) (old : List (ℕ × T)) (marks : List ℕ) (n m : ℕ) → n < length marks → m ≡ get_or marks n 0 → slice_get (saved_at now old marks) n ≡ Some (undone now (drop m old))
saved_at-get now old [] n m b e = absurd (omega arith)
saved_at-get now old (k ∷ ks) zero m b e = ap (λ i. Some (undone now (drop i old))) (sym e)
saved_at-get now old (k ∷ ks) (suc n) m b e = saved_at-get now old ks n m (omega (arith, b)) e

pub trail-undo : {T : Type 0} (now : List T) (old : List (ℕ × T)) (marks : List ℕ) (n m : ℕ) → IsTrail now old marks → n < length marks → m ≡ get_or marks n 0 → IsTrail (undone now (drop m old)) (take m old) (take n marks)
trail-undo now old marks n m h b e = record {
  within = λ k c. let w : m ≤ length old = mark_within now old marks n m h b e in let l : get_or (take n marks) k 0 ≤ m = mark_below now old marks n m h b e k c in omega (arith, w, l, length-take m old);
  rising = λ j k i c. let d : k < n = omega (arith, c, length-take n marks) in let f : j < n = omega (arith, d, i) in let g : k < length marks = omega (arith, c, length-take n marks) in rw (get_or-take n marks j 0 f, get_or-take n marks k 0 d) (h.rising j k i g);
  known = rw (length-undone now (drop m old)) (All-take (IsKnown (length now)) m old h.known);
  few = rw (length-undone now (drop m old)) h.few;
}

split : (a b : ℕ) → (a ≤ b) ⊎ (b < a)
split a b = grind arith

-- new elements
pub undone-grow : {T : Type 0} (now xs : List T) (old : List (ℕ × T)) → All (IsKnown (length now)) old → length now + length xs < 4294967296 → undone (now ++ xs) old ≡ undone now old ++ xs
undone-grow now xs [] h b = refl
undone-grow now xs (e ∷ es) h b = ap (λ s. set s e.0 e.1) (undone-grow now xs es (λ k d c. h (suc k) d (omega (arith, c))) b) ∙ at (split (length now) e.0)
  where
    at : (length now ≤ e.0) ⊎ (e.0 < length now) → set (undone now es ++ xs) e.0 e.1 ≡ set (undone now es) e.0 e.1 ++ xs
    at (inl p) = let z : e.0 ≡ 4294967295 = h 0 e (omega arith) p in set_past _ e.0 e.1 (omega (arith, z, b, length-append (undone now es) xs, length-undone now es)) ∙ ap (λ s. s ++ xs) (sym (set_past _ e.0 e.1 (omega (arith, p, length-undone now es))))
    at (inr p) = set-append_left (undone now es) xs e.0 e.1 (omega (arith, p, length-undone now es))

pub lists-grow : {T : Type 0} (now xs : List T) (old : List (ℕ × T)) (marks : List ℕ) → IsTrail now old marks → length now + length xs < 4294967296 → lists (now ++ xs) old marks ≡ grown (lists now old marks) xs
lists-grow now xs old marks h b = ap (λ s. seen (now ++ xs) s) (map_same _ _ 0 marks (λ k c. undone-grow now xs (drop (get_or marks k 0) old) (All-drop (IsKnown (length now)) _ old h.known) b) ∙ sym (map-map _ _ marks))

take_set : {T : Type 0} (n : ℕ) (xs : List T) (i : ℕ) (x : T) → take n (set xs i x) ≡ set (take n xs) i x
take_set zero xs i x = refl
take_set (suc n) [] i x = refl
take_set (suc n) (y ∷ ys) zero x = refl
take_set (suc n) (y ∷ ys) (suc i) x = ap (λ s. y ∷ s) (take_set n ys i x)

-- fewer elements
undone-shrink : {T : Type 0} (now : List T) (n : ℕ) (old : List (ℕ × T)) → n ≤ length now → length now < 4294967296 → undone (take n now) (map (λ e. forgotten n e) old) ≡ take n (undone now old)
undone-shrink now n [] h b = refl
undone-shrink now n (e ∷ es) h b = ap (λ s. set s (kept_place_of n e.0) e.1) (undone-shrink now n es h b) ∙ at (split n e.0)
  where
    at : (n ≤ e.0) ⊎ (e.0 < n) → set (take n (undone now es)) (kept_place_of n e.0) e.1 ≡ take n (set (undone now es) e.0 e.1)
    at (inl p) = let z : kept_place_of n e.0 ≡ 4294967295 = grind (arith, nat_tests) in set_past _ _ e.1 (omega (arith, z, h, b, length-undone now es, length-take n (undone now es))) ∙ sym (take-set-le n (undone now es) e.0 e.1 p)
    at (inr p) = let z : kept_place_of n e.0 ≡ e.0 = grind (arith, nat_tests) in ap (λ i. set (take n (undone now es)) i e.1) z ∙ sym (take_set n (undone now es) e.0 e.1)

drop_map : {A B : Type 0} (f : A → B) (n : ℕ) (xs : List A) → drop n (map f xs) ≡ map f (drop n xs)
drop_map f zero xs = refl
drop_map f (suc n) [] = refl
drop_map f (suc n) (x ∷ xs) = drop_map f n xs

pub lists-shrink : {T : Type 0} (now : List T) (old : List (ℕ × T)) (marks : List ℕ) (n : ℕ) → IsTrail now old marks → n ≤ length now → lists (take n now) (map (λ e. forgotten n e) old) marks ≡ shrunk (lists now old marks) n
lists-shrink now old marks n h b = ap (λ s. seen (take n now) s) (map_same _ _ 0 marks (λ k c. ap (undone (take n now)) (drop_map (λ e. forgotten n e) (get_or marks k 0) old) ∙ undone-shrink now n (drop (get_or marks k 0) old) b h.few) ∙ sym (map-map _ _ marks))

known_one : {T : Type 0} (m n : ℕ) (e : ℕ × T) → m ≡ n → IsKnown m (forgotten n e)
known_one m n e q l = grind (arith, nat_tests)

pub trail-shrink : {T : Type 0} (now : List T) (old : List (ℕ × T)) (marks : List ℕ) (n : ℕ) → IsTrail now old marks → n ≤ length now → IsTrail (take n now) (map (λ e. forgotten n e) old) marks
trail-shrink now old marks n h b = record {
  within = λ k c. rw (length-map old (λ e. forgotten n e)) (h.within k c);
  rising = h.rising;
  known = All-map (IsKnown (length (take n now))) (λ e. forgotten n e) old (λ k d c. let q : length (take n now) ≡ n = omega (arith, b, length-take n now) in known_one _ n (get_or old k d) q);
  few = let f : length now < 4294967296 = h.few in omega (arith, f, length-take n now);
}
