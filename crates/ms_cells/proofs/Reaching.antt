-- How far old values reach.
use Rattle.std.proofs.Common.{◌≡◌, ℕ, ◌<◌, ◌≤◌, List, [], ◌∷◌, ◌++◌, length, take, map, get_or, refl, sym, ap, ◌∙◌, subst, suc, zero, arith, All, ◌⊎◌, inl, inr}
use Rattle.std.proofs.lemmas.List.{take-append-le, take-map, take-take, get_or-take, length-take, length_push, get_or_append_left, get_or_push}
use Rattle.std.proofs.lemmas.List.Elements.{All-take}
use Rattle.std.proofs.lemmas.Bool.Decides.{nat_tests}
use Rattle.ms_cells.specs.Cells.{IsKnown, IsTrail, IsReach, forgotten, kept_place_of}

known_more : {T : Type 0} (r s : ℕ) (old : List (ℕ × T)) → r ≤ s → All (IsKnown r) old → All (IsKnown s) old
known_more r s old l h = λ k d b c. h k d b (omega (arith, l, c))

pub known_push : {T : Type 0} (r : ℕ) (old : List (ℕ × T)) (e : ℕ × T) → e.0 < r → All (IsKnown r) old → All (IsKnown r) (old ++ e ∷ [])
known_push r [] e l h zero d b c = absurd (omega (arith, l, c))
known_push r [] e l h (suc k) d b c = absurd (omega (arith, b))
known_push r (x ∷ xs) e l h zero d b c = h zero d (omega arith) c
known_push r (x ∷ xs) e l h (suc k) d b c = known_push r xs e l (λ j f a. h (suc j) f (omega (arith, a))) k d (omega (arith, b)) c

pub reach_set : {T : Type 0} (old new : List (ℕ × T)) (marks reaches : List ℕ) (r s : ℕ) (e : ℕ × T) → new ≡ old ++ e ∷ [] → ((k : ℕ) → k < length marks → get_or marks k 0 ≤ length old) → r ≤ s → e.0 < s → IsReach old marks reaches r → IsReach new marks reaches s
reach_set old new marks reaches r s e n w l a h = subst (λ xs. IsReach xs marks reaches s) (sym n) (record {
  known = known_push s old e a (known_more r s old l h.known);
  count = h.count;
  before = λ k b. subst (λ xs. All (IsKnown (get_or reaches k 0)) xs) (sym (take-append-le (get_or marks k 0) old (e ∷ []) (w k b))) (h.before k b);
})

kept_same : (r n p : ℕ) → r ≤ n → (r ≤ p → p ≡ 4294967295) → n < 4294967296 → kept_place_of n p ≡ p
kept_same r n p l h b = grind (arith, nat_tests)

pub forgotten_none : {T : Type 0} (r n : ℕ) (old : List (ℕ × T)) → r ≤ n → n < 4294967296 → All (IsKnown r) old → map (λ e. forgotten n e) old ≡ old
forgotten_none r n [] l b h = refl
forgotten_none r n (e ∷ es) l b h = ap (λ p. (p, e.1) ∷ map (λ x. forgotten n x) es) (kept_same r n e.0 l (h zero e (omega arith)) b) ∙ ap (λ xs. e ∷ xs) (forgotten_none r n es l b (λ j f a. h (suc j) f (omega (arith, a))))

split : (a b : ℕ) → (a < b) ⊎ (b ≤ a)
split a b = grind arith

at_left : (xs : List ℕ) (x k : ℕ) → k < length xs → get_or (xs ++ x ∷ []) k 0 ≡ get_or xs k 0
at_left xs x k b = get_or_append_left xs (x ∷ []) 0 k b

at_end : (xs : List ℕ) (x k : ℕ) → length xs ≡ k → get_or (xs ++ x ∷ []) k 0 ≡ x
at_end xs x k e = get_or_push xs x 0 k e

pub trail_set : {T : Type 0} (now next : List T) (old new : List (ℕ × T)) (marks : List ℕ) (e : ℕ × T) → length next ≡ length now → new ≡ old ++ e ∷ [] → e.0 < length now → IsTrail now old marks → IsTrail next new marks
trail_set now next old new marks e l n b h = record {
  within = λ k c. let w = h.within k c in omega (arith, w, ap length n, length_push old e);
  rising = h.rising;
  known = subst (λ xs. All (IsKnown (length next)) xs) (sym n) (subst (λ m. All (IsKnown m) (old ++ e ∷ [])) (sym l) (known_push (length now) old e b h.known));
  few = subst (λ m. m < 4294967296) (sym l) h.few;
}

pub trail_mark : {T : Type 0} (now : List T) (old : List (ℕ × T)) (marks new : List ℕ) → new ≡ marks ++ length old ∷ [] → IsTrail now old marks → IsTrail now old new
trail_mark now old marks new n h = subst (λ ms. IsTrail now old ms) (sym n) (record { within = λ k c. within k c (split k (length marks)); rising = λ j k i c. rising j k i c (split k (length marks)) (split j (length marks)); known = h.known; few = h.few })
  where
    within : (k : ℕ) → k < length (marks ++ length old ∷ []) → (k < length marks) ⊎ (length marks ≤ k) → get_or (marks ++ length old ∷ []) k 0 ≤ length old
    within k c (inl b) = let w = h.within k b in omega (arith, w, at_left marks (length old) k b)
    within k c (inr b) = omega (arith, at_end marks (length old) k (omega (arith, b, c, length_push marks (length old))))

    rising : (j k : ℕ) → j ≤ k → k < length (marks ++ length old ∷ []) → (k < length marks) ⊎ (length marks ≤ k) → (j < length marks) ⊎ (length marks ≤ j) → get_or (marks ++ length old ∷ []) j 0 ≤ get_or (marks ++ length old ∷ []) k 0
    rising j k i c (inl b) d = let a : j < length marks = omega (arith, i, b) in let w = h.rising j k i b in omega (arith, w, at_left marks (length old) k b, at_left marks (length old) j a)
    rising j k i c (inr b) (inl d) = let w = h.within j d in omega (arith, w, at_left marks (length old) j d, at_end marks (length old) k (omega (arith, b, c, length_push marks (length old))))
    rising j k i c (inr b) (inr d) = omega (arith, at_end marks (length old) j (omega (arith, d, i, c, length_push marks (length old))), at_end marks (length old) k (omega (arith, b, c, length_push marks (length old))))

pub reach_mark : {T : Type 0} (old : List (ℕ × T)) (marks new reaches news : List ℕ) (r : ℕ) → new ≡ marks ++ length old ∷ [] → news ≡ reaches ++ r ∷ [] → IsReach old marks reaches r → IsReach old new news r
reach_mark old marks new reaches news r n m h = subst (λ ms. IsReach old ms news r) (sym n) (subst (λ rs. IsReach old (marks ++ length old ∷ []) rs r) (sym m) (record {
  known = h.known;
  count = omega (arith, h.count, length_push marks (length old), length_push reaches r);
  before = λ k c. before k c (split k (length marks));
}))
  where
    before : (k : ℕ) → k < length (marks ++ length old ∷ []) → (k < length marks) ⊎ (length marks ≤ k) → All (IsKnown (get_or (reaches ++ r ∷ []) k 0)) (take (get_or (marks ++ length old ∷ []) k 0) old)
    before k c (inl b) = subst (λ x. All (IsKnown x) (take (get_or (marks ++ length old ∷ []) k 0) old)) (sym (at_left reaches r k (omega (arith, b, h.count)))) (subst (λ x. All (IsKnown (get_or reaches k 0)) (take x old)) (sym (at_left marks (length old) k b)) (h.before k b))
    before k c (inr b) = subst (λ x. All (IsKnown x) (take (get_or (marks ++ length old ∷ []) k 0) old)) (sym (at_end reaches r k (omega (arith, b, c, h.count, length_push marks (length old))))) (All-take (IsKnown r) _ old h.known)

pub reach_undo : {T : Type 0} (old : List (ℕ × T)) (marks reaches : List ℕ) (r n m s : ℕ) → n < length marks → m ≡ get_or marks n 0 → s ≡ get_or reaches n 0 → ((j k : ℕ) → j ≤ k → k < length marks → get_or marks j 0 ≤ get_or marks k 0) → IsReach old marks reaches r → IsReach (take m old) (take n marks) (take n reaches) s
reach_undo old marks reaches r n m s b e f rising h = record {
  known = subst (λ x. All (IsKnown x) (take m old)) (sym f) (subst (λ x. All (IsKnown (get_or reaches n 0)) (take x old)) (sym e) (h.before n b));
  count = omega (arith, h.count, length-take n marks, length-take n reaches);
  before = λ k c. let d : k < n = omega (arith, c, length-take n marks) in
      subst (λ x. All (IsKnown x) (take (get_or (take n marks) k 0) (take m old))) (sym (get_or-take n reaches k 0 d))
      (subst (λ x. All (IsKnown (get_or reaches k 0)) (take x (take m old))) (sym (get_or-take n marks k 0 d))
      (subst (λ xs. All (IsKnown (get_or reaches k 0)) xs) (sym (take-take (get_or marks k 0) m old (let w = rising k n (omega (arith, d)) b in omega (arith, w, e)))) (h.before k (omega (arith, d, b)))));
}

forgotten_known : {T : Type 0} (r n : ℕ) (old : List (ℕ × T)) → All (IsKnown r) old → All (IsKnown r) (map (λ e. forgotten n e) old)
forgotten_known r n [] h k d b c = absurd (omega (arith, b))
forgotten_known r n (e ∷ es) h zero d b c = kept_known r n e.0 (λ l. h zero d (omega arith) l) c
  where
    kept_known : (r n p : ℕ) → (r ≤ p → p ≡ 4294967295) → r ≤ kept_place_of n p → kept_place_of n p ≡ 4294967295
    kept_known r n p h c = grind (arith, nat_tests)
forgotten_known r n (e ∷ es) h (suc k) d b c = forgotten_known r n es (λ j f a. h (suc j) f (omega (arith, a))) k d (omega (arith, b)) c

pub forgotten_below : {T : Type 0} (n : ℕ) (old new : List (ℕ × T)) → new ≡ map (λ e. forgotten n e) old → All (IsKnown n) new
forgotten_below n old new e = subst (λ xs. All (IsKnown n) xs) (sym e) (all old)
  where
    kept_below : (n p : ℕ) → n ≤ kept_place_of n p → kept_place_of n p ≡ 4294967295
    kept_below n p c = grind (arith, nat_tests)

    all : {T : Type 0} (old : List (ℕ × T)) → All (IsKnown n) (map (λ e. forgotten n e) old)
    all [] k d b c = absurd (omega (arith, b))
    all (e ∷ es) zero d b c = kept_below n e.0 c
    all (e ∷ es) (suc k) d b c = all es k d (omega (arith, b)) c

pub reach_shrink : {T : Type 0} (old new : List (ℕ × T)) (marks reaches : List ℕ) (r s n : ℕ) → new ≡ map (λ e. forgotten n e) old → All (IsKnown s) new → IsReach old marks reaches r → IsReach new marks reaches s
reach_shrink old new marks reaches r s n e k h = record {
  known = k;
  count = h.count;
  before = λ j b. subst (λ xs. All (IsKnown (get_or reaches j 0)) (take (get_or marks j 0) xs)) (sym e) (subst (λ xs. All (IsKnown (get_or reaches j 0)) xs) (sym (take-map (λ x. forgotten n x) (get_or marks j 0) old)) (forgotten_known (get_or reaches j 0) n (take (get_or marks j 0) old) (h.before j b)));
}
