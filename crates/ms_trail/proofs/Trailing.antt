-- What the calls of a trail leave.
use Rattle.std.proofs.Common.{◌≡◌, ℕ, zero, suc, ◌+◌, ◌<◌, ◌≤◌, List, [], ◌∷◌, ◌++◌, length, take, map, get_or, refl, sym, ap, ◌∙◌, subst, arith, All, Some, slice_get, max, ◌⊎◌, inl, inr}
use Rattle.std.proofs.lemmas.List.{get_or_append_left, length-take, take_all, take-take, get_or-take, length_push, get_or_push, length-map, length-take-le, take-map}
use Rattle.std.proofs.lemmas.List.Elements.{All-take, All-weaker}
use Rattle.ms_cells.specs.Cells.{Lists, shrunk}
use Rattle.ms_domains.specs.declared.domain.Domain.{Domain}
use Rattle.ms_store.specs.Stored.{lists_of}
use Rattle.ms_trail.specs.Trailed.{Trailed, slot_set, IsSlot, sets_of, named, IsTrailed}
use Rattle.ms_store.proofs.ListsOf.{saved_some}
use Rattle.ms_trail.proofs.Slots.{set_whole, slot_whole, seen_same}

-- ---- fewer variables

pub map_get : {A B : Type 0} (f : A → B) (xs : List A) (k : ℕ) (y : B) → slice_get (map f xs) k ≡ Some y → (x : A) × (slice_get xs k ≡ Some x) × (f x ≡ y)
map_get f [] k y e = absurd (cc)
map_get f (x ∷ xs) zero y e = (x, refl, some (f x) y e)
  where
    some : {A : Type 0} (a b : A) → Some a ≡ Some b → a ≡ b
    some a b e = cc
map_get f (x ∷ xs) (suc k) y e = map_get f xs k y e

pub shrunk_trailed : (t : Trailed) (cells : Lists (Domain × List ℕ)) (n : ℕ) → cells ≡ shrunk t.cells n → IsTrailed t → IsTrailed (record t { cells = cells })
shrunk_trailed t cells n e h = subst (λ c. IsTrailed (record t { cells = c })) (sym e) (record {
  count = h.count ∙ sym (length-map t.cells.saved (λ s. take n s));
  few = h.few;
  within = h.within;
  rising = h.rising;
  current = All-take (IsSlot t.ranges) n t.cells.current h.current;
  saved = λ k s g. let m = map_get (λ x. take n x) t.cells.saved k s g in subst (λ (x : List (Domain × List ℕ)). All (IsSlot (take (named t k) t.ranges)) x) m.2 (All-take (IsSlot (take (named t k) t.ranges)) n m.0 (h.saved k m.0 m.1));
})

-- ---- a mark, and the ways back

get_there : {A : Type 0} (xs : List A) (k : ℕ) (s : A) → slice_get xs k ≡ Some s → k < length xs
get_there [] k s g = absurd (cc)
get_there (x ∷ xs) zero s g = omega arith
get_there (x ∷ xs) (suc k) s g = let r = get_there xs k s g in omega (arith, r)

get_push : {A : Type 0} (xs : List A) (x : A) (k : ℕ) (s : A) → slice_get (xs ++ x ∷ []) k ≡ Some s → (slice_get xs k ≡ Some s) ⊎ ((k ≡ length xs) × (s ≡ x))
get_push [] x zero s g = inr (refl, cc)
get_push [] x (suc k) s g = absurd (cc)
get_push (y ∷ ys) x zero s g = inl g
get_push (y ∷ ys) x (suc k) s g = next (get_push ys x k s g)
  where
    next : (slice_get ys k ≡ Some s) ⊎ ((k ≡ length ys) × (s ≡ x)) → (slice_get ys k ≡ Some s) ⊎ ((suc k ≡ suc (length ys)) × (s ≡ x))
    next (inl e) = inl e
    next (inr p) = inr (ap suc p.0, p.1)

split : (a b : ℕ) → (a < b) ⊎ (b ≤ a)
split a b = grind arith

pub marked_trailed : (t : Trailed) (cells : Lists (Domain × List ℕ)) (kept : List ℕ) → cells ≡ record t.cells { saved = t.cells.saved ++ t.cells.current ∷ [] } → kept ≡ t.kept ++ length t.ranges ∷ [] → IsTrailed t → IsTrailed (record t { cells = cells; kept = kept })
marked_trailed t cells kept e f h = subst (λ c. IsTrailed (record t { cells = c; kept = kept })) (sym e) (subst (λ k. IsTrailed (record t { cells = record t.cells { saved = t.cells.saved ++ t.cells.current ∷ [] }; kept = k })) (sym f) (record {
  count = length_push t.kept (length t.ranges) ∙ ap (λ n. n + 1) h.count ∙ sym (length_push t.cells.saved t.cells.current);
  few = h.few;
  within = λ k b. within k b (split k (length t.kept));
  rising = λ j k i b. rising j k i b (split j (length t.kept)) (split k (length t.kept));
  current = h.current;
  saved = λ k s g. saved k s (get_push t.cells.saved t.cells.current k s g);
}))
  where
    kept2 : List ℕ
    kept2 = t.kept ++ length t.ranges ∷ []

    left : (k : ℕ) → k < length t.kept → get_or (t.kept ++ length t.ranges ∷ []) k 0 ≡ get_or t.kept k 0
    left k b = get_or_append_left t.kept (length t.ranges ∷ []) 0 k b

    end : (k : ℕ) → length t.kept ≡ k → get_or (t.kept ++ length t.ranges ∷ []) k 0 ≡ length t.ranges
    end k e = get_or_push t.kept (length t.ranges) 0 k e

    within : (k : ℕ) → k < length (t.kept ++ length t.ranges ∷ []) → (k < length t.kept) ⊎ (length t.kept ≤ k) → get_or (t.kept ++ length t.ranges ∷ []) k 0 ≤ length t.ranges
    within k b (inl c) = let w = h.within k c in omega (arith, w, left k c)
    within k b (inr c) = omega (arith, end k (omega (arith, b, c, length_push t.kept (length t.ranges))))

    rising : (j k : ℕ) → j ≤ k → k < length (t.kept ++ length t.ranges ∷ []) → (j < length t.kept) ⊎ (length t.kept ≤ j) → (k < length t.kept) ⊎ (length t.kept ≤ k) → get_or (t.kept ++ length t.ranges ∷ []) j 0 ≤ get_or (t.kept ++ length t.ranges ∷ []) k 0
    rising j k i b (inl c) (inl d) = let w = h.rising j k i d in omega (arith, w, left j c, left k d)
    rising j k i b (inl c) (inr d) = let w = h.within j c in omega (arith, w, left j c, end k (omega (arith, b, d, length_push t.kept (length t.ranges))))
    rising j k i b (inr c) (inl d) = absurd (omega (arith, i, c, d))
    rising j k i b (inr c) (inr d) = omega (arith, end j (omega (arith, i, b, c, length_push t.kept (length t.ranges))), end k (omega (arith, b, d, length_push t.kept (length t.ranges))))

    saved : (k : ℕ) (s : List (Domain × List ℕ)) → (slice_get t.cells.saved k ≡ Some s) ⊎ ((k ≡ length t.cells.saved) × (s ≡ t.cells.current)) → All (IsSlot (take (max (get_or (t.kept ++ length t.ranges ∷ []) k 0) t.fixed) t.ranges)) s
    saved k s (inl g) = subst (λ n. All (IsSlot (take (max n t.fixed) t.ranges)) s) (sym (left k (omega (arith, get_there t.cells.saved k s g, h.count)))) (h.saved k s g)
    saved k s (inr p) = subst (λ (x : List (Domain × List ℕ)). All (IsSlot (take (max (get_or (t.kept ++ length t.ranges ∷ []) k 0) t.fixed) t.ranges)) x) (sym p.1) (subst (λ r. All (IsSlot r) t.cells.current) (sym (take_all (max (get_or (t.kept ++ length t.ranges ∷ []) k 0) t.fixed) t.ranges (omega (arith, end k (h.count ∙ sym p.0))))) h.current)

-- the trail after an undo, and what is seen of it
pub record Undoes (t u : Trailed) (n : ℕ) : Type 0 where
  pub there : n < length t.cells.saved
  pub current : slice_get t.cells.saved n ≡ Some u.cells.current
  pub saved : u.cells.saved ≡ take n t.cells.saved
  pub kept : u.kept ≡ take n t.kept
  pub ranges : u.ranges ≡ take (named t n) t.ranges
  pub fixed : u.fixed ≡ t.fixed

named_bound : (t : Trailed) (n : ℕ) → IsTrailed t → n < length t.cells.saved → named t n ≤ length t.ranges
named_bound t n h b = let f = h.few in let w = h.within n (omega (arith, b, h.count)) in omega (arith, f, w)

named_rises : (t : Trailed) (j k : ℕ) → IsTrailed t → j ≤ k → k < length t.cells.saved → named t j ≤ named t k
named_rises t j k h i b = let r = h.rising j k i (omega (arith, b, h.count)) in omega (arith, r)

get_front : {A : Type 0} (xs : List A) (n k : ℕ) (s : A) → slice_get (take n xs) k ≡ Some s → (slice_get xs k ≡ Some s) × (k < n)
get_front xs zero k s g = absurd (cc)
get_front [] (suc n) k s g = absurd (cc)
get_front (x ∷ xs) (suc n) zero s g = (g, omega arith)
get_front (x ∷ xs) (suc n) (suc k) s g = let r = get_front xs n k s g in (r.0, (let b = r.1 in omega (arith, b)))

pub undone_trailed : (t u : Trailed) (n : ℕ) → IsTrailed t → Undoes t u n → IsTrailed u
undone_trailed t u n h d =
    let bound = named_bound t n h d.there in
    let total : length u.ranges ≡ named t n = ap length d.ranges ∙ length-take-le (named t n) t.ranges bound in
    record {
      count = ap length d.kept ∙ length-take-le n t.kept (let b = d.there in omega (arith, b, h.count)) ∙ sym (ap length d.saved ∙ length-take-le n t.cells.saved (let b = d.there in omega (arith, b)));
      few = let f = d.fixed in omega (arith, f, total);
      within = λ k b. let c = before k b in let w = named_rises t k n h (omega (arith, c)) d.there in omega (arith, w, total, same k b);
      rising = λ j k i b. let c = before k b in let a : j < length u.kept = omega (arith, i, b) in let w = h.rising j k i (let x = d.there in omega (arith, c, x, h.count)) in omega (arith, w, same j a, same k b);
      current = subst (λ r. All (IsSlot r) u.cells.current) (sym d.ranges) (h.saved n u.cells.current d.current);
      saved = λ k s g. saved k s (get_front t.cells.saved n k s (ap (λ x. slice_get x k) (sym d.saved) ∙ g));
    }
  where
    before : (k : ℕ) → k < length u.kept → k < n
    before k b = omega (arith, b, ap length d.kept, length-take n t.kept)

    same : (k : ℕ) → k < length u.kept → get_or u.kept k 0 ≡ get_or t.kept k 0
    same k b = ap (λ x. get_or x k 0) d.kept ∙ get_or-take n t.kept k 0 (before k b)

    saved : (k : ℕ) (s : List (Domain × List ℕ)) → (slice_get t.cells.saved k ≡ Some s) × (k < n) → All (IsSlot (take (named u k) u.ranges)) s
    saved k s p =
        let low = p.1 in
        let a : k < length u.kept = (let b = d.there in omega (arith, low, b, h.count, ap length d.kept, length-take n t.kept)) in
        let e : named u k ≡ named t k = ap (λ x. max x u.fixed) (same k a) ∙ ap (max (get_or t.kept k 0)) d.fixed in
        let q : take (named u k) u.ranges ≡ take (named t k) t.ranges = ap (λ m. take m u.ranges) e ∙ ap (take (named t k)) d.ranges ∙ take-take (named t k) (named t n) t.ranges (named_rises t k n h (omega (arith, low)) d.there) in
        subst (λ r. All (IsSlot r) s) (sym q) (h.saved k s p.0)

pub undone_sets : (t u : Trailed) (n : ℕ) → IsTrailed t → Undoes t u n → (slice_get (sets_of t).saved n ≡ Some (sets_of u).current) × ((sets_of u).saved ≡ take n (sets_of t).saved)
undone_sets t u n h d =
    let i = undone_trailed t u n h d in
    let whole : lists_of (slot_set t.ranges) u.cells ≡ sets_of u = seen_same u t.ranges i (λ s j. set_whole t.ranges (named t n) s (subst (λ r. IsSlot r s) d.ranges j) ∙ ap (λ r. slot_set r s) (sym d.ranges)) in (
      saved_some (slot_set t.ranges) t.cells.saved n u.cells.current d.current ∙ ap (λ l. Some l.current) whole,
      ap (λ l. l.saved) (sym whole) ∙ ap (map (map (slot_set t.ranges))) d.saved ∙ sym (take-map (map (slot_set t.ranges)) n t.cells.saved),
    )

pub restored_trailed : (t : Trailed) (cells : Lists (Domain × List ℕ)) (n : ℕ) → IsTrailed t → slice_get t.cells.saved n ≡ Some cells.current → cells.saved ≡ t.cells.saved → IsTrailed (record t { cells = cells })
restored_trailed t cells n h g e = record {
  count = h.count ∙ sym (ap length e);
  few = h.few;
  within = h.within;
  rising = h.rising;
  current = All-weaker (IsSlot (take (named t n) t.ranges)) (IsSlot t.ranges) (λ s i. slot_whole t.ranges (named t n) s i) cells.current (h.saved n cells.current g);
  saved = λ k s q. h.saved k s (ap (λ x. slice_get x k) (sym e) ∙ q);
}
