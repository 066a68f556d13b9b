-- A propagator as a chain of cuts.
use Rattle.std.proofs.Common.{◌≡◌, ◌≢◌, ℕ, ◌<◌, ◌⊎◌, inl, inr, refl, sym, ap, ◌∙◌, subst, arith, length, true, false, Bool, ◌&&◌, List, [], ◌∷◌, zero, suc}
use Rattle.std.specs.Prelude.{ℤ, slice_set, slice_index_or}
use Rattle.std.proofs.lemmas.List.{get_or-set_same, get_or-set_other, length-set}
use Rattle.std.proofs.lemmas.Bool.{cases_eq, false≢true}
use Rattle.std.specs.Int.Signed.{≤ℤ_refl}
use Rattle.std.proofs.Math.ListN.{length-map}
use Rattle.ms_num.specs.Span.{Inside}
use Rattle.ms_num.specs.Sets.{Set, IsSet, IsCut, Among, set_size, cut_set, empty_set, span_of, spans_of}
use Rattle.ms_trees.specs.Enclosure.{span_at}
use Rattle.ms_trees.specs.Laws.{IsSmaller, SmallerBoxesStayWellFormed}
use Rattle.ms_num.proofs.SharedCounts.{cut_among}
use Rattle.ms_cells.specs.Cells.{Lists}
use Rattle.ms_store.specs.Stored.{set_at, Cuts}
use Rattle.ms_store.specs.CutGives.{CutGives}
use Rattle.ms_store.specs.declared.store.Cut.{Cut}
use Rattle.ms_store.specs.declared.store.Cut.TheVariants.{Kept, Changed, Emptied}
use Rattle.ms_boxes.specs.Boxes.{Assignment, InBox, IsProper, number_at}
use Rattle.ms_boxes.proofs.SharedCutting.{cut_box}
use Rattle.ms_prim.specs.declared.primitive.Primitive.{Primitive}
use Rattle.ms_prim.specs.Naming.{is_named}
use Rattle.ms_prim.specs.Settling.{IsMet}
use Rattle.ms_prim.specs.Narrowing.{IsLess, Shrinks, Narrows, Fails}
use Rattle.ms_prim.specs.Promises.{NarrowedStayProper, NarrowedStayFit}
use Rattle.ms_prim.proofs.SharedSorts.{smaller_fit}

pub narrows_refl : (p : Primitive) (l : Lists Set) → Narrows p l l
narrows_refl p l = record { saved = refl; count = refl; elsewhere = λ v h. refl; shrinks = λ v. inl refl; keeps = λ a i m. i }

-- want of memory, and a cut that changes nothing
pub narrows_same : (p : Primitive) (old new : Lists Set) → new ≡ old → Narrows p old new
narrows_same p old new e = subst (λ l. Narrows p old l) (sym e) (narrows_refl p old)

among_then : (s t u : Set) → Among s t → Among t u → Among s u
among_then s t u f g z h = g z (f z h)

shrinks_then : (s t u : Set) → Shrinks t s → Shrinks u t → Shrinks u s
shrinks_then s t u (inl e) (inl f) = inl (f ∙ e)
shrinks_then s t u (inl e) (inr l) = inr (subst (λ x. IsLess u x) e l)
shrinks_then s t u (inr k) (inl f) = inr (subst (λ x. IsLess x s) (sym f) k)
shrinks_then s t u (inr k) (inr l) = inr (record { proper = l.proper; among = among_then u t s l.among k.among; fewer = let x = k.fewer in let y = l.fewer in omega (arith, x, y) })

-- one run after another
pub narrows_then : (p : Primitive) (a b c : Lists Set) → Narrows p a b → Narrows p b c → Narrows p a c
narrows_then p a b c m n = record {
  saved = n.saved ∙ m.saved;
  count = n.count ∙ m.count;
  elsewhere = λ v h. n.elsewhere v h ∙ m.elsewhere v h;
  shrinks = λ v. shrinks_then (set_at a v) (set_at b v) (set_at c v) (m.shrinks v) (n.shrinks v);
  keeps = λ x i h. n.keeps x (m.keeps x i h) h;
}

narrows_cuts : (p : Primitive) (v : ℕ) (keep : ℤ → Bool) (old new : Lists Set) → is_named p v ≡ true → v < length old.current → Cuts keep v old new → ((a : Assignment) → InBox a old.current → IsMet a p → keep (number_at a v) ≡ true) → Narrows p old new
narrows_cuts p v keep old new n b c k = subst (λ l. Narrows p old l) (sym c.written) (record {
  saved = refl;
  count = length-set old.current v t;
  elsewhere = λ u h. get_or-set_other old.current v u t empty_set (other u h);
  shrinks = λ u. shrinks u (cases_eq u v);
  keeps = λ a i m. (cut_box keep old.current v t b c.is_cut).back a i (k a i m);
})
  where
    t : Set
    t = cut_set keep (set_at old v)

    here : set_at (record old { current = slice_set old.current v t }) v ≡ t
    here = get_or-set_same old.current v t empty_set b

    other : (u : ℕ) → is_named p u ≡ false → u ≢ v
    other u h e = false≢true (sym h ∙ ap (λ x. is_named p x) e ∙ n)

    less : IsLess t (set_at old v)
    less = record { proper = c.is_cut.proper; among = cut_among keep (set_at old v) t c.is_cut; fewer = c.smaller }

    shrinks : (u : ℕ) → (u ≡ v) ⊎ (u ≢ v) → Shrinks (set_at (record old { current = slice_set old.current v t }) u) (set_at old u)
    shrinks u (inl e) = subst (λ i. Shrinks (set_at (record old { current = slice_set old.current v t }) i) (set_at old i)) (sym e) (inr (subst (λ s. IsLess s (set_at old v)) (sym here) less))
    shrinks u (inr ne) = inl (get_or-set_other old.current v u t empty_set ne)

-- whatever a cut answers, where each assignment of the sets that meets the primitive passes
pub narrows_cut : (p : Primitive) (v : ℕ) (keep : ℤ → Bool) (old new : Lists Set) (c : Cut) → is_named p v ≡ true → v < length old.current → CutGives c keep v old new → ((a : Assignment) → InBox a old.current → IsMet a p → keep (number_at a v) ≡ true) → Narrows p old new
narrows_cut p v keep old new Kept n b c k = narrows_same p old new c.0
narrows_cut p v keep old new Changed n b c k = narrows_cuts p v keep old new n b c k
narrows_cut p v keep old new Emptied n b c k = narrows_same p old new c.0

-- an assignment of a box has a number of each set
pub number_in : (b : List Set) (a : Assignment) (v : ℕ) → InBox a b → v < length b → (slice_index_or b v empty_set).has (number_at a v) ≡ true
number_in [] a v i l = absurd (omega (arith, l))
number_in (s ∷ b) [] v i l = absurd i
number_in (s ∷ b) (z ∷ a) zero i l = i.0
number_in (s ∷ b) (z ∷ a) (suc v) i l = number_in b a v i.1 (omega (arith, l))

-- a cut that would leave nothing: no assignment meets the primitive
pub fails_cut : (p : Primitive) (v : ℕ) (keep : ℤ → Bool) (old new : Lists Set) → v < length old.current → CutGives Emptied keep v old new → ((a : Assignment) → InBox a old.current → IsMet a p → keep (number_at a v) ≡ true) → Fails p old
fails_cut p v keep old new b c k a i m = false≢true (sym (c.1 (number_at a v) (number_in old.current a v i b)) ∙ k a i m)

pub fails_then : (p : Primitive) (a b : Lists Set) → Narrows p a b → Fails p b → Fails p a
fails_then p a b n f x i m = f x (n.keeps x i m) m

-- ---- sets stay proper, and primitives fit

span_read : (l : List Set) (v : ℕ) → v < length l → span_at (spans_of l) v ≡ span_of (slice_index_or l v empty_set)
span_read [] v h = absurd (omega (arith, h))
span_read (s ∷ l) zero h = refl
span_read (s ∷ l) (suc v) h = span_read l v (omega (arith, h))

proper_at : (l : List Set) (v : ℕ) → IsProper l → v < length l → IsSet (slice_index_or l v empty_set)
proper_at [] v i h = absurd (omega (arith, h))
proper_at (s ∷ l) zero i h = i.0
proper_at (s ∷ l) (suc v) i h = proper_at l v i.1 (omega (arith, h))

all_proper : (l : List Set) → ((v : ℕ) → v < length l → IsSet (slice_index_or l v empty_set)) → IsProper l
all_proper [] f = tt
all_proper (s ∷ l) f = (f zero (omega arith), all_proper l (λ v h. f (suc v) (omega (arith, h))))

still_proper : (s t : Set) → IsSet t → Shrinks s t → IsSet s
still_proper s t i (inl e) = subst IsSet (sym e) i
still_proper s t i (inr k) = k.proper

pub narrowed_proper : NarrowedStayProper
narrowed_proper p old new i n = all_proper new.current (λ v h. still_proper (set_at new v) (set_at old v) (proper_at old.current v i (subst (λ k. v < k) n.count h)) (n.shrinks v))

inside : (s t : Set) → IsSet t → Shrinks s t → Inside (span_of s) (span_of t)
inside s t i (inl e) = subst (λ x. Inside (span_of x) (span_of t)) (sym e) (record { lo = ≤ℤ_refl t.lo; proper = i.from t.hi i.high; hi = ≤ℤ_refl t.hi })
inside s t i (inr k) = record { lo = i.from s.lo (k.among s.lo k.proper.low); proper = k.proper.from s.hi k.proper.high; hi = i.to s.hi (k.among s.hi k.proper.high) }

narrowed_smaller : (p : Primitive) (old new : Lists Set) → IsProper old.current → Narrows p old new → IsSmaller (spans_of new.current) (spans_of old.current)
narrowed_smaller p old new i n = record {
  inside = λ v h.
      let l : v < length old.current = subst (λ k. v < k) (length-map old.current span_of) h.within in
      let m : v < length new.current = subst (λ k. v < k) (sym n.count) l in
      subst (λ s. Inside s (span_at (spans_of old.current) v)) (sym (span_read new.current v m)) (subst (λ t. Inside (span_of (set_at new v)) t) (sym (span_read old.current v l)) (inside (set_at new v) (set_at old v) (proper_at old.current v i l) (n.shrinks v)));
}

pub narrowed_fit : SmallerBoxesStayWellFormed → NarrowedStayFit
narrowed_fit law p old new i n q = smaller_fit law (spans_of new.current) (spans_of old.current) (length-map new.current span_of ∙ n.count ∙ sym (length-map old.current span_of)) (narrowed_smaller p old new i n) q
