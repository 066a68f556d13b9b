-- What a trail keeps, as sets.
use Rattle.std.proofs.Common.{◌≡◌, ℕ, zero, suc, ◌<◌, ◌≤◌, List, [], ◌∷◌, ◌++◌, length, take, drop, map, get_or, set, refl, sym, ap, ◌∙◌, subst, arith, All, Some, slice_get}
use Rattle.std.specs.Prelude.{ℤ}
use Rattle.std.proofs.lemmas.List.{get_or_append_left, length-append, take-append-drop, take-append-le, get_or-map, length-map}
use Rattle.std.proofs.lemmas.List.Elements.{All-set, All-weaker}
use Rattle.ms_num.specs.Span.{Span}
use Rattle.ms_num.specs.Ranges.{is_member}
use Rattle.ms_num.specs.Sets.{Set, IsSet, set_size, set_of, lo_of, hi_of, empty_set}
use Rattle.ms_cells.specs.Cells.{Lists, seen}
use Rattle.ms_domains.specs.declared.domain.Domain.{Domain}
use Rattle.ms_domains.specs.declared.domain.Holes.{Holes}
use Rattle.ms_domains.specs.declared.domain.Holes.TheVariants.{Whole, Window, Row, Listed}
use Rattle.ms_domains.specs.Bounded.{bounded}
use Rattle.ms_domains.specs.Domains.{is_there, IsReadable}
use Rattle.ms_store.specs.Stored.{set_at, lists_of}
use Rattle.ms_trail.specs.Trailed.{Trailed, slot_set, IsSlot, sets_of, named, IsTrailed}
use Rattle.ms_store.proofs.ListsOf.{written_of}

-- ---- more lists of ranges

there_more : (ranges more : List (List Span)) (row : List ℕ) (lo hi : ℤ) (h : Holes) → IsReadable ranges row lo hi h → (is_there (ranges ++ more) row h ≡ is_there ranges row h) × IsReadable (ranges ++ more) row lo hi h
there_more ranges more row lo hi Whole r = (refl, tt)
there_more ranges more row lo hi (Window base bits) r = (refl, r)
there_more ranges more row lo hi (Row base at bits) r = (refl, r)
there_more ranges more row lo hi (Listed place) r =
    let e = get_or_append_left ranges more [] place r.0 in
    let p = r.0 in
    (ap (λ (q : List Span). λ z. is_member q z) e, (omega (arith, p, length-append ranges more), r.1 ∙ ap lo_of (sym e), r.2 ∙ ap hi_of (sym e), subst (λ (q : List Span). IsSet (set_of q)) (sym e) r.3))

pub set_more : (ranges more : List (List Span)) (s : Domain × List ℕ) → IsSlot ranges s → slot_set (ranges ++ more) s ≡ slot_set ranges s
set_more ranges more s i = ap (bounded s.0.lo s.0.hi) (there_more ranges more s.1 s.0.lo s.0.hi s.0.holes i.readable).0

pub slot_more : (ranges more : List (List Span)) (s : Domain × List ℕ) → IsSlot ranges s → IsSlot (ranges ++ more) s
slot_more ranges more s i =
    let e = set_more ranges more s i in record {
      proper = subst (λ (t : Set). IsSet t) (sym e) i.proper;
      within = i.within;
      size = i.size ∙ ap set_size (sym e);
      readable = (there_more ranges more s.1 s.0.lo s.0.hi s.0.holes i.readable).1;
    }

-- the same of a list that is cut off
pub set_whole : (ranges : List (List Span)) (n : ℕ) (s : Domain × List ℕ) → IsSlot (take n ranges) s → slot_set ranges s ≡ slot_set (take n ranges) s
set_whole ranges n s i = ap (λ r. slot_set r s) (sym (take-append-drop n ranges)) ∙ set_more (take n ranges) (drop n ranges) s i

pub slot_whole : (ranges : List (List Span)) (n : ℕ) (s : Domain × List ℕ) → IsSlot (take n ranges) s → IsSlot ranges s
slot_whole ranges n s i = subst (λ r. IsSlot r s) (take-append-drop n ranges) (slot_more (take n ranges) (drop n ranges) s i)

pub maps_all : {A B : Type 0} (P : A → Type 0) (f g : A → B) (xs : List A) → All P xs → ((x : A) → P x → f x ≡ g x) → map f xs ≡ map g xs
maps_all P f g [] h e = refl
maps_all P f g (x ∷ xs) h e = ap (λ y. y ∷ map f xs) (e x (h 0 x (omega arith))) ∙ ap (λ ys. g x ∷ ys) (maps_all P f g xs (λ k d b. h (suc k) d (omega (arith, b))) e)

-- lists of lists, each of which is seen as the same
maps_saved : {A B : Type 0} (f g : A → B) (xs : List (List A)) → ((k : ℕ) (s : List A) → slice_get xs k ≡ Some s → map f s ≡ map g s) → map (λ s. map f s) xs ≡ map (λ s. map g s) xs
maps_saved f g [] h = refl
maps_saved f g (x ∷ xs) h = ap (λ y. y ∷ map (λ s. map f s) xs) (h 0 x refl) ∙ ap (λ ys. map g x ∷ ys) (maps_saved f g xs (λ k s e. h (suc k) s e))

-- a trail with other lists of ranges that begin alike is seen as the same
pub seen_same : (t : Trailed) (ranges : List (List Span)) → IsTrailed t → ((s : Domain × List ℕ) → IsSlot t.ranges s → slot_set ranges s ≡ slot_set t.ranges s) → lists_of (slot_set ranges) t.cells ≡ sets_of t
seen_same t ranges h e =
    ap (λ s. seen s (map (λ l. map (slot_set ranges) l) t.cells.saved)) (maps_all (IsSlot t.ranges) (slot_set ranges) (slot_set t.ranges) t.cells.current h.current e)
    ∙ ap (λ s. seen (map (slot_set t.ranges) t.cells.current) s) (maps_saved (slot_set ranges) (slot_set t.ranges) t.cells.saved (λ k s g. maps_all (IsSlot (take (named t k) t.ranges)) (slot_set ranges) (slot_set t.ranges) s (h.saved k s g) (λ x i. e x (slot_whole t.ranges (named t k) x i))))

-- ---- the set of a variable

pub at_slot : (t : Trailed) (v : ℕ) (e : Domain × List ℕ) → v < length t.cells.current → set_at (sets_of t) v ≡ slot_set t.ranges (get_or t.cells.current v e)
at_slot t v e b = get_or-map (slot_set t.ranges) t.cells.current v e empty_set b

pub slot_at : (t : Trailed) (v : ℕ) (e : Domain × List ℕ) → IsTrailed t → v < length t.cells.current → IsSlot t.ranges (get_or t.cells.current v e)
slot_at t v e h b = h.current v e b

pub there : (t : Trailed) (v : ℕ) → v < length (sets_of t).current → v < length t.cells.current
there t v b = omega (arith, b, length-map t.cells.current (slot_set t.ranges))

-- ---- a write

pub ranges_trailed : (t : Trailed) (ranges more : List (List Span)) → ranges ≡ t.ranges ++ more → IsTrailed t → IsTrailed (record t { ranges = ranges })
ranges_trailed t ranges more e h = subst (λ r. IsTrailed (record t { ranges = r })) (sym e) (record {
  count = h.count;
  few = let f = h.few in omega (arith, f, length-append t.ranges more);
  within = λ k b. let w = h.within k b in omega (arith, w, length-append t.ranges more);
  rising = h.rising;
  current = All-weaker (IsSlot t.ranges) (IsSlot (t.ranges ++ more)) (λ s i. slot_more t.ranges more s i) t.cells.current h.current;
  saved = λ k s g. subst (λ r. All (IsSlot r) s) (sym (take-append-le (named t k) t.ranges more (bound k (saved_there t.cells.saved k s g)))) (h.saved k s g);
})
  where
    saved_there : {A : Type 0} (xs : List A) (k : ℕ) (s : A) → slice_get xs k ≡ Some s → k < length xs
    saved_there [] k s g = absurd (cc)
    saved_there (x ∷ xs) zero s g = omega arith
    saved_there (x ∷ xs) (suc k) s g = let r = saved_there xs k s g in omega (arith, r)

    bound : (k : ℕ) → k < length t.cells.saved → named t k ≤ length t.ranges
    bound k b = let f = h.few in let w = h.within k (omega (arith, b, h.count)) in omega (arith, f, w)

pub ranges_same : (t : Trailed) (ranges more : List (List Span)) → ranges ≡ t.ranges ++ more → IsTrailed t → sets_of (record t { ranges = ranges }) ≡ sets_of t
ranges_same t ranges more e h = ap (λ r. lists_of (slot_set r) t.cells) e ∙ seen_same t (t.ranges ++ more) h (λ s i. set_more t.ranges more s i)

pub cell_trailed : (t : Trailed) (cells : Lists (Domain × List ℕ)) (v : ℕ) (s : Domain × List ℕ) → cells ≡ record t.cells { current = set t.cells.current v s } → IsSlot t.ranges s → IsTrailed t → IsTrailed (record t { cells = cells })
cell_trailed t cells v s e i h = subst (λ c. IsTrailed (record t { cells = c })) (sym e) (record {
  count = h.count;
  few = h.few;
  within = h.within;
  rising = h.rising;
  current = All-set (IsSlot t.ranges) t.cells.current v s i h.current;
  saved = h.saved;
})

pub cell_sets : (t : Trailed) (cells : Lists (Domain × List ℕ)) (v : ℕ) (s : Domain × List ℕ) → cells ≡ record t.cells { current = set t.cells.current v s } → sets_of (record t { cells = cells }) ≡ record (sets_of t) { current = set (sets_of t).current v (slot_set t.ranges s) }
cell_sets t cells v s e = written_of (slot_set t.ranges) t.cells cells v s e
