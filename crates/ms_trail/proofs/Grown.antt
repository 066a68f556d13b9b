-- New variables of a trail, and the domains of new sets.
use Rattle.std.proofs.Common.{◌≡◌, ℕ, zero, suc, ◌+◌, ◌<◌, ◌≤◌, List, [], ◌∷◌, ◌++◌, length, take, map, get_or, refl, sym, ap, ◌∙◌, subst, arith, All, Some, slice_get, max}
use Rattle.std.proofs.lemmas.List.{take_all, take-take, length-map, append-nil, map-append, length_push, take_more}
use Rattle.std.proofs.lemmas.List.Elements.{All-append, All-weaker, All-push}
use Rattle.ms_num.specs.Span.{Span}
use Rattle.ms_num.specs.Sets.{set_of}
use Rattle.ms_cells.specs.Cells.{Lists, grown}
use Rattle.ms_cells.specs.Rows.{pairs, full_rows}
use Rattle.ms_domains.specs.declared.domain.Domain.{Domain}
use Rattle.ms_domains.specs.Domains.{StandsFor}
use Rattle.ms_store.proofs.ListsOf.{grown_of}
use Rattle.ms_trail.specs.Trailed.{Trailed, slot_set, IsSlot, sets_of, named, IsTrailed, Extends, AreMade}
use Rattle.ms_trail.proofs.Slots.{set_more, slot_more, set_whole, slot_whole, maps_all}
use Rattle.ms_trail.proofs.Trailing.{map_get}

-- ---- lists of ranges that stay

-- a list that begins with another
record Begins (xs ys : List (List Span)) : Type 0 where
  pub more : List (List Span)
  pub is : ys ≡ xs ++ more

begins : (n m : ℕ) (xs more : List (List Span)) → n ≤ m → Begins (take n xs) (take m (xs ++ more))
begins zero m xs more b = record { more = take m (xs ++ more); is = refl }
begins (suc n) m [] more b = record { more = take m more; is = refl }
begins (suc n) zero (x ∷ xs) more b = absurd (omega (arith, b))
begins (suc n) (suc m) (x ∷ xs) more b = let r = begins n m xs more (omega (arith, b)) in record { more = r.more; is = ap (λ ys. x ∷ ys) r.is }

fixed_begin : (t u : Trailed) → Extends t u → Begins (take t.fixed t.ranges) (take u.fixed u.ranges)
fixed_begin t u e = subst (λ (r : List (List Span)). Begins (take t.fixed t.ranges) (take u.fixed r)) (sym e.ranges) (begins t.fixed u.fixed t.ranges e.more e.fixed)

slot_begins : (xs ys : List (List Span)) (s : Domain × List ℕ) → Begins xs ys → IsSlot xs s → IsSlot ys s
slot_begins xs ys s b i = subst (λ (r : List (List Span)). IsSlot r s) (sym b.is) (slot_more xs b.more s i)

pub extends_none : (t : Trailed) → Extends t t
extends_none t = record { more = []; ranges = sym (append-nil t.ranges); cells = refl; kept = refl; fixed = omega arith }

pub extends_list : (t u : Trailed) (ss : List Span) (n : ℕ) → u ≡ record t { ranges = t.ranges ++ ss ∷ []; fixed = n } → t.fixed ≤ n → Extends t u
extends_list t u ss n e b = subst (λ (x : Trailed). Extends t x) (sym e) (record { more = ss ∷ []; ranges = refl; cells = refl; kept = refl; fixed = b })

-- all lists stay
pub pinned_trailed : (t : Trailed) → IsTrailed t → IsTrailed (record t { fixed = length t.ranges })
pinned_trailed t h = record {
  count = h.count;
  few = omega arith;
  within = h.within;
  rising = h.rising;
  current = h.current;
  saved = λ k s g. All-weaker (IsSlot (take (named t k) t.ranges)) (IsSlot (take (max (get_or t.kept k 0) (length t.ranges)) t.ranges)) (λ x i. subst (λ (r : List (List Span)). IsSlot r x) (sym (take_all (max (get_or t.kept k 0) (length t.ranges)) t.ranges (omega arith))) (slot_whole t.ranges (named t k) x i)) s (h.saved k s g);
}

-- all lists are those that stay
pub pinned_all : (t u : Trailed) → u ≡ record t { fixed = length t.ranges } → take u.fixed u.ranges ≡ t.ranges
pinned_all t u e = ap (λ (x : Trailed). take x.fixed x.ranges) e ∙ take_all (length t.ranges) t.ranges (omega arith)

-- ---- one more set

pairs_push : {A B : Type 0} (us : List A) (vs : List B) (a : A) (b : B) → length us ≡ length vs → pairs (us ++ a ∷ []) (vs ++ b ∷ []) ≡ pairs us vs ++ (a, b) ∷ []
pairs_push [] [] a b e = refl
pairs_push [] (v ∷ vs) a b e = absurd (omega (arith, e))
pairs_push (u ∷ us) [] a b e = absurd (omega (arith, e))
pairs_push (u ∷ us) (v ∷ vs) a b e = ap (λ ps. (u, v) ∷ ps) (pairs_push us vs a b (omega (arith, e)))

abbrev pub full : ℕ → List ℕ
full n = get_or (full_rows (n ∷ [])) 0 []

full_push : (ns : List ℕ) (n : ℕ) → full_rows (ns ++ n ∷ []) ≡ full_rows ns ++ full n ∷ []
full_push ns n = map-append _ ns (n ∷ [])

-- a domain by the lists that stay is the same by all lists
same_of_fixed : (t : Trailed) (s : Domain × List ℕ) → IsSlot (take t.fixed t.ranges) s → slot_set t.ranges s ≡ slot_set (take t.fixed t.ranges) s
same_of_fixed t s i = set_whole t.ranges t.fixed s i

-- and with more lists
same_extended : (t u : Trailed) (s : Domain × List ℕ) → Extends t u → IsSlot (take t.fixed t.ranges) s → slot_set u.ranges s ≡ slot_set t.ranges s
same_extended t u s e i = ap (λ r. slot_set r s) e.ranges ∙ set_more t.ranges e.more s (slot_whole t.ranges t.fixed s i)

pub none_made : (t : Trailed) → AreMade t [] [] []
none_made t = record { domains = refl; words = refl; slots = λ k d b. absurd (omega (arith, b)); seen = refl }

pub made_push : (t u : Trailed) (sets : List (List Span)) (ds : List Domain) (ns : List ℕ) (ss : List Span) (d : Domain) (n : ℕ) → Extends t u → AreMade t sets ds ns → StandsFor (take u.fixed u.ranges) (full n) (set_of ss) d → AreMade u (sets ++ ss ∷ []) (ds ++ d ∷ []) (ns ++ n ∷ [])
made_push t u sets ds ns ss d n e h f =
    let same_count : length ds ≡ length (full_rows ns) = h.domains ∙ sym h.words ∙ sym (length-map ns _) in
    let split : pairs (ds ++ d ∷ []) (full_rows (ns ++ n ∷ [])) ≡ pairs ds (full_rows ns) ++ (d, full n) ∷ [] = ap (λ r. pairs (ds ++ d ∷ []) r) (full_push ns n) ∙ pairs_push ds (full_rows ns) d (full n) same_count in
    let old_slots : All (IsSlot (take u.fixed u.ranges)) (pairs ds (full_rows ns)) = All-weaker (IsSlot (take t.fixed t.ranges)) (IsSlot (take u.fixed u.ranges)) (λ s i. slot_begins (take t.fixed t.ranges) (take u.fixed u.ranges) s (fixed_begin t u e) i) (pairs ds (full_rows ns)) h.slots in
    let old_seen : map (slot_set u.ranges) (pairs ds (full_rows ns)) ≡ map (slot_set t.ranges) (pairs ds (full_rows ns)) = maps_all (IsSlot (take t.fixed t.ranges)) (slot_set u.ranges) (slot_set t.ranges) (pairs ds (full_rows ns)) h.slots (λ s i. same_extended t u s e i) in
    let last : slot_set u.ranges (d, full n) ≡ set_of ss = same_of_fixed u (d, full n) f.proper ∙ f.set in record {
      domains = length_push ds d ∙ ap (λ k. k + 1) h.domains ∙ sym (length_push sets ss);
      words = length_push ns n ∙ ap (λ k. k + 1) h.words ∙ sym (length_push sets ss);
      slots = subst (λ (ps : List (Domain × List ℕ)). All (IsSlot (take u.fixed u.ranges)) ps) (sym split) (All-push (IsSlot (take u.fixed u.ranges)) (pairs ds (full_rows ns)) (d, full n) old_slots f.proper);
      seen = ap (map (slot_set u.ranges)) split ∙ map-append (slot_set u.ranges) (pairs ds (full_rows ns)) ((d, full n) ∷ []) ∙ ap (λ x. x ++ slot_set u.ranges (d, full n) ∷ []) (old_seen ∙ h.seen) ∙ ap (λ s. map set_of sets ++ s ∷ []) last ∙ sym (map-append set_of sets (ss ∷ []));
    }

pub made_step : (t u : Trailed) (sets : List (List Span)) (i : ℕ) (ds es : List Domain) (ns ms : List ℕ) (ss : List Span) (d : Domain) (n : ℕ) → i < length sets → ss ≡ get_or sets i ss → es ≡ ds ++ d ∷ [] → ms ≡ ns ++ n ∷ [] → Extends t u → AreMade t (take i sets) ds ns → ((row : List ℕ) → StandsFor (take u.fixed u.ranges) row (set_of ss) d) → AreMade u (take (i + 1) sets) es ms
made_step t u sets i ds es ns ms ss d n b is ed en e h f =
    let front : take (i + 1) sets ≡ take i sets ++ ss ∷ [] = take_more sets i ss b ∙ ap (λ (x : List Span). take i sets ++ x ∷ []) (sym is) in
    subst (λ (x : List (List Span)). AreMade u x es ms) (sym front)
    (subst (λ (x : List Domain). AreMade u (take i sets ++ ss ∷ []) x ms) (sym ed)
    (subst (λ (x : List ℕ). AreMade u (take i sets ++ ss ∷ []) (ds ++ d ∷ []) x) (sym en) (made_push t u (take i sets) ds ns ss d n e h (f (full n)))))

-- ---- new variables

-- a domain by the lists that stay is one by those that a mark may name
slot_named : (t : Trailed) (k : ℕ) (s : Domain × List ℕ) → IsSlot (take t.fixed t.ranges) s → IsSlot (take (named t k) t.ranges) s
slot_named t k s i = slot_whole (take (named t k) t.ranges) t.fixed s (subst (λ (r : List (List Span)). IsSlot r s) (sym (take-take t.fixed (named t k) t.ranges (omega arith))) i)

pub grown_trailed : (t : Trailed) (cells : Lists (Domain × List ℕ)) (ps : List (Domain × List ℕ)) → cells ≡ grown t.cells ps → All (IsSlot (take t.fixed t.ranges)) ps → IsTrailed t → IsTrailed (record t { cells = cells })
grown_trailed t cells ps c f h = subst (λ (x : Lists (Domain × List ℕ)). IsTrailed (record t { cells = x })) (sym c) (record {
  count = h.count ∙ sym (length-map t.cells.saved (λ s. s ++ ps));
  few = h.few;
  within = h.within;
  rising = h.rising;
  current = All-append (IsSlot t.ranges) t.cells.current ps h.current (All-weaker (IsSlot (take t.fixed t.ranges)) (IsSlot t.ranges) (λ s i. slot_whole t.ranges t.fixed s i) ps f);
  saved = λ k s g. saved k s (map_get (λ x. x ++ ps) t.cells.saved k s g);
})
  where
    saved : (k : ℕ) (s : List (Domain × List ℕ)) → ((x : List (Domain × List ℕ)) × (slice_get t.cells.saved k ≡ Some x) × (x ++ ps ≡ s)) → All (IsSlot (take (named t k) t.ranges)) s
    saved k s p = subst (λ (x : List (Domain × List ℕ)). All (IsSlot (take (named t k) t.ranges)) x) p.2 (All-append (IsSlot (take (named t k) t.ranges)) p.0 ps (h.saved k p.0 p.1) (All-weaker (IsSlot (take t.fixed t.ranges)) (IsSlot (take (named t k) t.ranges)) (λ q i. slot_named t k q i) ps f))

pub grown_sets : (t u : Trailed) (sets : List (List Span)) (ds : List Domain) (ns : List ℕ) → AreMade t sets ds ns → u ≡ record t { cells = grown t.cells (pairs ds (full_rows ns)) } → sets_of u ≡ grown (sets_of t) (map set_of sets)
grown_sets t u sets ds ns m e = ap sets_of e ∙ grown_of (slot_set t.ranges) t.cells (grown t.cells (pairs ds (full_rows ns))) (pairs ds (full_rows ns)) refl ∙ ap (grown (sets_of t)) m.seen
