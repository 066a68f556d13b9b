-- One variable: what is read, and what a write leaves.
use Rattle.std.proofs.Common.{◌≡◌, ℕ, ◌<◌, List, [], ◌∷◌, ◌++◌, length, get_or, set, refl, sym, ap, ◌∙◌, subst, arith, w64, to_z, of_z}
use Rattle.std.specs.Prelude.{ℤ, pos, negsuc, ◌≤ℤ◌}
use Rattle.std.proofs.lemmas.Int.{ints}
use Rattle.std.proofs.lemmas.List.{length-map, length-set, set-get_or, get_or-set_same, set-set}
use Rattle.ms_num.specs.Span.{Span, IsInterval}
use Rattle.ms_num.specs.Sets.{Set, IsSet, set_size, span_of, empty_set}
use Rattle.ms_num.proofs.SharedSpans.{read_51}
use Rattle.ms_cells.specs.Cells.{seen}
use Rattle.ms_domains.specs.declared.domain.Domain.{Domain}
use Rattle.ms_domains.specs.Domains.{domain_set, IsDomain, StandsFor}
use Rattle.ms_store.specs.Stored.{set_at}
use Rattle.ms_trail.specs.Trailed.{Trailed, slot_set, IsSlot, sets_of, IsTrailed, no_slot, slot_at, IsAt, written}
use Rattle.ms_trail.proofs.Slots.{set_more, slot_more, at_slot, slot_at as slot_there, there, cell_trailed, cell_sets, ranges_trailed, ranges_same}

-- ---- what is read

pub is_at : (t : Trailed) (v : ℕ) (x : Domain) → IsTrailed t → v < length (sets_of t).current → ((e : Domain × List ℕ) → (get_or t.cells.current v e).0 ≡ x) → IsAt t v x (slot_at t v).1
is_at t v x h b r =
    let e = parts (slot_at t v) (r no_slot) in record {
      slot = e;
      proper = subst (λ (s : Domain × List ℕ). IsSlot t.ranges s) e (slot_there t v no_slot h (there t v b));
      set = at_slot t v no_slot (there t v b) ∙ ap (slot_set t.ranges) e;
    }
  where
    parts : (s : Domain × List ℕ) → s.0 ≡ x → s ≡ (x, s.1)
    parts s e = ap (λ (d : Domain). (d, s.1)) e

-- the set of a variable is that of its domain
pub record Reads (t : Trailed) (v : ℕ) (x : Domain) : Type 0 where
  pub lo_read : to_z w64 (of_z w64 x.lo) ≡ (set_at (sets_of t) v).lo
  pub hi_read : to_z w64 (of_z w64 x.hi) ≡ (set_at (sets_of t) v).hi
  pub lo : x.lo ≡ (set_at (sets_of t) v).lo
  pub hi : x.hi ≡ (set_at (sets_of t) v).hi
  pub size : x.size ≡ set_size (set_at (sets_of t) v)
  pub proper : IsSet (set_at (sets_of t) v)
  pub within : IsInterval (span_of (set_at (sets_of t) v))

read : (z : ℤ) → negsuc 1125899906842623 ≤ℤ z → z ≤ℤ pos 1125899906842624 → to_z w64 (of_z w64 z) ≡ z
read z a b = read_51 z (omega (arith, ints, a)) (omega (arith, ints, b))

pub reads : (t : Trailed) (v : ℕ) (x : Domain) (row : List ℕ) → IsAt t v x row → Reads t v x
reads t v x row i =
    let w = i.proper.within in
    let o = w.ordered in
    let l = w.low in
    let h = w.high in
    let lo = sym (ap (λ (s : Set). s.lo) i.set) in
    let hi = sym (ap (λ (s : Set). s.hi) i.set) in record {
      lo_read = read x.lo (omega (arith, ints, l)) (omega (arith, ints, o, h)) ∙ lo;
      hi_read = read x.hi (omega (arith, ints, l, o)) (omega (arith, ints, h)) ∙ hi;
      lo = lo;
      hi = hi;
      size = i.proper.size ∙ ap set_size (sym i.set);
      proper = subst (λ (s : Set). IsSet s) (sym i.set) i.proper.proper;
      within = subst (λ (s : Set). IsInterval (span_of s)) (sym i.set) w;
    }

-- ---- what is written

pub written_trailed : (t : Trailed) (v : ℕ) (s : Domain × List ℕ) → IsSlot t.ranges s → IsTrailed t → IsTrailed (written t v s)
written_trailed t v s i h = cell_trailed t (written t v s).cells v s refl i h

pub written_sets : (t : Trailed) (v : ℕ) (s : Domain × List ℕ) → sets_of (written t v s) ≡ record (sets_of t) { current = set (sets_of t).current v (slot_set t.ranges s) }
written_sets t v s = cell_sets t (written t v s).cells v s refl

pub written_slot : (t : Trailed) (v : ℕ) (s : Domain × List ℕ) → v < length (sets_of t).current → slot_at (written t v s) v ≡ s
written_slot t v s b = get_or-set_same t.cells.current v s no_slot (there t v b)

-- what is there already
pub written_as_it_was : (t : Trailed) (v : ℕ) (s : Domain × List ℕ) → slot_at t v ≡ s → written t v s ≡ t
written_as_it_was t v s e = ap (λ (x : List (Domain × List ℕ)). record t { cells = record t.cells { current = x } }) (ap (set t.cells.current v) (sym e) ∙ set-get_or t.cells.current v no_slot)

pub written_twice : (t : Trailed) (v : ℕ) (r s : Domain × List ℕ) → written (written t v r) v s ≡ written t v s
written_twice t v r s = ap (λ (x : List (Domain × List ℕ)). record t { cells = record t.cells { current = x } }) (set-set t.cells.current v r s)

-- the same set in another domain or row
pub written_same : (t : Trailed) (v : ℕ) (s : Domain × List ℕ) → slot_set t.ranges s ≡ set_at (sets_of t) v → sets_of (written t v s) ≡ sets_of t
written_same t v s e = written_sets t v s ∙ ap (λ (x : List Set). seen x (sets_of t).saved) (ap (set (sets_of t).current v) e ∙ set-get_or (sets_of t).current v empty_set)

pub written_count : (t : Trailed) (v : ℕ) (s : Domain × List ℕ) → length (sets_of (written t v s)).current ≡ length (sets_of t).current
written_count t v s = length-map (written t v s).cells.current (slot_set t.ranges) ∙ length-set t.cells.current v s ∙ sym (length-map t.cells.current (slot_set t.ranges))

pub written_at : (t : Trailed) (v : ℕ) (d : Domain) (row : List ℕ) → v < length (sets_of t).current → IsDomain t.ranges row d → IsAt (written t v (d, row)) v d row
written_at t v d row b i =
    let c : v < length (written t v (d, row)).cells.current = subst (λ (n : ℕ). v < n) (sym (length-set t.cells.current v (d, row))) (there t v b) in
    let e = written_slot t v (d, row) b in record {
      slot = e;
      proper = i;
      set = at_slot (written t v (d, row)) v no_slot c ∙ ap (slot_set t.ranges) e;
    }

-- a domain that is read with no lists of ranges is so with any
pub any_lists : (ranges : List (List Span)) (row : List ℕ) (d : Domain) → IsDomain [] row d → IsDomain ranges row d × (domain_set ranges row d ≡ domain_set [] row d)
any_lists ranges row d i = (slot_more [] ranges (d, row) i, set_more [] ranges (d, row) i)

-- another set for the variable
pub puts : (t u : Trailed) (v : ℕ) (s : Set) (d : Domain) (row : List ℕ) → u ≡ written t v (d, row) → StandsFor t.ranges row s d → sets_of u ≡ record (sets_of t) { current = set (sets_of t).current v s }
puts t u v s d row e f = ap sets_of e ∙ written_sets t v (d, row) ∙ ap (λ (x : Set). record (sets_of t) { current = set (sets_of t).current v x }) f.set

-- ---- one more list of ranges

pub added_trailed : (t : Trailed) (ss : List Span) → IsTrailed t → IsTrailed (record t { ranges = t.ranges ++ ss ∷ [] })
added_trailed t ss h = ranges_trailed t (t.ranges ++ ss ∷ []) (ss ∷ []) refl h

pub added_sets : (t : Trailed) (ss : List Span) → IsTrailed t → sets_of (record t { ranges = t.ranges ++ ss ∷ [] }) ≡ sets_of t
added_sets t ss h = ranges_same t (t.ranges ++ ss ∷ []) (ss ∷ []) refl h

-- ---- the domain that was read, where another word of the row is written

pub word_proper : (t : Trailed) (v : ℕ) (d : Domain) (row ws : List ℕ) → IsAt t v d row → IsDomain t.ranges ws d → IsDomain t.ranges ws (slot_at t v).0
word_proper t v d row ws a i = subst (λ (s : Domain × List ℕ). IsDomain t.ranges ws s.0) (sym a.slot) i

pub word_written : (t u : Trailed) (v : ℕ) (d : Domain) (row ws : List ℕ) → IsAt t v d row → u ≡ written t v ((slot_at t v).0, ws) → u ≡ written t v (d, ws)
word_written t u v d row ws a e = e ∙ ap (λ (s : Domain × List ℕ). written t v (s.0, ws)) a.slot
