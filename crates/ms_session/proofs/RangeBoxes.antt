-- Boxes that are kept as a list of ranges for each variable.
use Rattle.std.proofs.Common.{◌≡◌, ◌≢◌, Some, ℕ, ◌+◌, ◌<◌, zero, suc, refl, sym, ap, ◌∙◌, subst, arith, true, List, [], ◌∷◌, ◌++◌, length, take, get_or}
use Rattle.std.specs.Prelude.{◌<ℤ◌, slice_set}
use Rattle.std.proofs.lemmas.Bool.{false≢true}
use Rattle.std.proofs.lemmas.List.{get_or-map, map-set, map-append, take_more}
use Rattle.std.proofs.Math.ListN.{length-map}
use Rattle.ms_num.specs.Span.{Span}
use Rattle.ms_trees.specs.declared.branching.ValueChoice.{ValueChoice}
use Rattle.ms_num.specs.Sets.{Set, IsSet, IsCut, set_of, empty_set, lo_of, span_of, spans_of}
use Rattle.ms_boxes.specs.Boxes.{Box, set_at, box_of, least_point, IsProper}
use Rattle.ms_boxes.specs.Branchings.{is_unfixed, is_tried, is_left, pick}
use Rattle.ms_trees.specs.declared.tree.Ground.{Ground}
use Rattle.ms_trees.specs.declared.branching.Branching.{Branching}
use Rattle.ms_boxes.specs.Trees.{NoneRefuted}
use Rattle.ms_session.specs.Plain.{Halves, Cuts}
use Rattle.ms_num.proofs.SharedSizes.{open_ends}
use Rattle.ms_boxes.proofs.SharedSingles.{open_size}
use Rattle.ms_boxes.proofs.SharedPicking.{picked_is_open, open_within}

pub set_read : (sets : List (List Span)) (v : ℕ) (r : List Span) → v < length sets → r ≡ get_or sets v r → set_of r ≡ set_at (box_of sets) v
set_read sets v r l e = ap set_of e ∙ sym (get_or-map set_of sets v r empty_set l)

pub proper_set : (b : Box) (v : ℕ) → v < length b → IsProper b → IsSet (set_at b v)
proper_set [] v l i = absurd (omega (arith, l))
proper_set (s ∷ b) zero l i = i.0
proper_set (s ∷ b) (suc v) l i = proper_set b v (omega (arith, l)) i.1

pub box_within : (sets : List (List Span)) (v : ℕ) → v < length sets → v < length (box_of sets)
box_within sets v l = subst (λ n. v < n) (sym (length-map sets set_of)) l

pub read_proper : (sets : List (List Span)) (v : ℕ) (r : List Span) → v < length sets → r ≡ get_or sets v r → IsProper (box_of sets) → IsSet (set_of r)
read_proper sets v r l e i = subst IsSet (sym (set_read sets v r l e)) (proper_set (box_of sets) v (box_within sets v l) i)

some_ranges : (ss : List Span) → IsSet (set_of ss) → ss ≢ []
some_ranges ss i e = false≢true (subst (λ q. (set_of q).has (set_of q).lo ≡ true) e i.low)

pub read_some : (sets : List (List Span)) (v : ℕ) (r : List Span) → v < length sets → r ≡ get_or sets v r → IsProper (box_of sets) → r ≢ []
read_some sets v r l e i = some_ranges r (read_proper sets v r l e i)

pub read_unfixed : (sets : List (List Span)) (v : ℕ) (r : List Span) → v < length sets → r ≡ get_or sets v r → IsProper (box_of sets) → is_unfixed (box_of sets) v ≡ true → (set_of r).lo <ℤ (set_of r).hi
read_unfixed sets v r l e i o = subst (λ s. s.lo <ℤ s.hi) (sym (set_read sets v r l e)) (open_ends (set_at (box_of sets) v) (proper_set (box_of sets) v (box_within sets v l) i) o)

-- both parts of a cut, each with the other sets as they were
pub halves_from : (sets c d : List (List Span)) (v : ℕ) (choice : ValueChoice) (q r t u : List Span) → v < length sets → q ≡ get_or sets v q → r ≡ get_or sets v r → IsCut (is_tried choice (set_of q)) (set_of q) (set_of t) → IsCut (is_left choice (set_of r)) (set_of r) (set_of u) → c ≡ slice_set sets v t → d ≡ slice_set sets v u → Halves (box_of sets) v choice (box_of c) (box_of d)
halves_from sets c d v choice q r t u l eq er tried left ec ed = record {
  first = set_of t;
  second = set_of u;
  tried = subst (λ s. IsCut (is_tried choice s) s (set_of t)) (set_read sets v q l eq) tried;
  left = subst (λ s. IsCut (is_left choice s) s (set_of u)) (set_read sets v r l er) left;
  first_box = ap box_of ec ∙ map-set set_of sets v t;
  second_box = ap box_of ed ∙ map-set set_of sets v u;
}

-- one set more
pub box_more : (sets : List (List Span)) (i : ℕ) (r : List Span) → i < length sets → r ≡ get_or sets i r → box_of (take (i + 1) sets) ≡ box_of (take i sets) ++ set_of r ∷ []
box_more sets i r l e = ap box_of (take_more sets i r l ∙ ap (λ x. take i sets ++ x ∷ []) (sym e)) ∙ map-append set_of (take i sets) (r ∷ [])

lows_last : (b : Box) (s : Set) → least_point (b ++ s ∷ []) ≡ least_point b ++ s.lo ∷ []
lows_last [] s = refl
lows_last (t ∷ b) s = ap (λ p. t.lo ∷ p) (lows_last b s)

pub lows_more : (sets : List (List Span)) (i : ℕ) (r : List Span) → i < length sets → r ≡ get_or sets i r → least_point (box_of (take (i + 1) sets)) ≡ least_point (box_of (take i sets)) ++ lo_of r ∷ []
lows_more sets i r l e = ap least_point (box_more sets i r l e) ∙ lows_last (box_of (take i sets)) (set_of r)

pub spans_more : (sets : List (List Span)) (i : ℕ) (r : List Span) → i < length sets → r ≡ get_or sets i r → spans_of (box_of (take (i + 1) sets)) ≡ spans_of (box_of (take i sets)) ++ span_of (set_of r) ∷ []
spans_more sets i r l e = ap spans_of (box_more sets i r l e) ∙ map-append span_of (box_of (take i sets)) (set_of r ∷ [])

-- ---- the variable that is picked

pub picked_within : (br : Branching) (sets : List (List Span)) (v : ℕ) (choice : ValueChoice) → pick br (box_of sets) ≡ Some (v, choice) → v < length sets
picked_within br sets v choice e = subst (λ n. v < n) (length-map sets set_of) (open_within (box_of sets) v (picked_is_open br (box_of sets) v choice e))

pub cuts_from : (br : Branching) (cons : List Ground) (b c d : Box) (v : ℕ) (choice : ValueChoice) → IsProper b → pick br b ≡ Some (v, choice) → NoneRefuted cons b → Halves b v choice c d → Cuts br cons b c d
cuts_from br cons b c d v choice i e n h = record {
  several = open_size b v i (picked_is_open br b v choice e);
  none_refuted = n;
  picks = record { variable = v; choice = choice; picked = e; first = h.first; second = h.second; tried = h.tried; left = h.left; first_box = h.first_box; second_box = h.second_box };
}
