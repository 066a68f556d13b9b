-- What the laws of ground trees say of boxes: constraints are fit on smaller ones, and a refuted one is not met.
use Rattle.std.proofs.Common.{◌≡◌, inl, inr, ℕ, ◌<◌, zero, suc, refl, sym, ap, ◌∙◌, subst, arith, true, if◌then◌else◌, List, [], ◌∷◌, length}
use Rattle.std.specs.Prelude.{ℤ, pos, ◌≤ℤ◌, All, Any, slice_index_or}
use Rattle.std.proofs.lemmas.Bool.{false≢true}
use Rattle.ms_num.specs.Span.{Has, Inside}
use Rattle.ms_num.proofs.SharedSpans.{of_le}
use Rattle.ms_trees.specs.declared.tree.Ground.{Ground}
use Rattle.ms_trees.specs.Enclosure.{span_at}
use Rattle.ms_trees.specs.WellFormed.{IsTruth}
use Rattle.ms_trees.specs.Laws.{LiesIn, IsRefuted, RefutedMeansUnmet, SmallerBoxesStayWellFormed}
use Rattle.ms_num.specs.Sets.{Set, IsSet, Among, span_of, spans_of, declared_span, declared_spans}
use Rattle.ms_boxes.specs.Boxes.{Assignment, Box, Each, InBox, IsBox, IsDeclared, IsProper}
use Rattle.ms_boxes.specs.Trees.{Holds, HoldsNone, IsConstraint}

same_length : (b : Box) (q : Assignment) → InBox q b → length q ≡ length (spans_of b)
same_length [] [] h = refl
same_length [] (n ∷ q) h = absurd h
same_length (s ∷ b) [] h = absurd h
same_length (s ∷ b) (n ∷ q) h = ap suc (same_length b q h.1)

lies_within : (b : Box) (q : Assignment) → IsProper b → InBox q b → (v : ℕ) → v < length (spans_of b) → Has (span_at (spans_of b) v) (slice_index_or q v (pos 0))
lies_within [] q i h v l = absurd (omega (arith, l))
lies_within (s ∷ b) [] i h v l = absurd h
lies_within (s ∷ b) (n ∷ q) i h zero l = record { from = i.0.from n h.0; to = i.0.to n h.0 }
lies_within (s ∷ b) (n ∷ q) i h (suc v) l = lies_within b q i.1 h.1 v (omega (arith, l))

pub lies_in : (b : Box) (q : Assignment) → IsProper b → InBox q b → LiesIn q (spans_of b)
lies_in b q i h = record { same_length = same_length b q h; within = lies_within b q i h }

-- where a constraint is refuted on a box no assignment of the box meets them all
pub refuted_none : RefutedMeansUnmet → (b : Box) (cons : List Ground) → IsProper b → All (IsTruth (spans_of b)) cons → Any (IsRefuted (spans_of b)) cons → HoldsNone cons b
refuted_none law b cons i fit r q h m =
    let g = r.1 in
    let t : IsTruth (spans_of b) g = subst (IsTruth (spans_of b)) r.3 (fit r.0 g r.2) in
    let unmet = law (spans_of b) q (lies_in b q i h) g t.fit t.boolean r.4 in
    let met : Holds q g = subst (Holds q) r.3 (m r.0 g r.2) in
    false≢true (sym unmet ∙ met)

pub box_proper : (sets b : Box) → IsBox sets b → IsProper b
box_proper [] [] i = tt
box_proper [] (s ∷ b) i = absurd i
box_proper (d ∷ sets) [] i = absurd i
box_proper (d ∷ sets) (s ∷ b) i = (i.0, box_proper sets b i.2)

spans_length : (sets b : Box) → IsBox sets b → length (spans_of b) ≡ length (declared_spans sets)
spans_length [] [] i = refl
spans_length [] (s ∷ b) i = absurd i
spans_length (d ∷ sets) [] i = absurd i
spans_length (d ∷ sets) (s ∷ b) i = ap suc (spans_length sets b i.2)

-- the interval of a set whose numbers a declared one has lies within that of the declared one
inside : (d s : Set) → IsSet s → Among s d → ((z : ℤ) → d.has z ≡ true → d.lo ≤ℤ z) → ((z : ℤ) → d.has z ≡ true → z ≤ℤ d.hi) → Inside (span_of s) (span_of d)
inside d s i a from to = record { lo = from s.lo (a s.lo i.low); proper = i.from s.hi i.high; hi = to s.hi (a s.hi i.high) }

declared_inside : (d s : Set) → IsSet d → IsSet s → Among s d → Inside (span_of s) (declared_span d)
declared_inside d s j i a = subst (λ t. Inside (span_of s) (if t then span_of d else record { lo = pos 0; hi = pos 0 })) (sym (of_le d.lo d.hi (j.from d.hi j.high))) (inside d s i a j.from j.to)

proper_declared : (d s : Set) → IsDeclared d → IsSet s → Among s d → IsSet d
proper_declared d s (inl i) j a = i
proper_declared d s (inr e) j a = absurd (false≢true (sym (ap (λ q. q.has s.lo) e) ∙ a s.lo j.low))

within_declared : (sets b : Box) → Each IsDeclared sets → IsBox sets b → (v : ℕ) → v < length (declared_spans sets) → Inside (span_at (spans_of b) v) (span_at (declared_spans sets) v)
within_declared [] b d i v l = absurd (omega (arith, l))
within_declared (d ∷ sets) [] e i v l = absurd i
within_declared (d ∷ sets) (s ∷ b) e i zero l = declared_inside d s (proper_declared d s e.0 i.0 i.1) i.0 i.1
within_declared (d ∷ sets) (s ∷ b) e i (suc v) l = within_declared sets b e.1 i.2 v (omega (arith, l))

pub fit_on_box : SmallerBoxesStayWellFormed → (sets b : Box) → Each IsDeclared sets → IsBox sets b → (g : Ground) → IsConstraint sets g → IsTruth (spans_of b) g
fit_on_box law sets b d i g c = record { fit = law (spans_of b) (declared_spans sets) (spans_length sets b i) (record { inside = λ v h. within_declared sets b d i v h.within }) g c.fit; boolean = c.boolean }

pub all_fit : SmallerBoxesStayWellFormed → (sets b : Box) → Each IsDeclared sets → IsBox sets b → (cons : List Ground) → All (IsConstraint sets) cons → All (IsTruth (spans_of b)) cons
all_fit law sets b d i cons c k g l = fit_on_box law sets b d i _ (c k g l)
