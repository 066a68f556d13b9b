-- What an equality leaves of a box loses no assignment on which it holds.
use Rattle.ms_trees.specs.declared.branching.Branching.{Branching}
use Rattle.ms_session.specs.declared.plain_node.BoxStep.{BoxStep}
use Rattle.ms_session.specs.declared.plain_node.BoxStep.TheVariants.{Dropped, Answered, Split}
use Rattle.ms_session.specs.Plain.{IsBoxStep, IsNarrowedStep}
use Rattle.ms_boxes.proofs.SharedParts.{box_in_sets}
use Rattle.std.specs.Prelude.{int_lt, not, IfSome}
use Rattle.ms_num.proofs.Cuts.{lt_from}
use Rattle.ms_session.specs.declared.narrowing.Relation.{Relation}
use Rattle.ms_session.specs.declared.narrowing.Relation.TheVariants.{Equal, AtMost, Less, AtLeast, Greater}
use Rattle.ms_session.specs.Narrowing.{relates, is_kept, IsTied}
use Rattle.std.proofs.Common.{false}
use Rattle.std.proofs.Common.{◌≢◌, inl, if◌then◌else◌, Result, Ok, Err}
use Rattle.std.specs.Prelude.{IfOk, MatchOption}
use Rattle.std.proofs.lemmas.Bool.{false≢true}
use Rattle.std.proofs.lemmas.List.{map-set}
use Rattle.std.specs.declared.alloc.AllocError.{AllocError}
use Rattle.ms_num.specs.Sets.{span_of, declared_span, declared_spans}
use Rattle.ms_trees.specs.WellFormed.{IsTruth}
use Rattle.ms_trees.proofs.Parts.{AreNumbers}
use Rattle.ms_trees.proofs.Fits.{fit-Eq, fit-Le, fit-Lt}
use Rattle.ms_boxes.specs.Boxes.{Each, IsDeclared, set_at, box_of}
use Rattle.ms_boxes.proofs.SharedCutting.{cut_box, cut_is_box}
use Rattle.ms_boxes.proofs.SharedFitting.{lies_in, box_proper, fit_on_box}
use Rattle.ms_session.proofs.RangeBoxes.{set_read, box_within}
use Rattle.ms_session.specs.Narrowing.{CutsAway}
use Rattle.std.proofs.Common.{◌≡◌, ℕ, ◌<◌, zero, suc, refl, sym, ap, ◌∙◌, subst, arith, true, Bool, ◌&&◌, List, [], ◌∷◌, length, Option, Some, None}
use Rattle.std.specs.Prelude.{ℤ, pos, int_le, slice_index_or, slice_set, All}
use Rattle.std.specs.Int.Signed.{≤ℤ_refl}
use Rattle.std.proofs.lemmas.Int.{ints}
use Rattle.std.proofs.Math.ListN.{length-map}
use Rattle.ms_num.specs.Numbers.{int_eq}
use Rattle.ms_num.specs.Span.{Span, Has, Inside, point}
use Rattle.ms_num.specs.Sets.{IsCut, set_of, spans_of}
use Rattle.ms_num.specs.Ranges.{IsRanges, is_member}
use Rattle.ms_num.proofs.SharedSpans.{le_from, of_le, and_left, and_right}
use Rattle.ms_num.proofs.SharedSets.{ranges_is_set}
use Rattle.ms_trees.specs.declared.tree.Ground.{Ground, map-Ground, out-Ground, fold_out-Ground}
use Rattle.ms_trees.specs.declared.tree.Ground.TheVariants as g
use Rattle.ms_trees.specs.declared.tree.Ground.TheOpen as F
use Rattle.ms_trees.specs.declared.tree.Enclosure.{Enclosure}
use Rattle.ms_trees.specs.declared.tree.Hull.{Hull}
use Rattle.ms_trees.specs.Value.{Meaning, value, value_step, compare}
use Rattle.ms_trees.specs.Enclosure.{enclosure, points, span_at, hull_at, hull_of}
use Rattle.ms_trees.specs.WellFormed.{is_well_formed, is_numeric}
use Rattle.ms_trees.specs.Laws.{IsCoveredBy, MeansLess, MeansFewerNumbers, IsSmaller, LiesIn, SmallerBoxesMeanLess, PointsMeanThemselves, SmallerBoxesStayWellFormed, exact, of_number}
use Rattle.ms_boxes.specs.Boxes.{Assignment, Box, InBox, IsBox, IsProper, number_at}
use Rattle.ms_boxes.specs.Trees.{Holds, Meets, HoldsNone}
use Rattle.ms_session.specs.declared.narrowing.Bound.{Bound}
use Rattle.ms_session.specs.Narrowing.{Bounds, CutsTo, Narrows, NarrowsBy, MeetsNone}

-- the interval, where there is one, has the number
abbrev HasIn : Option Span → ℤ → Type 0
HasIn None z = ⊥
HasIn (Some s) z = Has s z

covered : (o : Option Span) (z : ℤ) → IsCoveredBy (Some (point z)) o → HasIn o z
covered None z c = c
covered (Some s) z c = record { from = c.lo; to = c.hi }

read_point : (p : List ℤ) (v : ℕ) → span_at (points p) v ≡ point (slice_index_or p v (pos 0))
read_point [] v = refl
read_point (z ∷ p) zero = refl
read_point (z ∷ p) (suc v) = read_point p v

point_smaller : (p : List ℤ) (b : List Span) → LiesIn p b → IsSmaller (points p) b
point_smaller p b i = record { inside = λ v k. subst (λ s. Inside s (span_at b v)) (sym (read_point p v)) (record { lo = (i.within v k.within).from; proper = ≤ℤ_refl (slice_index_or p v (pos 0)); hi = (i.within v k.within).to }) }

-- what an integer tree is on an assignment of the box lies in its interval
number_within : SmallerBoxesMeanLess → PointsMeanThemselves → SmallerBoxesStayWellFormed → (b : List Span) (p : List ℤ) → LiesIn p b → (t : Ground) → is_well_formed b t ≡ true → is_numeric t ≡ true → (z : ℤ) → (value p t).number ≡ Some z → HasIn (enclosure b t).interval z
number_within less same stays b p i t h n z e =
    let sm = point_smaller p b i in
    let fit = stays (points p) b (length-map p point ∙ i.same_length) sm t h in
    let fewer : MeansFewerNumbers (enclosure (points p) t) (enclosure b t) = subst (λ k. MeansLess k (enclosure (points p) t) (enclosure b t)) n (less (points p) b sm t h) in
    let is : (enclosure (points p) t).interval ≡ Some (point z) = ap (λ (q : Enclosure). q.interval) (same p t fit ∙ ap (λ k. exact k (value p t)) n ∙ ap of_number e) in
    covered (enclosure b t).interval z (subst (λ o. IsCoveredBy o (enclosure b t).interval) is fewer.interval)

hull_has : (o : Option Span) (r : Enclosure) (z : ℤ) → HasIn o z → Has (record { lo = (hull_at o r).lo; hi = (hull_at o r).hi }) z
hull_has None r z h = absurd h
hull_has (Some s) r z h = record { from = h.from; to = h.to }

value_at_layer : (p : Assignment) (t : Ground) (d : F.Ground-F Ground) → out-Ground t ≡ d → value p t ≡ value_step p (map-Ground Ground Meaning (value p) d)
value_at_layer p t d e = fold_out-Ground Meaning (value_step p) t ∙ ap (λ z. value_step p (map-Ground Ground Meaning (value p) z)) e

-- what two numbers are that are compared
record AreCompared (f : ℤ → ℤ → Bool) (m n : Option ℤ) : Type 0 where
  first : ℤ
  second : ℤ
  left : m ≡ Some first
  right : n ≡ Some second
  passes : f first second ≡ true

compared : (f : ℤ → ℤ → Bool) (m n : Option ℤ) → compare f m n ≡ true → AreCompared f m n
compared f None n h = absurd (cc)
compared f (Some x) None h = absurd (cc)
compared f (Some x) (Some y) h = record { first = x; second = y; left = refl; right = refl; passes = h }

variable_value : (p : Assignment) (v : ℕ) → (value p (g.Var v)).number ≡ Some (number_at p v)
variable_value p v = ap (λ (m : Meaning). m.number) (value_at_layer p (g.Var v) (F.Var v) (g.outs-Var v))

some_is : (x y : ℤ) → Some x ≡ Some y → x ≡ y
some_is x y e = cc

eq_from : (x y : ℤ) → int_eq x y ≡ true → x ≡ y
eq_from x y h = let a = le_from x y (and_left (int_le x y) (int_le y x) h) in let b = le_from y x (and_right (int_le x y) (int_le y x) h) in omega (arith, ints, a, b)

not_equal : (x y : ℤ) → (x ≡ y → ⊥) → not (int_eq x y) ≡ true
not_equal x y never = by_test (int_eq x y) refl
  where
    by_test : (t : Bool) → int_eq x y ≡ t → not (int_eq x y) ≡ true
    by_test true e = absurd (never (eq_from x y e))
    by_test false e = ap not e

and_true : (a b : Bool) → a ≡ true → b ≡ true → (a && b) ≡ true
and_true a b e f = ap (λ x. x && b) e ∙ f

-- a number that is so related to one between the ends is kept
related_kept : (relation : Relation) (h : Hull) (x y : ℤ) → Has (record { lo = h.lo; hi = h.hi }) y → relates relation x y ≡ true → is_kept relation h x ≡ true
related_kept Equal h x y i e = let s = eq_from x y e in let a = i.from in let b = i.to in and_true (int_le h.lo x) (int_le x h.hi) (of_le h.lo x (omega (arith, ints, s, a))) (of_le x h.hi (omega (arith, ints, s, b)))
related_kept AtMost h x y i e = let l = le_from x y e in let b = i.to in of_le x h.hi (omega (arith, ints, l, b))
related_kept Less h x y i e = let l = lt_from x y e in let b = i.to in and_true (int_le x h.hi) (not (int_eq x h.hi)) (of_le x h.hi (omega (arith, ints, l, b))) (not_equal x h.hi (λ s. omega (arith, ints, l, b, s)))
related_kept AtLeast h x y i e = let l = le_from y x e in let a = i.from in of_le h.lo x (omega (arith, ints, l, a))
related_kept Greater h x y i e = let l = lt_from y x e in let a = i.from in and_true (int_le h.lo x) (not (int_eq x h.lo)) (of_le h.lo x (omega (arith, ints, l, a))) (not_equal x h.lo (λ s. omega (arith, ints, l, a, s)))

pub tied_by : SmallerBoxesMeanLess → PointsMeanThemselves → SmallerBoxesStayWellFormed → (b : List Span) (part tree : Ground) (v : ℕ) (relation : Relation) (h : Hull) → is_well_formed b tree ≡ true → is_numeric tree ≡ true → part ≡ g.Var v → h ≡ hull_of (enclosure b tree) → IsTied b part relation tree (record { variable = v; relation = relation; hull = h })
tied_by less same stays b part tree v relation h wf num is e p i x y px ty r =
    let z : number_at p v ≡ x = some_is (number_at p v) x (sym (variable_value p v) ∙ sym (ap (λ t. (value p t).number) is) ∙ px) in
    let lies = hull_has (enclosure b tree).interval (enclosure b tree) y (number_within less same stays b p i tree wf num y ty) in
    let lies_h : Has (record { lo = h.lo; hi = h.hi }) y = subst (λ q. Has (record { lo = q.lo; hi = q.hi }) y) (sym e) lies in
    subst (λ n. is_kept relation h n ≡ true) (sym z) (related_kept relation h x y lies_h r)

-- the two parts of a constraint are so related where it holds
record AreRelated (relation : Relation) (m n : Option ℤ) : Type 0 where
  first : ℤ
  second : ℤ
  left : m ≡ Some first
  right : n ≡ Some second
  related : relates relation first second ≡ true

bounds_from : (spans : List Span) (t part tree : Ground) (relation : Relation) (o : Result (Option Bound) AllocError) → ((p : Assignment) → Holds p t → AreRelated relation (value p part).number (value p tree).number) → IfOk o (λ q. IfSome q (IsTied spans part relation tree)) → IfOk o (λ q. IfSome q (Bounds spans t))
bounds_from spans t part tree relation (Ok None) h k = tt
bounds_from spans t part tree relation (Err x) h k = tt
bounds_from spans t part tree relation (Ok (Some bound)) h k = λ p i holds. let r = h p holds in k p i r.first r.second r.left r.right r.related

same_eq : (x y : ℤ) → int_eq x y ≡ true → int_eq y x ≡ true
same_eq x y h = and_true (int_le y x) (int_le x y) (and_right (int_le x y) (int_le y x) h) (and_left (int_le x y) (int_le y x) h)

module _ (spans : List Span) (t x y : Ground) (o : Result (Option Bound) AllocError) where
  pub eq_left : t ≡ g.Eq x y → IfOk o (λ q. IfSome q (IsTied spans x Equal y)) → IfOk o (λ q. IfSome q (Bounds spans t))
  eq_left e = bounds_from spans t x y Equal o (λ p h. let c = compared int_eq (value p x).number (value p y).number (sym (ap (λ (m : Meaning). m.truth) (ap (value p) e ∙ value_at_layer p (g.Eq x y) (F.Eq x y) (g.outs-Eq x y))) ∙ h) in record { first = c.first; second = c.second; left = c.left; right = c.right; related = c.passes })

  pub eq_right : t ≡ g.Eq x y → IfOk o (λ q. IfSome q (IsTied spans y Equal x)) → IfOk o (λ q. IfSome q (Bounds spans t))
  eq_right e = bounds_from spans t y x Equal o (λ p h. let c = compared int_eq (value p x).number (value p y).number (sym (ap (λ (m : Meaning). m.truth) (ap (value p) e ∙ value_at_layer p (g.Eq x y) (F.Eq x y) (g.outs-Eq x y))) ∙ h) in record { first = c.second; second = c.first; left = c.right; right = c.left; related = same_eq c.first c.second c.passes })

  pub le_left : t ≡ g.Le x y → IfOk o (λ q. IfSome q (IsTied spans x AtMost y)) → IfOk o (λ q. IfSome q (Bounds spans t))
  le_left e = bounds_from spans t x y AtMost o (λ p h. let c = compared int_le (value p x).number (value p y).number (sym (ap (λ (m : Meaning). m.truth) (ap (value p) e ∙ value_at_layer p (g.Le x y) (F.Le x y) (g.outs-Le x y))) ∙ h) in record { first = c.first; second = c.second; left = c.left; right = c.right; related = c.passes })

  pub le_right : t ≡ g.Le x y → IfOk o (λ q. IfSome q (IsTied spans y AtLeast x)) → IfOk o (λ q. IfSome q (Bounds spans t))
  le_right e = bounds_from spans t y x AtLeast o (λ p h. let c = compared int_le (value p x).number (value p y).number (sym (ap (λ (m : Meaning). m.truth) (ap (value p) e ∙ value_at_layer p (g.Le x y) (F.Le x y) (g.outs-Le x y))) ∙ h) in record { first = c.second; second = c.first; left = c.right; right = c.left; related = c.passes })

  pub lt_left : t ≡ g.Lt x y → IfOk o (λ q. IfSome q (IsTied spans x Less y)) → IfOk o (λ q. IfSome q (Bounds spans t))
  lt_left e = bounds_from spans t x y Less o (λ p h. let c = compared int_lt (value p x).number (value p y).number (sym (ap (λ (m : Meaning). m.truth) (ap (value p) e ∙ value_at_layer p (g.Lt x y) (F.Lt x y) (g.outs-Lt x y))) ∙ h) in record { first = c.first; second = c.second; left = c.left; right = c.right; related = c.passes })

  pub lt_right : t ≡ g.Lt x y → IfOk o (λ q. IfSome q (IsTied spans y Greater x)) → IfOk o (λ q. IfSome q (Bounds spans t))
  lt_right e = bounds_from spans t y x Greater o (λ p h. let c = compared int_lt (value p x).number (value p y).number (sym (ap (λ (m : Meaning). m.truth) (ap (value p) e ∙ value_at_layer p (g.Lt x y) (F.Lt x y) (g.outs-Lt x y))) ∙ h) in record { first = c.second; second = c.first; left = c.right; right = c.left; related = c.passes })

-- a proper box is one within itself
pub box_self : (b : Box) → IsProper b → IsBox b b
box_self [] i = tt
box_self (s ∷ b) i = (i.0, λ z h. h, box_self b i.1)

pub box_within_box : (sets b n : Box) → IsBox sets b → IsBox b n → IsBox sets n
box_within_box [] [] [] i j = tt
box_within_box [] [] (t ∷ n) i j = absurd j
box_within_box [] (s ∷ b) n i j = absurd i
box_within_box (d ∷ sets) [] n i j = absurd i
box_within_box (d ∷ sets) (s ∷ b) [] i j = absurd j
box_within_box (d ∷ sets) (s ∷ b) (t ∷ n) i j = (j.0, λ z h. i.1 z (j.1 z h), box_within_box sets b n i.2 j.2)

pub ordered_parts : (b : List Span) (t x y : Ground) → t ≡ g.Le x y → is_well_formed b t ≡ true → AreNumbers b x y
ordered_parts b t x y e h = fit-Le b x y (ap (is_well_formed b) (sym e) ∙ h)

pub strict_parts : (b : List Span) (t x y : Ground) → t ≡ g.Lt x y → is_well_formed b t ≡ true → AreNumbers b x y
strict_parts b t x y e h = fit-Lt b x y (ap (is_well_formed b) (sym e) ∙ h)

-- both parts of a comparison that is well-formed are so, and are numbers
pub equal_parts : (b : List Span) (t x y : Ground) → t ≡ g.Eq x y → is_well_formed b t ≡ true → AreNumbers b x y
equal_parts b t x y e h = fit-Eq b x y (ap (is_well_formed b) (sym e) ∙ h)

-- ---- the set of one variable

in_box_at : (b : Box) (v : ℕ) (p : Assignment) → v < length b → InBox p b → (set_at b v).has (number_at p v) ≡ true
in_box_at [] v p l i = absurd (omega (arith, l))
in_box_at (s ∷ b) v [] l i = absurd i
in_box_at (s ∷ b) zero (n ∷ p) l i = i.0
in_box_at (s ∷ b) (suc v) (n ∷ p) l i = in_box_at b v p (omega (arith, l)) i.1

pub cut_away : (sets : List (List Span)) (bound : Bound) (r kept : List Span) → bound.variable < length sets → r ≡ slice_index_or sets bound.variable r → ((z : ℤ) → is_member kept z ≡ (is_member r z && is_kept bound.relation bound.hull z)) → kept ≡ [] → CutsAway bound (box_of sets)
cut_away sets bound r kept l e m none p i h =
    let n = number_at p bound.variable in
    let inside : is_member r n ≡ true = ap (λ s. s.has n) (set_read sets bound.variable r l e) ∙ in_box_at (box_of sets) bound.variable p (box_within sets bound.variable l) i in
    let member : is_member kept n ≡ true = m n ∙ and_true (is_member r n) (is_kept bound.relation bound.hull n) inside h in
    false≢true (sym (ap (λ q. is_member q n) none) ∙ member)

pub cut_to : (sets n : List (List Span)) (bound : Bound) (r kept : List Span) → bound.variable < length sets → r ≡ slice_index_or sets bound.variable r → IsProper (box_of sets) → ((z : ℤ) → is_member kept z ≡ (is_member r z && is_kept bound.relation bound.hull z)) → IsRanges kept → kept ≢ [] → n ≡ slice_set sets bound.variable kept → CutsTo bound (box_of sets) (box_of n)
cut_to sets n bound r kept l e proper m ranges some is = subst (CutsTo bound (box_of sets)) (sym (ap box_of is ∙ map-set set_of sets bound.variable kept)) (record {
  box = cut_is_box keep (box_of sets) (box_of sets) bound.variable (set_of kept) (box_self (box_of sets) proper) within cut;
  keeps = λ p i h. (cut_box keep (box_of sets) bound.variable (set_of kept) within cut).back p i h;
})
  where
    keep : ℤ → Bool
    keep = is_kept bound.relation bound.hull

    within : bound.variable < length (box_of sets)
    within = box_within sets bound.variable l

    cut : IsCut keep (set_at (box_of sets) bound.variable) (set_of kept)
    cut = subst (λ s. IsCut keep s (set_of kept)) (set_read sets bound.variable r l e) (record { members = m; proper = ranges_is_set kept ranges some })

-- ---- one constraint, and all of them

pub narrowed_by : (b : Box) (t : Ground) (bound : Bound) (spans : List Span) (r : Result (Option (List (List Span))) AllocError) → IsProper b → spans ≡ spans_of b → Bounds spans t bound → IfOk r (λ cut. MatchOption cut (CutsAway bound b) (λ n. CutsTo bound b (box_of n))) → IfOk r (λ narrowed. MatchOption narrowed (MeetsNone t b) (λ n. NarrowsBy t b (box_of n)))
narrowed_by b t bound spans (Ok None) i e h c = λ p k holds. c p k (h p (subst (LiesIn p) (sym e) (lies_in b p i k)) holds)
narrowed_by b t bound spans (Ok (Some n)) i e h c = record { box = c.box; keeps = λ p k holds. c.keeps p k (h p (subst (LiesIn p) (sym e) (lies_in b p i k)) holds) }
narrowed_by b t bound spans (Err x) i e h c = tt

proper_is_declared : (b : Box) → IsProper b → Each IsDeclared b
proper_is_declared [] i = tt
proper_is_declared (s ∷ b) i = (inl i.0, proper_is_declared b i.1)

declared_same : (b : Box) → IsProper b → declared_spans b ≡ spans_of b
declared_same [] i = refl
declared_same (s ∷ b) i = both (declared_span s) (span_of s) (declared_spans b) (spans_of b) (ap (λ t. if t then span_of s else point (pos 0)) (of_le s.lo s.hi (i.0.from s.hi i.0.high))) (declared_same b i.1)
  where
    both : (x y : Span) (xs ys : List Span) → x ≡ y → xs ≡ ys → x ∷ xs ≡ y ∷ ys
    both x y xs ys e f = cc

-- what is left of a box by a constraint is fit for it again
pub fit_left : SmallerBoxesStayWellFormed → (b c : Box) (t : Ground) → IsProper b → IsTruth (spans_of b) t → NarrowsBy t b c → IsTruth (spans_of c) t
fit_left law b c t proper fit by = fit_on_box law b c (proper_is_declared b proper) by.box t (subst (λ s. IsTruth s t) (sym (declared_same b proper)) fit)

pub proper_left : (b c : Box) (t : Ground) → NarrowsBy t b c → IsProper c
proper_left b c t by = box_proper b c by.box

-- a box that is narrowed twice by a constraint
pub narrowed_twice : (b c : Box) (t : Ground) (r : Result (Option (List (List Span))) AllocError) → NarrowsBy t b c → IfOk r (λ narrowed. MatchOption narrowed (MeetsNone t c) (λ n. NarrowsBy t c (box_of n))) → IfOk r (λ narrowed. MatchOption narrowed (MeetsNone t b) (λ n. NarrowsBy t b (box_of n)))
narrowed_twice b c t (Ok None) by none = λ p k holds. none p (by.keeps p k holds) holds
narrowed_twice b c t (Ok (Some n)) by more = record { box = box_within_box b c (box_of n) by.box more.box; keeps = λ p k holds. more.keeps p (by.keeps p k holds) holds }
narrowed_twice b c t (Err x) by h = tt

holds_at : (cons : List Ground) (p : Assignment) (i : ℕ) (t : Ground) → i < length cons → t ≡ slice_index_or cons i t → Meets cons p → Holds p t
holds_at cons p i t l e m = subst (Holds p) (sym e) (m i t l)

pub narrowed_more : (cons : List Ground) (b c n : Box) (i : ℕ) (t : Ground) → i < length cons → t ≡ slice_index_or cons i t → Narrows cons b c → NarrowsBy t c n → Narrows cons b n
narrowed_more cons b c n i t l e so by = record {
  box = box_within_box b c n so.box by.box;
  keeps = λ p k m. by.keeps p (so.keeps p k m) (holds_at cons p i t l e m);
}

pub narrowed_none : (cons : List Ground) (b c : Box) (i : ℕ) (t : Ground) → i < length cons → t ≡ slice_index_or cons i t → Narrows cons b c → MeetsNone t c → HoldsNone cons b
narrowed_none cons b c i t l e so none p k m = none p (so.keeps p k m) (holds_at cons p i t l e m)

pub narrows_self : (cons : List Ground) (b : Box) → IsProper b → Narrows cons b b
narrows_self cons b i = record { box = box_self b i; keeps = λ p k m. k }

pub fit_narrowed : SmallerBoxesStayWellFormed → (cons : List Ground) (b c : Box) (i : ℕ) (t : Ground) → i < length cons → t ≡ slice_index_or cons i t → IsProper b → All (IsTruth (spans_of b)) cons → Narrows cons b c → IsTruth (spans_of c) t
fit_narrowed law cons b c i t l e proper fit so = fit_on_box law b c (proper_is_declared b proper) so.box t (subst (λ s. IsTruth s t) (sym (declared_same b proper)) (subst (IsTruth (spans_of b)) (sym e) (fit i t l)))

pub proper_narrowed : (cons : List Ground) (b c : Box) → Narrows cons b c → IsProper c
proper_narrowed cons b c so = box_proper b c so.box

pub fit_all : SmallerBoxesStayWellFormed → (cons : List Ground) (b c : Box) → IsProper b → All (IsTruth (spans_of b)) cons → Narrows cons b c → All (IsTruth (spans_of c)) cons
fit_all law cons b c proper fit so k d l = fit_on_box law b c (proper_is_declared b proper) so.box (slice_index_or cons k d) (subst (λ s. IsTruth s (slice_index_or cons k d)) (sym (declared_same b proper)) (fit k d l))

-- what is made of the narrowed box is made of the box
pub stepped : (br : Branching) (cons : List Ground) (b n : Box) (r : Result BoxStep AllocError) → Narrows cons b n → IfOk r (IsNarrowedStep br cons n) → IfOk r (IsBoxStep br cons b)
stepped br cons b n (Err e) so h = tt
stepped br cons b n (Ok step) so h = by_step step h
  where
    by_step : (step : BoxStep) → IsNarrowedStep br cons n step → IsBoxStep br cons b step
    by_step Dropped none = λ p i m. none p (so.keeps p i m) m
    by_step (Answered p) only = record { inside = box_in_sets b n so.box p only.inside; meets = only.meets; alone = λ q i m. only.alone q (so.keeps q i m) m }
    by_step (Split c d) cuts = record { narrowed = n; narrows = so; cuts = cuts }

-- a proper box has the same intervals, where its sets are read as declared ones
pub declared_fit : (b : Box) (t : Ground) → IsProper b → is_well_formed (spans_of b) t ≡ true → is_well_formed (declared_spans b) t ≡ true
declared_fit b t i h = ap (λ s. is_well_formed s t) (declared_same b i) ∙ h

pub declared_hull : (b : Box) (t : Ground) (r : Result Hull AllocError) → IsProper b → IfOk r (λ h. h ≡ hull_of (enclosure (declared_spans b) t)) → IfOk r (λ h. h ≡ hull_of (enclosure (spans_of b) t))
declared_hull b t r i h = subst (λ s. IfOk r (λ h. h ≡ hull_of (enclosure s t))) (declared_same b i) h
