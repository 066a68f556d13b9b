-- Refuted primitives fail, and on one assignment settled is met.
use Rattle.std.proofs.Common.{◌≡◌, ℕ, List, [], ◌∷◌, zero, suc, Bool, true, false, length, refl, sym, ap, ◌∙◌, subst}
use Rattle.std.specs.Prelude.{ℤ, pos, slice_index_or}
use Rattle.std.specs.Int.Signed.{≤ℤ_refl}
use Rattle.std.proofs.Math.ListN.{length-map}
use Rattle.std.proofs.lemmas.Bool.{false≢true}
use Rattle.ms_num.specs.Span.{Span, Inside, point}
use Rattle.ms_trees.specs.Value.{Meaning, value}
use Rattle.ms_trees.specs.Enclosure.{enclosure, points, span_at}
use Rattle.ms_trees.specs.Laws.{IsSmaller, LiesIn, exact, MeansLess, MeansFewerTruths, SmallerBoxesStayWellFormed, SmallerBoxesMeanLessOfSorted, PointsMeanThemselvesOfSorted}
use Rattle.ms_trees.specs.declared.tree.Enclosure.{Enclosure}
use Rattle.ms_trees.proofs.Bools.{is_false}
use Rattle.ms_prim.specs.declared.primitive.Primitive.{Primitive}
use Rattle.ms_prim.specs.Constraints.{tree_of}
use Rattle.ms_prim.specs.Fitting.{is_fit}
use Rattle.ms_prim.specs.Promises.{RefutedPrimitivesFail, SettledPointsMeet}
use Rattle.ms_prim.proofs.SharedSorts.{fit_sorted, smaller_fit}

read_point : (a : List ℤ) (v : ℕ) → span_at (points a) v ≡ point (slice_index_or a v (pos 0))
read_point [] v = refl
read_point (z ∷ a) zero = refl
read_point (z ∷ a) (suc v) = read_point a v

pub point_smaller : (a : List ℤ) (b : List Span) → LiesIn a b → IsSmaller (points a) b
point_smaller a b i = record { inside = λ v k. subst (λ s. Inside s (span_at b v)) (sym (read_point a v)) (record { lo = (i.within v k.within).from; proper = ≤ℤ_refl (slice_index_or a v (pos 0)); hi = (i.within v k.within).to }) }

on_point : PointsMeanThemselvesOfSorted → (a : List ℤ) (p : Primitive) → is_fit (points a) p ≡ true → enclosure (points a) (tree_of p) ≡ exact false (value a (tree_of p))
on_point single a p h = let s = fit_sorted (points a) p h in single a (tree_of p) s.whole ∙ ap (λ k. exact k (value a (tree_of p))) s.boolean

pub refuted_fails : SmallerBoxesStayWellFormed → SmallerBoxesMeanLessOfSorted → PointsMeanThemselvesOfSorted → RefutedPrimitivesFail
refuted_fails stays smaller single b a i p h r =
    let sm = point_smaller a b i in
    let s = fit_sorted b p h in
    let here = on_point single a p (smaller_fit stays (points a) b (length-map a point ∙ i.same_length) sm p h) in
    let less : MeansFewerTruths (enclosure (points a) (tree_of p)) (enclosure b (tree_of p)) = subst (λ k. MeansLess k (enclosure (points a) (tree_of p)) (enclosure b (tree_of p))) s.boolean (smaller (points a) b sm (tree_of p) s.whole) in
    is_false (value a (tree_of p)).truth (λ m. false≢true (sym r ∙ less.may_be_true (ap (λ (e : Enclosure). e.may_be_true) here ∙ m)))

pub settled_meets : PointsMeanThemselvesOfSorted → SettledPointsMeet
settled_meets single a p h s = sym (ap (λ (e : Enclosure). e.may_be_true) (on_point single a p h)) ∙ s.unrefuted
