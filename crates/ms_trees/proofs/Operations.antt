-- Operations on smaller intervals.
use Rattle.std.proofs.Common.{◌≡◌, List, [], ◌∷◌, Bool, true, false, ◌||◌, Option, Some, None, refl, subst, arith}
use Rattle.std.specs.Prelude.{ℤ, pos, ◌≤ℤ◌, ◌+ℤ◌, ◌-ℤ◌, neg_ℤ, is_some, option_map}
use Rattle.std.specs.Int.{int_min, int_max}
use Rattle.std.specs.Int.Signed.{≤ℤ_refl}
use Rattle.std.proofs.lemmas.Int.{ints, int_max_is, int_min_is}
use Rattle.ms_num.specs.Numbers.{mul_at}
use Rattle.ms_num.specs.Span.{Span, Inside, point, neg_span, abs_span, add_span, sub_span, mul_span, min_span, max_span}
use Rattle.ms_num.proofs.SharedSpans.{least_inside, mul_least}
use Rattle.ms_trees.specs.Laws.{IsCoveredBy, MeansFewerNumbers}
use Rattle.ms_trees.specs.Enclosure as r
use Rattle.ms_trees.specs.declared.tree.Enclosure.{Enclosure}
use Rattle.ms_trees.proofs.Bools.{or_left, or_right, or_split, or_less}
use Rattle.ms_trees.proofs.Lists.{AllLess}

-- an operation on intervals that gives smaller ones on smaller ones
pub record Shrinks (f : Span → Span → Span) : Type 0 where
  pub by : (a b a' b' : Span) → Inside a a' → Inside b b' → Inside (f a b) (f a' b')

pub add_shrinks : Shrinks add_span
add_shrinks = record { by = λ a b a' b' i j. record { lo = low a b a' b' i j; proper = mid a b a' b' i j; hi = high a b a' b' i j } }
  where
    low : (a b a' b' : Span) → Inside a a' → Inside b b' → (a'.lo +ℤ b'.lo) ≤ℤ (a.lo +ℤ b.lo)
    low a b a' b' i j = omega (arith, ints)

    mid : (a b a' b' : Span) → Inside a a' → Inside b b' → (a.lo +ℤ b.lo) ≤ℤ (a.hi +ℤ b.hi)
    mid a b a' b' i j = omega (arith, ints)

    high : (a b a' b' : Span) → Inside a a' → Inside b b' → (a.hi +ℤ b.hi) ≤ℤ (a'.hi +ℤ b'.hi)
    high a b a' b' i j = omega (arith, ints)

pub sub_shrinks : Shrinks sub_span
sub_shrinks = record { by = λ a b a' b' i j. record { lo = low a b a' b' i j; proper = mid a b a' b' i j; hi = high a b a' b' i j } }
  where
    low : (a b a' b' : Span) → Inside a a' → Inside b b' → (a'.lo -ℤ b'.hi) ≤ℤ (a.lo -ℤ b.hi)
    low a b a' b' i j = omega (arith, ints)

    mid : (a b a' b' : Span) → Inside a a' → Inside b b' → (a.lo -ℤ b.hi) ≤ℤ (a.hi -ℤ b.lo)
    mid a b a' b' i j = omega (arith, ints)

    high : (a b a' b' : Span) → Inside a a' → Inside b b' → (a.hi -ℤ b.lo) ≤ℤ (a'.hi -ℤ b'.lo)
    high a b a' b' i j = omega (arith, ints)

min_monotone : (a b a' b' : ℤ) → a' ≤ℤ a → b' ≤ℤ b → int_min a' b' ≤ℤ int_min a b
min_monotone a b a' b' h k = omega (arith, ints, int_min_is a b, int_min_is a' b')

max_monotone : (a b a' b' : ℤ) → a' ≤ℤ a → b' ≤ℤ b → int_max a' b' ≤ℤ int_max a b
max_monotone a b a' b' h k = omega (arith, ints, int_max_is a b, int_max_is a' b')

pub min_shrinks : Shrinks min_span
min_shrinks = record { by = λ a b a' b' i j. record { lo = min_monotone a.lo b.lo a'.lo b'.lo i.lo j.lo; proper = min_monotone a.hi b.hi a.lo b.lo i.proper j.proper; hi = min_monotone a'.hi b'.hi a.hi b.hi i.hi j.hi } }

pub max_shrinks : Shrinks max_span
max_shrinks = record { by = λ a b a' b' i j. record { lo = max_monotone a.lo b.lo a'.lo b'.lo i.lo j.lo; proper = max_monotone a.hi b.hi a.lo b.lo i.proper j.proper; hi = max_monotone a'.hi b'.hi a.hi b.hi i.hi j.hi } }

-- an operation on one interval that gives smaller ones on smaller ones
pub record Narrows (f : Span → Span) : Type 0 where
  pub by : (a a' : Span) → Inside a a' → Inside (f a) (f a')

pub neg_narrows : Narrows neg_span
neg_narrows = record { by = λ a a' i. record { lo = low a a' i; proper = mid a a' i; hi = high a a' i } }
  where
    low : (a a' : Span) → Inside a a' → neg_ℤ a'.hi ≤ℤ neg_ℤ a.hi
    low a a' i = omega (arith, ints)

    mid : (a a' : Span) → Inside a a' → neg_ℤ a.hi ≤ℤ neg_ℤ a.lo
    mid a a' i = omega (arith, ints)

    high : (a a' : Span) → Inside a a' → neg_ℤ a.lo ≤ℤ neg_ℤ a'.lo
    high a a' i = omega (arith, ints)

pub abs_narrows : Narrows abs_span
abs_narrows = record { by = λ a a' i. record { lo = low a a' i; proper = mid a i.proper; hi = high a a' i } }
  where
    neg_le : (x y : ℤ) → x ≤ℤ y → neg_ℤ y ≤ℤ neg_ℤ x
    neg_le x y h = omega (arith, ints)

    low : (a a' : Span) → Inside a a' → int_max (int_max a'.lo (neg_ℤ a'.hi)) (pos 0) ≤ℤ int_max (int_max a.lo (neg_ℤ a.hi)) (pos 0)
    low a a' i = max_monotone (int_max a.lo (neg_ℤ a.hi)) (pos 0) (int_max a'.lo (neg_ℤ a'.hi)) (pos 0) (max_monotone a.lo (neg_ℤ a.hi) a'.lo (neg_ℤ a'.hi) i.lo (neg_le a.hi a'.hi i.hi)) (≤ℤ_refl (pos 0))

    high : (a a' : Span) → Inside a a' → int_max (neg_ℤ a.lo) a.hi ≤ℤ int_max (neg_ℤ a'.lo) a'.hi
    high a a' i = max_monotone (neg_ℤ a'.lo) a'.hi (neg_ℤ a.lo) a.hi (neg_le a'.lo a.lo i.lo) i.hi

    mid : (a : Span) → a.lo ≤ℤ a.hi → int_max (int_max a.lo (neg_ℤ a.hi)) (pos 0) ≤ℤ int_max (neg_ℤ a.lo) a.hi
    mid a h = omega (arith, ints, int_max_is a.lo (neg_ℤ a.hi), int_max_is (int_max a.lo (neg_ℤ a.hi)) (pos 0), int_max_is (neg_ℤ a.lo) a.hi)

wide_proper : (s t : Span) → Inside s t → t.lo ≤ℤ t.hi
wide_proper s t i = omega (arith, ints)

pub mul_shrinks : Shrinks mul_span
mul_shrinks = record { by = λ a b a' b' i j. least_inside mul_at a b a' b' _ _ (mul_least a b i.proper j.proper) (mul_least a' b' (wide_proper a a' i) (wide_proper b b' j)) i j }

pub both_fewer : (f : Span → Span → Span) → Shrinks f → (o p o' p' : Option Span) → IsCoveredBy o o' → IsCoveredBy p p' → IsCoveredBy (r.both_intervals f o p) (r.both_intervals f o' p')
both_fewer f s None p o' p' h k = tt
both_fewer f s (Some x) None o' p' h k = tt
both_fewer f s (Some x) (Some y) None p' h k = h
both_fewer f s (Some x) (Some y) (Some x') None h k = k
both_fewer f s (Some x) (Some y) (Some x') (Some y') h k = s.by x y x' y' h k

pub image_less : (f : Span → Span) → Narrows f → (s l : Enclosure) → MeansFewerNumbers s l → MeansFewerNumbers (r.image_enclosure f s) (r.image_enclosure f l)
image_less f g s l n = record { some = some s.interval n.some; interval = fewer s.interval l.interval n.interval; may_be_undefined = n.may_be_undefined }
  where
    some : (o : Option Span) → (is_some o || s.may_be_undefined) ≡ true → (is_some (option_map f o) || s.may_be_undefined) ≡ true
    some None h = h
    some (Some x) h = refl

    fewer : (o p : Option Span) → IsCoveredBy o p → IsCoveredBy (option_map f o) (option_map f p)
    fewer None p h = tt
    fewer (Some x) None h = absurd h
    fewer (Some x) (Some y) h = g.by x y h

pub point_inside : (z : ℤ) → Inside (point z) (point z)
point_inside z = record { lo = ≤ℤ_refl z; proper = ≤ℤ_refl z; hi = ≤ℤ_refl z }

pub both_some : (f : Span → Span → Span) (o p : Option Span) (u v : Bool) → (is_some o || u) ≡ true → (is_some p || v) ≡ true → (is_some (r.both_intervals f o p) || (u || v)) ≡ true
both_some f None p u v h k = or_left u v h
both_some f (Some x) None u v h k = or_right u v k
both_some f (Some x) (Some y) u v h k = refl

-- an operation from the left
pub folded_less : (f : Span → Span → Span) → Shrinks f → (o o' : Option Span) (u u' : Bool) (ss ls : List Enclosure) → (is_some o || u) ≡ true → IsCoveredBy o o' → (u ≡ true → u' ≡ true) → AllLess ss ls →
    MeansFewerNumbers (r.numeric_enclosure (r.folded_intervals f o ss) (u || r.any_may_be_undefined ss)) (r.numeric_enclosure (r.folded_intervals f o' ls) (u' || r.any_may_be_undefined ls))
folded_less f s o o' u u' [] [] h g k a = record { some = or_split (is_some o) u h (λ e. or_left (is_some o) (u || false) e) (λ e. or_right (is_some o) (u || false) (or_left u false e)); interval = g; may_be_undefined = or_less u false u' false k (λ e. e) }
folded_less f s o o' u u' [] (y ∷ ys) h g k a = absurd a
folded_less f s o o' u u' (x ∷ xs) [] h g k a = absurd a
folded_less f s o o' u u' (x ∷ xs) (y ∷ ys) h g k a =
    let n = folded_less f s (r.both_intervals f o x.interval) (r.both_intervals f o' y.interval) (u || x.may_be_undefined) (u' || y.may_be_undefined) xs ys (both_some f o x.interval u x.may_be_undefined h a.0.some) (both_fewer f s o x.interval o' y.interval g a.0.interval) (or_less u x.may_be_undefined u' y.may_be_undefined k a.0.may_be_undefined) a.1 in
    subst (λ b. MeansFewerNumbers (r.numeric_enclosure (r.folded_intervals f (r.both_intervals f o x.interval) xs) b) (r.numeric_enclosure (r.folded_intervals f (r.both_intervals f o' y.interval) ys) (u' || (y.may_be_undefined || r.any_may_be_undefined ys)))) (or_assoc u x.may_be_undefined (r.any_may_be_undefined xs))
    (subst (λ b. MeansFewerNumbers (r.numeric_enclosure (r.folded_intervals f (r.both_intervals f o x.interval) xs) ((u || x.may_be_undefined) || r.any_may_be_undefined xs)) (r.numeric_enclosure (r.folded_intervals f (r.both_intervals f o' y.interval) ys) b)) (or_assoc u' y.may_be_undefined (r.any_may_be_undefined ys)) n)
  where
    or_assoc : (a b c : Bool) → ((a || b) || c) ≡ (a || (b || c))
    or_assoc true b c = refl
    or_assoc false b c = refl

pub extreme_less : (f : Span → Span → Span) → Shrinks f → (ss ls : List Enclosure) → AllLess ss ls → MeansFewerNumbers (r.extreme_enclosure f ss) (r.extreme_enclosure f ls)
extreme_less f s [] [] a = record { some = refl; interval = tt; may_be_undefined = λ e. e }
extreme_less f s [] (y ∷ ys) a = absurd a
extreme_less f s (x ∷ xs) [] a = absurd a
extreme_less f s (x ∷ xs) (y ∷ ys) a = folded_less f s x.interval y.interval x.may_be_undefined y.may_be_undefined xs ys a.0.some a.0.interval a.0.may_be_undefined a.1
