-- Lists of parts that may mean less.
use Rattle.std.proofs.Common.{◌≡◌, List, [], ◌∷◌, true, Option, Some, None, length, suc, refl, ap, arith}
use Rattle.std.proofs.lemmas.Bool.{false≢true}
use Rattle.std.proofs.lemmas.Int.{ints, int_max_is, int_min_is}
use Rattle.std.specs.Prelude.{ℤ, ◌≤ℤ◌, int_le, is_some}
use Rattle.std.specs.Int.{int_min, int_max}
use Rattle.ms_num.specs.Span.{Span, Inside, has, join, join_some}
use Rattle.ms_trees.specs.Enclosure as r
use Rattle.ms_trees.specs.Laws.{IsCoveredBy, MeansFewerNumbers, MeansFewerTruths}
use Rattle.ms_trees.specs.declared.tree.Enclosure.{Enclosure}
use Rattle.ms_trees.proofs.Bools.{and_left, and_right, and_true, or_less, le_of, of_le}

-- integer parts that may mean less than those of another list, one by one
abbrev pub AllLess : List Enclosure → List Enclosure → Type 0
AllLess [] [] = Unit {0}
AllLess [] (l ∷ ls) = ⊥
AllLess (s ∷ ss) [] = ⊥
AllLess (s ∷ ss) (l ∷ ls) = MeansFewerNumbers s l × AllLess ss ls

pub same_length : (ss ls : List Enclosure) → AllLess ss ls → length ss ≡ length ls
same_length [] [] h = refl
same_length [] (l ∷ ls) h = absurd h
same_length (s ∷ ss) [] h = absurd h
same_length (s ∷ ss) (l ∷ ls) h = ap suc (same_length ss ls h.1)

-- Boolean parts likewise
abbrev pub AllTruer : List Enclosure → List Enclosure → Type 0
AllTruer [] [] = Unit {0}
AllTruer [] (l ∷ ls) = ⊥
AllTruer (s ∷ ss) [] = ⊥
AllTruer (s ∷ ss) (l ∷ ls) = MeansFewerTruths s l × AllTruer ss ls

pub any_undefined_less : (ss ls : List Enclosure) → AllLess ss ls → r.any_may_be_undefined ss ≡ true → r.any_may_be_undefined ls ≡ true
any_undefined_less [] [] h e = e
any_undefined_less [] (l ∷ ls) h e = absurd h
any_undefined_less (s ∷ ss) [] h e = absurd h
any_undefined_less (s ∷ ss) (l ∷ ls) h e = or_less s.may_be_undefined (r.any_may_be_undefined ss) l.may_be_undefined (r.any_may_be_undefined ls) h.0.may_be_undefined (any_undefined_less ss ls h.1) e

pub has_grows : (s t : Span) (z : ℤ) → Inside s t → has s z ≡ true → has t z ≡ true
has_grows s t z i e =
    let a = le_of s.lo z (and_left (int_le s.lo z) (int_le z s.hi) e) in
    let b = le_of z s.hi (and_right (int_le s.lo z) (int_le z s.hi) e) in
    and_true (int_le t.lo z) (int_le z t.hi) (of_le t.lo z (omega (arith, ints))) (of_le z t.hi (omega (arith, ints)))

join_left : (s s' t' : Span) → Inside s s' → Inside s (join s' t')
join_left s s' t' i = record { lo = low; proper = i.proper; hi = high }
  where
    low : int_min s'.lo t'.lo ≤ℤ s.lo
    low = omega (arith, ints, int_min_is s'.lo t'.lo)

    high : s.hi ≤ℤ int_max s'.hi t'.hi
    high = omega (arith, ints, int_max_is s'.hi t'.hi)

join_right : (t s' t' : Span) → Inside t t' → Inside t (join s' t')
join_right t s' t' i = record { lo = low; proper = i.proper; hi = high }
  where
    low : int_min s'.lo t'.lo ≤ℤ t.lo
    low = omega (arith, ints, int_min_is s'.lo t'.lo)

    high : t.hi ≤ℤ int_max s'.hi t'.hi
    high = omega (arith, ints, int_max_is s'.hi t'.hi)

join_both : (s t u : Span) → Inside s u → Inside t u → Inside (join s t) u
join_both s t u i j = record { lo = low; proper = middle; hi = high }
  where
    low : u.lo ≤ℤ int_min s.lo t.lo
    low = omega (arith, ints, int_min_is s.lo t.lo)

    high : int_max s.hi t.hi ≤ℤ u.hi
    high = omega (arith, ints, int_max_is s.hi t.hi)

    middle : int_min s.lo t.lo ≤ℤ int_max s.hi t.hi
    middle = omega (arith, ints, int_min_is s.lo t.lo, int_max_is s.hi t.hi)

pub join_fewer : (o p o' p' : Option Span) → IsCoveredBy o o' → IsCoveredBy p p' → IsCoveredBy (join_some o p) (join_some o' p')
join_fewer None None o' p' h k = tt
join_fewer None (Some t) o' None h k = absurd k
join_fewer None (Some t) None (Some t') h k = k
join_fewer None (Some t) (Some s') (Some t') h k = join_right t s' t' k
join_fewer (Some s) p None p' h k = absurd (none s p h)
  where
    none : (s : Span) (p : Option Span) → IsCoveredBy (Some s) None → ⊥
    none s p h = h
join_fewer (Some s) None (Some s') None h k = h
join_fewer (Some s) None (Some s') (Some t') h k = join_left s s' t' h
join_fewer (Some s) (Some t) (Some s') None h k = absurd k
join_fewer (Some s) (Some t) (Some s') (Some t') h k = join_both s t (join s' t') (join_left s s' t' h) (join_right t s' t' k)

pub join_more : (p o' p' : Option Span) → IsCoveredBy p p' → IsCoveredBy p (join_some o' p')
join_more None o' p' k = tt
join_more (Some t) o' None k = absurd k
join_more (Some t) None (Some t') k = k
join_more (Some t) (Some s') (Some t') k = join_right t s' t' k

pub left_some : (o p : Option Span) → is_some o ≡ true → is_some (join_some o p) ≡ true
left_some None p h = absurd (false≢true h)
left_some (Some s) None h = refl
left_some (Some s) (Some t) h = refl

pub right_some : (o p : Option Span) → is_some p ≡ true → is_some (join_some o p) ≡ true
right_some None p h = h
right_some (Some s) None h = refl
right_some (Some s) (Some t) h = refl
