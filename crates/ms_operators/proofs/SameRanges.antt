-- Lists of ranges that are compared point by point.
use Rattle.std.proofs.Common.{◌≡◌, refl, arith, Bool, true, false, cond, ◌&&◌, is_eq, Less, Greater, Equal, List, [], ◌∷◌}
use Rattle.std.specs.Prelude.{ℤ, int_lt}
use Rattle.std.specs.Cmp.Lexicographic.{pointwise}
use Rattle.std.proofs.lemmas.Int.{ints}
use Rattle.ms_num.specs.Numbers.{int_eq}
use Rattle.ms_num.specs.Span.{Span}
use Rattle.ms_num.proofs.Cuts.{lt_from, ge_from}
use Rattle.ms_num.proofs.SharedSpans.{of_le}
use Rattle.ms_num.proofs.SharedSets.{not_le}
use Rattle.ms_rules.specs.Sets.{same_ranges}

pub by_order : (a b : ℤ) → is_eq (cond (int_lt a b) Less (cond (int_lt b a) Greater Equal)) ≡ int_eq a b
by_order a b = at (int_lt a b) (int_lt b a) refl refl
  where
    at : (p q : Bool) → int_lt a b ≡ p → int_lt b a ≡ q → is_eq (cond p Less (cond q Greater Equal)) ≡ int_eq a b
    at true q e f = let l = lt_from a b e in rw (of_le a b (omega (arith, ints, l)), not_le a b l) refl
    at false true e f = rw (not_le b a (lt_from b a f)) refl
    at false false e f = rw (of_le a b (ge_from b a f), of_le b a (ge_from a b e)) refl

pub point_by_point : (same : Span → Span → Bool) → ((s t : Span) → same s t ≡ (int_eq s.lo t.lo && int_eq s.hi t.hi)) → (ss ts : List Span) → pointwise same ss ts ≡ same_ranges ss ts
point_by_point same f [] [] = refl
point_by_point same f [] (t ∷ ts) = refl
point_by_point same f (s ∷ ss) [] = refl
point_by_point same f (s ∷ ss) (t ∷ ts) = rw (f s t, point_by_point same f ss ts) refl
