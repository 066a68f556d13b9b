-- The least intervals of differences, negations, absolute values, minima and maxima.
use Rattle.std.proofs.Common.{◌≡◌, refl, arith}
use Rattle.std.specs.Prelude.{ℤ, pos, negsuc, neg_ℤ, unsigned_abs, ◌≤ℤ◌}
use Rattle.std.specs.Int.{int_max}
use Rattle.std.proofs.lemmas.Int.{ints, clamps, by_lt_z}
use Rattle.ms_num.specs.Numbers.{neg_at, abs_at, sub_at, min_at, max_at}
use Rattle.ms_num.specs.Span.{Span, Has, IsResult, IsImage, IsLeast, neg_span, abs_span, sub_span, min_span, max_span}
use Rattle.ms_num.proofs.SharedSpans.{same_some, first_number, last_number}

pub sub_least : (a b : Span) → a.lo ≤ℤ a.hi → b.lo ≤ℤ b.hi → IsLeast (IsResult sub_at a b) (sub_span a b)
sub_least a b i j = record {
  all = λ z r.
      let e = same_some r.gives in
      let f1 = r.left_in.from in let t1 = r.left_in.to in let f2 = r.right_in.from in let t2 = r.right_in.to in
      record { from = omega (arith, ints); to = omega (arith, ints) };
  low = record { left = a.lo; right = b.hi; left_in = first_number a i; right_in = last_number b j; gives = refl };
  high = record { left = a.hi; right = b.lo; left_in = last_number a i; right_in = first_number b j; gives = refl };
}

pub min_least : (a b : Span) → a.lo ≤ℤ a.hi → b.lo ≤ℤ b.hi → IsLeast (IsResult min_at a b) (min_span a b)
min_least a b i j = record {
  all = λ z r.
      let e = same_some r.gives in
      let f1 = r.left_in.from in let t1 = r.left_in.to in let f2 = r.right_in.from in let t2 = r.right_in.to in
      record { from = omega (arith, ints, clamps); to = omega (arith, ints, clamps) };
  low = record { left = a.lo; right = b.lo; left_in = first_number a i; right_in = first_number b j; gives = refl };
  high = record { left = a.hi; right = b.hi; left_in = last_number a i; right_in = last_number b j; gives = refl };
}

pub max_least : (a b : Span) → a.lo ≤ℤ a.hi → b.lo ≤ℤ b.hi → IsLeast (IsResult max_at a b) (max_span a b)
max_least a b i j = record {
  all = λ z r.
      let e = same_some r.gives in
      let f1 = r.left_in.from in let t1 = r.left_in.to in let f2 = r.right_in.from in let t2 = r.right_in.to in
      record { from = omega (arith, ints, clamps); to = omega (arith, ints, clamps) };
  low = record { left = a.lo; right = b.lo; left_in = first_number a i; right_in = first_number b j; gives = refl };
  high = record { left = a.hi; right = b.hi; left_in = last_number a i; right_in = last_number b j; gives = refl };
}

pub neg_least : (a : Span) → a.lo ≤ℤ a.hi → IsLeast (IsImage neg_at a) (neg_span a)
neg_least a i = record {
  all = λ z r.
      let e = same_some r.gives in
      let f = r.source_in.from in let t = r.source_in.to in
      record { from = omega (arith, ints); to = omega (arith, ints) };
  low = record { source = a.hi; source_in = last_number a i; gives = refl };
  high = record { source = a.lo; source_in = first_number a i; gives = refl };
}

-- the absolute value, as the greater of the number and its negation
pub abs_is : (x : ℤ) → pos (unsigned_abs x) ≡ int_max x (neg_ℤ x)
abs_is (pos n) = omega (arith, ints, clamps)
abs_is (negsuc n) = omega (arith, ints, clamps)

pub abs_least : (a : Span) → a.lo ≤ℤ a.hi → IsLeast (IsImage abs_at a) (abs_span a)
abs_least a i = record {
  all = λ z r.
      let e = same_some r.gives in
      let k = abs_is r.source in
      let f = r.source_in.from in let t = r.source_in.to in
      record { from = omega (arith, ints, clamps); to = omega (arith, ints, clamps) };
  low = by_lt_z a.lo (pos 0) (λ n. by_lt_z (pos 0) a.hi (λ m. low_at (pos 0) (record { from = omega (arith, ints); to = omega (arith, ints) }) (omega (arith, ints, clamps, abs_is (pos 0))))
      (λ m. low_at a.hi (last_number a i) (let o = i in omega (arith, ints, clamps, abs_is a.hi)))) (λ n. low_at a.lo (first_number a i) (let o = i in omega (arith, ints, clamps, abs_is a.lo)));
  high = by_lt_z (neg_ℤ a.lo) a.hi (λ n. high_at a.hi (last_number a i) (let o = i in omega (arith, ints, clamps, abs_is a.hi))) (λ n. high_at a.lo (first_number a i) (let o = i in omega (arith, ints, clamps, abs_is a.lo)));
}
  where
    low_at : (x : ℤ) → Has a x → pos (unsigned_abs x) ≡ int_max (int_max a.lo (neg_ℤ a.hi)) (pos 0) → IsImage abs_at a (int_max (int_max a.lo (neg_ℤ a.hi)) (pos 0))
    low_at x h e = rw (← e) (record { source = x; source_in = h; gives = refl })

    high_at : (x : ℤ) → Has a x → pos (unsigned_abs x) ≡ int_max (neg_ℤ a.lo) a.hi → IsImage abs_at a (int_max (neg_ℤ a.lo) a.hi)
    high_at x h e = rw (← e) (record { source = x; source_in = h; gives = refl })
