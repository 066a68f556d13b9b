-- Intervals of integers, and the least interval of what an operation gives.
use Rattle.std.specs.Prelude.{◌≡◌, ◌^◌, ◌-◌, Bool, Option, Some, None, ℤ, pos, negsuc, neg_ℤ, ◌+ℤ◌, ◌-ℤ◌, ◌*ℤ◌, ◌≤ℤ◌, ◌<ℤ◌, ◌⊎◌, int_le, int_lt, int_div, unsigned_abs, option_map, ◌&&◌, if◌then◌else◌}
use Rattle.std.specs.Int.{int_min, int_max}
use Rattle.ms_num.specs.Numbers.{int_eq, mod_at}

-- the numbers from lo to hi
pub record Span : Type 0 where
  pub lo : ℤ
  pub hi : ℤ

-- the number lies in the interval
pub record Has (s : Span) (z : ℤ) : Type 0 where
  pub from : s.lo ≤ℤ z
  pub to : z ≤ℤ s.hi

-- the interval is not empty, and both ends are within -2^50..2^50
pub record IsInterval (s : Span) : Type 0 where
  pub ordered : s.lo ≤ℤ s.hi
  pub low : negsuc (2 ^ 50 - 1) ≤ℤ s.lo
  pub high : s.hi ≤ℤ pos (2 ^ 50)

-- an interval within another, and not empty
pub record Inside (s t : Span) : Type 0 where
  pub lo : t.lo ≤ℤ s.lo
  pub proper : s.lo ≤ℤ s.hi
  pub hi : s.hi ≤ℤ t.hi

-- the same test as `Has`
abbrev pub has : Span → ℤ → Bool
has s z = int_le s.lo z && int_le z s.hi

-- the one number
abbrev pub point : ℤ → Span
point z = record { lo = z; hi = z }

abbrev pub is_single : Span → Bool
is_single s = int_eq s.lo s.hi

-- the number is within -2^50..2^50
abbrev pub is_within : ℤ → Bool
is_within z = int_le (negsuc (2 ^ 50 - 1)) z && int_le z (pos (2 ^ 50))

-- the same, as a fact
pub record IsWithin (z : ℤ) : Type 0 where
  pub low : negsuc (2 ^ 50 - 1) ≤ℤ z
  pub high : z ≤ℤ pos (2 ^ 50)

abbrev pub if_within : ℤ → Option ℤ
if_within z = if is_within z then Some z else None

-- both ends are within -2^50..2^50
abbrev pub is_narrow : Span → Bool
is_narrow s = int_le (negsuc (2 ^ 50 - 1)) s.lo && int_le s.hi (pos (2 ^ 50))

-- the interval, unless an end leaves -2^50..2^50
abbrev pub if_narrow : Span → Option Span
if_narrow s = if is_narrow s then Some s else None

-- ---- the least interval of results

-- what the operation gives for numbers of two intervals
pub record IsResult (f : ℤ → ℤ → Option ℤ) (a b : Span) (z : ℤ) : Type 0 where
  pub left : ℤ
  pub right : ℤ
  pub left_in : Has a left
  pub right_in : Has b right
  pub gives : f left right ≡ Some z

-- what the operation gives for a number of an interval
pub record IsImage (f : ℤ → Option ℤ) (a : Span) (z : ℤ) : Type 0 where
  pub source : ℤ
  pub source_in : Has a source
  pub gives : f source ≡ Some z

-- the least interval that has all the numbers of which P holds
pub record IsLeast (P : ℤ → Type 0) (s : Span) : Type 0 where
  pub all : (z : ℤ) → P z → Has s z
  pub low : P s.lo
  pub high : P s.hi

-- ---- the ends of these intervals

-- the least interval that has both
abbrev pub join : Span → Span → Span
join s t = record { lo = int_min s.lo t.lo; hi = int_max s.hi t.hi }

-- the same, where each may be missing
abbrev pub join_some : Option Span → Option Span → Option Span
join_some None t = t
join_some (Some s) None = Some s
join_some (Some s) (Some t) = Some (join s t)

-- the least and the greatest of four numbers
abbrev pub span_of_four : ℤ → ℤ → ℤ → ℤ → Span
span_of_four p q r s = record { lo = int_min (int_min p q) (int_min r s); hi = int_max (int_max p q) (int_max r s) }

abbrev pub neg_span : Span → Span
neg_span a = record { lo = neg_ℤ a.hi; hi = neg_ℤ a.lo }

abbrev pub abs_span : Span → Span
abs_span a = record { lo = int_max (int_max a.lo (neg_ℤ a.hi)) (pos 0); hi = int_max (neg_ℤ a.lo) a.hi }

abbrev pub add_span : Span → Span → Span
add_span a b = record { lo = a.lo +ℤ b.lo; hi = a.hi +ℤ b.hi }

abbrev pub sub_span : Span → Span → Span
sub_span a b = record { lo = a.lo -ℤ b.hi; hi = a.hi -ℤ b.lo }

abbrev pub mul_span : Span → Span → Span
mul_span a b = span_of_four (a.lo *ℤ b.lo) (a.lo *ℤ b.hi) (a.hi *ℤ b.lo) (a.hi *ℤ b.hi)

abbrev pub min_span : Span → Span → Span
min_span a b = record { lo = int_min a.lo b.lo; hi = int_min a.hi b.hi }

abbrev pub max_span : Span → Span → Span
max_span a b = record { lo = int_max a.lo b.lo; hi = int_max a.hi b.hi }

-- ---- quotients and remainders

-- the negative numbers of an interval
abbrev pub negative_part : Span → Option Span
negative_part s = if int_lt s.lo (pos 0) then Some (record { lo = s.lo; hi = int_min s.hi (negsuc 0) }) else None

-- the positive numbers of an interval
abbrev pub positive_part : Span → Option Span
positive_part s = if int_lt (pos 0) s.hi then Some (record { lo = int_max s.lo (pos 1); hi = s.hi }) else None

-- all numbers of an interval are positive, or all are negative
pub record IsOneSign (b : Span) : Type 0 where
  pub ordered : b.lo ≤ℤ b.hi
  pub sign : (pos 0 <ℤ b.lo) ⊎ (b.hi <ℤ pos 0)

-- the quotients by divisors of one sign
abbrev pub quotients : Span → Span → Span
quotients a b = span_of_four (int_div a.lo b.lo) (int_div a.lo b.hi) (int_div a.hi b.lo) (int_div a.hi b.hi)

-- the quotients, with None where 0 is the only divisor
abbrev pub div_span : Span → Span → Option Span
div_span a b = join_some (option_map (quotients a) (negative_part b)) (option_map (quotients a) (positive_part b))

-- a bound on how far a remainder is from 0, by divisors that are not all 0
abbrev pub remainder_bound : Span → ℤ
remainder_bound b = int_max (pos (unsigned_abs b.lo)) (pos (unsigned_abs b.hi)) -ℤ pos 1

-- the interval with 0 joined to it, cut at both ends
abbrev pub cut_around_zero : Span → ℤ → ℤ → Span
cut_around_zero a l h = record { lo = int_max (int_min a.lo (pos 0)) l; hi = int_min (int_max a.hi (pos 0)) h }

-- what a remainder lies in, by its bound and by the dividends, whose sign it has
abbrev pub remainders : Span → ℤ → Span
remainders a m = record {
  lo = if int_lt a.lo (pos 0) then int_max a.lo (neg_ℤ m) else pos 0;
  hi = if int_lt (pos 0) a.hi then int_min a.hi m else pos 0;
}

-- a hull of the remainders, exact for two numbers, with None where 0 is the only divisor
abbrev pub mod_span : Span → Span → Option Span
mod_span a b =
    if is_single b && int_eq b.lo (pos 0) then None
    else if is_single a && is_single b then option_map point (mod_at a.lo b.lo)
    else Some (remainders a (remainder_bound b))
