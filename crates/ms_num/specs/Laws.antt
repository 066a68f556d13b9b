-- What holds of division, of intervals and of sets, over the definitions alone.
use Rattle.std.specs.Prelude.{◌≡◌, ◌<◌, Bool, true, ◌&&◌, Option, Some, None, IfSome, List, ℤ, pos, ◌+ℤ◌, ◌*ℤ◌, ◌≤ℤ◌, ◌↔◌, unsigned_abs}
use Rattle.ms_num.specs.Numbers.{neg_at, abs_at, add_at, sub_at, mul_at, min_at, max_at, div_at, mod_at}
use Rattle.ms_num.specs.Span.{Span, Has, IsResult, IsImage, IsLeast, neg_span, abs_span, add_span, sub_span, mul_span, min_span, max_span, div_span, mod_span}
use Rattle.ms_num.specs.Ranges.{IsRanges, SameMembers}
use Rattle.ms_num.specs.Sets.{Set, IsSet, IsCut, cut_set}

-- the quotient and the remainder of x by y: the remainder is nearer to 0 than y, and has the sign of x
pub record IsDivision (x y q r : ℤ) : Type 0 where
  pub whole : x ≡ (y *ℤ q) +ℤ r
  pub smaller : unsigned_abs r < unsigned_abs y
  pub not_negative : pos 0 ≤ℤ x → pos 0 ≤ℤ r
  pub not_positive : x ≤ℤ pos 0 → r ≤ℤ pos 0

-- `div` and `mod` belong together
abbrev pub DivisionCutsTowardZero : Type 0
DivisionCutsTowardZero = (x y q r : ℤ) → div_at x y ≡ Some q → mod_at x y ≡ Some r → IsDivision x y q r

-- both are undefined at the divisor 0, and nowhere else
abbrev pub OnlyZeroDoesNotDivide : Type 0
OnlyZeroDoesNotDivide = (x y : ℤ) → ((div_at x y ≡ None) ↔ (y ≡ pos 0)) × ((mod_at x y ≡ None) ↔ (y ≡ pos 0))

-- there is one list for one set
abbrev pub SameMembersSameRanges : Type 0
SameMembersSameRanges = (ss ts : List Span) → IsRanges ss → IsRanges ts → SameMembers ss ts → ss ≡ ts

-- ---- intervals of any numbers, within the limits or not

-- of every interval that is not empty, the operation gives the least interval of its images
abbrev pub GivesLeastImage : (ℤ → Option ℤ) → (Span → Span) → Type 0
GivesLeastImage f f_span = (a : Span) → a.lo ≤ℤ a.hi → IsLeast (IsImage f a) (f_span a)

-- of every two intervals that are not empty, the operation gives the least interval of its results
abbrev pub GivesLeast : (ℤ → ℤ → Option ℤ) → (Span → Span → Span) → Type 0
GivesLeast f f_span = (a b : Span) → a.lo ≤ℤ a.hi → b.lo ≤ℤ b.hi → IsLeast (IsResult f a b) (f_span a b)

-- the least interval of the defined quotients, where there is one
abbrev pub QuotientsAreLeast : Type 0
QuotientsAreLeast = (a b : Span) → a.lo ≤ℤ a.hi → b.lo ≤ℤ b.hi → IfSome (div_span a b) (IsLeast (IsResult div_at a b))

-- an interval that has every defined remainder, where there is one
abbrev pub RemaindersAreHeld : Type 0
RemaindersAreHeld = (a b : Span) → IfSome (mod_span a b) (λ hull. (z : ℤ) → IsResult mod_at a b z → Has hull z)

-- the least intervals of each operation
pub record IntervalsAreLeast : Type 0 where
  pub negations : GivesLeastImage neg_at neg_span
  pub magnitudes : GivesLeastImage abs_at abs_span
  pub sums : GivesLeast add_at add_span
  pub differences : GivesLeast sub_at sub_span
  pub products : GivesLeast mul_at mul_span
  pub minima : GivesLeast min_at min_span
  pub maxima : GivesLeast max_at max_span
  pub quotients : QuotientsAreLeast
  pub remainders : RemaindersAreHeld

-- ---- the cuts of a set

-- a set has one cut
abbrev pub CutsAreOne : Type 0
CutsAreOne = (keep : ℤ → Bool) (s t u : Set) → IsCut keep s t → IsCut keep s u → t ≡ u

-- where a number passes, the set that is computed is a cut
abbrev pub CutIsCut : Type 0
CutIsCut = (keep : ℤ → Bool) (s : Set) (z : ℤ) → IsSet s → (s.has z && keep z) ≡ true → IsCut keep s (cut_set keep s)
