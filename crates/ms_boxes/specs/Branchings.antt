-- Which variable of a box is split, which values are tried first, and the order of assignments that comes of it.
use Rattle.std.specs.Prelude.{◌≡◌, ◌⊎◌, ℕ, zero, suc, List, [], ◌∷◌, ◌++◌, length, Option, Some, None, option_map, Bool, false, not, if◌then◌else◌, nat_le, ℤ, ◌+ℤ◌, ◌<ℤ◌, int_le, slice_set}
use Rattle.ms_num.specs.Numbers.{int_eq}
use Rattle.ms_trees.specs.declared.branching.Branching.{Branching}
use Rattle.ms_trees.specs.declared.branching.ValueChoice.{ValueChoice}
use Rattle.ms_trees.specs.declared.branching.ValueChoice.TheVariants.{Least, Greatest, LowerHalf}
use Rattle.ms_num.specs.Sets.{Set, IsCut, set_size}
use Rattle.ms_boxes.specs.Boxes.{Assignment, Box, number_at, set_at}

-- the variable has two values or more
abbrev pub is_unfixed : Box → ℕ → Bool
is_unfixed b v = nat_le 2 (set_size (set_at b v))

-- the first of the variables that is unfixed
abbrev pub first_unfixed : Box → List ℕ → Option ℕ
first_unfixed b [] = None
first_unfixed b (v ∷ vs) = if is_unfixed b v then Some v else first_unfixed b vs

-- of two variables the one with fewer values, or the first where they have as many
abbrev pub smaller_of : Box → ℕ → Option ℕ → Option ℕ
smaller_of b v None = Some v
smaller_of b v (Some w) = if nat_le (set_size (set_at b v)) (set_size (set_at b w)) then Some v else Some w

-- the first of the unfixed variables with the fewest values
abbrev pub smallest_unfixed : Box → List ℕ → Option ℕ
smallest_unfixed b [] = None
smallest_unfixed b (v ∷ vs) = if is_unfixed b v then smaller_of b v (smallest_unfixed b vs) else smallest_unfixed b vs

-- the variable that the branching names, where one of its own is unfixed
abbrev pub named_unfixed : Branching → Box → Option ℕ
named_unfixed br b = if br.by_size then smallest_unfixed b br.order else first_unfixed b br.order

-- n places from k on
abbrev pub places_from : ℕ → ℕ → List ℕ
places_from k zero = []
places_from k (suc n) = k ∷ places_from (suc k) n

-- the places of all variables, in declared order
abbrev pub places : ℕ → List ℕ
places n = places_from 0 n

abbrev pub with_least : ℕ → ℕ × ValueChoice
with_least v = (v, Least)

abbrev pub named_or : ValueChoice → Option ℕ → Option ℕ → Option (ℕ × ValueChoice)
named_or choice None other = option_map with_least other
named_or choice (Some v) other = Some (v, choice)

-- the variable that is split, and the choice of its values: one that the branching names, or else the first
-- that is unfixed in declared order, with its least value first
abbrev pub pick : Branching → Box → Option (ℕ × ValueChoice)
pick br b = named_or br.value (named_unfixed br b) (first_unfixed b (places (length b)))

-- the values that are tried first: the least, the greatest, or those up to half the sum of both, rounded down
abbrev pub is_tried : ValueChoice → Set → ℤ → Bool
is_tried Least s z = int_eq z s.lo
is_tried Greatest s z = int_eq z s.hi
is_tried LowerHalf s z = int_le (z +ℤ z) (s.lo +ℤ s.hi)

abbrev pub is_left : ValueChoice → Set → ℤ → Bool
is_left choice s z = not (is_tried choice s z)

-- the branching cuts the box b into c, which has the values that are tried first, and d, which has those left
pub record Picks (br : Branching) (b c d : Box) : Type 0 where
  pub variable : ℕ
  pub choice : ValueChoice
  pub picked : pick br b ≡ Some (variable, choice)
  pub first : Set
  pub second : Set
  pub tried : IsCut (is_tried choice (set_at b variable)) (set_at b variable) first
  pub left : IsCut (is_left choice (set_at b variable)) (set_at b variable) second
  pub first_box : c ≡ slice_set b variable first
  pub second_box : d ≡ slice_set b variable second

-- ---- the order of answers

-- the branchings under which the answers come in order
pub record IsOrdered (br : Branching) : Type 0 where
  pub least : br.value ≡ Least
  pub in_order : br.by_size ≡ false

-- the variables by which assignments are compared: those of the branching, then all in declared order
abbrev pub comparison_order : Branching → ℕ → List ℕ
comparison_order br n = br.order ++ places n

-- by the first of these variables in which two assignments differ, p comes before q
abbrev pub Before : List ℕ → Assignment → Assignment → Type 0
Before [] p q = ⊥
Before (v ∷ vs) p q = (number_at p v <ℤ number_at q v) ⊎ ((number_at p v ≡ number_at q v) × Before vs p q)
