-- What an equality or an order between a variable and a tree leaves of a box.
use Rattle.std.specs.Prelude.{◌≡◌, Bool, true, not, ◌&&◌, List, Some, ℤ, int_le, int_lt}
use Rattle.ms_num.specs.Numbers.{int_eq}
use Rattle.ms_num.specs.Span.{Span}
use Rattle.ms_trees.specs.declared.tree.Ground.{Ground}
use Rattle.ms_trees.specs.declared.tree.Hull.{Hull}
use Rattle.ms_trees.specs.Value.{value}
use Rattle.ms_trees.specs.Laws.{LiesIn}
use Rattle.ms_session.specs.declared.narrowing.Bound.{Bound}
use Rattle.ms_session.specs.declared.narrowing.Relation.{Relation}
use Rattle.ms_session.specs.declared.narrowing.Relation.TheVariants.{Equal, AtMost, Less, AtLeast, Greater}
use Rattle.ms_boxes.specs.Boxes.{Assignment, Box, InBox, IsBox, number_at}
use Rattle.ms_boxes.specs.Trees.{Holds, Keeps}

-- the relation holds of the variable's number and the tree's
abbrev pub relates : Relation → ℤ → ℤ → Bool
relates Equal x y = int_eq x y
relates AtMost x y = int_le x y
relates Less x y = int_lt x y
relates AtLeast x y = int_le y x
relates Greater x y = int_lt y x

-- the number may be so related to one between the ends of the hull
abbrev pub is_kept : Relation → Hull → ℤ → Bool
is_kept Equal h z = int_le h.lo z && int_le z h.hi
is_kept AtMost h z = int_le z h.hi
is_kept Less h z = int_le z h.hi && not (int_eq z h.hi)
is_kept AtLeast h z = int_le h.lo z
is_kept Greater h z = int_le h.lo z && not (int_eq z h.lo)

-- the number of the variable is one of these
abbrev pub IsBounded : Bound → Assignment → Type 0
IsBounded bound p = is_kept bound.relation bound.hull (number_at p bound.variable) ≡ true

-- so it is in each assignment of the intervals in which the part is so related to the tree
abbrev pub IsTied : List Span → Ground → Relation → Ground → Bound → Type 0
IsTied spans part relation tree bound = (p : Assignment) → LiesIn p spans → (x y : ℤ) → (value p part).number ≡ Some x → (value p tree).number ≡ Some y → relates relation x y ≡ true → IsBounded bound p

-- so it is in each assignment of the intervals on which the constraint holds
abbrev pub Bounds : List Span → Ground → Bound → Type 0
Bounds spans g bound = (p : Assignment) → LiesIn p spans → Holds p g → IsBounded bound p

-- no assignment of the box is bounded so
abbrev pub CutsAway : Bound → Box → Type 0
CutsAway bound b = (p : Assignment) → InBox p b → IsBounded bound p → ⊥

-- n is a box within b with all that are
pub record CutsTo (bound : Bound) (b n : Box) : Type 0 where
  pub box : IsBox b n
  pub keeps : (p : Assignment) → InBox p b → IsBounded bound p → InBox p n

-- the constraint holds on no assignment of the box
abbrev pub MeetsNone : Ground → Box → Type 0
MeetsNone g b = (p : Assignment) → InBox p b → Holds p g → ⊥

-- n is a box within b with all on which the constraint holds
pub record NarrowsBy (g : Ground) (b n : Box) : Type 0 where
  pub box : IsBox b n
  pub keeps : (p : Assignment) → InBox p b → Holds p g → InBox p n

-- n is a box within b with all that meet the constraints
pub record Narrows (cons : List Ground) (b n : Box) : Type 0 where
  pub box : IsBox b n
  pub keeps : Keeps cons b n
