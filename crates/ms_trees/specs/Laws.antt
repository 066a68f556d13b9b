-- The laws of what a tree may mean.
use Rattle.std.specs.Prelude.{◌≡◌, ℕ, ◌<◌, List, [], ◌∷◌, Option, Some, None, Bool, true, false, not, ◌||◌, is_some, length, slice_index_or, ℤ, pos, ◌+ℤ◌, ◌-ℤ◌, ◌≤ℤ◌, ◌<ℤ◌, zero, suc, ◌↔◌}
use Rattle.ms_num.specs.Span.{Span, Has, Inside, point}
use Rattle.ms_num.specs.Ranges.{is_member, IsRanges}
use Rattle.ms_trees.specs.Value.{Meaning, value, value_step, selected, is_place}
use Rattle.ms_trees.specs.Enclosure as r
use Rattle.ms_trees.specs.Enclosure.{enclosure, enclosure_step, points, span_at, may_be_in, is_inside, held, have_room}
use Rattle.ms_trees.specs.WellFormed.{Checked, is_well_formed, is_sorted, is_numeric, numeric_layer, sorted_step}
use Rattle.ms_trees.specs.declared.tree.Enclosure.{Enclosure}
use Rattle.ms_trees.specs.declared.tree.Ground.{Ground, map-Ground}
use Rattle.ms_trees.specs.declared.tree.Ground.TheOpen.{Ground-F}

-- a variable of the box
pub record HasVariable (b : List Span) (v : ℕ) : Type 0 where
  pub within : v < length b
  pub proper : (span_at b v).lo ≤ℤ (span_at b v).hi

-- each number of the one interval is one of the other; none has none
abbrev pub IsCoveredBy : Option Span → Option Span → Type 0
IsCoveredBy None o = Unit {0}
IsCoveredBy (Some s) None = ⊥
IsCoveredBy (Some s) (Some t) = Inside s t

-- an integer tree may mean fewer numbers, and is undefined less often; it may mean something
pub record MeansFewerNumbers (s l : Enclosure) : Type 0 where
  pub some : (is_some s.interval || s.may_be_undefined) ≡ true
  pub interval : IsCoveredBy s.interval l.interval
  pub may_be_undefined : s.may_be_undefined ≡ true → l.may_be_undefined ≡ true

-- a Boolean tree may mean fewer truth values, and at least one
pub record MeansFewerTruths (s l : Enclosure) : Type 0 where
  pub some : (s.may_be_true || s.may_be_false) ≡ true
  pub may_be_true : s.may_be_true ≡ true → l.may_be_true ≡ true
  pub may_be_false : s.may_be_false ≡ true → l.may_be_false ≡ true

abbrev pub MeansLess : Bool → Enclosure → Enclosure → Type 0
MeansLess true s l = MeansFewerNumbers s l
MeansLess false s l = MeansFewerTruths s l

-- each interval of the box b lies within that of the box b', where that has a number
pub record IsSmaller (b b' : List Span) : Type 0 where
  pub inside : (v : ℕ) → HasVariable b' v → Inside (span_at b v) (span_at b' v)

abbrev pub of_number : Option ℤ → Enclosure
of_number None = r.numeric_enclosure None true
of_number (Some z) = r.numeric_enclosure (Some (point z)) false

-- what a tree may mean where it means just this
abbrev pub exact : Bool → Meaning → Enclosure
exact true m = of_number m.number
exact false m = r.boolean_enclosure m.truth (not m.truth)

-- inclusion isotonicity: on a smaller box a tree may mean less
abbrev pub SmallerBoxesMeanLess : Type 0
SmallerBoxesMeanLess = (b b' : List Span) → IsSmaller b b' → (g : Ground) → is_well_formed b' g ≡ true → MeansLess (is_numeric g) (enclosure b g) (enclosure b' g)

-- the same of trees that are well sorted, whatever their limits
abbrev pub SmallerBoxesMeanLessOfSorted : Type 0
SmallerBoxesMeanLessOfSorted = (b b' : List Span) → IsSmaller b b' → (g : Ground) → is_sorted b' g ≡ true → MeansLess (is_numeric g) (enclosure b g) (enclosure b' g)

-- a part of a node, with what it may mean on a smaller box and on a larger one
pub record Part : Type 0 where
  pub numeric : Bool
  pub small : Enclosure
  pub large : Enclosure
  pub less : MeansLess numeric small large

abbrev pub small_of : Part → Enclosure
small_of p = p.small

abbrev pub large_of : Part → Enclosure
large_of p = p.large

abbrev pub part_checked : Part → Checked
part_checked p = record { fit = true; numeric = p.numeric; enclosure = p.large }

-- inclusion isotonicity of one node: where its parts mean less, it means less
abbrev pub NodesMeanLess : Type 0
NodesMeanLess = (b b' : List Span) → IsSmaller b b' → (t : Ground-F Part) → sorted_step b' (map-Ground Part Checked part_checked t) ≡ true →
    MeansLess (numeric_layer t) (enclosure_step b (map-Ground Part Enclosure small_of t)) (enclosure_step b' (map-Ground Part Enclosure large_of t))

-- exactness on points: on a box of one assignment a tree may mean just what it means there
abbrev pub PointsMeanThemselves : Type 0
PointsMeanThemselves = (a : List ℤ) (g : Ground) → is_well_formed (points a) g ≡ true → enclosure (points a) g ≡ exact (is_numeric g) (value a g)

-- the same of trees that are well sorted, whatever their limits
abbrev pub PointsMeanThemselvesOfSorted : Type 0
PointsMeanThemselvesOfSorted = (a : List ℤ) (g : Ground) → is_sorted (points a) g ≡ true → enclosure (points a) g ≡ exact (is_numeric g) (value a g)

-- a part of a node, with what it means on an assignment
pub record MeantPart : Type 0 where
  pub numeric : Bool
  pub meaning : Meaning

abbrev pub meaning_of : MeantPart → Meaning
meaning_of p = p.meaning

abbrev pub exact_of : MeantPart → Enclosure
exact_of p = exact p.numeric p.meaning

abbrev pub meant_checked : MeantPart → Checked
meant_checked p = record { fit = true; numeric = p.numeric; enclosure = exact_of p }

-- exactness of one node: where its parts mean just what they mean, it does
abbrev pub NodesMeanThemselves : Type 0
NodesMeanThemselves = (a : List ℤ) (t : Ground-F MeantPart) → sorted_step (points a) (map-Ground MeantPart Checked meant_checked t) ≡ true →
    enclosure_step (points a) (map-Ground MeantPart Enclosure exact_of t) ≡ exact (numeric_layer t) (value_step a (map-Ground MeantPart Meaning meaning_of t))

-- a tree that is well formed on a box is well formed on each smaller one
abbrev pub SmallerBoxesStayWellFormed : Type 0
SmallerBoxesStayWellFormed = (b b' : List Span) → length b ≡ length b' → IsSmaller b b' → (g : Ground) → is_well_formed b' g ≡ true → is_well_formed b g ≡ true

-- the assignment lies in the box
pub record LiesIn (a : List ℤ) (b : List Span) : Type 0 where
  pub same_length : length a ≡ length b
  pub within : (v : ℕ) → v < length b → Has (span_at b v) (slice_index_or a v (pos 0))

-- the tree may not be true on the box
abbrev pub IsRefuted : List Span → Ground → Type 0
IsRefuted b g = (enclosure b g).may_be_true ≡ false

-- where a Boolean tree is refuted on a box, no assignment of the box meets it
abbrev pub RefutedMeansUnmet : Type 0
RefutedMeansUnmet = (b : List Span) (a : List ℤ) → LiesIn a b → (g : Ground) → is_well_formed b g ≡ true → is_numeric g ≡ false → IsRefuted b g → (value a g).truth ≡ false

-- ---- an interval and the ranges of a set

-- a number of the interval that is in one of the ranges
pub record HasShared (rs : List Span) (s : Span) : Type 0 where
  pub number : ℤ
  pub within : Has s number
  pub member : is_member rs number ≡ true

-- a number of the interval that is in none of the ranges
pub record HasOutside (rs : List Span) (s : Span) : Type 0 where
  pub number : ℤ
  pub within : Has s number
  pub outside : is_member rs number ≡ false

-- a range meets the interval exactly where the interval has a number of the set
abbrev pub SetsMeetWhereTheyShare : Type 0
SetsMeetWhereTheyShare = (rs : List Span) → IsRanges rs → (s : Span) → s.lo ≤ℤ s.hi → (may_be_in rs s ≡ true) ↔ HasShared rs s

-- the interval lies within no one range exactly where it has a number outside the set
abbrev pub SetsHoldWhereNoneIsOutside : Type 0
SetsHoldWhereNoneIsOutside = (rs : List Span) → IsRanges rs → (s : Span) → s.lo ≤ℤ s.hi → (is_inside rs s ≡ false) ↔ HasOutside rs s

-- ---- distinct parts

abbrev pub IsProper : Option Span → Type 0
IsProper None = Unit {0}
IsProper (Some s) = s.lo ≤ℤ s.hi

-- no interval of the parts is empty
abbrev pub AreProper : List Enclosure → Type 0
AreProper [] = Unit {0}
AreProper (q ∷ rs) = IsProper q.interval × AreProper rs

-- the ranges between ends of parts have room exactly where no range of integers holds the intervals of more parts than it has numbers
abbrev pub EndsDecideRoom : Type 0
EndsDecideRoom = (rs : List Enclosure) → AreProper rs → (have_room rs ≡ true) ↔ ((lo hi : ℤ) → lo ≤ℤ hi → pos (held lo hi rs) ≤ℤ (hi -ℤ lo +ℤ pos 1))

-- ---- access by index

-- the number of the part at the place, where the list has one
abbrev pub number_there : List Meaning → ℕ → Option ℤ
number_there [] p = None
number_there (m ∷ ms) zero = m.number
number_there (m ∷ ms) (suc p) = number_there ms p

-- the index that is p above the lowest takes the element at the place p, and none where the list has no such place
abbrev pub SelectionIsOfOnePlace : Type 0
SelectionIsOfOnePlace = (low : ℤ) (p : ℕ) (ms : List Meaning) → selected (is_place low (Some (low +ℤ pos p))) 0 ms ≡ number_there ms p

-- an index below the lowest, or none, takes no element
abbrev pub NoPlaceSelectsNothing : Type 0
NoPlaceSelectsNothing = (low : ℤ) (i : Option ℤ) (ms : List Meaning) → ((z : ℤ) → i ≡ Some z → z <ℤ low) → selected (is_place low i) 0 ms ≡ None
