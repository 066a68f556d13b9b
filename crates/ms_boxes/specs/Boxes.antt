-- Boxes, which are a set for each variable, and the assignments that lie in them.
use Rattle.std.specs.Prelude.{◌≡◌, ◌⊎◌, ℕ, ◌+◌, ◌-◌, ◌*◌, List, [], ◌∷◌, map, true, ℤ, pos, slice_index_or}
use Rattle.ms_num.specs.Span.{Span}
use Rattle.ms_num.specs.Sets.{Set, IsSet, Among, empty_set, set_of, set_size}

-- P of each element, and R of each element and each later one; by recursion, so that a fact on a list
-- of boxes is one clause a case
abbrev pub Each : {X : Type 0} → (X → Type 0) → List X → Type 0
Each P [] = Unit {0}
Each P (x ∷ xs) = P x × Each P xs

abbrev pub EachPair : {X : Type 0} → (X → X → Type 0) → List X → Type 0
EachPair R [] = Unit {0}
EachPair R (x ∷ xs) = Each (R x) xs × EachPair R xs

-- the number of each variable
abbrev pub Assignment : Type 0
Assignment = List ℤ

-- the number of one variable
abbrev pub number_at : Assignment → ℕ → ℤ
number_at p v = slice_index_or p v (pos 0)

-- the assignment is one of those given
abbrev pub IsGiven : List Assignment → Assignment → Type 0
IsGiven [] p = ⊥
IsGiven (q ∷ qs) p = (q ≡ p) ⊎ IsGiven qs p

-- a set for each variable
abbrev pub Box : Type 0
Box = List Set

abbrev pub set_at : Box → ℕ → Set
set_at b v = slice_index_or b v empty_set

-- the assignment lies in the box: it has a number of each set, and no more
abbrev pub InBox : Assignment → Box → Type 0
InBox [] [] = Unit {0}
InBox (n ∷ p) (s ∷ b) = (s.has n ≡ true) × InBox p b
InBox [] (s ∷ b) = ⊥
InBox (n ∷ p) [] = ⊥

-- the assignment lies in one of the boxes
abbrev pub InSome : Assignment → List Box → Type 0
InSome p [] = ⊥
InSome p (b ∷ bs) = InBox p b ⊎ InSome p bs

-- a box of the declared sets: its sets are not empty, and each lies within its declared set
abbrev pub IsBox : Box → Box → Type 0
IsBox [] [] = Unit {0}
IsBox (d ∷ sets) (s ∷ b) = IsSet s × Among s d × IsBox sets b
IsBox [] (s ∷ b) = ⊥
IsBox (d ∷ sets) [] = ⊥

-- how many assignments lie in a box
abbrev pub box_size : Box → ℕ
box_size [] = 1
box_size (s ∷ b) = set_size s * box_size b

-- how many nodes a box may take until it and all its parts are gone
abbrev pub box_nodes : Box → ℕ
box_nodes b = 2 * box_size b - 1

abbrev pub frontier_nodes : List Box → ℕ
frontier_nodes [] = 0
frontier_nodes (b ∷ bs) = box_nodes b + frontier_nodes bs

-- each assignment that lies in the second box lies in the first
abbrev pub Covers : Box → Box → Type 0
Covers b c = (p : Assignment) → InBox p c → InBox p b

-- no assignment lies in both
abbrev pub AreDisjoint : Box → Box → Type 0
AreDisjoint b c = (p : Assignment) → InBox p b → InBox p c → ⊥

-- no set of the box is empty
abbrev pub IsProper : Box → Type 0
IsProper b = Each IsSet b

-- a declared set has both its ends, or no number at all
abbrev pub IsDeclared : Set → Type 0
IsDeclared s = IsSet s ⊎ (s ≡ empty_set)

-- the box of a list of ranges for each variable
abbrev pub box_of : List (List Span) → Box
box_of sets = map set_of sets

-- the least number of each set
abbrev pub least_point : Box → Assignment
least_point [] = []
least_point (s ∷ b) = s.lo ∷ least_point b
