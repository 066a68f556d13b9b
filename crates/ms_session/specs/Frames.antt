-- Frames, each of which limits how many nodes a search may take, the outermost first.
use Rattle.std.specs.Prelude.{ℕ, zero, suc, ◌-◌, ◌==◌, if◌then◌else◌, List, [], ◌∷◌, map, Option, Some, None}
use Rattle.ms_session.specs.declared.budget.Frame.{Frame}

-- a frame from which nothing was taken yet
abbrev pub new_frame : ℕ → Frame
new_frame n = record { number = n; left = n }

-- what is left of a frame
abbrev pub left_in : Frame → ℕ
left_in f = f.left

-- with how many nodes a frame began
abbrev pub number_in : Frame → ℕ
number_in f = f.number

-- a frame loses one node
abbrev pub spent_frame : Frame → Frame
spent_frame f = record f { left = f.left - 1 }

-- each frame loses one node
abbrev pub spend_one : List Frame → List Frame
spend_one fs = map spent_frame fs

-- each frame loses this many nodes
abbrev pub spend_many : ℕ → List Frame → List Frame
spend_many zero fs = fs
spend_many (suc n) fs = spend_one (spend_many n fs)

-- the outermost frame of which nothing is left, where the first has the number k
abbrev pub empty_from : ℕ → List Frame → Option ℕ
empty_from k [] = None
empty_from k (f ∷ fs) = if f.left == 0 then Some k else empty_from (suc k) fs

-- the outermost frame of which nothing is left
abbrev pub empty_frame : List Frame → Option ℕ
empty_frame = empty_from 0

-- what is left of the outermost frame, which is one of nodes
abbrev pub outer_left : List Frame → ℕ
outer_left [] = 0
outer_left (f ∷ fs) = f.left
