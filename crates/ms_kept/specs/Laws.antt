-- What stands beside a node is its own, where that is so of its parts.
use Rattle.std.specs.Prelude.{◌≡◌, ℕ, Bool, true, ◌||◌, ℤ, List, [], ◌∷◌, Option, Some, None}
use Rattle.ms_num.specs.Span.{Span}
use Rattle.ms_trees.specs.Enclosure.{span_at}
use Rattle.ms_trees.specs.declared.extreme.Extreme.{Extreme}
use Rattle.ms_trees.specs.declared.tree.Ground.{Ground}
use Rattle.ms_tree_nodes.specs.Nodes as n
use Rattle.ms_tree_nodes.specs.Kept.{IsKept, kept_of}
use Rattle.ms_values.specs.declared.operand.Placed.{Placed}

-- the same, where there is a tree
abbrev pub IsKeptIfAny : List Span → Option Placed → Type 0
IsKeptIfAny sets None = Unit {0}
IsKeptIfAny sets (Some x) = IsKept sets x

abbrev pub AreKept : List Span → List Placed → Type 0
AreKept sets [] = Unit {0}
AreKept sets (x ∷ xs) = IsKept sets x × AreKept sets xs

-- ---- nodes of one, two or three parts, and over a list

abbrev pub KeepsOne : (Placed → Placed) → Type 0
KeepsOne f = (sets : List Span) (x : Placed) → IsKept sets x → IsKept sets (f x)

abbrev pub KeepsTwo : (Placed → Placed → Placed) → Type 0
KeepsTwo f = (sets : List Span) (x y : Placed) → IsKept sets x → IsKept sets y → IsKept sets (f x y)

abbrev pub KeepsThree : (Placed → Placed → Placed → Placed) → Type 0
KeepsThree f = (sets : List Span) (c x y : Placed) → IsKept sets c → IsKept sets x → IsKept sets y → IsKept sets (f c x y)

abbrev pub KeepsList : (List Placed → Placed) → Type 0
KeepsList f = (sets : List Span) (xs : List Placed) → AreKept sets xs → IsKept sets (f xs)

-- those that are none where what they may mean leaves the limits
abbrev pub KeepsOneIfAny : (Placed → Option Placed) → Type 0
KeepsOneIfAny f = (sets : List Span) (x : Placed) → IsKept sets x → IsKeptIfAny sets (f x)

abbrev pub KeepsTwoIfAny : (Placed → Placed → Option Placed) → Type 0
KeepsTwoIfAny f = (sets : List Span) (x y : Placed) → IsKept sets x → IsKept sets y → IsKeptIfAny sets (f x y)

abbrev pub KeepsListIfAny : (List Placed → Option Placed) → Type 0
KeepsListIfAny f = (sets : List Span) (xs : List Placed) → AreKept sets xs → IsKeptIfAny sets (f xs)

-- those over a list and one tree more
abbrev pub KeepsListAndOneIfAny : (List Placed → Placed → Option Placed) → Type 0
KeepsListAndOneIfAny f = (sets : List Span) (xs : List Placed) (y : Placed) → AreKept sets xs → IsKept sets y → IsKeptIfAny sets (f xs y)

-- those over a list and two trees more
abbrev pub KeepsListAndTwoIfAny : (List Placed → Placed → Placed → Option Placed) → Type 0
KeepsListAndTwoIfAny f = (sets : List Span) (xs : List Placed) (x y : Placed) → AreKept sets xs → IsKept sets x → IsKept sets y → IsKeptIfAny sets (f xs x y)

-- ---- the laws

-- what is made of a tree with its own meaning, size and nesting is kept
abbrev pub TreesAreKept : Type 0
TreesAreKept = (sets : List Span) (t : Ground) → IsKept sets (kept_of sets t)

abbrev pub NumbersAreKept : Type 0
NumbersAreKept = (sets : List Span) (o : Option ℤ) → IsKept sets (n.number_leaf o)

abbrev pub TruthsAreKept : Type 0
TruthsAreKept = (sets : List Span) (b : Bool) → IsKept sets (n.truth_leaf b)

-- by the interval of its own declared set
abbrev pub VariablesAreKept : Type 0
VariablesAreKept = (sets : List Span) (v : ℕ) → IsKept sets (n.variable v (span_at sets v))

abbrev pub BitVariablesAreKept : Type 0
BitVariablesAreKept = (sets : List Span) (v : ℕ) → IsKept sets (n.bit_variable v (span_at sets v))

-- the least, and the greatest
abbrev pub ExtremesAreKept : Type 0
ExtremesAreKept = (which : Extreme) → KeepsListIfAny (n.extreme which)

abbrev pub ElementsAreKept : Type 0
ElementsAreKept = (low : ℤ) → KeepsListAndOneIfAny (n.element low)

abbrev pub ElementsOfGridsAreKept : Type 0
ElementsOfGridsAreKept = (low left : ℤ) (width : ℕ) → KeepsListAndTwoIfAny (n.element_of_grid low left width)

-- the number of a tree that may be true or false
abbrev pub BitsAreKept : Type 0
BitsAreKept = (sets : List Span) (x : Placed) → (x.enclosure.may_be_true || x.enclosure.may_be_false) ≡ true → IsKept sets x → IsKept sets (n.bit x)

abbrev pub MembersAreKept : Type 0
MembersAreKept = (rs : List Span) → KeepsOne (n.member rs)

abbrev pub RowsAreKept : Type 0
RowsAreKept = (rows : List (List ℤ)) → KeepsList (n.rowed rows)
