-- Each rule makes fit operands of fit ones.
use Rattle.std.specs.Prelude.{◌≡◌, ◌⊎◌, ℕ, ◌<◌, ◌≤◌, ◌≤ℤ◌, length, pos, nat_le, Bool, true, false, ℤ, List, Option, Some, None}
use Rattle.std.specs.List.{AllByRecursion}
use Rattle.ms_base.specs.declared.limits.TheConstants.{TREE_NESTING_LIMIT}
use Rattle.ms_syntax.specs.declared.tree.Operator.{Operator}
use Rattle.ms_syntax.specs.declared.tree.Sign.{Sign}
use Rattle.ms_num.specs.Span.{Span, IsInterval, IsWithin}
use Rattle.ms_built_ins.specs.declared.names.BuiltIn.{BuiltIn}
use Rattle.ms_typing.specs.declared.types.ExprType.{ExprType}
use Rattle.ms_typing.specs.declared.types.ExprType.TheVariants as t
use Rattle.ms_typing.specs.declared.types.Scalar.TheVariants as s
use Rattle.ms_typing.specs.declared.types.Shape.TheVariants as h
use Rattle.ms_trees.specs.Enclosure.{span_at}
use Rattle.ms_trees.specs.Size as size
use Rattle.ms_trees.specs.WellFormed.{is_numeric, is_well_formed}
use Rattle.ms_trees.specs.declared.extreme.Extreme.{Extreme}
use Rattle.ms_trees.specs.declared.tree.Ground.{Ground}
use Rattle.ms_tree_nodes.specs.Kept.{kept_of}
use Rattle.ms_tree_nodes.specs.Nodes as n
use Rattle.ms_values.specs.Numbers.{numbers_of as numbers_in}
use Rattle.ms_values.specs.declared.operand.Placed.{Placed}
use Rattle.ms_values.specs.declared.operand.Cells.{Cells}
use Rattle.ms_values.specs.declared.operand.Kind.{Kind}
use Rattle.ms_values.specs.declared.operand.Operand.{Operand}
use Rattle.ms_values.specs.declared.operand.Operand.TheVariants as o
use Rattle.ms_rules.specs.Operands.{condition_of, integer_of, known_number}
use Rattle.ms_rules.specs.Cells.{empty, grown, numbers_of}
use Rattle.ms_rules.specs.Sets.{ranges_of}
use Rattle.ms_rules.specs.Operators.{Operands, choice, join, over_operands, signed, with_operand}
use Rattle.ms_rules.specs.Access.{access}
use Rattle.ms_rules.specs.Calls.{call}
use Rattle.ms_rules.specs.Conversions.{convert}
use Rattle.ms_rules_laws.specs.Fit.{AreAllFit, AreFit, AreIntervals, AreIntervalsIfAny, IsCondition, IsFit, IsFitIfAny, IsInteger, IsWithinIfAny}

-- ---- known values

-- a literal
abbrev pub NumbersKeep : Type 0
NumbersKeep = (sets : List Span) (m : Option ℤ) → IsFitIfAny sets (known_number m)

-- the set of the elements
abbrev pub SetsKeep : Type 0
SetsKeep = (sets : List Span) (cs : Cells) → AreFit sets cs → AreIntervalsIfAny (ranges_of (numbers_of cs))

-- the numbers of a set
abbrev pub MembersKeep : Type 0
MembersKeep = (rs : List Span) → AreIntervals rs → AllByRecursion IsWithin (numbers_in rs)

-- ---- elements

abbrev pub NoElementsKeep : Type 0
NoElementsKeep = (sets : List Span) (kind : Kind) → AreFit sets (empty kind)

abbrev pub ElementsKeep : Type 0
ElementsKeep = (sets : List Span) (cs : Cells) (x : Operand) → AreFit sets cs → IsFit sets x → AreFit sets (grown cs x)

-- ---- operators

abbrev pub OperatorsKeep : Type 0
OperatorsKeep = (sets : List Span) (which : Operator) (x y : Operand) → IsFit sets x → IsFit sets y → IsFitIfAny sets (join which x y)

abbrev pub SignsKeep : Type 0
SignsKeep = (sets : List Span) (sign : Sign) (x : Operand) → IsFit sets x → IsFitIfAny sets (signed sign x)

abbrev pub ChoicesKeep : Type 0
ChoicesKeep = (sets : List Span) (c x y : Operand) → IsFit sets c → IsFit sets x → IsFit sets y → IsFit sets (choice c x y)

-- the operands of a chain, so far
abbrev pub AreFitOperands : List Span → Operands → Type 0
AreFitOperands sets xs = AllByRecursion (IsCondition sets) xs.parts

abbrev pub MoreOperandsKeep : Type 0
MoreOperandsKeep = (sets : List Span) (f : Bool → Bool → Bool) (xs : Operands) (x : Operand) → AreFitOperands sets xs → IsFit sets x → AreFitOperands sets (with_operand f xs x)

-- a node over them
abbrev pub KeepsConditions : List Span → (List Placed → Placed) → Type 0
KeepsConditions sets node = (xs : List Placed) → AllByRecursion (IsCondition sets) xs → IsCondition sets (node xs)

abbrev pub ChainsKeep : Type 0
ChainsKeep = (sets : List Span) (node : List Placed → Placed) → KeepsConditions sets node → (xs : Operands) → AreFitOperands sets xs → IsFit sets (over_operands node xs)

-- ---- accesses, calls and conversions

abbrev pub AccessesKeep : Type 0
AccessesKeep = (sets : List Span) (x y : Operand) (z : Option Operand) → IsFit sets x → IsFit sets y → IsFitIfAny sets z → IsFitIfAny sets (access x y z)

-- whatever the incumbent and the word
abbrev pub CallsKeep : Type 0
CallsKeep = (sets : List Span) (point : Option (List ℤ)) (word : ℕ) (name : BuiltIn) (xs : List Operand) → AreAllFit sets xs → IsFitIfAny sets (call point word name xs)

abbrev pub ConversionsKeep : Type 0
ConversionsKeep = (sets : List Span) (type : ExprType) (x : Operand) → IsFit sets x → IsFit sets (convert type x)

-- ---- constraints

-- what is brought to a variable Boolean is a Boolean tree
abbrev pub ConstraintsAreTrees : Type 0
ConstraintsAreTrees = (sets : List Span) (x : Operand) → IsFit sets x →
    (convert (t.Plain s.Truth h.Single false) x ≡ o.Condition (condition_of x)) × IsCondition sets (condition_of x)

-- ---- limits

-- a tree of which the nesting that is kept is within the limit nests no deeper
abbrev pub NestingIsOwn : Type 0
NestingIsOwn = (sets : List Span) (x : Placed) → IsInteger sets x ⊎ IsCondition sets x → nat_le x.nesting TREE_NESTING_LIMIT ≡ true → size.nesting_of x.tree ≤ TREE_NESTING_LIMIT

-- ---- what there is at first

-- a variable, over the interval of its own set
abbrev pub VariablesAreFit : Type 0
VariablesAreFit = (sets : List Span) (v : ℕ) → v < length sets → IsInterval (span_at sets v) → IsInteger sets (n.variable v (span_at sets v))

-- one of 0 and 1 alone, as a truth value
abbrev pub BitVariablesAreFit : Type 0
BitVariablesAreFit = (sets : List Span) (v : ℕ) → v < length sets → IsInterval (span_at sets v) → pos 0 ≤ℤ (span_at sets v).lo → (span_at sets v).hi ≤ℤ pos 1
    → IsCondition sets (n.bit_variable v (span_at sets v))

-- a tree that may be asked, with what is kept of it
abbrev pub IntegerTreesAreFit : Type 0
IntegerTreesAreFit = (sets : List Span) (tree : Ground) → is_well_formed sets tree ≡ true → is_numeric tree ≡ true → IsInteger sets (kept_of sets tree)

abbrev pub BooleanTreesAreFit : Type 0
BooleanTreesAreFit = (sets : List Span) (tree : Ground) → is_well_formed sets tree ≡ true → is_numeric tree ≡ false → IsCondition sets (kept_of sets tree)

-- a number within the limits, and a truth value
abbrev pub NumberLeavesAreFit : Type 0
NumberLeavesAreFit = (sets : List Span) (m : Option ℤ) → IsWithinIfAny m → IsInteger sets (n.number_leaf m)

abbrev pub TruthLeavesAreFit : Type 0
TruthLeavesAreFit = (sets : List Span) (b : Bool) → IsCondition sets (n.truth_leaf b)

-- ---- what is read of an operand, as trees

abbrev pub IntegersReadKeep : Type 0
IntegersReadKeep = (sets : List Span) (x : Operand) → IsFit sets x → IsInteger sets (integer_of x)

abbrev pub ConditionsReadKeep : Type 0
ConditionsReadKeep = (sets : List Span) (x : Operand) → IsFit sets x → IsCondition sets (condition_of x)

-- ---- nodes: integer and Boolean trees of such trees

abbrev pub IsIntegerIfAny : List Span → Option Placed → Type 0
IsIntegerIfAny sets None = Unit {0}
IsIntegerIfAny sets (Some x) = IsInteger sets x

abbrev pub AreIntegers : List Span → List Placed → Type 0
AreIntegers sets xs = AllByRecursion (IsInteger sets) xs

-- an integer tree, where it is within the limits
abbrev pub OperationKeeps : (Placed → Placed → Option Placed) → Type 0
OperationKeeps f = (sets : List Span) (x y : Placed) → IsInteger sets x → IsInteger sets y → IsIntegerIfAny sets (f x y)

abbrev pub ImageKeeps : (Placed → Option Placed) → Type 0
ImageKeeps f = (sets : List Span) (x : Placed) → IsInteger sets x → IsIntegerIfAny sets (f x)

abbrev pub FoldKeeps : (List Placed → Option Placed) → Type 0
FoldKeeps f = (sets : List Span) (xs : List Placed) → AreIntegers sets xs → IsIntegerIfAny sets (f xs)

-- of a list and one tree more
abbrev pub FoldByOneKeeps : (List Placed → Placed → Option Placed) → Type 0
FoldByOneKeeps f = (sets : List Span) (xs : List Placed) (y : Placed) → AreIntegers sets xs → IsInteger sets y → IsIntegerIfAny sets (f xs y)

abbrev pub FoldByTwoKeeps : (List Placed → Placed → Placed → Option Placed) → Type 0
FoldByTwoKeeps f = (sets : List Span) (xs : List Placed) (x y : Placed) → AreIntegers sets xs → IsInteger sets x → IsInteger sets y → IsIntegerIfAny sets (f xs x y)

abbrev pub BitsKeep : Type 0
BitsKeep = (sets : List Span) (x : Placed) → IsCondition sets x → IsInteger sets (n.bit x)

abbrev pub BranchesKeep : Type 0
BranchesKeep = (sets : List Span) (c x y : Placed) → IsCondition sets c → IsInteger sets x → IsInteger sets y → IsInteger sets (n.choice c x y)

abbrev pub TruthBranchesKeep : Type 0
TruthBranchesKeep = (sets : List Span) (c x y : Placed) → IsCondition sets c → IsCondition sets x → IsCondition sets y → IsCondition sets (n.choice_of_truths c x y)

-- a Boolean tree
abbrev pub DenialKeeps : Type 0
DenialKeeps = (sets : List Span) (x : Placed) → IsCondition sets x → IsCondition sets (n.denial x)

abbrev pub ConnectiveKeeps : (Placed → Placed → Placed) → Type 0
ConnectiveKeeps f = (sets : List Span) (x y : Placed) → IsCondition sets x → IsCondition sets y → IsCondition sets (f x y)

abbrev pub ComparisonKeeps : (Placed → Placed → Placed) → Type 0
ComparisonKeeps f = (sets : List Span) (x y : Placed) → IsInteger sets x → IsInteger sets y → IsCondition sets (f x y)

abbrev pub JunctionKeeps : (List Placed → Placed) → Type 0
JunctionKeeps f = (sets : List Span) → KeepsConditions sets f

abbrev pub TestKeeps : (List Placed → Placed) → Type 0
TestKeeps f = (sets : List Span) (xs : List Placed) → AreIntegers sets xs → IsCondition sets (f xs)

abbrev pub ExtremesKeep : Type 0
ExtremesKeep = (which : Extreme) → FoldKeeps (n.extreme which)

abbrev pub ElementNodesKeep : Type 0
ElementNodesKeep = (low : ℤ) → FoldByOneKeeps (n.element low)

abbrev pub GridNodesKeep : Type 0
GridNodesKeep = (low left : ℤ) (width : ℕ) → FoldByTwoKeeps (n.element_of_grid low left width)

abbrev pub MemberNodesKeep : Type 0
MemberNodesKeep = (rs : List Span) (sets : List Span) (x : Placed) → IsInteger sets x → IsCondition sets (n.member rs x)

abbrev pub RowNodesKeep : Type 0
RowNodesKeep = (rows : List (List ℤ)) → TestKeeps (n.rowed rows)
