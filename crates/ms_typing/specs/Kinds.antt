-- What the kind of a declaration says of its name, and which kinds stand where.
use Rattle.std.specs.Prelude.{Bool, true, false, ◌&&◌, ◌||◌, not, List, [], ◌∷◌, ◌++◌}
use Rattle.ms_syntax.specs.declared.tree.Mode.{Mode}
use Rattle.ms_syntax.specs.declared.tree.Mode.TheVariants as mode
use Rattle.ms_syntax.specs.Tree.{Bs, Indices, Kd, Maybe}
use Rattle.ms_syntax.specs.Tree as x
use Rattle.ms_typing.specs.declared.types.Scalar.TheVariants.{Truth, Number}
use Rattle.ms_typing.specs.declared.types.Shape.{Shape}
use Rattle.ms_typing.specs.declared.types.Shape.TheVariants.{Single, Line, Grid}
use Rattle.ms_typing.specs.declared.types.ExprType.{ExprType}
use Rattle.ms_typing.specs.declared.types.ExprType.TheVariants.{Plain, Text, Set, Search}

abbrev pub is_variable : Mode → Bool
is_variable mode.Unmarked = false
is_variable mode.Var = true
is_variable mode.Par = false

abbrev pub shape_of_indices : Indices → Shape
shape_of_indices x.no_indices = Single
shape_of_indices (x.index i x.no_indices) = Line
shape_of_indices (x.index i (x.index j is)) = Grid

-- an array that is none of the language's types counts as one of integers; its declaration is not supported
abbrev pub known_single : Shape → ExprType → ExprType
known_single Single t = t
known_single Line t = Plain Number Line true
known_single Grid t = Plain Number Grid true

abbrev pub type_of_base : Shape → Bool → Bs → ExprType
type_of_base s k x.of_bool = Plain Truth s k
type_of_base s k x.of_int = Plain Number s k
type_of_base s k x.of_string = Text s
type_of_base s k x.of_ann = known_single s Search
type_of_base s k x.set_of_int = known_single s Set
type_of_base s k (x.set_of e) = known_single s Set
type_of_base s k (x.of_values e) = Plain Number s k

abbrev pub type_of_kind : Kd → ExprType
type_of_kind (x.kind is m base) = type_of_base (shape_of_indices is) (not (is_variable m)) base

-- ---- the sets that a kind names, each of which has to be one

abbrev pub index_sets : Indices → List ExprType
index_sets x.no_indices = []
index_sets (x.index x.absent is) = index_sets is
index_sets (x.index (x.present e) is) = Set ∷ index_sets is

abbrev pub value_set : Bs → List ExprType
value_set x.of_bool = []
value_set x.of_int = []
value_set x.of_string = []
value_set x.of_ann = []
value_set x.set_of_int = []
value_set (x.set_of e) = Set ∷ []
value_set (x.of_values e) = Set ∷ []

abbrev pub kind_sets : Kd → List ExprType
kind_sets (x.kind is m base) = index_sets is ++ value_set base

-- ---- which kinds stand where

abbrev pub all_given : Indices → Bool
all_given x.no_indices = true
all_given (x.index x.absent is) = false
all_given (x.index (x.present e) is) = all_given is

abbrev pub none_given : Indices → Bool
none_given x.no_indices = true
none_given (x.index x.absent is) = none_given is
none_given (x.index (x.present e) is) = false

-- outside functions: bool, int, a range or set, and what is known of string and `set of`
abbrev pub stands_single : Bool → Bs → Bool
stands_single k x.of_bool = true
stands_single k x.of_int = true
stands_single k x.of_string = k
stands_single k x.of_ann = false
stands_single k x.set_of_int = k
stands_single k (x.set_of e) = k
stands_single k (x.of_values e) = true

-- and arrays of bool, int or a range
abbrev pub stands_array : Bs → Bool
stands_array x.of_bool = true
stands_array x.of_int = true
stands_array x.of_string = false
stands_array x.of_ann = false
stands_array x.set_of_int = false
stands_array (x.set_of e) = false
stands_array (x.of_values e) = true

-- the index sets of an array are given, unless it is known
abbrev pub stands_outside : Kd → Bool
stands_outside (x.kind x.no_indices m base) = stands_single (not (is_variable m)) base
stands_outside (x.kind (x.index i is) m base) = stands_array base && (not (is_variable m) || all_given (x.index i is))

-- a parameter or local: bool, int, and what is known of string and `set of int`; `ann` where it is allowed
abbrev pub passes_single : Bool → Bool → Bs → Bool
passes_single search k x.of_bool = true
passes_single search k x.of_int = true
passes_single search k x.of_string = k
passes_single search k x.of_ann = search && k
passes_single search k x.set_of_int = k
passes_single search k (x.set_of e) = false
passes_single search k (x.of_values e) = false

abbrev pub is_bool_or_int : Bs → Bool
is_bool_or_int x.of_bool = true
is_bool_or_int x.of_int = true
is_bool_or_int x.of_string = false
is_bool_or_int x.of_ann = false
is_bool_or_int x.set_of_int = false
is_bool_or_int (x.set_of e) = false
is_bool_or_int (x.of_values e) = false

-- a parameter, of a search function or of another: also arrays of bool or int without index sets
abbrev pub stands_parameter : Bool → Kd → Bool
stands_parameter search (x.kind x.no_indices m base) = passes_single search (not (is_variable m)) base
stands_parameter search (x.kind (x.index i is) m base) = is_bool_or_int base && none_given (x.index i is)

abbrev pub is_given : Maybe → Bool
is_given x.absent = false
is_given (x.present e) = true

-- a local has a value, and the kind of a parameter
abbrev pub stands_local : Kd → Maybe → Bool
stands_local k v = is_given v && stands_parameter false k

abbrev pub is_ann : Bs → Bool
is_ann x.of_bool = false
is_ann x.of_int = false
is_ann x.of_string = false
is_ann x.of_ann = true
is_ann x.set_of_int = false
is_ann (x.set_of e) = false
is_ann (x.of_values e) = false

-- a result: bool, int, or `ann`
abbrev pub stands_result : Kd → Bool
stands_result (x.kind x.no_indices m base) = is_bool_or_int base || (is_ann base && not (is_variable m))
stands_result (x.kind (x.index i is) m base) = false
