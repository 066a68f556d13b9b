-- What may stand where another type is asked for.
use Rattle.std.specs.Prelude.{◌≡◌, Bool, true, false, not, ◌&&◌, List, [], ◌∷◌}
use Rattle.ms_typing.specs.declared.types.Scalar.{Scalar}
use Rattle.ms_typing.specs.declared.types.Scalar.TheVariants.{Truth, Number, Empty}
use Rattle.ms_typing.specs.declared.types.Shape.{Shape}
use Rattle.ms_typing.specs.declared.types.Shape.TheVariants.{Single, Line, Grid}
use Rattle.ms_typing.specs.declared.types.ExprType.{ExprType}
use Rattle.ms_typing.specs.declared.types.ExprType.TheVariants.{Plain, Text, Set, Search}

abbrev pub truths : Bool → ExprType
truths k = Plain Truth Single k

abbrev pub numbers : Bool → ExprType
numbers k = Plain Number Single k

-- a bool may stand for an int, and the element of an array without elements for any
abbrev pub scalar_fits : Scalar → Scalar → Bool
scalar_fits Empty b = true
scalar_fits Truth Truth = true
scalar_fits Truth Number = true
scalar_fits Truth Empty = false
scalar_fits Number Number = true
scalar_fits Number Truth = false
scalar_fits Number Empty = false

abbrev pub shape_fits : Shape → Shape → Bool
shape_fits Single Single = true
shape_fits Single Line = false
shape_fits Single Grid = false
shape_fits Line Single = false
shape_fits Line Line = true
shape_fits Line Grid = false
shape_fits Grid Single = false
shape_fits Grid Line = false
shape_fits Grid Grid = true

-- what is known may stand for what is variable
abbrev pub known_fits : Bool → Bool → Bool
known_fits true k = true
known_fits false k = not k

pub data Converts : ExprType → ExprType → Type 0 where
  plain : {b c : Scalar} {s r : Shape} {k l : Bool} → scalar_fits b c ≡ true → shape_fits s r ≡ true → known_fits k l ≡ true → Converts (Plain b s k) (Plain c r l)
  text : {s r : Shape} → shape_fits s r ≡ true → Converts (Text s) (Text r)
  -- an array without elements, or its element, as one of strings
  empty_text : {b : Scalar} {s r : Shape} {k : Bool} → scalar_fits b Empty ≡ true → shape_fits s r ≡ true → known_fits k true ≡ true → Converts (Plain b s k) (Text r)
  -- a known bool, as a search that succeeds or fails
  truth_search : {b : Scalar} {s : Shape} {k : Bool} → scalar_fits b Truth ≡ true → shape_fits s Single ≡ true → known_fits k true ≡ true → Converts (Plain b s k) Search
  set : Converts Set Set
  search : Converts Search Search

abbrev pub converts : ExprType → ExprType → Bool
converts (Plain b s k) (Plain c r l) = scalar_fits b c && (shape_fits s r && known_fits k l)
converts (Plain b s k) (Text r) = scalar_fits b Empty && (shape_fits s r && known_fits k true)
converts (Plain b s k) Set = false
converts (Plain b s k) Search = scalar_fits b Truth && (shape_fits s Single && known_fits k true)
converts (Text s) (Plain c r l) = false
converts (Text s) (Text r) = shape_fits s r
converts (Text s) Set = false
converts (Text s) Search = false
converts Set (Plain c r l) = false
converts Set (Text r) = false
converts Set Set = true
converts Set Search = false
converts Search (Plain c r l) = false
converts Search (Text r) = false
converts Search Set = false
converts Search Search = true

pub data ConvertAll : List ExprType → List ExprType → Type 0 where
  none : ConvertAll [] []
  more : {t u : ExprType} {ts us : List ExprType} → Converts t u → ConvertAll ts us → ConvertAll (t ∷ ts) (u ∷ us)

-- ---- parts of a type

abbrev pub shape_of : ExprType → Shape
shape_of (Plain b s k) = s
shape_of (Text s) = s
shape_of Set = Single
shape_of Search = Single

abbrev pub known_of : ExprType → Bool
known_of (Plain b s k) = k
known_of (Text s) = true
known_of Set = true
known_of Search = true

abbrev pub as_known : ExprType → ExprType
as_known (Plain b s k) = Plain b s true
as_known (Text s) = Text s
as_known Set = Set
as_known Search = Search

-- what may be an element of an array
abbrev pub is_element : ExprType → Bool
is_element (Plain b s k) = shape_fits s Single
is_element (Text s) = shape_fits s Single
is_element Set = false
is_element Search = false

abbrev pub is_line : ExprType → Bool
is_line (Plain b s k) = shape_fits s Line
is_line (Text s) = shape_fits s Line
is_line Set = false
is_line Search = false

abbrev pub is_grid : ExprType → Bool
is_grid (Plain b s k) = shape_fits s Grid
is_grid (Text s) = shape_fits s Grid
is_grid Set = false
is_grid Search = false

-- the same values in another shape; only bools, ints and strings have one
abbrev pub shaped : Shape → ExprType → ExprType
shaped r (Plain b s k) = Plain b r k
shaped r (Text s) = Text r
shaped r Set = Set
shaped r Search = Search
