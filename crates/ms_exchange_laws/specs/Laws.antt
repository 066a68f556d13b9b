-- What is handed in is fit, and what is given comes back.
use Rattle.std.specs.Prelude.{◌≡◌, Bool, true, false, not, ◌||◌, IfSome, List}
use Rattle.ms_num.specs.Ranges.{IsRanges}
use Rattle.ms_num.specs.Span.{Span}
use Rattle.ms_typing.specs.declared.types.ExprType.{ExprType}
use Rattle.ms_typing.specs.declared.types.ExprType.TheVariants as t
use Rattle.ms_values.specs.declared.operand.Operand.{Operand}
use Rattle.ms_values.specs.declared.operand.Operand.TheVariants as o
use Rattle.ms_values.specs.declared.value.Value.{Value}
use Rattle.ms_values.specs.declared.value.Value.TheVariants as v
use Rattle.ms_rules.specs.Conversions.{convert}
use Rattle.ms_rules_laws.specs.Fit.{IsFit}
use Rattle.ms_placing.specs.Values.{entered, given}
use Rattle.ms_exchange.specs.Fit.{is_fit}

-- a set has the ranges of one
abbrev pub HasRanges : Value → Type 0
HasRanges (v.Number n) = Unit {0}
HasRanges (v.Truth b) = Unit {0}
HasRanges (v.Set rs) = IsRanges rs
HasRanges (v.Text t) = Unit {0}
HasRanges (v.Tree x) = Unit {0}
HasRanges (v.Trees1 r xs) = Unit {0}
HasRanges (v.Trees2 rows columns xs) = Unit {0}
HasRanges (v.Texts1 r ts) = Unit {0}
HasRanges (v.Texts2 rows columns ts) = Unit {0}

abbrev pub HandedInIsFit : Type 0
HandedInIsFit = (sets : List Span) (type : ExprType) (x : Value) → HasRanges x → is_fit sets type x ≡ true → IsFit sets (entered sets type x)

-- a type that a conversion brings to its kind: one of numbers, Booleans or strings. Sets and searches stay as they are
abbrev pub has_kind : ExprType → Bool
has_kind (t.Plain c shape known) = true
has_kind (t.Text shape) = true
has_kind t.Set = false
has_kind t.Search = false

abbrev pub is_array : Operand → Bool
is_array (o.Number m) = false
is_array (o.Truth b) = false
is_array (o.Set s) = false
is_array (o.Text w) = false
is_array (o.Integer x) = false
is_array (o.Condition x) = false
is_array (o.Array a) = true
is_array (o.NoArray kind) = true

-- the value may be handed in, and is the operand
pub record ComesBack (sets : List Span) (type : ExprType) (x : Operand) (y : Value) : Type 0 where
  pub fit : is_fit sets type y ≡ true
  pub same : entered sets type y ≡ x

-- what is given of an operand that was brought to a type; a set is no array
abbrev pub GivenComesBack : Type 0
GivenComesBack = (sets : List Span) (type : ExprType) (x : Operand) → IsFit sets x → (has_kind type || not (is_array x)) ≡ true → IfSome (given (convert type x)) (ComesBack sets type (convert type x))
