-- Kinds of tokens.
use Rattle.std.specs.Prelude.{ℕ, List, Option, Some, None, Bool, true, false, ◌==◌, ◌||◌, if◌then◌else◌}
use Rattle.ms_syntax.specs.declared.token.Token.{Token}
use Rattle.ms_syntax.specs.declared.token.Token.TheVariants as t
use Rattle.ms_syntax.specs.declared.token.Keyword.{Keyword}
use Rattle.ms_syntax.specs.declared.token.Symbol.{Symbol}
use Rattle.ms_syntax.specs.declared.token.Keyword.TheVariants as k
use Rattle.ms_syntax.specs.declared.token.Symbol.TheVariants as s
use Rattle.ms_syntax.specs.declared.tree.Operator.{Operator}
use Rattle.ms_syntax.specs.declared.tree.Operator.TheVariants as o
use Rattle.ms_syntax.specs.declared.tree.Sign.{Sign}
use Rattle.ms_syntax.specs.declared.tree.Sign.TheVariants as g
use Rattle.ms_syntax.specs.Grammar.{operands}
use Rattle.ms_syntax.specs.Token.{is_symbol, is_keyword}

abbrev pub a_number : Token → Option ℕ
a_number (t.Number n) = Some n
a_number _ = None

abbrev pub a_text : Token → Option (List ℕ)
a_text (t.Text w) = Some w
a_text _ = None

abbrev pub a_name : Token → Option (List ℕ)
a_name (t.Name w) = Some w
a_name _ = None

abbrev pub a_truth : Token → Option Bool
a_truth (t.Keyword k.True) = Some true
a_truth (t.Keyword k.False) = Some false
a_truth _ = None

abbrev pub a_sign : Token → Option Sign
a_sign (t.Keyword k.Not) = Some g.Not
a_sign (t.Symbol s.Minus) = Some g.Minus
a_sign _ = None

abbrev pub when : Bool → Option (Unit {0})
when b = if b then Some tt else None

abbrev pub symbol : Symbol → Token → Option (Unit {0})
symbol x u = when (is_symbol x u)

abbrev pub keyword : Keyword → Token → Option (Unit {0})
keyword x u = when (is_keyword x u)

-- a word that begins a kind
abbrev pub is_kind_word : Token → Bool
is_kind_word u = is_keyword k.Array u || is_keyword k.Var u || is_keyword k.Par u || is_keyword k.Bool u
    || is_keyword k.Int u || is_keyword k.String u || is_keyword k.Ann u || is_keyword k.Set u

abbrev pub kind_word : Token → Option (Unit {0})
kind_word u = when (is_kind_word u)

-- the operator that a token is
abbrev pub operator : Token → Option Operator
operator (t.Symbol s.DoubleArrow) = Some o.Equivalent
operator (t.Symbol s.RightArrow) = Some o.Implies
operator (t.Symbol s.LeftArrow) = Some o.ImpliedBy
operator (t.Symbol s.Or) = Some o.Or
operator (t.Keyword k.Xor) = Some o.Xor
operator (t.Symbol s.And) = Some o.And
operator (t.Symbol s.Equal) = Some o.Equal
operator (t.Symbol s.NotEqual) = Some o.NotEqual
operator (t.Symbol s.Less) = Some o.Less
operator (t.Symbol s.AtMost) = Some o.AtMost
operator (t.Symbol s.Greater) = Some o.Greater
operator (t.Symbol s.AtLeast) = Some o.AtLeast
operator (t.Keyword k.In) = Some o.In
operator (t.Symbol s.DotDot) = Some o.To
operator (t.Symbol s.Plus) = Some o.Plus
operator (t.Symbol s.Minus) = Some o.Minus
operator (t.Symbol s.Star) = Some o.Times
operator (t.Keyword k.Div) = Some o.Div
operator (t.Keyword k.Mod) = Some o.Mod
operator (t.Symbol s.PlusPlus) = Some o.Concat
operator _ = None

abbrev pub only : ℕ → Option Operator → Option Operator
only n None = None
only n (Some op) = if operands op == n then Some op else None

-- an operator whose operands bind no looser than n
abbrev pub infix_of : ℕ → Token → Option Operator
infix_of n u = only n (operator u)
