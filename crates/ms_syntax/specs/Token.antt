-- Which symbol or keyword a token is.
use Rattle.std.specs.Prelude.{Bool, false}
use denote.Enum.Bare.{sameb}
use Rattle.ms_syntax.specs.declared.token.Token.{Token}
use Rattle.ms_syntax.specs.declared.token.Token.TheVariants as t
use Rattle.ms_syntax.specs.declared.token.Keyword.{Keyword}
use Rattle.ms_syntax.specs.contracts.token.Keyword as keyword
use Rattle.ms_syntax.specs.declared.token.Symbol.{Symbol}
use Rattle.ms_syntax.specs.contracts.token.Symbol as symbol

-- `==` on symbols
abbrev pub same_symbol : Symbol → Symbol → Bool
same_symbol = sameb symbol.the_type

-- `==` on keywords
abbrev pub same_keyword : Keyword → Keyword → Bool
same_keyword = sameb keyword.the_type

abbrev pub is_symbol : Symbol → Token → Bool
is_symbol x (t.Symbol y) = same_symbol y x
is_symbol x _ = false

abbrev pub is_keyword : Keyword → Token → Bool
is_keyword x (t.Keyword y) = same_keyword y x
is_keyword x _ = false
