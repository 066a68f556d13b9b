-- Places, tokens and trees of which the rows speak.
use Rattle.std.specs.Prelude.{ℕ, List, map}
use Rattle.ms_syntax.specs.declared.token.Place.{Place}
use Rattle.ms_syntax.specs.declared.token.Spanned.{Spanned}
use Rattle.ms_syntax.specs.declared.token.Token.{Token}
use Rattle.ms_syntax.specs.declared.token.Token.TheVariants as t
use Rattle.ms_syntax.specs.declared.token.Keyword.TheVariants as k
use Rattle.ms_syntax.specs.declared.token.Symbol.TheVariants as s
use Rattle.ms_syntax.specs.declared.tree.Operator.TheVariants.{Concat, Minus}
use Rattle.ms_syntax.specs.Grouping.{Grouped, operation}
use Rattle.ms_syntax.specs.Tree.{Ex, Links, link, no_links, number}

abbrev pub spot : ℕ → ℕ → ℕ → Place
spot file line col = record { file = file; line = line; col = col }

-- a column of the first line of the model
abbrev pub column : ℕ → Place
column col = spot 0 1 col

-- a number of one digit, in its column
abbrev pub digit : ℕ → ℕ → Ex
digit col n = number (column col) n

-- `- 2 - 1`, behind a first operand in column 1
abbrev pub minus_chain : Links
minus_chain = link Minus (column 2) (digit 3 2) (link Minus (column 4) (digit 5 1) no_links)

-- `++ 2 ++ 1`, as if `++` had one column
abbrev pub concat_chain : Links
concat_chain = link Concat (column 2) (digit 3 2) (link Concat (column 4) (digit 5 1) no_links)

abbrev pub minus : ℕ → Grouped → Grouped → Grouped
minus col first second = operation Minus (column col) first second

abbrev pub concat : ℕ → Grouped → Grouped → Grouped
concat col first second = operation Concat (column col) first second

abbrev pub parenthesis : Token
parenthesis = t.Symbol s.OpenParenthesis

abbrev pub open_rows : Token
open_rows = t.Symbol s.OpenRows

abbrev pub close_rows : Token
close_rows = t.Symbol s.CloseRows

abbrev pub keyword_if : Token
keyword_if = t.Keyword k.If

abbrev pub one : Token
one = t.Number 1

-- tokens, all of them at the first place
abbrev pub tokens : List Token → List Spanned
tokens ts = map (λ t. record { token = t; start = 0; end = 0; place = column 1 }) ts
