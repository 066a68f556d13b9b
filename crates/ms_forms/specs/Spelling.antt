-- How each token may be written, told without the cut of bytes.
use Rattle.std.specs.Prelude.{◌≡◌, ◌≢◌, ◌⊎◌, ℕ, ◌≤◌, List, [], ◌∷◌, ◌++◌, Some, Bool, not, ◌&&◌, ◌||◌, ◌==◌, if◌then◌else◌, nat_le, IsTrue, codes}
use Rattle.std.specs.List.{list_all}
use Rattle.std.specs.Fmt.{decimal}
use Rattle.ms_syntax.specs.declared.token.Token.{Token}
use Rattle.ms_syntax.specs.declared.token.Token.TheVariants as t
use Rattle.ms_syntax.specs.declared.token.Keyword.{Keyword}
use Rattle.ms_syntax.specs.declared.token.Symbol.{Symbol}
use Rattle.ms_syntax.specs.declared.token.Symbol.TheVariants as s
pub use Rattle.ms_syntax.specs.Keywords.{keyword_bytes}
use Rattle.ms_syntax.specs.Form.{is_letter, is_digit, is_name_byte, is_plain, escape, number_of, max_number}

abbrev pub symbol_bytes : Symbol → List ℕ
symbol_bytes s.DoubleArrow = codes "<->"
symbol_bytes s.RightArrow = codes "->"
symbol_bytes s.LeftArrow = codes "<-"
symbol_bytes s.AtMost = codes "<="
symbol_bytes s.AtLeast = codes ">="
symbol_bytes s.Equal = codes "="
symbol_bytes s.NotEqual = codes "!="
symbol_bytes s.Or = codes "\\/"
symbol_bytes s.And = codes "/\\"
symbol_bytes s.DotDot = codes ".."
symbol_bytes s.PlusPlus = codes "++"
symbol_bytes s.ColonColon = codes "::"
symbol_bytes s.OpenRows = codes "[|"
symbol_bytes s.CloseRows = codes "|]"
symbol_bytes s.Less = codes "<"
symbol_bytes s.Greater = codes ">"
symbol_bytes s.Plus = codes "+"
symbol_bytes s.Minus = codes "-"
symbol_bytes s.Star = codes "*"
symbol_bytes s.OpenParenthesis = codes "("
symbol_bytes s.CloseParenthesis = codes ")"
symbol_bytes s.OpenBracket = codes "["
symbol_bytes s.CloseBracket = codes "]"
symbol_bytes s.OpenBrace = codes "{"
symbol_bytes s.CloseBrace = codes "}"
symbol_bytes s.Comma = codes ","
symbol_bytes s.Semicolon = codes ";"
symbol_bytes s.Colon = codes ":"
symbol_bytes s.Bar = codes "|"

-- a letter, then letters, digits and `_`
abbrev pub IsWord : List ℕ → Type 0
IsWord [] = ⊥
IsWord (b ∷ bs) = IsTrue (is_letter b) × IsTrue (list_all is_name_byte bs)

abbrev pub IsName : List ℕ → Type 0
IsName w = IsWord w × ((x : Keyword) → w ≢ keyword_bytes x)

abbrev pub IsDigits : List ℕ → Type 0
IsDigits bytes = (bytes ≢ []) × IsTrue (list_all is_digit bytes)

-- the bytes between the quotes of a text, and the bytes that they mean
pub data Means : List ℕ → List ℕ → Type 0 where
  nothing : Means [] []
  itself : (b : ℕ) (bs w : List ℕ) → IsTrue (is_plain b) → Means bs w → Means (b ∷ bs) (b ∷ w)
  escaped : (e c : ℕ) (bs w : List ℕ) → escape e ≡ Some c → Means bs w → Means (92 ∷ e ∷ bs) (c ∷ w)

-- the bytes are a spelling of the token
abbrev pub Spells : Token → List ℕ → Type 0
Spells (t.Name w) bytes = (bytes ≡ w) × IsName w
Spells (t.Text w) bytes = (inner : List ℕ) × (bytes ≡ 34 ∷ inner ++ 34 ∷ []) × Means inner w
Spells (t.Number n) bytes = IsDigits bytes × (number_of bytes ≡ n) × (n ≤ max_number)
Spells (t.Keyword x) bytes = bytes ≡ keyword_bytes x
Spells (t.Symbol x) bytes = (bytes ≡ symbol_bytes x) ⊎ ((x ≡ s.Equal) × (bytes ≡ codes "=="))

abbrev pub IsNumber : Token → Type 0
IsNumber (t.Number n) = Unit {0}
IsNumber _ = ⊥

-- the pieces spell the tokens, one each
abbrev pub AllSpell : List Token → List (List ℕ) → Type 0
AllSpell [] [] = Unit {0}
AllSpell (x ∷ ts) (bytes ∷ pieces) = Spells x bytes × AllSpell ts pieces
AllSpell _ _ = ⊥

-- the pieces with one space between two of them
abbrev pub spaced : List (List ℕ) → List ℕ
spaced [] = []
spaced (bytes ∷ []) = bytes
spaced (bytes ∷ more ∷ others) = bytes ++ 32 ∷ spaced (more ∷ others)

-- ---- one spelling of each token

abbrev pub quoted_byte : ℕ → List ℕ
quoted_byte b = if b == 10 then codes "\\n" else (if b == 34 then 92 ∷ 34 ∷ [] else (if b == 92 then 92 ∷ 92 ∷ [] else b ∷ []))

abbrev pub quoted : List ℕ → List ℕ
quoted [] = []
quoted (b ∷ w) = quoted_byte b ++ quoted w

abbrev pub written : Token → List ℕ
written (t.Name w) = w
written (t.Text w) = 34 ∷ quoted w ++ 34 ∷ []
written (t.Number n) = decimal n
written (t.Keyword x) = keyword_bytes x
written (t.Symbol x) = symbol_bytes x

-- a byte that a text may mean: a tab, a line feed, or from 0x20 on but not 0x7F
abbrev pub may_be_meant : ℕ → Bool
may_be_meant b = b == 9 || b == 10 || (nat_le 32 b && not (b == 127))

-- the token is one that bytes can have
abbrev pub IsWellFormed : Token → Type 0
IsWellFormed (t.Name w) = IsName w
IsWellFormed (t.Text w) = IsTrue (list_all may_be_meant w)
IsWellFormed (t.Number n) = n ≤ max_number
IsWellFormed (t.Keyword x) = Unit {0}
IsWellFormed (t.Symbol x) = Unit {0}
