-- The longest form that stands at the front of some bytes, or why none does.
use Rattle.std.specs.Prelude.{ℕ, ◌+◌, ◌-◌, ◌*◌, List, [], ◌∷◌, ◌++◌, length, take, drop, fold, slice_index, take_while, Option, Some, None, Bool, true, false, not, ◌&&◌, ◌||◌, if◌then◌else◌, ◌==◌, nat_lt, nat_le}
use Rattle.ms_syntax.specs.declared.token.Token.{Token}
use Rattle.ms_syntax.specs.declared.token.Token.TheVariants as t
use Rattle.ms_syntax.specs.declared.token.Keyword.{Keyword}
use Rattle.ms_syntax.specs.declared.token.Symbol.{Symbol}
use Rattle.ms_syntax.specs.declared.token.Symbol.TheVariants as s
use Rattle.ms_syntax.specs.declared.token.LexKind.{LexKind}
use Rattle.ms_syntax.specs.declared.token.LexKind.TheVariants.{BadByte, OpenText, OpenComment, BigNumber}
use Rattle.ms_syntax.specs.Keywords.{all_keywords, keyword_among}

-- white space or a comment, or a token, with how many bytes it has; or a fault, with how far behind the front its byte is
pub data Form : Type 0 where
  blank : ℕ → Form
  token : Token → ℕ → Form
  fault : LexKind → ℕ → Form

-- ---- bytes

-- a space, a tab, a carriage return or a line feed
abbrev pub is_white : ℕ → Bool
is_white b = b == 32 || b == 9 || b == 13 || b == 10

abbrev pub is_digit : ℕ → Bool
is_digit b = nat_le 48 b && nat_le b 57

abbrev pub is_letter : ℕ → Bool
is_letter b = (nat_le 65 b && nat_le b 90) || (nat_le 97 b && nat_le b 122)

-- a letter, a digit or `_`
abbrev pub is_name_byte : ℕ → Bool
is_name_byte b = is_letter b || is_digit b || b == 95

-- how many bytes from the front are of a kind
abbrev pub run : (ℕ → Bool) → List ℕ → ℕ
run p bytes = length (take_while p bytes)

-- the byte at an index, 0 past the end
abbrev pub byte_at : List ℕ → ℕ → ℕ
byte_at bytes n = slice_index bytes n

-- ---- words

-- the keyword that is spelled so
unfoldable pub keyword : List ℕ → Option Keyword
keyword w = keyword_among all_keywords w

-- a name is no keyword
abbrev pub word_of : Option Keyword → List ℕ → Token
word_of None w = t.Name w
word_of (Some x) w = t.Keyword x

unfoldable pub word : List ℕ → Form
word bytes = let n = run is_name_byte bytes in token (word_of (keyword (take n bytes)) (take n bytes)) n

-- ---- numbers

abbrev pub number_of : List ℕ → ℕ
number_of digits = fold (λ n d. 10 * n + (d - 48)) 0 digits

abbrev pub max_number : ℕ
max_number = 9223372036854775807

-- no letter and no `_` stands directly behind a number
abbrev pub sticks_to_number : ℕ → Bool
sticks_to_number b = is_letter b || b == 95

unfoldable pub number : List ℕ → Form
number bytes =
    let n = run is_digit bytes in
    let value = number_of (take n bytes) in
    if nat_lt max_number value then fault BigNumber 0
    else (if sticks_to_number (byte_at bytes n) then fault BadByte n else token (t.Number value) n)

-- ---- texts

-- what a backslash before this byte means: `\n`, `\t`, `\"` and `\\`
abbrev pub escape : ℕ → Option ℕ
escape b = if b == 110 then Some 10 else (if b == 116 then Some 9 else (if b == 34 then Some 34 else (if b == 92 then Some 92 else None)))

-- a byte that stands for itself in a text: a tab, or from 0x20 on but not 0x7F, a quote or a backslash
abbrev pub is_plain : ℕ → Bool
is_plain b = b == 9 || (nat_le 32 b && not (b == 127 || b == 34 || b == 92))

abbrev pub with_some : Option ℕ → (ℕ → Form) → Form → Form
with_some None f other = other
with_some (Some c) f other = f c

-- The form of a text, of which n bytes that mean `value` are read, and the bytes are still to come. `true`: a backslash comes before them.
unfoldable pub text : Bool → ℕ → List ℕ → List ℕ → Form
text true n value [] = fault BadByte n
text true n value (b ∷ bs) = with_some (escape b) (λ c. text false (n + 2) (value ++ c ∷ []) bs) (fault BadByte n)
text false n value [] = fault OpenText 0
text false n value (b ∷ bs) =
    if b == 34 then token (t.Text value) (n + 1)
    else (if b == 10 then fault OpenText 0
    else (if b == 92 then text true n value bs
    else (if is_plain b then text false (n + 1) (value ++ b ∷ []) bs else fault BadByte n)))

-- ---- comments

-- behind n bytes of a comment, up to the first `*/`
unfoldable pub comment : ℕ → List ℕ → Form
comment n [] = fault OpenComment 0
comment n (b ∷ bs) = if b == 42 && byte_at bs 0 == 47 then blank (n + 2) else comment (n + 1) bs

abbrev pub is_in_line : ℕ → Bool
is_in_line b = not (b == 10)

-- ---- symbols

abbrev pub one : Symbol → Form
one x = token (t.Symbol x) 1

abbrev pub two : Symbol → Form
two x = token (t.Symbol x) 2

-- the longest that begins with the byte b, before the bytes c and d
abbrev pub symbol : ℕ → ℕ → ℕ → Form
symbol b c d =
    if b == 60 then (if c == 45 then (if d == 62 then token (t.Symbol s.DoubleArrow) 3 else two s.LeftArrow) else (if c == 61 then two s.AtMost else one s.Less))
    else (if b == 45 then (if c == 62 then two s.RightArrow else one s.Minus)
    else (if b == 62 then (if c == 61 then two s.AtLeast else one s.Greater)
    else (if b == 61 then (if c == 61 then two s.Equal else one s.Equal)
    else (if b == 33 then (if c == 61 then two s.NotEqual else fault BadByte 0)
    else (if b == 92 then (if c == 47 then two s.Or else fault BadByte 0)
    else (if b == 47 then (if c == 92 then two s.And else fault BadByte 0)
    else (if b == 46 then (if c == 46 then two s.DotDot else fault BadByte 0)
    else (if b == 43 then (if c == 43 then two s.PlusPlus else one s.Plus)
    else (if b == 58 then (if c == 58 then two s.ColonColon else one s.Colon)
    else (if b == 91 then (if c == 124 then two s.OpenRows else one s.OpenBracket)
    else (if b == 124 then (if c == 93 then two s.CloseRows else one s.Bar)
    else (if b == 42 then one s.Star
    else (if b == 40 then one s.OpenParenthesis
    else (if b == 41 then one s.CloseParenthesis
    else (if b == 93 then one s.CloseBracket
    else (if b == 123 then one s.OpenBrace
    else (if b == 125 then one s.CloseBrace
    else (if b == 44 then one s.Comma
    else (if b == 59 then one s.Semicolon
    else fault BadByte 0)))))))))))))))))))

-- ---- all together

unfoldable pub form : List ℕ → Form
form [] = blank 0
form (b ∷ bs) =
    if is_white b then blank 1
    else (if b == 37 then blank (run is_in_line (b ∷ bs))
    else (if is_letter b then word (b ∷ bs)
    else (if is_digit b then number (b ∷ bs)
    else (if b == 34 then text false 1 [] bs
    else (if b == 47 && byte_at bs 0 == 42 then comment 2 (drop 1 bs)
    else symbol b (byte_at bs 0) (byte_at bs 1))))))
