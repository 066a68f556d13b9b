-- White space and comments, told without the cut.
use Rattle.std.specs.Prelude.{◌≡◌, ℕ, ◌+◌, List, [], ◌∷◌, ◌++◌, length, IsTrue}
use Rattle.std.specs.List.{list_all}
use Rattle.ms_syntax.specs.Form.{is_white, is_in_line, byte_at}

-- the line ends here
abbrev pub IsLineEnd : List ℕ → Type 0
IsLineEnd [] = Unit {0}
IsLineEnd (b ∷ bs) = b ≡ 10

-- no `*/` stands anywhere in the bytes
abbrev pub HoldsNoClose : List ℕ → Type 0
HoldsNoClose bytes = (k : ℕ) → byte_at bytes k ≡ 42 → byte_at bytes (k + 1) ≡ 47 → ⊥

-- n bytes at the front are white space or a comment: one white byte; `%` up to the line feed or the end; `/*` up to the first `*/` that comes after it
pub data IsBlank : List ℕ → ℕ → Type 0 where
  white_byte : (bytes rest : List ℕ) (b : ℕ) → bytes ≡ b ∷ rest → IsTrue (is_white b) → IsBlank bytes 1
  line_comment : (bytes inner rest : List ℕ) → bytes ≡ 37 ∷ inner ++ rest → IsTrue (list_all is_in_line inner) → IsLineEnd rest → IsBlank bytes (1 + length inner)
  closed_comment : (bytes inner rest : List ℕ) → bytes ≡ 47 ∷ 42 ∷ inner ++ 42 ∷ 47 ∷ rest → HoldsNoClose inner → IsBlank bytes (4 + length inner)
