-- What stands where nothing can be taken, told without the cut.
use Rattle.std.specs.Prelude.{◌≡◌, ◌≢◌, ℕ, ◌+◌, ◌≤◌, ◌<◌, List, [], ◌∷◌, ◌++◌, length, take, None, false, IsTrue}
use Rattle.ms_syntax.specs.declared.token.Token.{Token}
use Rattle.ms_syntax.specs.declared.token.LexKind.{LexKind}
use Rattle.ms_syntax.specs.declared.token.LexKind.TheVariants.{BadByte, OpenText, OpenComment, BigNumber}
use Rattle.ms_syntax.specs.Form.{is_white, is_plain, escape, number_of, max_number, sticks_to_number, byte_at}
use Rattle.ms_forms.specs.Blank.{IsLineEnd, HoldsNoClose}
use Rattle.ms_forms.specs.Spelling.{Spells, IsDigits, Means}

-- what a backslash before these bytes would begin is no escape
abbrev pub BeginsNoEscape : List ℕ → Type 0
BeginsNoEscape [] = Unit {0}
BeginsNoEscape (b ∷ bs) = escape b ≡ None

-- Nothing can be taken at the front of the bytes: a fault of this kind, n bytes on. Where `no_token` stands, no white space, comment or text begins either.
pub data Fails : List ℕ → LexKind → ℕ → Type 0 where
  too_big : (bytes digits rest : List ℕ) → bytes ≡ digits ++ rest → IsDigits digits → max_number < number_of digits → Fails bytes BigNumber 0
  stuck : (bytes digits rest : List ℕ) (b : ℕ) → bytes ≡ digits ++ b ∷ rest → IsDigits digits → number_of digits ≤ max_number → IsTrue (sticks_to_number b) → Fails bytes BadByte (length digits)
  open_text : (bytes inner w rest : List ℕ) → bytes ≡ 34 ∷ inner ++ rest → Means inner w → IsLineEnd rest → Fails bytes OpenText 0
  not_in_text : (bytes inner w rest : List ℕ) (b : ℕ) → bytes ≡ 34 ∷ inner ++ b ∷ rest → Means inner w → is_plain b ≡ false → b ≢ 34 → b ≢ 10 → b ≢ 92 → Fails bytes BadByte (1 + length inner)
  no_escape : (bytes inner w rest : List ℕ) → bytes ≡ 34 ∷ inner ++ 92 ∷ rest → Means inner w → BeginsNoEscape rest → Fails bytes BadByte (1 + length inner)
  open_comment : (bytes rest : List ℕ) → bytes ≡ 47 ∷ 42 ∷ rest → HoldsNoClose rest → Fails bytes OpenComment 0
  no_token : (b : ℕ) (rest : List ℕ) → is_white b ≡ false → b ≢ 37 → b ≢ 34 → (b ≡ 47 → byte_at rest 0 ≢ 42) → ((t : Token) (m : ℕ) → m ≤ length (b ∷ rest) → Spells t (take m (b ∷ rest)) → ⊥) → Fails (b ∷ rest) BadByte 0
