-- Bytes cut from the left into forms, and the tokens among them with their places.
use Rattle.std.specs.Prelude.{◌≡◌, ℕ, ◌+◌, List, [], ◌∷◌, length, take, drop, fold, ◌==◌, if◌then◌else◌}
use Rattle.ms_syntax.specs.declared.token.Place.{Place}
use Rattle.ms_syntax.specs.declared.token.Spanned.{Spanned}
use Rattle.ms_syntax.specs.declared.token.LexKind.{LexKind}
use Rattle.ms_syntax.specs.Form.{Form, blank, token, fault, form}

-- ---- places

-- a line feed begins the next line at column 1; any other byte is one column
abbrev pub next_place : Place → ℕ → Place
next_place p b = if b == 10 then record { file = p.file; line = p.line + 1; col = 1 } else record { file = p.file; line = p.line; col = p.col + 1 }

-- the place behind these bytes of a file: where the byte at k stands, if they are the first k
abbrev pub place_behind : ℕ → List ℕ → Place
place_behind file bytes = fold next_place (record { file = file; line = 1; col = 1 }) bytes

-- ---- cuts

abbrev pub IsPiece : Form → Type 0
IsPiece (blank n) = Unit {0}
IsPiece (token t n) = Unit {0}
IsPiece (fault kind n) = ⊥

abbrev pub size : Form → ℕ
size (blank n) = n
size (token t n) = n
size (fault kind n) = 0

abbrev pub IsMore : List ℕ → Type 0
IsMore [] = ⊥
IsMore (b ∷ bs) = Unit {0}

-- the bytes begin with these forms, each the longest that stands there, and then come the rest
abbrev pub Cuts : List ℕ → List Form → List ℕ → Type 0
Cuts bytes [] rest = bytes ≡ rest
Cuts bytes (f ∷ fs) rest = IsMore bytes × (form bytes ≡ f) × IsPiece f × Cuts (drop (size f) bytes) fs rest

-- the tokens among forms of a file, of which the first is at the byte `start`
abbrev pub spanned : ℕ → List ℕ → ℕ → List Form → List Spanned
spanned file all start [] = []
spanned file all start (blank n ∷ fs) = spanned file all (start + n) fs
spanned file all start (token t n ∷ fs) = record { token = t; start = start; end = start + n; place = place_behind file (take start all) } ∷ spanned file all (start + n) fs
spanned file all start (fault kind n ∷ fs) = spanned file all start fs

-- the bytes have these tokens
abbrev pub HasTokens : ℕ → List ℕ → List Spanned → Type 0
HasTokens file bytes ts = (fs : List Form) × Cuts bytes fs [] × (ts ≡ spanned file bytes 0 fs)

-- the first thing that cannot be taken is of this kind, at the byte k
abbrev pub HasFault : List ℕ → LexKind → ℕ → Type 0
HasFault bytes kind k = (fs : List Form) × (rest : List ℕ) × (n : ℕ) × Cuts bytes fs rest × IsMore rest × (form rest ≡ fault kind n) × (k + length rest ≡ length bytes + n)
