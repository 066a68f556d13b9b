-- What the functions that read bytes ensure, want of memory aside.
use Rattle.std.specs.Prelude.{◌≡◌, ℕ, ◌≤◌, ◌<◌, ◌+◌, List, Option, Some, None, Result, Ok, Err, Vec}
use Rattle.std.specs.declared.alloc.Global.{Global}
use Rattle.ms_syntax.specs.declared.token.Token.{Token}
use Rattle.ms_syntax.specs.declared.token.Token.TheVariants as t
use Rattle.ms_syntax.specs.declared.token.Symbol.{Symbol}
use Rattle.ms_syntax.specs.declared.token.Spanned.{Spanned}
use Rattle.ms_syntax.specs.declared.token.LexKind.{LexKind}
use Rattle.ms_syntax.specs.declared.token.LexKind.TheVariants as kind
use Rattle.ms_syntax.specs.Form.{Form, blank, token, fault}
use Rattle.ms_syntax.specs.Cut.{HasFault}
use Rattle.ms_lexer.specs.declared.fault.LexFault.{LexFault}
use Rattle.ms_lexer.specs.declared.fault.LexFault.TheVariants as f
use Rattle.ms_lexer.specs.declared.fault.FormError.{FormError}
use Rattle.ms_lexer.specs.declared.fault.FormError.TheVariants as e

-- ---- one form

-- the form is the one that was read, or the fault that was found
abbrev pub Shows : {X : Type 0} → (X → Form) → Form → Result X FormError → Type 0
Shows view f (Ok x) = f ≡ view x
Shows view f (Err e.Memory) = Unit {0}
Shows view f (Err (e.Fault k n)) = f ≡ fault k n

abbrev pub token_of : Token × ℕ → Form
token_of x = token x.0 x.1

abbrev pub symbol_form : Option (Symbol × ℕ) → Form
symbol_form None = fault kind.BadByte 0
symbol_form (Some x) = token (t.Symbol x.0) x.1

abbrev pub piece_of : Option Token → ℕ → Form
piece_of None n = blank n
piece_of (Some x) n = token x n

-- white space or a comment has no token
abbrev pub piece : Option Token × ℕ → Form
piece x = piece_of x.0 x.1

-- the byte of a fault is one of so many
abbrev pub IsWithin : ℕ → FormError → Type 0
IsWithin n e.Memory = Unit {0}
IsWithin n (e.Fault k m) = m < n

-- ---- all bytes

-- the fault is the first of the bytes
abbrev pub FaultIs : List ℕ → LexFault → Type 0
FaultIs bytes (f.BadByte k) = HasFault bytes kind.BadByte k
FaultIs bytes (f.OpenText k) = HasFault bytes kind.OpenText k
FaultIs bytes (f.OpenComment k) = HasFault bytes kind.OpenComment k
FaultIs bytes (f.BigNumber k) = HasFault bytes kind.BigNumber k
FaultIs bytes f.Memory = Unit {0}

-- the byte of the fault is one of so many
abbrev pub IsAmong : ℕ → LexFault → Type 0
IsAmong n (f.BadByte k) = k < n
IsAmong n (f.OpenText k) = k < n
IsAmong n (f.OpenComment k) = k < n
IsAmong n (f.BigNumber k) = k < n
IsAmong n f.Memory = Unit {0}

-- the fault of a form, behind so many bytes
abbrev pub FaultAt : LexFault → FormError → ℕ → Type 0
FaultAt f.Memory e.Memory start = Unit {0}
FaultAt (f.BadByte k) (e.Fault kind.BadByte n) start = k ≡ start + n
FaultAt (f.OpenText k) (e.Fault kind.OpenText n) start = k ≡ start + n
FaultAt (f.OpenComment k) (e.Fault kind.OpenComment n) start = k ≡ start + n
FaultAt (f.BigNumber k) (e.Fault kind.BigNumber n) start = k ≡ start + n
FaultAt _ _ start = ⊥

-- the fault has this kind and this byte
abbrev pub IsFault : LexKind → ℕ → LexFault → Type 0
IsFault kind.BadByte k x = x ≡ f.BadByte k
IsFault kind.OpenText k x = x ≡ f.OpenText k
IsFault kind.OpenComment k x = x ≡ f.OpenComment k
IsFault kind.BigNumber k x = x ≡ f.BigNumber k

-- these tokens are the answer, unless memory failed
abbrev pub GivesTokens : List Spanned → Result (Vec Spanned Global) LexFault → Type 0
GivesTokens ts (Ok v) = v.items ≡ ts
GivesTokens ts (Err x) = x ≡ f.Memory

-- this fault is the answer, unless memory failed
abbrev pub GivesFault : LexKind → ℕ → Result (Vec Spanned Global) LexFault → Type 0
GivesFault k n (Ok v) = ⊥
GivesFault k n (Err f.Memory) = Unit {0}
GivesFault k n (Err x) = IsFault k n x
