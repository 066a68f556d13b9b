-- What a call answers where one value is written so, or one fault stands; and that tokens have an
-- answer.
use Rattle.std.specs.Prelude.{◌≡◌, ◌≤◌, ◌<◌, ◌-◌, ◌⊎◌, ℕ, Result, Ok, Err}
use Rattle.ms_syntax.specs.Grammar.{Tokens, IsShallow, SyntaxAt, DeepAt}
use Rattle.ms_cursor.specs.declared.stop.Stop.{Stop}
use Rattle.ms_cursor.specs.declared.stop.Stop.TheVariants as stop
use Rattle.ms_parser.specs.declared.fault.ParseFault.{ParseFault}
use Rattle.ms_parser.specs.declared.fault.ParseFault.TheVariants.{Syntax, Deep, Memory}

abbrev pub GivesUnlessMemory : {X A : Type 0} → (X → A) → A → Result X ParseFault → Type 0
GivesUnlessMemory view x (Ok e) = view e ≡ x
GivesUnlessMemory view x (Err Memory) = Unit {0}
GivesUnlessMemory view x (Err (Syntax k)) = ⊥
GivesUnlessMemory view x (Err (Deep k)) = ⊥

abbrev pub FailsUnlessMemory : {X : Type 0} → ParseFault → Result X ParseFault → Type 0
FailsUnlessMemory fault (Ok a) = ⊥
FailsUnlessMemory fault (Err Memory) = Unit {0}
FailsUnlessMemory fault (Err (Syntax k)) = fault ≡ Syntax k
FailsUnlessMemory fault (Err (Deep k)) = fault ≡ Deep k

-- a value is written as the tokens and they are shallow, or a token is the first that cannot stand
-- there, or the first that nests too deep
abbrev pub HasAnswer : {A : Type 0} → (A → Tokens → Type 0) → Tokens → Type 0
HasAnswer {A} writes ts =
    ((x : A) × writes x ts × IsShallow ts)
    ⊎ ((k : ℕ) × SyntaxAt writes ts k)
    ⊎ ((k : ℕ) × DeepAt writes ts k)

-- of n tokens, a fault told by how many are left tells of one of them, or of their end
abbrev pub IsWithin : {X : Type 0} → ℕ → Result X Stop → Type 0
IsWithin n (Ok a) = Unit {0}
IsWithin n (Err stop.Memory) = Unit {0}
IsWithin n (Err (stop.Syntax left)) = left ≤ n
IsWithin n (Err (stop.Deep left)) = left < n

-- the same with a fault told by its place from the front
abbrev pub from_front : {X : Type 0} → ℕ → Result X Stop → Result X ParseFault
from_front n (Ok a) = Ok a
from_front n (Err stop.Memory) = Err Memory
from_front n (Err (stop.Syntax left)) = Err (Syntax (n - left))
from_front n (Err (stop.Deep left)) = Err (Deep (n - left - 1))
