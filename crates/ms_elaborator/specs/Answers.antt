-- What the code answers of types.
use Rattle.std.specs.Prelude.{◌≡◌, List, Result, Ok, Err}
use Rattle.ms_typing.specs.declared.types.ExprType.{ExprType}
use Rattle.ms_typing.specs.declared.types.Cause.TheVariants as cause
use Rattle.ms_typing.specs.Least.{Typing, has, fault}
use Rattle.ms_rows.specs.declared.fault.TypeFault.{TypeFault}
use Rattle.ms_rows.specs.declared.fault.TypeFault.TheVariants as e

-- the same as `Tells`, of a value of the code that stands for a list
abbrev pub TellsAll : {V : Type 0} → (V → List ExprType) → Typing (List ExprType) → Result V TypeFault → Type 0
TellsAll items r (Ok v) = r ≡ has (items v)
TellsAll items r (Err (e.Include p)) = ⊥
TellsAll items r (Err (e.Twice p q)) = ⊥
TellsAll items r (Err e.NoSolve) = ⊥
TellsAll items r (Err (e.Cycle p)) = ⊥
TellsAll items r (Err (e.Unknown p)) = r ≡ fault cause.Unknown p
TellsAll items r (Err (e.Arity p)) = r ≡ fault cause.Arity p
TellsAll items r (Err (e.NotKnown p)) = r ≡ fault cause.NotKnown p
TellsAll items r (Err (e.Unsupported p)) = r ≡ fault cause.Unsupported p
TellsAll items r (Err (e.Mismatch p)) = r ≡ fault cause.Mismatch p
TellsAll items r (Err e.Memory) = Unit {0}

-- the same, of what is seen of the answer
abbrev pub TellsOf : {V A : Type 0} → (V → A) → Typing A → Result V TypeFault → Type 0
TellsOf seen r (Ok v) = r ≡ has (seen v)
TellsOf seen r (Err (e.Include p)) = ⊥
TellsOf seen r (Err (e.Twice p q)) = ⊥
TellsOf seen r (Err e.NoSolve) = ⊥
TellsOf seen r (Err (e.Cycle p)) = ⊥
TellsOf seen r (Err (e.Unknown p)) = r ≡ fault cause.Unknown p
TellsOf seen r (Err (e.Arity p)) = r ≡ fault cause.Arity p
TellsOf seen r (Err (e.NotKnown p)) = r ≡ fault cause.NotKnown p
TellsOf seen r (Err (e.Unsupported p)) = r ≡ fault cause.Unsupported p
TellsOf seen r (Err (e.Mismatch p)) = r ≡ fault cause.Mismatch p
TellsOf seen r (Err e.Memory) = Unit {0}
