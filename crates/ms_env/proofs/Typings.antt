-- What has a type has no fault.
use Rattle.std.proofs.Common.{◌≡◌, refl, Err}
use Rattle.ms_typing.specs.declared.types.ExprType.{ExprType}
use Rattle.ms_typing.specs.Least.{Typing, fault, has}
use Rattle.ms_rows.specs.declared.fault.TypeFault.{TypeFault}
use Rattle.ms_rows.specs.declared.fault.TypeFault.TheVariants as e
use Rattle.ms_elaborator.specs.Answers.{TellsOf}
use Rattle.ms_nodes.specs.declared.parts.Elaborated.{Elaborated}
use Rattle.ms_items.specs.Parts.{IsTyped}

only_memory : (r : Typing ExprType) (t : ExprType) (f : TypeFault) → r ≡ has t → TellsOf {V = Elaborated} (λ m. m.kind) r (Err f) → f ≡ e.Memory
only_memory r t (e.Include p) h k = absurd k
only_memory r t (e.Twice p q) h k = absurd k
only_memory r t e.NoSolve h k = absurd k
only_memory r t (e.Cycle p) h k = absurd k
only_memory r t (e.Unknown p) h k = absurd (cc)
only_memory r t (e.Arity p) h k = absurd (cc)
only_memory r t (e.NotKnown p) h k = absurd (cc)
only_memory r t (e.Unsupported p) h k = absurd (cc)
only_memory r t (e.Mismatch p) h k = absurd (cc)
only_memory r t e.Memory h k = refl

type_of_typed : (r : Typing ExprType) → IsTyped r → (t : ExprType) × (r ≡ has t)
type_of_typed (has t) h = (t, refl)
type_of_typed (fault c p) h = absurd (cc)

pub lacks_memory : (r : Typing ExprType) (f : TypeFault) → IsTyped r → TellsOf {V = Elaborated} (λ m. m.kind) r (Err f) → f ≡ e.Memory
lacks_memory r f h k = let t = type_of_typed r h in only_memory r t.0 f t.1 k
