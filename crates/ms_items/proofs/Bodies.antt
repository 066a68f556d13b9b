-- What is typed in a model is typed where all is known: there want of memory alone is a fault.
use Rattle.std.proofs.Common.{◌≡◌, refl, Err}
use Rattle.ms_syntax.specs.Tree.{Ex}
use Rattle.ms_typing.specs.declared.types.ExprType.{ExprType}
use Rattle.ms_typing.specs.declared.types.Surroundings.TheVariants as s
use Rattle.ms_typing.specs.Judged.{TypedWhereKnown}
use Rattle.ms_typing.specs.Least.{Typing, fault, has, typing}
use Rattle.ms_typing.specs.Meaning.{Names, World}
use Rattle.ms_typing.specs.Term.{term_of}
use Rattle.ms_typing.proofs.SharedJudging.{sound, typed}
use Rattle.ms_rows.specs.declared.fault.TypeFault.{TypeFault}
use Rattle.ms_rows.specs.declared.fault.TypeFault.TheVariants as e
use Rattle.ms_elaborator.specs.Answers.{TellsOf}
use Rattle.ms_nodes.specs.declared.parts.Elaborated.{Elaborated}
use Rattle.ms_items.specs.Parts.{IsTyped}

-- what has a type has no fault
only_memory : (r : Typing ExprType) (t : ExprType) (f : TypeFault) → r ≡ has t → TellsOf {V = Elaborated} (λ m. m.kind) r (Err f) → f ≡ e.Memory
only_memory r t (e.Include p) h k = absurd k
only_memory r t (e.Twice p q) h k = absurd k
only_memory r t e.NoSolve h k = absurd k
only_memory r t (e.Cycle p) h k = absurd k
only_memory r t (e.Unknown p) h k = absurd (cc)
only_memory r t (e.Arity p) h k = absurd (cc)
only_memory r t (e.NotKnown p) h k = absurd (cc)
only_memory r t (e.Unsupported p) h k = absurd (cc)
only_memory r t (e.Mismatch p) h k = absurd (cc)
only_memory r t e.Memory h k = refl

type_of_typed : (r : Typing ExprType) → IsTyped r → (t : ExprType) × (r ≡ has t)
type_of_typed (has t) h = (t, refl)
type_of_typed (fault c p) h = absurd (cc)

pub body_lacks_memory : TypedWhereKnown → (world : World) (ns : Names) (body : Ex) (f : TypeFault) → IsTyped (typing (term_of world s.Model ns body))
    → TellsOf {V = Elaborated} (λ m. m.kind) (typing (term_of world s.Called ns body)) (Err f) → f ≡ e.Memory
body_lacks_memory law world ns body f h k =
    let t = type_of_typed (typing (term_of world s.Model ns body)) h in
    let u = typed (law world ns body t.0 (sound (term_of world s.Model ns body) t.0 t.1)) in
    only_memory (typing (term_of world s.Called ns body)) u.0 f u.1 k
