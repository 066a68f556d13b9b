-- What an answer of types and trees says of types, and of trees.
use Rattle.std.proofs.Common.{◌≡◌, Result, Ok, Err, IfOk, ◌∙◌}
use Rattle.ms_syntax.specs.declared.token.Place.{Place}
use Rattle.ms_typing.specs.declared.types.Cause.{Cause}
use Rattle.ms_typing.specs.declared.types.ExprType.{ExprType}
use Rattle.ms_typing.specs.Least.{Typing, fault, has}
use Rattle.ms_rows.specs.declared.fault.TypeFault.{TypeFault}
use Rattle.ms_rows.specs.declared.fault.TypeFault.TheVariants as e
use Rattle.ms_rows.specs.Forms.{Tells}
use Rattle.ms_code.specs.declared.code.Code.{Code}
use Rattle.ms_nodes.specs.declared.parts.Elaborated.{Elaborated}
use Rattle.ms_elaborator.specs.Answers.{TellsOf}
use Rattle.ms_elaborator.proofs.Shapes.{packed}

faulty : (r : Typing ExprType) (d : Code) (why : Cause) (p : Place) → packed r d ≡ fault why p → r ≡ fault why p
faulty (has t) d why p h = absurd cc
faulty (fault c q) d why p h = cc

typed : (r : Typing ExprType) (d : Code) (m : Elaborated) → packed r d ≡ has m → r ≡ has m.kind
typed (has t) d m h = let k : has t ≡ has m.kind = cc in k
typed (fault c q) d m h = absurd cc

treed : (r : Typing ExprType) (d : Code) (m : Elaborated) → packed r d ≡ has m → m.code ≡ d
treed (has t) d m h = cc
treed (fault c q) d m h = absurd cc

pub tells_type : (r : Typing ExprType) (d : Code) (a : Result Elaborated TypeFault) → Tells (packed r d) a → TellsOf (λ (m : Elaborated). m.kind) r a
tells_type r d (Ok m) h = typed r d m h
tells_type r d (Err (e.Include p)) h = h
tells_type r d (Err (e.Twice p q)) h = h
tells_type r d (Err e.NoSolve) h = h
tells_type r d (Err (e.Cycle p)) h = h
tells_type r d (Err (e.Unknown p)) h = faulty r d _ p h
tells_type r d (Err (e.Arity p)) h = faulty r d _ p h
tells_type r d (Err (e.NotKnown p)) h = faulty r d _ p h
tells_type r d (Err (e.Unsupported p)) h = faulty r d _ p h
tells_type r d (Err (e.Mismatch p)) h = faulty r d _ p h
tells_type r d (Err e.Memory) h = tt {0}

pub tells_tree : (r : Typing ExprType) (d k : Code) (a : Result Elaborated TypeFault) → d ≡ k → Tells (packed r d) a → IfOk a (λ (m : Elaborated). m.code ≡ k)
tells_tree r d k (Ok m) i h = treed r d m h ∙ i
tells_tree r d k (Err f) i h = tt {0}

-- a fault is told alike, whatever is seen of an answer
pub told_alike : {V A : Type 0} → (seen : V → A) (r : Typing A) (g : TypeFault) → TellsOf seen r (Err g) → Tells r (Err g)
told_alike seen r (e.Include p) h = h
told_alike seen r (e.Twice p q) h = h
told_alike seen r e.NoSolve h = h
told_alike seen r (e.Cycle p) h = h
told_alike seen r (e.Unknown p) h = h
told_alike seen r (e.Arity p) h = h
told_alike seen r (e.NotKnown p) h = h
told_alike seen r (e.Unsupported p) h = h
told_alike seen r (e.Mismatch p) h = h
told_alike seen r e.Memory h = h
