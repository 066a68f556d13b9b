-- A model is accepted, or has one first fault.
use Rattle.std.proofs.Common.{◌≡◌, List, Option, Some, None, refl, sym, ap, ◌∙◌, subst, ◌⊎◌, inl, inr, Result, Ok, Err}
use Rattle.ms_syntax.specs.declared.token.Place.{Place}
use Rattle.ms_syntax.specs.Tree.{It}
use Rattle.ms_typing.specs.declared.types.ExprType.{ExprType}
use Rattle.ms_typing.specs.declared.types.Cause.{Cause}
use Rattle.ms_typing.specs.declared.types.Cause.TheVariants as cause
use Rattle.ms_typing.specs.Items.{items_terms, model_terms, world_of}
use Rattle.ms_typing.specs.Judged.{HasFirstFault, IsWellTyped}
use Rattle.ms_typing.specs.Least.{Typing, fault, has, typings}
use Rattle.ms_typing.specs.Meaning.{World}
use Rattle.ms_typing.proofs.SharedJudging.{faulteds, judges_all, sounds, types}
use Rattle.ms_declarations.specs.declared.fault.DeclarationFault.{DeclarationFault}
use Rattle.ms_declarations.specs.declared.fault.DeclarationFault.TheVariants as d
use Rattle.ms_declarations.specs.First.{FirstFault}
use Rattle.ms_rows.specs.declared.fault.TypeFault.{TypeFault}
use Rattle.ms_rows.specs.declared.fault.TypeFault.TheVariants as e
use Rattle.ms_types.specs.declared.found.Trees.{Trees}
use Rattle.ms_types.specs.Faults.{AreTrees, FailsBy, HasFault, HasTypes, IsAccepted, IsFound, Succeeds, Verdict}
use Rattle.ms_elaborator.specs.Answers.{TellsOf}
use Rattle.ms_items.specs.Parts.{checked}
use Rattle.ms_types.specs.Walk.{walk_texts}
use Rattle.ms_items.proofs.SharedItems.{then_checked}

-- ---- what the walk answers

texts_walked : (model library : List It) → checked (typings (model_terms model library)) ≡ walk_texts (world_of model library) library model
texts_walked model library = let world = world_of model library in then_checked (items_terms world library) (items_terms world model)

typed_of : (r : Typing (List ExprType)) → checked r ≡ has tt → (ts : List ExprType) × (r ≡ has ts)
typed_of (has ts) q = (ts, refl)
typed_of (fault c p) q = absurd (cc)

fault_of : (r : Typing (List ExprType)) (c : Cause) (p : Place) → checked r ≡ fault c p → r ≡ fault c p
fault_of (has ts) c p q = absurd (cc)
fault_of (fault c' p') c p q = cc

module _ (model library : List It) where
  pub well_typed : walk_texts (world_of model library) library model ≡ has tt → IsWellTyped model library
  well_typed q =
      let t = typed_of (typings (model_terms model library)) (texts_walked model library ∙ q) in
      record { results = t.0; have_types = sounds (model_terms model library) t.0 t.1 }

  first_fault : (c : Cause) (p : Place) → walk_texts (world_of model library) library model ≡ fault c p → HasFirstFault model library c p
  first_fault c p q = judges_all (model_terms model library) (fault c p) (fault_of (typings (model_terms model library)) c p (texts_walked model library ∙ q))

  told : (A : Type 0) (f : TypeFault) → FirstFault model library None → TellsOf {V = A} (λ a. tt) (walk_texts (world_of model library) library model) (Err f) → IsFound model library f
  told A (e.Include p) n q = absurd q
  told A (e.Twice p r) n q = absurd q
  told A e.NoSolve n q = absurd q
  told A (e.Cycle p) n q = absurd q
  told A (e.Unknown p) n q = inr (n, first_fault cause.Unknown p q)
  told A (e.Arity p) n q = inr (n, first_fault cause.Arity p q)
  told A (e.NotKnown p) n q = inr (n, first_fault cause.NotKnown p q)
  told A (e.Unsupported p) n q = inr (n, first_fault cause.Unsupported p q)
  told A (e.Mismatch p) n q = inr (n, first_fault cause.Mismatch p q)
  told A e.Memory n q = inl refl

-- the same among names that are those of both texts
found_types : (A : Type 0) (model library : List It) → FirstFault model library None → (r : Result A TypeFault) → TellsOf {V = A} (λ a. tt) (walk_texts (world_of model library) library model) r → HasTypes model library r
found_types A model library n (Ok a) q = well_typed model library q
found_types A model library n (Err f) q = told model library A f n q

pub types_found : (A : Type 0) (model library : List It) (w : World) (r : Result A TypeFault) → TellsOf {V = A} (λ a. tt) (walk_texts w library model) r
    → FirstFault model library None → w ≡ world_of model library → HasTypes model library r
types_found A model library w r k n q = found_types A model library n r (subst (λ (v : World). TellsOf {V = A} (λ a. tt) (walk_texts v library model) r) q k)

-- what is found among both texts, which are read again for each step
pub decided : (model library m l ms ls : List It) (w : World) (t : Trees) → m ≡ model → l ≡ library → ms ≡ model → ls ≡ library
    → FirstFault model library None → w ≡ world_of m l → (FirstFault ms ls None → w ≡ world_of ms ls → IsWellTyped ms ls) → AreTrees w ms ls t
    → IsAccepted model library × ((w ≡ world_of model library) × AreTrees (world_of model library) model library t)
decided model library m l ms ls w t a b c d first same typed trees =
    let e : w ≡ world_of model library = same ∙ ap (λ (x : List It). world_of x l) a ∙ ap (λ (y : List It). world_of model y) b in
    let k : FirstFault model library None → w ≡ world_of model library → IsWellTyped model library =
    subst (λ (x : List It). FirstFault x library None → w ≡ world_of x library → IsWellTyped x library) c
    (subst (λ (y : List It). FirstFault ms y None → w ≡ world_of ms y → IsWellTyped ms y) d typed) in
    let u : AreTrees w model library t = subst (λ (x : List It). AreTrees w x library t) c (subst (λ (y : List It). AreTrees w ms y t) d trees) in
    (record { declared = first; typed = k first e }, (e, subst (λ (v : World). AreTrees v model library t) e u))

-- ---- one answer

abbrev declaration_fault : DeclarationFault → TypeFault
declaration_fault (d.Include p) = e.Include p
declaration_fault (d.Twice p q) = e.Twice p q
declaration_fault d.NoSolve = e.NoSolve
declaration_fault (d.Cycle p) = e.Cycle p

abbrev type_fault : Cause → Place → TypeFault
type_fault cause.Unknown p = e.Unknown p
type_fault cause.Arity p = e.Arity p
type_fault cause.Unsupported p = e.Unsupported p
type_fault cause.NotKnown p = e.NotKnown p
type_fault cause.Mismatch p = e.Mismatch p

data Reason (model library : List It) : TypeFault → Type 0 where
  declared : (f : DeclarationFault) → FirstFault model library (Some f) → Reason model library (declaration_fault f)
  typed : (c : Cause) (p : Place) → FirstFault model library None → HasFirstFault model library c p → Reason model library (type_fault c p)

reason : {model library : List It} (f : TypeFault) → HasFault model library f → Reason model library f
reason (e.Include p) h = declared (d.Include p) h
reason (e.Twice p q) h = declared (d.Twice p q) h
reason e.NoSolve h = declared d.NoSolve h
reason (e.Cycle p) h = declared (d.Cycle p) h
reason (e.Unknown p) h = typed cause.Unknown p h.0 h.1
reason (e.Arity p) h = typed cause.Arity p h.0 h.1
reason (e.NotKnown p) h = typed cause.NotKnown p h.0 h.1
reason (e.Unsupported p) h = typed cause.Unsupported p h.0 h.1
reason (e.Mismatch p) h = typed cause.Mismatch p h.0 h.1
reason e.Memory h = absurd h

same_some : {A : Type 0} {a b : A} → ◌≡◌ {A = Option A} (Some a) (Some b) → a ≡ b
same_some q = cc

same_fault : {c c' : Cause} {p p' : Place} → ◌≡◌ {A = Typing (List ExprType)} (fault c p) (fault c' p') → (c ≡ c') × (p ≡ p')
same_fault q = (cc, cc)

some_none : {A : Type 0} {a : A} {X : Type 0} → ◌≡◌ {A = Option A} (Some a) None → X
some_none q = absurd (cc)

abbrev OneFirstFault : Type 0
OneFirstFault = (model library : List It) (a b : Option DeclarationFault) → FirstFault model library a → FirstFault model library b → a ≡ b

module _ (once : OneFirstFault) (model library : List It) where
  same_reason : {f g : TypeFault} → Reason model library f → Reason model library g → f ≡ g
  same_reason (declared a h) (declared b k) = ap declaration_fault (same_some (once model library (Some a) (Some b) h k))
  same_reason (declared a h) (typed c p n k) = some_none (once model library (Some a) None h n)
  same_reason (typed c p n h) (declared b k) = some_none (once model library (Some b) None k n)
  same_reason (typed c p n h) (typed c' p' n' k) =
      let q = same_fault (sym (faulteds h) ∙ faulteds k) in
      ap (λ (x : Cause). type_fault x p) q.0 ∙ ap (type_fault c') q.1

  no_reason : {f : TypeFault} → IsAccepted model library → Reason model library f → ⊥
  no_reason a (declared b k) = some_none (once model library (Some b) None k (a.declared))
  no_reason a (typed c p n k) = let t = types (a.typed.have_types) in let z = faulteds k in absurd (cc)

  pub one_fault : (f g : TypeFault) → HasFault model library f → HasFault model library g → f ≡ g
  one_fault f g h k = same_reason (reason f h) (reason g k)

  pub refuses_not : (f : TypeFault) → IsAccepted model library → HasFault model library f → ⊥
  refuses_not f a h = no_reason a (reason f h)

  lacks_memory : (f : TypeFault) → IsFound model library f → IsAccepted model library → f ≡ e.Memory
  lacks_memory f (inl q) a = q
  lacks_memory f (inr h) a = absurd (refuses_not f a h)

  fails_so : {A : Type 0} (f g : TypeFault) → IsFound model library g → HasFault model library f → FailsBy {A = A} f (Err g)
  fails_so f g (inl q) h = inr (ap Err q)
  fails_so f g (inr k) h = inl (ap Err (one_fault g f k h))

  pub succeeds : {A : Type 0} (r : Result A TypeFault) → Verdict model library r → IsAccepted model library → Succeeds r
  succeeds (Ok a) v k = tt
  succeeds (Err f) v k = lacks_memory f v k

  pub fails : {A : Type 0} (r : Result A TypeFault) → Verdict model library r → (f : TypeFault) → HasFault model library f → FailsBy f r
  fails (Ok a) v f h = absurd (refuses_not f v h)
  fails (Err g) v f h = fails_so f g v h
