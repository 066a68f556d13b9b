-- What a status says of the bytes and of what was written, and what becomes of it when it is reported.
use Rattle.std.proofs.Common.{◌≡◌, ℕ, ◌≤◌, List, [], ◌∷◌, length, get_or, Option, None, refl, sym, ap, ◌∙◌, subst, arith, inl, inr}
use Rattle.std.specs.Prelude.{ℤ, ◌⊎◌, String, string_bytes}
use Rattle.std.specs.declared.alloc.Global.{Global}
use Rattle.std.proofs.lemmas.Int.{ints}
use Rattle.ms_base.specs.declared.run.Closing.{Closing}
use Rattle.ms_base.specs.declared.run.Closing.TheVariants as closing
use Rattle.ms_io.specs.Sink.{Gains}
use Rattle.ms_top.specs.declared.plain.PlainModel.{PlainModel}
use Rattle.ms_top.specs.declared.status.Status.{Status}
use Rattle.ms_top.specs.declared.status.Status.TheVariants.{Done, Usage, ReadFault, Refused, WriteFault, NoMemory}
use Rattle.ms_top.specs.declared.status.Fault.{Fault}
use Rattle.ms_top.specs.Answer.{Answers, Exactly, HasLeast, HasNone, IsRun, Remains, SaysName}
use Rattle.ms_top.specs.Faults.{IsAccepted, IsFaulty}
use Rattle.ms_top.specs.Solution.{IsLeast, HasNoSolution, Precedes}
use Rattle.ms_top.specs.Text.{solution_text, unsatisfiable_text}
use Rattle.ms_top.specs.Words.{AsksFor, model_name}

-- ---- the least solution

not_both_ways : (a b : List ℤ) → Precedes a b → Precedes b a → ⊥
not_both_ways [] b p q = absurd p
not_both_ways (x ∷ a) [] p q = absurd p
not_both_ways (x ∷ a) (y ∷ b) (inl p) (inl q) = absurd (omega (arith, ints))
not_both_ways (x ∷ a) (y ∷ b) (inl p) (inr q) = let e = q.0 in absurd (omega (arith, ints))
not_both_ways (x ∷ a) (y ∷ b) (inr p) (inl q) = let e = p.0 in absurd (omega (arith, ints))
not_both_ways (x ∷ a) (y ∷ b) (inr p) (inr q) = not_both_ways a b p.1 q.1

one_least : (m : PlainModel) (a b : List ℤ) → IsLeast m a → IsLeast m b → a ≡ b
one_least m a b least other = by (least.least b other.solution) (other.least a least.solution)
  where
    by : (b ≡ a) ⊎ Precedes a b → (a ≡ b) ⊎ Precedes b a → a ≡ b
    by (inl e) o = sym e
    by (inr p) (inl e) = e
    by (inr p) (inr q) = absurd (not_both_ways a b p q)

-- ---- runs

-- a run of a model that has a least solution, and one of a model that has none
solved : (m : PlainModel) (a : List ℤ) → IsLeast m a → (c : Closing) (text : List ℕ) → IsRun m c text → (c ≡ closing.Plain) × (text ≡ solution_text m a)
solved m a least closing.Plain text (b, other, e) = (refl, e ∙ ap (solution_text m) (one_least m b a other least))
solved m a least closing.Unsatisfiable text (none, e) = absurd (none a least.solution)
solved m a least closing.Complete text h = absurd h
solved m a least closing.Unknown text h = absurd h
solved m a least closing.Stopped text h = absurd h
solved m a least closing.Ended text h = absurd h

unsolved : (m : PlainModel) → HasNoSolution m → (c : Closing) (text : List ℕ) → IsRun m c text → (c ≡ closing.Unsatisfiable) × (text ≡ unsatisfiable_text)
unsolved m none closing.Plain text (b, other, e) = absurd (none b other.solution)
unsolved m none closing.Unsatisfiable text h = (refl, h.1)
unsolved m none closing.Complete text h = absurd h
unsolved m none closing.Unknown text h = absurd h
unsolved m none closing.Stopped text h = absurd h
unsolved m none closing.Ended text h = absurd h

-- ---- answers

-- what is known of bytes, whatever reads them
pub record Laws : Type 0 where
  pub one_fault : (bytes : List ℕ) (fault other : Fault) → IsFaulty bytes fault → IsFaulty bytes other → fault ≡ other
  pub not_both : (bytes : List ℕ) (fault : Fault) (m : PlainModel) → IsFaulty bytes fault → IsAccepted bytes m → ⊥
  pub one_model : (bytes : List ℕ) (m n : PlainModel) → IsAccepted bytes m → IsAccepted bytes n → m ≡ n

module _ (laws : Laws) (bytes : List ℕ) (old new : Option (List ℕ)) where
  -- bytes that are accepted as a model have a run of it, unless a read or a write failed or memory ran out
  ran : (m : PlainModel) → IsAccepted bytes m → (r : Status) → Answers bytes r old new → (r ≡ ReadFault → ⊥) → (r ≡ WriteFault → ⊥)
      → (r ≡ NoMemory) ⊎ ((c : Closing) × (text : List ℕ) × (r ≡ Done c None) × IsRun m c text × Gains old text new)
  ran m accepted (Done c limit) (n, other, (none, (text, run, gains))) read write =
      inr (c, text, ap (Done c) none, subst (λ (q : PlainModel). IsRun q c text) (laws.one_model bytes n m other accepted) run, gains)
  ran m accepted (Refused fault) h read write = absurd (laws.not_both bytes fault m h.0 accepted)
  ran m accepted WriteFault h read write = absurd (write refl)
  ran m accepted ReadFault h read write = absurd (read refl)
  ran m accepted NoMemory h read write = inl refl
  ran m accepted Usage h read write = absurd h

  -- a run that ends in one way and with one text
  ended : (m : PlainModel) (r : Status) (end : Closing) (said : List ℕ) → ((c : Closing) (text : List ℕ) → IsRun m c text → (c ≡ end) × (text ≡ said))
      → (r ≡ NoMemory) ⊎ ((c : Closing) × (text : List ℕ) × (r ≡ Done c None) × IsRun m c text × Gains old text new)
      → (r ≡ NoMemory) ⊎ ((r ≡ Done end None) × Gains old said new)
  ended m r end said only (inl e) = inl e
  ended m r end said only (inr (c, text, e, run, gains)) =
      let is = only c text run in
      inr (e ∙ ap (λ v. Done v None) is.0, subst (λ (t : List ℕ). Gains old t new) is.1 gains)

  pub least_answer : (r : Status) → Answers bytes r old new → (m : PlainModel) (a : List ℤ) → HasLeast bytes m a → (r ≡ ReadFault → ⊥) → (r ≡ WriteFault → ⊥)
      → (r ≡ NoMemory) ⊎ ((r ≡ Done closing.Plain None) × Gains old (solution_text m a) new)
  least_answer r h m a has read write = ended m r closing.Plain (solution_text m a) (solved m a has.least) (ran m has.accepted r h read write)

  pub none_answer : (r : Status) → Answers bytes r old new → (m : PlainModel) → HasNone bytes m → (r ≡ ReadFault → ⊥) → (r ≡ WriteFault → ⊥)
      → (r ≡ NoMemory) ⊎ ((r ≡ Done closing.Unsatisfiable None) × Gains old unsatisfiable_text new)
  none_answer r h m has read write = ended m r closing.Unsatisfiable unsatisfiable_text (unsolved m has.none) (ran m has.accepted r h read write)

  pub refused_answer : (r : Status) → Answers bytes r old new → (r ≡ ReadFault → ⊥) → (fault : Fault) → Exactly (Refused fault) r (IsFaulty bytes fault)
  refused_answer r h read fault = record { only = λ e. (subst (λ (t : Status). Answers bytes t old new) e h).0; always = always r h read }
    where
      always : (r : Status) → Answers bytes r old new → (r ≡ ReadFault → ⊥) → IsFaulty bytes fault → (r ≡ Refused fault) ⊎ (r ≡ NoMemory)
      always (Refused other) h read f = inl (ap Refused (laws.one_fault bytes other fault h.0 f))
      always (Done c limit) h read f = absurd (laws.not_both bytes fault h.0 f h.1)
      always WriteFault h read f = absurd (laws.not_both bytes fault h.0 f h.1)
      always ReadFault h read f = absurd (read refl)
      always NoMemory h read f = inr refl
      always Usage h read f = absurd h

-- ---- the report

module _ (s r : Status) where
  pub remains_answer : (bytes : List ℕ) (old new : Option (List ℕ)) → Remains s r → Answers bytes s old new → Answers bytes r old new
  remains_answer bytes old new (inl e) h = subst (λ (t : Status). Answers bytes t old new) (sym e) h
  remains_answer bytes old new (inr (e, says)) h = subst (λ (t : Status). Answers bytes t old new) (sym e) (nothing s says h)
    where
      nothing : (s : Status) → SaysName s → Answers bytes s old new → new ≡ old
      nothing ReadFault says h = h
      nothing (Refused fault) says h = h.1
      nothing (Done c limit) says h = absurd says
      nothing Usage says h = absurd says
      nothing WriteFault says h = absurd says
      nothing NoMemory says h = absurd says

  pub remains_asks : (name : List ℕ) (old new : List (List ℕ)) → Remains s r → AsksFor name s old new → AsksFor name r old new
  remains_asks name old new (inl e) (inl asked) = inl asked
  remains_asks name old new (inl e) (inr h) = inr (e ∙ h.0, h.1)
  remains_asks name old new (inr h) (inl asked) = inl asked
  remains_asks name old new (inr h) (inr k) = absurd (subst SaysName k.0 h.1)

  -- a status other than that of no memory was there before the report
  pub remains_other : (t : Status) → Remains s r → r ≡ t → (NoMemory ≡ t → ⊥) → s ≡ t
  remains_other t (inl e) h other = sym e ∙ h
  remains_other t (inr k) h other = absurd (other (sym k.0 ∙ h))

-- the second of two words
pub name_is : (words : List (String Global)) (file : String Global) → 2 ≤ length words → file ≡ get_or words 1 file → model_name words ≡ string_bytes file
name_is [] file h e = absurd (omega arith)
name_is (p ∷ []) file h e = absurd (omega arith)
name_is (p ∷ q ∷ more) file h e = ap string_bytes (sym e)
