-- What a tree says of the bytes that are a text of it.
use Rattle.std.proofs.Common.{◌≡◌, ℕ, List, Some, None, true, false, Result, Ok, Err, refl, sym, ap, ◌∙◌, subst, inl, inr}
use Rattle.std.specs.Prelude.{IfOk, IfErr, IsOk}
use Rattle.ms_syntax.specs.Tree.{It, Items}
use Rattle.ms_rows.specs.declared.fault.TypeFault.{TypeFault}
use Rattle.ms_rows.specs.declared.fault.TypeFault.TheVariants as type_fault
use Rattle.ms_types.specs.Faults.{IsFound}
use Rattle.ms_top.specs.declared.plain.PlainModel.{PlainModel}
use Rattle.ms_top.specs.declared.status.Status.{Status}
use Rattle.ms_top.specs.declared.status.Status.TheVariants.{Done, Usage, ReadFault, Refused, WriteFault, NoMemory}
use Rattle.ms_top.specs.declared.status.Fault.TheVariants.{LongFile, Lex, Syntax, Deep, Typing, Form}
use Rattle.ms_top.specs.Faults.{IsAccepted, IsShort}
use Rattle.ms_top.specs.Plain.{IsPlain, is_small, plain_of}
use Rattle.ms_top.specs.Refusal.{Refuses, RefusesTree, type_refusal}
use Rattle.ms_top.specs.Typing.{IsTextOf, IsWellTyped, library}

-- ---- trees that are no small model of the plain form

pub not_small : (tree : Items) (read m : PlainModel) → plain_of tree ≡ Some read → is_small read ≡ false → IsPlain m tree → ⊥
not_small tree read m h not_so p =
    let some : Some read ≡ Some m = sym h ∙ p.0 in
    let same : read ≡ m = cc in
    let small : is_small m ≡ true = p.1 in
    absurd (let e : true ≡ false = sym small ∙ ap is_small (sym same) ∙ not_so in cc)

pub not_read : (tree : Items) (m : PlainModel) → plain_of tree ≡ None → IsPlain m tree → ⊥
not_read tree m h p = absurd (let e : None ≡ Some m = sym h ∙ p.0 in cc)

-- ---- types beside the library

refused_so : (tree : Items) (f : TypeFault) → IsFound tree.0 library f → RefusesTree tree (type_refusal f)
refused_so tree (type_fault.Include p) (inl q) = absurd (cc)
refused_so tree (type_fault.Include p) (inr h) = h
refused_so tree (type_fault.Twice p r) (inl q) = absurd (cc)
refused_so tree (type_fault.Twice p r) (inr h) = h
refused_so tree type_fault.NoSolve (inl q) = absurd (cc)
refused_so tree type_fault.NoSolve (inr h) = h
refused_so tree (type_fault.Cycle p) (inl q) = absurd (cc)
refused_so tree (type_fault.Cycle p) (inr h) = h
refused_so tree (type_fault.Unknown p) (inl q) = absurd (cc)
refused_so tree (type_fault.Unknown p) (inr h) = h
refused_so tree (type_fault.Arity p) (inl q) = absurd (cc)
refused_so tree (type_fault.Arity p) (inr h) = h
refused_so tree (type_fault.NotKnown p) (inl q) = absurd (cc)
refused_so tree (type_fault.NotKnown p) (inr h) = h
refused_so tree (type_fault.Unsupported p) (inl q) = absurd (cc)
refused_so tree (type_fault.Unsupported p) (inr h) = h
refused_so tree (type_fault.Mismatch p) (inl q) = absurd (cc)
refused_so tree (type_fault.Mismatch p) (inr h) = h
refused_so tree type_fault.Memory h = tt

-- the same of a list that is that of the library's items
pub type_refused : (tree : Items) (items : List It) (f : TypeFault) (status : Status) → items ≡ library → status ≡ type_refusal f → IsFound tree.0 items f → RefusesTree tree status
type_refused tree items f status e is h = subst (RefusesTree tree) (sym is) (refused_so tree f (subst (λ (l : List It). IsFound tree.0 l f) e h))

-- ---- bytes that are a text of the tree

module _ (bytes : List ℕ) (tree : Items) (short : IsShort bytes) (text : IsTextOf tree bytes) where
  -- where it is well typed and a small model of the plain form
  pub tree_accepted : (r : Result PlainModel Status) → (IsOk r → IsWellTyped tree) → IfOk r (λ m. IsPlain m tree) → IfOk r (λ m. IsAccepted bytes m)
  tree_accepted (Ok m) w p = (short, (tree, text, w refl, p))
  tree_accepted (Err status) w p = tt

  refused_text : (status : Status) → RefusesTree tree status → Refuses bytes status
  refused_text (Refused (Typing fault)) h = (short, (tree, text, h))
  refused_text (Refused (Form file)) h = (h.0, short, (tree, text, h.1, h.2))
  refused_text (Refused (LongFile file)) h = absurd h
  refused_text (Refused (Lex place kind)) h = absurd h
  refused_text (Refused (Syntax place)) h = absurd h
  refused_text (Refused (Deep place)) h = absurd h
  refused_text NoMemory h = tt
  refused_text (Done closing limit) h = absurd h
  refused_text Usage h = absurd h
  refused_text ReadFault h = absurd h
  refused_text WriteFault h = absurd h

  -- where it is not
  pub tree_refused : (r : Result PlainModel Status) → IfErr r (λ e. RefusesTree tree e) → IfErr r (λ e. Refuses bytes e)
  tree_refused (Ok m) h = tt
  tree_refused (Err status) h = refused_text status h
