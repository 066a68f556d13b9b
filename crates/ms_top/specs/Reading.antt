-- What a function that reads a part of a tree ensures.
use Rattle.std.specs.Prelude.{◌≡◌, ◌≤◌, List, length, drop, Option, Some, None, Result, Ok, Err}
use Rattle.ms_syntax.specs.Tree.{It}
use Rattle.ms_top.specs.declared.form.Unread.{Unread}
use Rattle.ms_top.specs.declared.form.Unread.TheVariants.{NotPlain, Memory}
use Rattle.ms_top.specs.declared.plain.PlainDeclaration.{PlainDeclaration}
use Rattle.ms_top.specs.Plain.{beside, constraints_of, parts_of}

-- nothing is read, since the part is not of the form, or memory ran out
abbrev pub Fails : {B : Type 0} → Option B → Unread → Type 0
Fails read NotPlain = read ≡ None
Fails read Memory = Unit {0}

abbrev pub Gives : {X A : Type 0} → (X → A) → Option A → Result X Unread → Type 0
Gives view read (Ok x) = read ≡ Some (view x)
Gives view read (Err fault) = Fails read fault

-- the declarations that the items begin with, so that the others say what all are
abbrev pub Declares : List It → Result (List PlainDeclaration) Unread → Type 0
Declares items (Ok ds) = (length ds ≤ length items) × (parts_of items ≡ beside ds (constraints_of (drop (length ds) items)))
Declares items (Err fault) = Fails (parts_of items) fault
