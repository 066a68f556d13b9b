-- Which models are well typed beside a library, and which fault of another comes first.
use Rattle.std.specs.Prelude.{◌≡◌, ◌⊎◌, List, Option, Some, None, Result, Ok, Err}
use Rattle.ms_syntax.specs.Tree.{It}
use Rattle.ms_typing.specs.declared.types.Cause.TheVariants as cause
use Rattle.ms_typing.specs.Items.{world_of}
use Rattle.ms_typing.specs.Judged.{HasFirstFault, IsWellTyped}
use Rattle.ms_names.specs.Worlds.{world_view}
use Rattle.ms_typing.specs.Meaning.{World}
use Rattle.ms_code.specs.Items.{items_code}
use Rattle.ms_declarations.specs.declared.fault.DeclarationFault.TheVariants as d
use Rattle.ms_declarations.specs.First.{FirstFault}
use Rattle.ms_rows.specs.declared.fault.TypeFault.{TypeFault}
use Rattle.ms_rows.specs.declared.fault.TypeFault.TheVariants as e
use Rattle.ms_types.specs.declared.found.Found.{Found}
use Rattle.ms_types.specs.declared.found.Trees.{Trees}

-- no fault in what is declared, and each item has its types
pub record IsAccepted (model library : List It) : Type 0 where
  pub declared : FirstFault model library None
  pub typed : IsWellTyped model library

-- the faults of declarations come before those of types
abbrev pub HasFault : List It → List It → TypeFault → Type 0
HasFault model library (e.Include p) = FirstFault model library (Some (d.Include p))
HasFault model library (e.Twice p q) = FirstFault model library (Some (d.Twice p q))
HasFault model library e.NoSolve = FirstFault model library (Some d.NoSolve)
HasFault model library (e.Cycle p) = FirstFault model library (Some (d.Cycle p))
HasFault model library (e.Unknown p) = FirstFault model library None × HasFirstFault model library cause.Unknown p
HasFault model library (e.Arity p) = FirstFault model library None × HasFirstFault model library cause.Arity p
HasFault model library (e.Unsupported p) = FirstFault model library None × HasFirstFault model library cause.Unsupported p
HasFault model library (e.NotKnown p) = FirstFault model library None × HasFirstFault model library cause.NotKnown p
HasFault model library (e.Mismatch p) = FirstFault model library None × HasFirstFault model library cause.Mismatch p
HasFault model library e.Memory = ⊥

-- it is found, unless memory does not suffice
abbrev pub Succeeds : {A : Type 0} → Result A TypeFault → Type 0
Succeeds (Ok a) = Unit {0}
Succeeds (Err f) = f ≡ e.Memory

abbrev pub FailsBy : {A : Type 0} → TypeFault → Result A TypeFault → Type 0
FailsBy f r = (r ≡ Err f) ⊎ (r ≡ Err e.Memory)

-- ---- what is found on the way

abbrev pub IsFound : List It → List It → TypeFault → Type 0
IsFound model library f = (f ≡ e.Memory) ⊎ HasFault model library f

-- no fault of declarations, or the first one
abbrev pub Declares : List It → List It → Result (Unit {0}) TypeFault → Type 0
Declares model library (Ok a) = FirstFault model library None
Declares model library (Err f) = IsFound model library f

-- each item has its types, or the first fault
abbrev pub HasTypes : {A : Type 0} → List It → List It → Result A TypeFault → Type 0
HasTypes model library (Ok a) = IsWellTyped model library
HasTypes model library (Err f) = IsFound model library f

-- the typed trees of the items of both
abbrev pub AreTrees : World → List It → List It → Trees → Type 0
AreTrees world model library t = (t.items ≡ items_code world model) × (t.library_items ≡ items_code world library)

-- the names of a model that is accepted with its typed trees, or its first fault
abbrev pub Decides : List It → List It → Result Found TypeFault → Type 0
Decides model library (Ok found) = IsAccepted model library × ((world_view found.world ≡ world_of model library) × AreTrees (world_of model library) model library found.trees)
Decides model library (Err f) = IsFound model library f

-- a model that is accepted, or its first fault
abbrev pub Verdict : {A : Type 0} → List It → List It → Result A TypeFault → Type 0
Verdict model library (Ok a) = IsAccepted model library
Verdict model library (Err f) = IsFound model library f
