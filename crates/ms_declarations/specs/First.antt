-- The first fault of what a model and a library declare.
use Rattle.std.specs.Prelude.{◌≡◌, List, ◌++◌, Option, Some, None, true, false, Result, Ok}
use Rattle.std.specs.Result.{IsErr}
use Rattle.std.specs.declared.alloc.AllocError.{AllocError}
use Rattle.ms_declarations.specs.declared.stop.Stop.{Stop}
use Rattle.ms_declarations.specs.declared.stop.Stop.TheVariants as s
use Rattle.ms_syntax.specs.declared.token.Place.{Place}
use Rattle.ms_syntax.specs.Tree.{It}
use Rattle.ms_declarations.specs.declared.fault.DeclarationFault.{DeclarationFault}
use Rattle.ms_declarations.specs.declared.fault.DeclarationFault.TheVariants as f
use Rattle.ms_declarations.specs.Include.{first_include, has_solve}
use Rattle.ms_declarations.specs.Declaring.{declarations, first_clash}
use Rattle.ms_declarations.specs.Depends.{FirstCycle, HasNoCycle}

-- what stands before faults of a later kind: the library's text comes before the model's

abbrev pub foreign : List It → List It → Option Place
foreign model library = first_include (library ++ model)

abbrev pub repeated : List It → List It → Option (Place × Place)
repeated model library = first_clash (declarations library ++ declarations model)

-- no file is included that may not be, no name is declared twice, and the model has a solve item
pub record IsDeclared (model library : List It) : Type 0 where
  pub files : foreign model library ≡ None
  pub names : repeated model library ≡ None
  pub solved : has_solve model ≡ true

pub data FirstFault (model library : List It) : Option DeclarationFault → Type 0 where
  include : {p : Place} → foreign model library ≡ Some p → FirstFault model library (Some (f.Include p))
  twice : {p q : Place} → foreign model library ≡ None → repeated model library ≡ Some (p, q) → FirstFault model library (Some (f.Twice p q))
  no_solve : foreign model library ≡ None → repeated model library ≡ None → has_solve model ≡ false → FirstFault model library (Some f.NoSolve)
  cycle_of_library : {p : Place} → IsDeclared model library → FirstCycle library p → FirstFault model library (Some (f.Cycle p))
  cycle_of_model : {p : Place} → IsDeclared model library → HasNoCycle library → FirstCycle model p → FirstFault model library (Some (f.Cycle p))
  none : IsDeclared model library → HasNoCycle library → HasNoCycle model → FirstFault model library None

-- the answer where a search for names that are declared twice ends so
abbrev pub Refuses : Stop → Result (Option DeclarationFault) AllocError → Type 0
Refuses (s.Twice p q) r = r ≡ Ok (Some (f.Twice p q))
Refuses s.Memory r = IsErr r
