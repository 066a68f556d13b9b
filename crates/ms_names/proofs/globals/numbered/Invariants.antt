use Rattle.std.proofs.Common.{◌≡◌, ℕ, List, take}
use Rattle.std.specs.HashMap.{get}
use Rattle.std.specs.Str.{bytes_eq}
use Rattle.ms_code.specs.References.{number_among}
use Rattle.ms_names.specs.Globals.{globals_view}
use Rattle.ms_names.proofs.globals.numbered.Given as goal

abbrev pub invariant-loop-number : goal.invariant-loop-number
invariant-loop-number l = (w : List ℕ) → get bytes_eq l.numbers w ≡ number_among (globals_view (take l.number l.list)) w
