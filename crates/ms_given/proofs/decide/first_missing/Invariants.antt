use Rattle.std.proofs.Common.{◌≡◌, ℕ, List, drop}
use Rattle.std.specs.HashMap.{get}
use Rattle.std.specs.Str.{bytes_eq}
use Rattle.ms_given.specs.Givings.{Giving, missing, source_among}
use Rattle.ms_given.specs.Views.{names_in}
use Rattle.ms_given.proofs.decide.first_missing.Given as goal

abbrev pub invariant-loop-name : goal.invariant-loop-name
invariant-loop-name l =
    (givens : List Giving) → ((w : List ℕ) → get bytes_eq l.map w ≡ source_among givens w)
    → missing givens (names_in l.names) ≡ missing givens (names_in (drop l.name-index l.names))
