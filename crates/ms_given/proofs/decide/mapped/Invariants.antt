use Rattle.std.proofs.Common.{◌≡◌, [], ℕ, List, drop, take}
use Rattle.std.specs.HashMap.{get}
use Rattle.std.specs.Str.{bytes_eq}
use Rattle.ms_given.specs.Givings.{repeated, source_among}
use Rattle.ms_given.specs.Views.{givings_of}
use Rattle.ms_given.proofs.decide.mapped.Given as goal

abbrev pub invariant-loop-giving : goal.invariant-loop-giving
invariant-loop-giving l =
    (repeated [] (givings_of l.givens) ≡ repeated (givings_of (take l.giving-index l.givens)) (givings_of (drop l.giving-index l.givens)))
    × ((w : List ℕ) → get bytes_eq l.map w ≡ source_among (givings_of (take l.giving-index l.givens)) w)
