-- What is read of a tree that may mean one thing, or none.
use Rattle.std.specs.Prelude.{ℤ, Bool, false, Option, Some, None, option_map}
use Rattle.ms_trees.specs.declared.tree.Enclosure.{Enclosure}

abbrev pub number_there : Option Enclosure → Option ℤ
number_there None = None
number_there (Some e) = option_map (λ s. s.lo) e.interval

abbrev pub truth_there : Option Enclosure → Bool
truth_there None = false
truth_there (Some e) = e.may_be_true
