use Rattle.std.proofs.Common.{◌≡◌, ◌++◌, drop}
use Rattle.ms_syntax.specs.Tree.{gens_view}
use Rattle.ms_typing.specs.Term.{gens_sets}
use Rattle.ms_elaborator.proofs.asked.asked_of_sets.Given as goal

abbrev pub invariant-loop-generator : goal.invariant-loop-generator
invariant-loop-generator l = l.asked.items ++ gens_sets (gens_view (drop l._generator-index l.list)) ≡ gens_sets (gens_view l.list)
