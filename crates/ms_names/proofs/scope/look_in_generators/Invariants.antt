use Rattle.std.proofs.Common.{◌≡◌, length, []}
use Rattle.ms_syntax.specs.Tree.{gens_view}
use Rattle.ms_typing.specs.Term.{with_gens}
use Rattle.ms_names.specs.Looked.{looked}
use Rattle.ms_names.proofs.scope.look_in_generators.Given as goal

abbrev pub decreases-loop-generator : goal.decreases-loop-generator
decreases-loop-generator l = length l.rest

abbrev pub invariant-loop-generator : goal.invariant-loop-generator
invariant-loop-generator l = looked l.fn.first (with_gens (gens_view l.generators) []) l.name ≡ looked l.number (with_gens (gens_view l.rest) []) l.name
