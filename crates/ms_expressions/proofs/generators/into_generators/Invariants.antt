use Rattle.std.proofs.Common.{◌≡◌, length, map}
use Rattle.std.specs.Vec.Iter.{into_iter_items, into_iter_len}
use Rattle.ms_syntax.specs.Tree.{names_view, exs_view, generator_view}
use Rattle.ms_expressions.specs.Rules.{generators_from, generators_of}
use Rattle.ms_expressions.proofs.Gathered.{gathered}
use Rattle.ms_expressions.proofs.generators.into_generators.Given as goal

abbrev pub invariant-loop-e : goal.invariant-loop-e
invariant-loop-e l =
    (into_iter_len l.e-iterator ≡ length (into_iter_items l.e-iterator))
    × (gathered (map generator_view l.found.items) (generators_from (names_view l.names.items) (exs_view (into_iter_items l.e-iterator))) ≡ generators_of (exs_view l.fn.list.items))
