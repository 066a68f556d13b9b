use Rattle.std.proofs.Common.{◌≡◌, ◌++◌, drop, map}
use Rattle.std.specs.Prelude.{option_map}
use Rattle.ms_syntax.specs.Tree.{exs_view, names_view}
use Rattle.ms_declarations.specs.Declaring.{names_in}
use Rattle.ms_declarations.proofs.items.all_names.Given as goal

abbrev pub invariant-loop-element : goal.invariant-loop-element
invariant-loop-element l = names_in (exs_view l.elements) ≡ option_map (λ ns. names_view l.names.items ++ ns) (names_in (exs_view (drop l.element-index l.elements)))
