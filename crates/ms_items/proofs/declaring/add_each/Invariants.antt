use Rattle.std.proofs.Common.{◌≡◌, ◌++◌, drop, map}
use Rattle.ms_syntax.specs.Tree.{names_view}
use Rattle.ms_typing.specs.Items.{list_names}
use Rattle.ms_items.proofs.declaring.add_each.Given as goal

abbrev pub invariant-loop-name : goal.invariant-loop-name
invariant-loop-name l = l.fn.places.items ++ map (λ g. l.place) (list_names (names_view l.names)) ≡ l.places.items ++ map (λ g. l.place) (list_names (names_view (drop l._name-index l.names)))
