use Rattle.std.proofs.Common.{◌≡◌, drop, map}
use Rattle.std.specs.List.{flat_map}
use Rattle.ms_syntax.specs.Tree.{item_view, names_view}
use Rattle.ms_declarations.specs.Depends.{restrained}
use Rattle.ms_declarations.specs.Drawing.{first_marked}
use Rattle.ms_declarations.proofs.cycle.first_marked.Given as goal

abbrev pub invariant-loop-item : goal.invariant-loop-item
invariant-loop-item l = first_marked (names_view l.names) l.marks (flat_map restrained (map item_view l.items))
    ≡ first_marked (names_view l.names) l.marks (flat_map restrained (map item_view (drop l.item-index l.items)))
