use Rattle.std.proofs.Common.{◌≡◌, drop, map}
use Rattle.ms_syntax.specs.Tree.{item_view}
use Rattle.ms_declarations.specs.Include.{first_include}
use Rattle.ms_declarations.proofs.include.first_include.Given as goal

abbrev pub invariant-loop-item : goal.invariant-loop-item
invariant-loop-item l = first_include (map item_view l.items) ≡ first_include (map item_view (drop l.item-index l.items))
