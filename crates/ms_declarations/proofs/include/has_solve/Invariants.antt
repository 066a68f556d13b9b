use Rattle.std.proofs.Common.{◌≡◌, drop, map}
use Rattle.ms_syntax.specs.Tree.{item_view}
use Rattle.ms_declarations.specs.Include.{has_solve}
use Rattle.ms_declarations.proofs.include.has_solve.Given as goal

abbrev pub invariant-loop-item : goal.invariant-loop-item
invariant-loop-item l = has_solve (map item_view l.items) ≡ has_solve (map item_view (drop l.item-index l.items))
