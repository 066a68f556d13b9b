-- How deep the deepest of one more is.
use Rattle.std.proofs.Common.{◌≡◌, max, arith, List, [], ◌∷◌, ◌++◌}
use Rattle.ms_tree_nodes.specs.Nodes.{deepest_of}
use Rattle.ms_values.specs.declared.operand.Placed.{Placed}

pub deepest_more : (xs : List Placed) (x : Placed) → deepest_of (xs ++ x ∷ []) ≡ max (deepest_of xs) x.nesting
deepest_more [] x = omega arith
deepest_more (y ∷ ys) x = let ih = deepest_more ys x in omega (arith, ih)
