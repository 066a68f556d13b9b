-- What is kept of a tree is what it may mean on the declared sets, its size and its nesting.
use Rattle.std.specs.Prelude.{◌≡◌, List}
use Rattle.ms_num.specs.Span.{Span}
use Rattle.ms_trees.specs.Enclosure.{enclosure}
use Rattle.ms_trees.specs.Size as s
use Rattle.ms_trees.specs.declared.tree.Ground.{Ground}
use Rattle.ms_tree_nodes.specs.Nodes.{cap}
use Rattle.ms_values.specs.declared.operand.Placed.{Placed}

abbrev pub kept_of : List Span → Ground → Placed
kept_of sets t = record { tree = t; enclosure = enclosure sets t; size = cap (s.size_of t); nesting = cap (s.nesting_of t) }

-- what stands beside the tree is its own
abbrev pub IsKept : List Span → Placed → Type 0
IsKept sets x = x ≡ kept_of sets x.tree
