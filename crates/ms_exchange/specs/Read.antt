-- Trees that are handed in, read whatever they are: what is no leaf, or may not be asked, has no value.
use Rattle.std.specs.Prelude.{ℤ, pos, Bool, true, false, List, Option, Some, None, if◌then◌else◌}
use Rattle.ms_num.specs.Span.{Span, if_within}
use Rattle.ms_trees.specs.Enclosure.{enclosure}
use Rattle.ms_trees.specs.Size as s
use Rattle.ms_trees.specs.WellFormed.{is_numeric, is_well_formed}
use Rattle.ms_trees.specs.declared.tree.Enclosure.{Enclosure}
use Rattle.ms_trees.specs.declared.tree.Ground.{Ground, out-Ground}
use Rattle.ms_trees.specs.declared.tree.Ground.TheOpen.{Ground-F, Num, True, False}
use Rattle.ms_ground.specs.Known.{known}
use Rattle.ms_tree_nodes.specs.Nodes.{cap}
use Rattle.ms_values.specs.declared.operand.Placed.{Placed}
use Rattle.ms_values.specs.declared.operand.Operand.{Operand}
use Rattle.ms_values.specs.declared.operand.Operand.TheVariants as o

abbrev pub number_layer : {X : Type 0} → Ground-F X → Option ℤ
number_layer (Num n) = if_within n
number_layer True = Some (pos 1)
number_layer False = Some (pos 0)
number_layer other = None

-- the number of a leaf
abbrev pub number_read : Ground → Option ℤ
number_read t = number_layer (out-Ground t)

abbrev pub truth_layer : {X : Type 0} → Ground-F X → Bool
truth_layer True = true
truth_layer other = false

abbrev pub truth_read : Ground → Bool
truth_read t = truth_layer (out-Ground t)

abbrev pub placed : Ground → Enclosure → Placed
placed t e = record { tree = t; enclosure = e; size = cap (s.size_of t); nesting = cap (s.nesting_of t) }

abbrev pub tree_known : Ground → Option Enclosure → Operand
tree_known t None = o.Number None
tree_known t (Some e) = if is_numeric t then o.Integer (placed t e) else o.Condition (placed t e)

-- a tree with what it may mean on these intervals
abbrev pub tree_read : List Span → Ground → Operand
tree_read sets t = tree_known t (known (is_well_formed sets t) (enclosure sets t))
