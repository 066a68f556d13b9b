use Rattle.std.proofs.Common.{◌≡◌, ◌++◌, drop}
use Rattle.ms_syntax.specs.Tree.{indices_view}
use Rattle.ms_typing.specs.Kinds as spec
use Rattle.ms_names.proofs.kinds.push_index_sets.Given as goal

abbrev pub invariant-loop-index : goal.invariant-loop-index
invariant-loop-index l = l.fn.asked.items ++ spec.index_sets (indices_view l.indices) ≡ l.asked.items ++ spec.index_sets (indices_view (drop l.index-index l.indices))
