use Rattle.std.proofs.Common.{◌≡◌, drop}
use Rattle.ms_syntax.specs.Tree.{indices_view}
use Rattle.ms_typing.specs.Kinds as spec
use Rattle.ms_names.proofs.stands.all_given.Given as goal

abbrev pub invariant-loop-index : goal.invariant-loop-index
invariant-loop-index l = spec.all_given (indices_view l.indices) ≡ spec.all_given (indices_view (drop l.index-index l.indices))
