use Rattle.std.proofs.Common.{◌≡◌, length, []}
use Rattle.ms_syntax.specs.Tree.{names_view}
use Rattle.ms_typing.specs.Term.{with_names}
use Rattle.ms_names.specs.Looked.{looked}
use Rattle.ms_names.proofs.scope.look_in_binders.Given as goal

abbrev pub decreases-loop-binder : goal.decreases-loop-binder
decreases-loop-binder l = length l.rest

abbrev pub invariant-loop-binder : goal.invariant-loop-binder
invariant-loop-binder l = looked l.fn.first (with_names (names_view l.binders) []) l.name ≡ looked l.number (with_names (names_view l.rest) []) l.name
