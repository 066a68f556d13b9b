use Rattle.std.proofs.Common.{◌≡◌, length, []}
use Rattle.ms_syntax.specs.Tree.{decls_view}
use Rattle.ms_typing.specs.Term.{with_locals}
use Rattle.ms_names.specs.Looked.{looked}
use Rattle.ms_names.proofs.scope.look_in_locals.Given as goal

abbrev pub decreases-loop-local : goal.decreases-loop-local
decreases-loop-local l = length l.rest

abbrev pub invariant-loop-local : goal.invariant-loop-local
invariant-loop-local l = looked l.fn.first (with_locals (decls_view l.locals) []) l.name ≡ looked l.number (with_locals (decls_view l.rest) []) l.name
