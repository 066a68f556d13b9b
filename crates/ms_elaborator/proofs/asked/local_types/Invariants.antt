use Rattle.std.proofs.Common.{◌≡◌, ◌++◌, drop}
use Rattle.ms_syntax.specs.Tree.{decls_view}
use Rattle.ms_typing.specs.Term as f
use Rattle.ms_elaborator.proofs.asked.local_types.Given as goal

abbrev pub invariant-loop-local : goal.invariant-loop-local
invariant-loop-local l = f.local_types l.around (decls_view l.locals) ≡ l.types.items ++ f.local_types l.around (decls_view (drop l.local-index l.locals))
