-- The names of a scope, the latest first.
use Rattle.std.specs.Prelude.{[]}
use Rattle.ms_syntax.specs.Tree.{decls_view, gens_view, params_view}
use Rattle.ms_typing.specs.Items.{with_params}
use Rattle.ms_typing.specs.Meaning.{Names}
use Rattle.ms_typing.specs.Term.{with_gens, with_locals}
use Rattle.ms_names.specs.declared.scope.Scope.{Scope, Scope-F, fold-Scope}
use Rattle.ms_names.specs.declared.scope.Scope.TheOpen as s

abbrev pub names_step : Scope-F Names → Names
names_step s.Outer = []
names_step (s.Locals ds outer) = with_locals (decls_view ds.now) outer.now
names_step (s.Generators gs outer) = with_gens (gens_view gs.now) outer.now
names_step (s.Parameters ps outer) = with_params (params_view ps.now) outer.now

abbrev pub names_of : Scope → Names
names_of = fold-Scope Names names_step
