use Rattle.std.proofs.Common.{◌≡◌, [], take}
use Rattle.std.specs.Prelude.{reverse}
use Rattle.ms_syntax.specs.Tree.{params_view}
use Rattle.ms_typing.specs.Items.{with_params}
use Rattle.ms_env.specs.Entries as e
use Rattle.ms_env.proofs.names.parameters_of.Given as goal

abbrev pub invariant-loop-entry : goal.invariant-loop-entry
invariant-loop-entry l = with_params (params_view l.parameters.items) [] ≡ e.names_in (reverse (take l.entry-index l.entries))
