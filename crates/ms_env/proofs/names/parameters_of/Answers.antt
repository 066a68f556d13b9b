use Rattle.std.proofs.Common.{◌∙◌, ◌∷◌, ap, sym, arith}
use Rattle.ms_trees.proofs.Bools.{ap2}
use Rattle.ms_env.specs.Entries as e
use Rattle.ms_env.proofs.Latest.{latest_more, names_more}
use Rattle.ms_env.proofs.names.parameters_of.Goals as goal

pub loop-entry-preserved : goal.loop-entry-preserved
loop-entry-preserved c =
    rw c.in_ok-push.ensures.items (names_more c.loop-entry.parameters.items c.in_ok-parameter_of.field-0
    ∙ ap2 (λ n ns. n ∷ ns) c.in_ok-parameter_of.ensures c.loop-entry.invariant
    ∙ ap e.names_in (sym (latest_more c.args.entries.now c.loop-entry.entry-index c.entry-item.result (omega arith) c.entry-item.is)))
