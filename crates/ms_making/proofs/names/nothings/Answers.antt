use Rattle.std.proofs.Common.{◌+◌, ◌-◌, ◌++◌, ap, sym, ◌∙◌}
use Rattle.std.specs.Prelude.{replicate}
use Rattle.ms_rules.specs.Calls.{nothing}
use Rattle.ms_making.proofs.Repeated.{replicate_more}
use Rattle.ms_making.proofs.names.nothings.Goals as goal

pub loop-preserved : goal.loop-preserved
loop-preserved c =
    c.loop.invariant ∙ replicate_more nothing c.loop.values.items c.loop.counter c.args.count c.loop-test.true
    ∙ ap (λ xs. xs ++ replicate (c.args.count - (c.loop.counter + 1)) nothing) (sym c.in_ok-push_nothing.ensures)
