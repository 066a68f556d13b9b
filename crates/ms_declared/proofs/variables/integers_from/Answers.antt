use Rattle.std.proofs.Common.{◌+◌, ◌-◌, ◌++◌, ap, sym, ◌∙◌}
use Rattle.ms_tree_nodes.specs.Nodes.{variable}
use Rattle.ms_declared.specs.Variables.{integers_from}
use Rattle.ms_declared.proofs.Numbers.{from_more}
use Rattle.ms_declared.proofs.variables.integers_from.Goals as goal

pub loop-number-preserved : goal.loop-number-preserved
loop-number-preserved c =
    c.loop-number.invariant ∙ from_more (λ v. variable v c.args.set) c.loop-number.xs c.loop-number.number (c.args.first + c.args.count) c.loop-number-test.true
    ∙ ap (λ xs. xs ++ integers_from c.args.set (c.loop-number.number + 1) ((c.args.first + c.args.count) - (c.loop-number.number + 1))) (sym c.in_ok-push_integer.ensures)
