use Rattle.std.proofs.Common.{◌+◌, ◌-◌, ◌++◌, ap, sym, ◌∙◌}
use Rattle.ms_tree_nodes.specs.Nodes.{bit_variable}
use Rattle.ms_declared.specs.Variables.{conditions_from}
use Rattle.ms_declared.proofs.Numbers.{from_more}
use Rattle.ms_declared.proofs.variables.conditions_from.Goals as goal

pub loop-number-preserved : goal.loop-number-preserved
loop-number-preserved c =
    c.loop-number.invariant ∙ from_more (λ v. bit_variable v c.args.set) c.loop-number.xs c.loop-number.number (c.args.first + c.args.count) c.loop-number-test.true
    ∙ ap (λ xs. xs ++ conditions_from c.args.set (c.loop-number.number + 1) ((c.args.first + c.args.count) - (c.loop-number.number + 1))) (sym c.in_ok-push_condition.ensures)
