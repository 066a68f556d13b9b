use Rattle.std.proofs.Common.{◌∙◌, ap}
use Rattle.ms_values.specs.declared.operand.Cells.TheVariants as cells
use Rattle.ms_exchange.proofs.Reading.{numbers_are, truths_are, integers_are, conditions_are}
use Rattle.ms_exchange.proofs.incoming.trees_in.Goals as goal

pub returns-in_ok-numbers_read-in-Number : goal.returns-in_ok-numbers_read-in-Number
returns-in_ok-numbers_read-in-Number g c =
    rw c.in-Number.is (ap (λ xs. cells.Numbers xs) (c.in_ok-numbers_read-in-Number.ensures ∙ numbers_are c.args.trees.now (rw c.in-Number.is at c.requires)))

pub returns-in_ok-truths_read-in-Truth : goal.returns-in_ok-truths_read-in-Truth
returns-in_ok-truths_read-in-Truth g c =
    rw c.in-Truth.is (ap (λ xs. cells.Truths xs) (c.in_ok-truths_read-in-Truth.ensures ∙ truths_are c.args.trees.now (rw c.in-Truth.is at c.requires)))

pub returns-in_ok-integers_read-in-Integer : goal.returns-in_ok-integers_read-in-Integer
returns-in_ok-integers_read-in-Integer g c =
    rw c.in-Integer.is (ap (λ xs. cells.Integers xs) (c.in_ok-integers_read-in-Integer.ensures ∙ integers_are (g.B.Intervals.spans c.args.sets) c.args.trees.now (rw c.in-Integer.is at c.requires)))

pub returns-in_ok-conditions_read-in-Condition : goal.returns-in_ok-conditions_read-in-Condition
returns-in_ok-conditions_read-in-Condition g c =
    rw c.in-Condition.is (ap (λ xs. cells.Conditions xs) (c.in_ok-conditions_read-in-Condition.ensures ∙ conditions_are (g.B.Intervals.spans c.args.sets) c.args.trees.now (rw c.in-Condition.is at c.requires)))
