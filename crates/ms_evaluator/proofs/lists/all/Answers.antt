use Rattle.std.proofs.Common.{◌∙◌}
use Rattle.ms_trees.specs.Enclosure.{boolean_enclosure}
use Rattle.ms_trees.proofs.Bools.{ap2}
use Rattle.ms_evaluator.proofs.Turns.{true_all, false_any}
use Rattle.ms_evaluator.proofs.lists.all.Goals as goal

pub returns : goal.returns
returns c = c.boolean.ensures ∙ ap2 boolean_enclosure (c.all_may_be_true.ensures ∙ true_all c.args.parts.now) (c.some_may_be_false.ensures ∙ false_any c.args.parts.now)
