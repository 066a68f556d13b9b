use Rattle.std.proofs.Common.{◌∙◌}
use Rattle.ms_trees.specs.Enclosure.{boolean_enclosure}
use Rattle.ms_trees.proofs.Bools.{ap2}
use Rattle.ms_evaluator.proofs.Turns.{true_any, false_all}
use Rattle.ms_evaluator.proofs.lists.some.Goals as goal

pub returns : goal.returns
returns c = c.boolean.ensures ∙ ap2 boolean_enclosure (c.some_may_be_true.ensures ∙ true_any c.args.parts.now) (c.all_may_be_false.ensures ∙ false_all c.args.parts.now)
