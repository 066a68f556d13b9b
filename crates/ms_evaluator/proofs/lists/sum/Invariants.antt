use Rattle.std.proofs.Common.{◌≡◌, drop}
use Rattle.ms_trees.specs.Enclosure.{numeric_enclosure}
use Rattle.ms_evaluator.specs.Lists.{total}
use Rattle.ms_evaluator.proofs.Totals.{total_after}
use Rattle.ms_evaluator.proofs.lists.sum.Given as goal

abbrev pub invariant-loop-part : goal.invariant-loop-part
invariant-loop-part l = record {
  rest : total_after l.total (drop l.part-index l.parts) ≡ total l.parts;
  plain : l.total ≡ numeric_enclosure l.total.interval l.total.may_be_undefined;
}
