use Rattle.std.proofs.Common.{◌≡◌, ◌++◌, drop}
use Rattle.ms_nodes.specs.Parts.{choice_kinds}
use Rattle.ms_nodes.proofs.parts.push_choices.Given as goal

abbrev pub invariant-loop-choice : goal.invariant-loop-choice
invariant-loop-choice l = l.fn.types.items ++ choice_kinds l.choices ≡ l.types.items ++ choice_kinds (drop l.choice-index l.choices)
