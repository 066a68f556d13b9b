use Rattle.std.proofs.Common.{◌≡◌, drop}
use Rattle.ms_instance.specs.Reading.{first_goal}
use Rattle.ms_instance.proofs.goal.first_goal.Given as goal

abbrev pub invariant-loop-item : goal.invariant-loop-item
invariant-loop-item l = first_goal l.items ≡ first_goal (drop l.item-index l.items)
