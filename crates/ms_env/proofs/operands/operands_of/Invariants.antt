use Rattle.std.proofs.Common.{◌≡◌, map, take}
use Rattle.std.specs.Prelude.{reverse}
use Rattle.ms_instance.specs.Instances.{intervals_of}
use Rattle.ms_env.specs.Entries as e
use Rattle.ms_env.proofs.operands.operands_of.Given as goal

abbrev pub invariant-loop-entry : goal.invariant-loop-entry
invariant-loop-entry l = l.operands ≡ map (e.operand_of (intervals_of l.sets)) (reverse (take l.entry-index l.entries))
