use Rattle.std.proofs.Common.{◌≡◌, drop}
use Rattle.ms_typing.specs.Least as least
use Rattle.ms_rows.proofs.operands.convert_all.Given as goal

abbrev pub invariant-loop-i : goal.invariant-loop-i
invariant-loop-i l = least.convert_all l.types l.asked ≡ least.convert_all (drop l.i l.types) (drop l.i l.asked)
