use Rattle.std.proofs.Common.{◌≡◌, drop, map}
use Rattle.ms_typing.specs.Least as least
use Rattle.ms_rows.specs.Forms.{kind_of}
use Rattle.ms_rows.proofs.operands.are_known.Given as goal

abbrev pub invariant-loop-i : goal.invariant-loop-i
invariant-loop-i l = least.are_known (map kind_of l.kinds) l.types ≡ least.are_known (map kind_of (drop l.i l.kinds)) (drop l.i l.types)
