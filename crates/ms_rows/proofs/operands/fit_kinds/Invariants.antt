use Rattle.std.proofs.Common.{◌≡◌, drop, map}
use Rattle.ms_typing.specs.Least as least
use Rattle.ms_rows.specs.Forms.{kind_of}
use Rattle.ms_rows.proofs.operands.fit_kinds.Given as goal

abbrev pub invariant-loop-i : goal.invariant-loop-i
invariant-loop-i l = least.convert_all l.types (map (least.at l.known) (map kind_of l.kinds)) ≡ least.convert_all (drop l.i l.types) (map (least.at l.known) (map kind_of (drop l.i l.kinds)))
