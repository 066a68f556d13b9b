use Rattle.std.proofs.Common.{◌≡◌, drop, map}
use Rattle.ms_typing.specs.Least as least
use Rattle.ms_rows.specs.Forms.{read}
use Rattle.ms_rows.proofs.operands.fit_params.Given as goal

abbrev pub invariant-loop-i : goal.invariant-loop-i
invariant-loop-i l = least.convert_all l.types (map (read l.known) l.params) ≡ least.convert_all (drop l.i l.types) (map (read l.known) (drop l.i l.params))
