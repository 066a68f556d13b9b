use Rattle.std.proofs.Common.{◌≡◌, drop, replicate, length}
use Rattle.ms_typing.specs.Least as least
use Rattle.ms_rows.proofs.operands.fit_one.Given as goal

abbrev pub invariant-loop-t : goal.invariant-loop-t
invariant-loop-t l = least.convert_all l.types (replicate (length l.types) l.asked) ≡ least.convert_all (drop l.t-index l.types) (replicate (length (drop l.t-index l.types)) l.asked)
