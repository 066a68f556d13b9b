use Rattle.std.proofs.Common.{◌≡◌, drop}
use Rattle.ms_typing.specs.Least as least
use Rattle.ms_rows.proofs.joins.join_all.Given as goal

abbrev pub invariant-loop-t : goal.invariant-loop-t
invariant-loop-t l = least.join_all l.fn.start l.types ≡ least.join_all l.all (drop l.t-index l.types)
