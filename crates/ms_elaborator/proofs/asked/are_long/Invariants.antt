use Rattle.std.proofs.Common.{◌≡◌, drop, map}
use Rattle.ms_syntax.specs.Tree.{row_view, rows_of}
use Rattle.ms_typing.specs.Term as f
use Rattle.ms_elaborator.proofs.asked.are_long.Given as goal

abbrev pub invariant-loop-row : goal.invariant-loop-row
invariant-loop-row l = f.are_long l.length (rows_of (map row_view l.rows)) ≡ f.are_long l.length (rows_of (map row_view (drop l.row-index l.rows)))
