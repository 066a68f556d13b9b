use Rattle.std.proofs.Common.{◌≡◌, ◌++◌, drop, map}
use Rattle.ms_nodes.specs.Parts.{row_kinds}
use Rattle.ms_nodes.proofs.parts.row_kinds.Given as goal

abbrev pub invariant-loop-row : goal.invariant-loop-row
invariant-loop-row l = row_kinds (map (λ r. r.items) l.rows) ≡ l.types.items ++ row_kinds (map (λ r. r.items) (drop l.row-index l.rows))
