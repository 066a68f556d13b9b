use Rattle.std.proofs.Common.{◌≡◌, ◌++◌, ◌-◌}
use Rattle.ms_rules.specs.Access as a
use Rattle.ms_access.proofs.lines.column.Given as goal

abbrev pub invariant-loop : goal.invariant-loop
invariant-loop g l = (l.copied ++ a.column l.width l.at (l.rows - l.counter) l.rest) ≡ a.column l.width l.at l.rows l.elements
