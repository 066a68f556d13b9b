use Rattle.std.proofs.Common.{◌≡◌, ℕ, ◌*◌, ◌/◌, ◌≤◌, false, set}
use Rattle.ms_domains.specs.Row.{in_row}
use Rattle.ms_domains.proofs.row.last.Given as goal

abbrev pub invariant-down : goal.invariant-down
invariant-down l = record {
  most : l.i ≤ l.to / 64;
  none : (k : ℕ) → 64 * l.i ≤ k → k ≤ l.to → in_row (set l.row l.at l.bits) k ≡ false;
}

abbrev pub decreases-down : goal.decreases-down
decreases-down l = l.i
