use Rattle.std.proofs.Common.{◌≡◌, ℕ, ◌*◌, ◌-◌, ◌≤◌, ◌<◌, false, set, length}
use Rattle.ms_domains.specs.Row.{in_row}
use Rattle.ms_domains.proofs.row.first.Given as goal

abbrev pub invariant-up : goal.invariant-up
invariant-up l = record {
  least : l.from < 64 * l.i;
  most : l.i ≤ length l.row;
  none : (k : ℕ) → l.from ≤ k → k < 64 * l.i → in_row (set l.row l.at l.bits) k ≡ false;
}

abbrev pub decreases-up : goal.decreases-up
decreases-up l = length l.row - l.i
