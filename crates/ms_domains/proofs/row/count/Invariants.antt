use Rattle.std.proofs.Common.{◌≡◌, ◌*◌, ◌/◌, ◌-◌, ◌≤◌, ◌<◌, set}
use Rattle.ms_domains.specs.Row.{row_count}
use Rattle.ms_domains.proofs.row.count.Given as goal

abbrev pub invariant-across : goal.invariant-across
invariant-across l = record {
  least : l.from < 64 * l.i;
  most : l.i ≤ l.to / 64;
  counted : l.total ≡ row_count (set l.row l.at l.bits) l.from (64 * l.i - l.from);
}

abbrev pub decreases-across : goal.decreases-across
decreases-across l = l.top - l.i
