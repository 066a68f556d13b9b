use Rattle.std.proofs.Common.{◌≡◌, ◌≤◌, ◌+◌, length, take, drop, vec_len, vec_capacity}
use Rattle.ms_cells.specs.Cells.{undone, Continues}
use Rattle.ms_cells.proofs.cells.write_again.Given as goal

abbrev pub invariant-again : goal.invariant-again
invariant-again g l = record {
  least : l.keep ≤ l.left;
  most : l.left ≤ length l.initial.taken.items;
  continued : Continues l.initial.items.items l.initial.taken.items l.items.items l.taken.items;
  same : undone l.items.items (drop l.keep (take l.left l.initial.taken.items)) ≡ undone l.initial.items.items (drop l.keep l.initial.taken.items);
  room : vec_len l.taken + l.left ≤ vec_capacity l.taken + l.keep;
}

abbrev pub decreases-again : goal.decreases-again
decreases-again g l = l.left
