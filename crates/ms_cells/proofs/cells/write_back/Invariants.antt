use Rattle.std.proofs.Common.{◌≡◌, ◌≤◌, length, take, drop}
use Rattle.ms_cells.specs.Cells.{undone}
use Rattle.ms_cells.proofs.cells.write_back.Given as goal

abbrev pub invariant-back : goal.invariant-back
invariant-back g l = record {
  left : l.keep ≤ length l.taken.items;
  front : l.taken.items ≡ take (length l.taken.items) l.initial.taken.items;
  same : undone l.items.items (drop l.keep l.taken.items) ≡ undone l.initial.items.items (drop l.keep l.initial.taken.items);
}

abbrev pub decreases-back : goal.decreases-back
decreases-back g l = length l.taken.items
