use Rattle.std.proofs.Common.{◌≡◌, drop, map, length}
use Rattle.ms_syntax.specs.Tree.{item_view}
use Rattle.ms_top.specs.Plain.{parts_of}
use Rattle.ms_top.proofs.Gathering.{declared}
use Rattle.ms_top.proofs.form.declarations.Given as goal

abbrev pub invariant-loop-item : goal.invariant-loop-item
invariant-loop-item l = record {
  count : length l.found ≡ l.item-index;
  so_far : declared l.found (parts_of (map item_view (drop l.item-index l.items))) ≡ parts_of (map item_view l.items);
}
