use Rattle.std.proofs.Common.{◌≡◌, drop, map}
use Rattle.ms_syntax.specs.Tree.{item_view}
use Rattle.ms_top.specs.Plain.{all_of, comparison_of}
use Rattle.ms_top.proofs.Gathering.{grown}
use Rattle.ms_top.proofs.form.comparisons.Given as goal

abbrev pub invariant-loop-item : goal.invariant-loop-item
invariant-loop-item l = grown l.found (all_of comparison_of (map item_view (drop l.item-index l.items))) ≡ all_of comparison_of (map item_view l.items)
