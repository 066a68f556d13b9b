use Rattle.std.proofs.Common.{◌≡◌, ◌++◌, take}
use Rattle.std.specs.List.{flat_map}
use Rattle.ms_show.specs.Texts.{later_numbers}
use Rattle.ms_show.proofs.sets.push_ranges.Given as goal

abbrev pub invariant-loop-range : goal.invariant-loop-range
invariant-loop-range l = l.text.items ≡ l.initial.text.items ++ flat_map (λ range. later_numbers range 0) (take l.range-index l.ranges)
