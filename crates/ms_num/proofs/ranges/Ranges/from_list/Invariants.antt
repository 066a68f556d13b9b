use Rattle.std.proofs.Common.{◌≡◌, ℕ, ◌<◌, ◌≤◌, take, length, get_or}
use Rattle.std.specs.Prelude.{ℤ}
use Rattle.std.specs.List.{list_any}
use Rattle.ms_num.specs.Numbers.{int_eq}
use Rattle.ms_num.specs.Ranges.{is_member, IsRanges, EndAtMost}
use Rattle.ms_num.proofs.ranges.Ranges.from_list.Given as goal

-- the ranges have the numbers so far, and none passes a number to come
abbrev pub invariant-loop-number : goal.invariant-loop-number
invariant-loop-number l = record {
  proper : IsRanges l.ranges.items;
  members : (z : ℤ) → is_member l.ranges.items z ≡ list_any (int_eq z) (take l.number-index l.number-items);
  last : (j : ℕ) (d : ℤ) → l.number-index ≤ j → j < length l.number-items → EndAtMost (get_or l.number-items j d) l.ranges.items;
}
