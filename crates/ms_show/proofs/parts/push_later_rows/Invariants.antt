use Rattle.std.proofs.Common.{◌≡◌, ◌++◌, ◌-◌, codes}
use Rattle.std.specs.List.{flat_map, range_with_len}
use Rattle.ms_show.specs.Texts.{joined, row_of}
use Rattle.ms_show.proofs.parts.push_later_rows.Given as goal

abbrev pub invariant-loop-i : goal.invariant-loop-i
invariant-loop-i l =
    l.text.items ≡ l.initial.text.items ++ flat_map (λ i. codes " | " ++ joined (row_of l.width l.parts i)) (range_with_len 1 (l.i - 1))
