use Rattle.std.proofs.Common.{◌≡◌, ◌++◌, ◌-◌, codes, pos, ◌+ℤ◌}
use Rattle.std.specs.Fmt.{signed_decimal}
use Rattle.std.specs.List.{flat_map, range_with_len}
use Rattle.ms_show.proofs.sets.push_numbers.Given as goal

abbrev pub invariant-loop-k : goal.invariant-loop-k
invariant-loop-k l =
    l.text.items ≡ l.initial.text.items ++ flat_map (λ k. codes ", " ++ signed_decimal (l.range.lo +ℤ pos k)) (range_with_len l.from (l.k - l.from))
