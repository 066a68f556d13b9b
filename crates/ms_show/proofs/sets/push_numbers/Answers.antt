use Rattle.std.proofs.Common.{◌≡◌, ◌++◌, codes, refl, subst, pos, ◌+ℤ◌}
use Rattle.std.specs.Fmt.{signed_decimal}
use Rattle.std.specs.List.{flat_map, range_with_len}
use Rattle.ms_num.specs.Ranges.{span_size}
use Rattle.ms_show.proofs.Joins.{grown, come_to}
use Rattle.ms_show.proofs.sets.push_numbers.Goals as goal

pub loop-k-preserved : goal.loop-k-preserved
loop-k-preserved c =
    rw (c.in_ok-push_at.ensures, c.in_ok-extend_from_slice.ensures.items)
    (grown _ c.args.text.now.items _ _ (λ k. codes ", " ++ signed_decimal (c.args.range.lo +ℤ pos k)) c.args.from c.loop-k.k c.loop-k.auto.k c.loop-k.invariant refl)

pub returns : goal.returns
returns c =
    subst (λ n. c.loop-k.text.items ≡ c.args.text.now.items
    ++ flat_map (λ k. codes ", " ++ signed_decimal (c.args.range.lo +ℤ pos k)) (range_with_len c.args.from n))
    (come_to c.args.from c.loop-k.k (span_size c.args.range) (rw (← c.size-k-end.ensures) (c.loop-k.auto.k-end (rw c.size-k-end.ensures c.requires))) (rw (← c.size-k-end.ensures) c.loop-k-test.false)) c.loop-k.invariant
