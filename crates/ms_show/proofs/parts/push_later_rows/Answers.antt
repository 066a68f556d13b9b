use Rattle.std.proofs.Common.{◌≡◌, ◌++◌, codes, refl, subst, ◌/◌, length}
use Rattle.std.specs.List.{flat_map, range_with_len}
use Rattle.ms_show.specs.Texts.{joined, row_of}
use Rattle.ms_show.proofs.Joins.{grown, come_to}
use Rattle.ms_show.proofs.parts.push_later_rows.Goals as goal

pub loop-i-preserved : goal.loop-i-preserved
loop-i-preserved c =
    rw (c.in_ok-push_joined.ensures, c.in_ok-extend_from_slice.ensures.items, c.row.ensures)
    (grown _ c.args.text.now.items _ _ (λ i. codes " | " ++ joined (row_of c.args.width c.args.parts.now i)) 1 c.loop-i.i c.loop-i.auto.i c.loop-i.invariant refl)

pub returns : goal.returns
returns c =
    subst (λ n. c.loop-i.text.items ≡ c.args.text.now.items
    ++ flat_map (λ i. codes " | " ++ joined (row_of c.args.width c.args.parts.now i)) (range_with_len 1 n))
    (come_to 1 c.loop-i.i (length c.args.parts.now / c.args.width) (c.loop-i.auto.i-end c.requires.rows) c.loop-i-test.false) c.loop-i.invariant
