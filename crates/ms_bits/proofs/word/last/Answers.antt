use Rattle.std.proofs.Common.{◌<◌, ◌+◌, ◌%◌, ◌^◌, ◌∙◌, sym, ap, arith, w64}
use Rattle.std.specs.Int.{leading_zeros}
use Rattle.std.proofs.Math.Nat.{mod-le}
use Rattle.ms_bits.proofs.Words.{last_none, last_some, low_part, positive}
use Rattle.ms_bits.proofs.word.last.Goals as goal

pub returns-then-low-eq0 : goal.returns-then-low-eq0
returns-then-low-eq0 c = last_none c.args.word c.args.to (sym (low_part c.args.word c.args.to c.requires) ∙ c.if-low-eq0.true)

pub returns-else-low-eq0 : goal.returns-else-low-eq0
returns-else-low-eq0 c =
    let low = low_part c.args.word c.args.to c.requires in
    let bound : c.args.word % 2 ^ (c.args.to + 1) < 2 ^ 64 = omega (arith, c.ranges.word.fits, mod-le c.args.word (2 ^ (c.args.to + 1))) in
    let some : 0 < c.args.word % 2 ^ (c.args.to + 1) = positive (c.args.word % 2 ^ (c.args.to + 1)) (λ e. c.if-low-eq0.false (low ∙ e)) in
    last_some c.args.word c.args.to c.from.result c.requires bound some (c.from.ensures ∙ ap (leading_zeros w64) low)
