use Rattle.std.proofs.Common.{◌<◌, ◌+◌, ◌-◌, ◌∙◌, ◌/◌, ◌^◌, ap, arith}
use lib.Count.{ones}
use Rattle.ms_bits.proofs.Words.{count_bits, low_part}
use Rattle.ms_bits.proofs.word.count.Goals as goal

pub returns : goal.returns
returns c =
    let within : c.args.to - c.args.from < 64 = omega arith in
    c.from.ensures ∙ ap ones (low_part (c.args.word / 2 ^ c.args.from) (c.args.to - c.args.from) within) ∙ count_bits c.args.word c.args.from (c.args.to - c.args.from + 1)
