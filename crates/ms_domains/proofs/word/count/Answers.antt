use Rattle.std.proofs.Common.{sym, ◌∙◌, ◌+◌, ◌-◌, arith}
use Rattle.ms_domains.proofs.Counting.{word_count}
use Rattle.ms_domains.proofs.word.count.Goals as goal

pub returns : goal.returns
returns c = c.count.ensures ∙ sym (word_count c.args.word c.args.from (c.args.to - c.args.from + 1) (omega arith))
