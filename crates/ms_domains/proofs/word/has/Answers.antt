use Rattle.std.proofs.Common.{sym, ◌∙◌}
use Rattle.ms_domains.proofs.Counting.{in_word}
use Rattle.ms_domains.proofs.word.has.Goals as goal

pub returns : goal.returns
returns c = c.has.ensures ∙ sym (in_word c.args.word c.args.k c.requires)
