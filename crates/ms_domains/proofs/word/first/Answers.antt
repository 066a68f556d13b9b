use Rattle.ms_domains.proofs.Counting.{word_first}
use Rattle.ms_domains.proofs.word.first.Goals as goal

pub returns : goal.returns
returns c = word_first c.args.word c.args.from c.first.result c.first.ensures
