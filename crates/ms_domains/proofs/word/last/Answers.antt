use Rattle.ms_domains.proofs.Counting.{word_last}
use Rattle.ms_domains.proofs.word.last.Goals as goal

pub returns : goal.returns
returns c = word_last c.args.word c.args.to c.last.result c.requires c.last.ensures
