use Rattle.std.proofs.Common.{rules}
use Rattle.ms_bits.proofs.Words.{first_none, first_some}
use Rattle.ms_bits.proofs.word.first.Goals as goal

pub returns-then-rest-eq0 : goal.returns-then-rest-eq0
returns-then-rest-eq0 c = first_none c.args.word c.args.from (search rules)

pub returns-else-rest-eq0 : goal.returns-else-rest-eq0
returns-else-rest-eq0 c = first_some c.args.word c.args.from c.from.result c.ranges.word.fits (search rules) c.from.ensures
