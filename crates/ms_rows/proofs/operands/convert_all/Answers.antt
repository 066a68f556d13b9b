use Rattle.std.proofs.Common.{sym}
use Rattle.ms_rows.proofs.Lists.{lengths}
use Rattle.ms_rows.proofs.operands.convert_all.Goals as goal

pub returns-then-types-asked : goal.returns-then-types-asked
returns-then-types-asked c = sym (lengths c.args.types.now c.args.asked.now c.if-types-asked.true)
