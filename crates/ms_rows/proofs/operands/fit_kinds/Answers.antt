use Rattle.std.proofs.Common.{sym}
use Rattle.ms_typing.specs.Least as least
use Rattle.ms_rows.specs.Forms.{kind_of}
use Rattle.ms_rows.proofs.Lists.{lengths_twice}
use Rattle.ms_rows.proofs.operands.fit_kinds.Goals as goal

pub returns-then-types-kinds : goal.returns-then-types-kinds
returns-then-types-kinds c = sym (lengths_twice (least.at c.args.known) kind_of c.args.types.now c.args.kinds.now c.if-types-kinds.true)
