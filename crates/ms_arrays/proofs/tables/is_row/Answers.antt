use Rattle.std.proofs.Common.{sym}
use Rattle.ms_arrays.proofs.Lists.{other_length}
use Rattle.ms_arrays.proofs.tables.is_row.Goals as goal

pub returns-then-numbers-row : goal.returns-then-numbers-row
returns-then-numbers-row c = sym (other_length c.args.numbers.now c.args.row.now c.if-numbers-row.true)
