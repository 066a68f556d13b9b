use Rattle.std.proofs.Common.{sym}
use Rattle.ms_rows.specs.Forms.{read}
use Rattle.ms_rows.proofs.Lists.{lengths_mapped}
use Rattle.ms_rows.proofs.operands.fit_params.Goals as goal

pub returns-then-types-params : goal.returns-then-types-params
returns-then-types-params c = sym (lengths_mapped (read c.args.known) c.args.types.now c.args.params.now c.if-types-params.true)
