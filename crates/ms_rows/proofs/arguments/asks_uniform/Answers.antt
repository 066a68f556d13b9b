use Rattle.std.proofs.Common.{map}
use Rattle.ms_rows.specs.Forms.{kind_of}
use Rattle.ms_rows.proofs.Given.{uniform_asked}
use Rattle.ms_rows.proofs.arguments.asks_uniform.Goals as goal

pub returns-then-fit_kinds : goal.returns-then-fit_kinds
returns-then-fit_kinds c =
    uniform_asked (map kind_of c.args.kinds.now) (kind_of c.args.given) c.args.types.now c.are_known-known.result c.first_at.result c.at.result
    c.are_known-known.ensures c.if-fit_kinds.ensures c.first_at.ensures c.at.ensures
