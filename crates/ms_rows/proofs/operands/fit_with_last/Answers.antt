use Rattle.std.proofs.Common.{sym, ap, ◌∙◌, ◌&&◌}
use Rattle.ms_typing.specs.Conversion.{converts}
use Rattle.ms_rows.proofs.Lists.{split_fits}
use Rattle.ms_rows.proofs.operands.fit_with_last.Goals as goal

pub returns-else-convert_all : goal.returns-else-convert_all
returns-else-convert_all c =
    c.if-convert_all.false ∙ sym (split_fits c.args.types.now c.in-Some.others.now c.args.asked.now c.in-Some.t.now c.args.last c.in-Some.ensures.cases.0
    ∙ ap (λ b. b && converts c.in-Some.t.now c.args.last) (sym c.if-convert_all.ensures))
