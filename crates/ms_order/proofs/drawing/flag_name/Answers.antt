use Rattle.std.proofs.Common.{◌<◌, sym, subst, ◌∙◌}
use Rattle.ms_order.proofs.Words.{number_within}
use Rattle.ms_order.proofs.drawing.flag_name.Goals as goal

pub index_mut-requires : goal.index_mut-requires
index_mut-requires c =
    subst (λ n. c.in-Some.number < n) (sym (c.args.flags.now.ok.0 ∙ c.requires)) (number_within c.args.names.now c.args.name.now c.in-Some.number (sym c.in-Some.ensures))
