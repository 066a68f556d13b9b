use Rattle.std.proofs.Common.{◌<◌, sym, subst}
use Rattle.ms_order.proofs.Words.{number_within}
use Rattle.ms_order.proofs.drawing.draw_name.Goals as goal

pub add_edges-requires : goal.add_edges-requires
add_edges-requires c =
    subst (λ n. c.in-Some.node < n) (sym c.requires) (number_within c.args.names.now c.args.name.now c.in-Some.node (sym c.in-Some.ensures))
