use Rattle.ms_order.proofs.Drawn.{added}
use Rattle.ms_order.proofs.drawing.add_edges.Goals as goal

pub returns-clause-drawn : goal.returns-clause-drawn
returns-clause-drawn c =
    added (λ v. v.items) c.args.graph.now.items c.args.node c.extend_from_slice.new.self c.index_mut.result.now c.args.targets.now
    c.requires c.index_mut.ensures.value c.in_ok-extend_from_slice.ensures.items
