use Rattle.ms_graph.proofs.Places.{added}
use Rattle.ms_graph.proofs.graph.Graph.add_edges.Goals as goal

pub returns : goal.returns
returns c =
    added (λ v. v.items) c.self.inside.targets.items c.args.node c.extend_from_slice.new.self c.index_mut.result.now c.args.targets.now c.args.self.now
    c.requires c.self.view_is c.index_mut.ensures.value c.in_ok-extend_from_slice.ensures.items
