use Rattle.ms_session.specs.Frames.{outer_left}
use Rattle.ms_session.specs.Scopes.{HasRoom}
use Rattle.ms_session.proofs.Loops.{Walk}
use Rattle.ms_session.proofs.nodes.next_nodes.Given as goal

abbrev pub invariant-nodes : goal.invariant-nodes
invariant-nodes g l = record {
  walk : Walk (g.N.Nodes.state l.fn.nodes) l.fn.budget (g.N.Nodes.state l.nodes) l.budget;
  room : HasRoom l.budget (g.N.Nodes.state l.nodes).scope;
}

abbrev pub decreases-nodes : goal.decreases-nodes
decreases-nodes g l = outer_left l.budget
