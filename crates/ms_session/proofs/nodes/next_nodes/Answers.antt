use Rattle.std.proofs.lemmas.Bool.{false≢true}
use Rattle.std.proofs.Common.{refl, sym, ap, ◌∙◌, subst}
use Rattle.ms_session.specs.Scopes.{NodeGives}
use Rattle.ms_session.proofs.Loops.{walk_node, walk_found, walk_spent, walk_done, spend_room}
use Rattle.ms_session.proofs.nodes.next_nodes.Goals as goal

pub returns-in-Some-clause-ok : goal.returns-in-Some-clause-ok
returns-in-Some-clause-ok g c = walk_spent (g.N.Nodes.state c.args.nodes.now) c.args.budget.now (g.N.Nodes.state c.nodes.nodes) c.nodes.budget c.in-Some.field-0 c.nodes.invariant.walk (λ e. false≢true (c.nodes-test.ensures.1 e)) (sym c.in-Some.ensures.value)

pub returns-in-Some-answer-clause-ok : goal.returns-in-Some-answer-clause-ok
returns-in-Some-answer-clause-ok g c =
    let gives = subst (λ q. NodeGives (g.N.Nodes.state c.nodes.nodes) q (g.N.Nodes.state c.node.new.self)) c.in-Some-answer.is c.in_ok-answer.ensures.ok in
    rw c.spend.ensures (walk_found (g.N.Nodes.state c.args.nodes.now) c.args.budget.now (g.N.Nodes.state c.nodes.nodes) (g.N.Nodes.state c.node.new.self) c.nodes.budget c.in-Some-answer.point c.nodes.invariant.walk (sym c.in-None.ensures.value) gives)

pub nodes-preserved : goal.nodes-preserved
nodes-preserved g c =
    let gives = subst (λ q. NodeGives (g.N.Nodes.state c.nodes.nodes) q (g.N.Nodes.state c.node.new.self)) c.in_default.is c.in_ok-answer.ensures.ok in
    let empty = sym c.in-None.ensures.value in
    rw c.spend.ensures (record {
      walk = walk_node (g.N.Nodes.state c.args.nodes.now) c.args.budget.now (g.N.Nodes.state c.nodes.nodes) (g.N.Nodes.state c.node.new.self) c.nodes.budget c.nodes.invariant.walk empty gives;
      room = spend_room (g.N.Nodes.state c.nodes.nodes) (g.N.Nodes.state c.node.new.self) c.nodes.budget c.in-None.ensures.some empty gives c.nodes.invariant.room;
    })

pub returns-clause-ok : goal.returns-clause-ok
returns-clause-ok g c = walk_done (g.N.Nodes.state c.args.nodes.now) c.args.budget.now (g.N.Nodes.state c.nodes.nodes) (g.N.Nodes.state c.close.new.self) c.nodes.budget c.nodes.invariant.walk (c.nodes-test.ensures.0 refl) c.close.ensures

pub node-requires-clause-usable : goal.node-requires-clause-usable
node-requires-clause-usable g c = ap (λ s. s.failed) c.nodes.invariant.walk.stays ∙ c.requires.usable
