use Rattle.ms_syntax.specs.Tree.{links_view}
use Rattle.ms_elaborator.specs.Walk.{joined_right}
use Rattle.ms_elaborator.proofs.Chains.{join_fails, join_goes_on}
use Rattle.ms_elaborator.proofs.chain.join_all.Goals as goal

pub returns-in-Err : goal.returns-in-Err
returns-in-Err c =
    join_fails (joined_right c.args.types.now (links_view c.args.links.now)) c.args.types.now c.loop-link.rest.now c.in-Some.others.now c.in-Some.link.now c.loop-link.behind c.operand-before.result c.in-Err.fault
    c.loop-link.invariant c.in-Some.ensures.cases.0 c.operand-before.ensures c.in-Err.ensures

pub loop-link-preserved : goal.loop-link-preserved
loop-link-preserved c =
    join_goes_on (joined_right c.args.types.now (links_view c.args.links.now)) c.args.types.now c.loop-link.rest.now c.in-Some.others.now c.in-Some.link.now c.loop-link.behind c.operand-before.result c.in-Ok.t
    c.loop-link.invariant c.in-Some.ensures.cases.0 c.operand-before.ensures c.in-Ok.ensures
