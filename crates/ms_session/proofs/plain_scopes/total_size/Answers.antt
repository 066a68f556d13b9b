use Rattle.std.proofs.Common.{◌≡◌, ◌+◌, ◌∙◌, ap, arith, take}
use Rattle.std.proofs.lemmas.List.{take_all}
use Rattle.ms_trees.specs.Size.{size_of}
use Rattle.ms_session.specs.Scopes.{live_nodes}
use Rattle.ms_session.proofs.Beginnings.{sum_one_more, sum_within}
use Rattle.ms_session.proofs.plain_scopes.total_size.Goals as goal

pub overflow_add-total : goal.overflow_add-total
overflow_add-total c =
    let e = c.loop-tree.invariant in
    let m = sum_one_more size_of c.args.trees.now c.loop-tree.tree-index c.tree-item.result c.loop-tree-test.true c.tree-item.is in
    let w = sum_within size_of c.args.trees.now (c.loop-tree.tree-index + 1) in
    omega (arith, e, m, w)

pub loop-tree-preserved : goal.loop-tree-preserved
loop-tree-preserved c =
    let e : c.loop-tree.total ≡ live_nodes (take c.loop-tree.tree-index c.args.trees.now) = c.loop-tree.invariant in
    let m = sum_one_more size_of c.args.trees.now c.loop-tree.tree-index c.tree-item.result c.loop-tree-test.true c.tree-item.is in
    let w = sum_within size_of c.args.trees.now (c.loop-tree.tree-index + 1) in
    let next : c.loop-tree.total + c.size-total.result ≡ live_nodes (take (c.loop-tree.tree-index + 1) c.args.trees.now) = omega (arith, e, m, w) in
    next

pub returns : goal.returns
returns c = c.loop-tree.invariant ∙ ap live_nodes (take_all c.loop-tree.tree-index c.args.trees.now c.loop-tree-test.false)
