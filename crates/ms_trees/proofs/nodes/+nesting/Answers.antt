use Rattle.std.proofs.Common.{arith, ◌-◌, ◌^◌, min, max, map}
use Rattle.std.proofs.lemmas.List.{at_drop_all}
use Rattle.ms_trees.specs.Size.{nesting_of, deepest}
use Rattle.ms_trees.proofs.nodes.+nesting.Goals as goal

pub deepest_of-returns : goal.deepest_of-returns
deepest_of-returns t c =
    let e = at_drop_all (λ xs. min (max c.loop-part.most (deepest (map nesting_of xs))) (2 ^ 64 - 1)) c.args.parts.now c.loop-part.part-index (omega arith) in
    omega (arith, e, c.loop-part.invariant.rest, c.loop-part.invariant.most)
