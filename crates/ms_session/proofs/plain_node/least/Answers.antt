use Rattle.std.proofs.Common.{sym, ◌∙◌, ap, ◌++◌, ◌∷◌, [], take, w64, to_z, of_z}
use Rattle.ms_boxes.specs.Boxes.{box_of, least_point}
use Rattle.ms_num.proofs.SharedSets.{read_lo}
use Rattle.ms_session.proofs.RangeBoxes.{read_some, lows_more}
use Rattle.ms_session.proofs.plain_node.least.Goals as goal

pub ends-requires : goal.ends-requires
ends-requires c = read_some c.args.sets.now c.loop-set.set-index c.set-item.result c.loop-set-test.true c.set-item.is c.requires

pub loop-set-preserved : goal.loop-set-preserved
loop-set-preserved c =
    c.in_ok-push.ensures.items
    ∙ ap (λ q. q ++ to_z w64 (of_z w64 c.lo.result) ∷ []) c.loop-set.invariant
    ∙ ap (λ n. least_point (box_of (take c.loop-set.set-index c.args.sets.now)) ++ n ∷ []) (read_lo c.ends.result c.lo.result c.lo.ensures.within c.lo.ensures.value ∙ ap (λ iv. iv.lo) c.ends.ensures.value)
    ∙ sym (lows_more c.args.sets.now c.loop-set.set-index c.set-item.result c.loop-set-test.true c.set-item.is)
