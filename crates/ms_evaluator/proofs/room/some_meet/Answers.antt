use Rattle.std.proofs.Common.{◌∙◌, sym, ap, ◌||◌, ◌+◌, drop}
use Rattle.ms_trees.specs.Enclosure as r
use Rattle.ms_evaluator.proofs.Turns.{meet_turn}
use Rattle.ms_evaluator.proofs.room.some_meet.Goals as goal

pub returns-then-meets_later : goal.returns-then-meets_later
returns-then-meets_later c =
    let t = meet_turn c.args.parts.now c.loop-place.place c.meets_later.result c.loop-place-test.true c.meets_later.ensures in
    sym (sym c.loop-place.invariant ∙ t ∙ ap (λ b. b || r.some_meet (drop (c.loop-place.place + 1) c.args.parts.now)) c.if-meets_later.true)

pub loop-place-preserved : goal.loop-place-preserved
loop-place-preserved c =
    let t = meet_turn c.args.parts.now c.loop-place.place c.meets_later.result c.loop-place-test.true c.meets_later.ensures in
    sym (sym c.loop-place.invariant ∙ t ∙ ap (λ b. b || r.some_meet (drop (c.loop-place.place + 1) c.args.parts.now)) c.if-meets_later.false)
