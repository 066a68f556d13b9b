use Rattle.std.proofs.Common.{arith, ◌<◌}
use Rattle.ms_walk.proofs.Bodies.{none_opens, opens}
use Rattle.ms_walk.proofs.opened.open.Goals as goal

pub returns-then-here-eq0 : goal.returns-then-here-eq0
returns-then-here-eq0 c out ws = rw c.in-Some.is (none_opens out _ _ _ _ _ _ _ c.if-here-eq0.true)

pub returns-in-None : goal.returns-in-None
returns-in-None c out ws = rw c.in-None.is (c.visit.ensures out _ _ ws)

pub returns-in_ok-push-in-Some : goal.returns-in_ok-push-in-Some
returns-in_ok-push-in-Some c out ws =
    let h : 0 < c.args.here.now.calls = omega arith in
    let q = rw c.replace-outer.ensures.value at c.in_ok-push-in-Some.ensures.ok in
    rw c.in-Some.is (opens out _ _ _ _ _ _ _ _ _ h c.replace-outer.ensures.after q)
