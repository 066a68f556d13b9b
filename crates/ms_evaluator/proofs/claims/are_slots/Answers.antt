use Rattle.std.proofs.Common.{◌≡◌, true, rules, arith}
use Rattle.ms_evaluator.specs.Claims.{IsSlot}
use Rattle.ms_evaluator.proofs.Claimed.{more, claims_room}
use Rattle.ms_evaluator.proofs.claims.are_slots.Goals as goal

pub loop-k-preserved : goal.loop-k-preserved
loop-k-preserved c = let t : c.is_slot.result ≡ true = search rules in more (IsSlot c.args.parts.now c.args.slots.now) c.loop-k.k c.loop-k.invariant (c.is_slot.ensures t)

pub returns-clause-slots : goal.returns-clause-slots
returns-clause-slots c = λ t k b. c.loop-k.invariant k (omega (arith, b, c.loop-k-test.false))

pub returns-clause-room : goal.returns-clause-room
returns-clause-room c = λ t. claims_room c.args.parts.now c.args.slots.now c.requires (λ k b. c.loop-k.invariant k (omega (arith, b, c.loop-k-test.false)))
