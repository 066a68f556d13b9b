use Rattle.std.proofs.Common.{◌≡◌, true, rules, arith}
use Rattle.ms_evaluator.specs.Claims.{IsWhole}
use Rattle.ms_evaluator.proofs.Claimed.{more, whole_apart}
use Rattle.ms_evaluator.proofs.claims.are_whole.Goals as goal

pub loop-k-preserved : goal.loop-k-preserved
loop-k-preserved c = let t : c.is_whole.result ≡ true = search rules in more (IsWhole c.args.parts.now c.args.slots.now) c.loop-k.k c.loop-k.invariant (c.is_whole.ensures t)

pub returns : goal.returns
returns c = λ t. whole_apart c.args.parts.now c.args.slots.now c.requires.slots (λ k b. c.loop-k.invariant k (omega (arith, b, c.loop-k-test.false)))
