use Rattle.std.proofs.Common.{sym}
use Rattle.std.specs.HashMap.{get}
use Rattle.std.specs.Str.{bytes_eq}
use Rattle.ms_given.proofs.Repeats.{maps_more}
use Rattle.ms_given.proofs.decide.mapped.Goals as goal

pub loop-giving-preserved : goal.loop-giving-preserved
loop-giving-preserved c =
    maps_more c.args.givens.now c.loop-giving.giving-index c.giving-item.result (get bytes_eq c.loop-giving.map) (get bytes_eq c.put.new.map)
    c.loop-giving-test.true c.giving-item.is (sym c.if-contains_key.ensures) c.loop-giving.invariant (λ w. c.in_ok-put.ensures w)
