use Rattle.std.proofs.Common.{◌≡◌, w64, arith, [], drop}
use Rattle.std.proofs.lemmas.Int.{to_z-of_z}
use Rattle.std.proofs.lemmas.List.{drop_all}
use Rattle.ms_prim.proofs.Reading.{counted_all}
use Rattle.ms_prim.proofs.operations.count.Goals as goal

pub returns : goal.returns
returns c =
    let l = c.loop-part in
    let none : drop l.part-index c.args.parts.now ≡ [] = drop_all l.part-index c.args.parts.now c.loop-part-test.false in
    counted_all c.args.point.now c.args.parts.now (drop l.part-index c.args.parts.now) c.args.n l.count none (rw (to_z-of_z w64 c.args.n c.ranges.n) at l.invariant.rest)
