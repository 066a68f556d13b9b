use Rattle.std.proofs.Common.{rules, ◌≡◌, ◌≤◌, ◌<◌, ◌+◌, ◌-◌, length, arith}
use Rattle.ms_cells.proofs.Again.{again_step, again_past}
use Rattle.ms_cells.proofs.cells.write_again.Goals as goal

pub again-preserved-then-place-len : goal.again-preserved-then-place-len
again-preserved-then-place-len g c =
    let some : 1 ≤ c.again.left = omega arith in
    let step : (c.again.left - 1) + 1 ≡ c.again.left = omega arith in
    let there : c.again.left - 1 < length c.args.taken.now.items = omega arith in
    let below : c.args.keep ≤ c.again.left - 1 = omega arith in
    let inside : c.index-place.result < length c.again.items.items = search rules in
    let all = again_step c.args.items.now.items c.args.taken.now.items c.again.items.items c.again.taken.items c.push_reserved.new.self.items c.args.keep (c.again.left - 1) c.again.left c.index-place.result c.index-entry.result.now _ c.again.invariant.continued c.push_reserved.ensures.items c.index-place.ensures c.index.ensures inside c.index-entry.ensures step there below c.requires.few c.again.invariant.same in
    record {
      least = below;
      most = omega arith;
      continued = all.0;
      same = all.1;
      room = omega (arith, c.push_reserved.ensures.len, c.push_reserved.ensures.capacity, c.again.invariant.room);
    }

pub again-preserved : goal.again-preserved
again-preserved g c =
    let some : 1 ≤ c.again.left = omega arith in
    let step : (c.again.left - 1) + 1 ≡ c.again.left = omega arith in
    let there : c.again.left - 1 < length c.args.taken.now.items = omega arith in
    let below : c.args.keep ≤ c.again.left - 1 = omega arith in
    let outside : length c.again.items.items ≤ c.index-place.result = search rules in
    record {
      least = below;
      most = omega arith;
      continued = c.again.invariant.continued;
      same = again_past c.args.items.now.items c.args.taken.now.items c.again.items.items c.again.taken.items c.args.keep (c.again.left - 1) c.again.left c.index-place.result c.index-entry.result.now c.again.invariant.continued c.index-place.ensures outside c.index-entry.ensures step there below c.again.invariant.same;
      room = omega (arith, c.again.invariant.room);
    }
