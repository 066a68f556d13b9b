use Rattle.std.proofs.Common.{rules, ◌<◌, arith, ◌∙◌, length}
use Rattle.ms_cells.proofs.Undone.{undone_step, undone_past, front_step}
use Rattle.ms_cells.proofs.cells.write_back.Goals as goal

pub back-preserved-then-place-len : goal.back-preserved-then-place-len
back-preserved-then-place-len g c =
    let more : c.args.keep < length c.back.taken.items = search rules in
    record {
      left = omega (arith, c.in-Some.ensures.len);
      front = front_step _ _ _ _ c.in-Some.ensures.items c.back.invariant.front;
      same = undone_step _ _ _ _ _ c.in-Some.ensures.items more ∙ c.back.invariant.same;
    }

pub back-preserved-else-place-len : goal.back-preserved-else-place-len
back-preserved-else-place-len g c =
    let more : c.args.keep < length c.back.taken.items = search rules in
    record {
      left = omega (arith, c.in-Some.ensures.len);
      front = front_step _ _ _ _ c.in-Some.ensures.items c.back.invariant.front;
      same = undone_past _ _ _ _ _ c.in-Some.ensures.items more (search rules) ∙ c.back.invariant.same;
    }
