use Rattle.std.proofs.Common.{rules, ◌<◌, ◌≤◌, ◌≡◌, length, arith, ap, sym, ◌∙◌}
use Rattle.ms_store.proofs.Copying.{shorten_step, shorten_end}
use Rattle.ms_store.proofs.copies.shorten.Goals as goal

pub loop-list-preserved : goal.loop-list-preserved
loop-list-preserved c =
    let there : c.loop-list.list-index < length c.loop-list.list-items = search rules in
    shorten_step (λ l. l.items) c.args.count c.deref_mut-list-items.result.now c.loop-list.list-items c.loop-list.list-index c.list-item.result c.truncate.new.self there c.truncate.ensures.items c.loop-list.invariant

pub returns : goal.returns
returns c =
    let e = c.deref_mut-list-items.ensures.value in
    shorten_end (λ l. l.items) c.args.count c.args.lists.now.len c.loop-list.list-index c.args.lists.now.items c.loop-list.list-items (c.loop-list.auto.list-items ∙ ap length e) (omega (arith, c.args.lists.now.ok.0)) (omega (arith, c.loop-list-test.false, ap length e)) (rw e at c.loop-list.invariant)
