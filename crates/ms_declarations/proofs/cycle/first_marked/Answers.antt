use Rattle.std.proofs.Common.{◌≡◌, ◌+◌, drop, map, sym, ap, ◌∙◌}
use Rattle.std.specs.List.{flat_map}
use Rattle.std.specs.Option.{option_or}
use Rattle.ms_syntax.specs.Tree.{item_view, names_view}
use Rattle.ms_declarations.specs.Depends.{restrained}
use Rattle.ms_declarations.specs.Drawing.{first_marked}
use Rattle.ms_declarations.proofs.Cycles.{marked_step}
use Rattle.ms_declarations.proofs.cycle.first_marked.Goals as goal

pub returns-in-Some : goal.returns-in-Some
returns-in-Some c =
    let step = marked_step (names_view c.args.names.now) c.args.marks.now c.args.items.now c.loop-item.item-index c.item-item.result c.loop-item-test.true c.item-item.is in
    sym (c.loop-item.invariant ∙ step
    ∙ ap (λ o. option_or o (first_marked (names_view c.args.names.now) c.args.marks.now (flat_map restrained (map item_view (drop (c.loop-item.item-index + 1) c.args.items.now))))) (sym c.in-Some.ensures))

pub loop-item-preserved : goal.loop-item-preserved
loop-item-preserved c =
    let step = marked_step (names_view c.args.names.now) c.args.marks.now c.args.items.now c.loop-item.item-index c.item-item.result c.loop-item-test.true c.item-item.is in
    c.loop-item.invariant ∙ step
    ∙ ap (λ o. option_or o (first_marked (names_view c.args.names.now) c.args.marks.now (flat_map restrained (map item_view (drop (c.loop-item.item-index + 1) c.args.items.now))))) (sym c.in_default.ensures)
