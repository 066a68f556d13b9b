use Rattle.std.proofs.Common.{rules, ◌<◌, length, ap, get_or}
use Rattle.ms_cells.specs.Cells.{forgotten}
use Rattle.ms_cells.proofs.SharedLists.{map_step}
use Rattle.ms_cells.proofs.cells.forget.Goals as goal

pub loop-entry-preserved : goal.loop-entry-preserved
loop-entry-preserved g c =
    let there : c.loop-entry.entry-index < length c.loop-entry.entry-items = search rules in
    map_step (λ e. forgotten c.args.count e) _ c.loop-entry.entry-items c.loop-entry.entry-index _ c.entry-item.result there c.loop-entry.invariant (ap (λ p. (p, (get_or c.loop-entry.entry-items c.loop-entry.entry-index c.entry-item.result).1)) c.kept_place-entry.ensures)
