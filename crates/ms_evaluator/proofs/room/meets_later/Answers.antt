use Rattle.std.proofs.Common.{◌∙◌, ◌+◌, ap, drop, None, false}
use Rattle.std.specs.List.{list_any}
use Rattle.ms_trees.specs.Enclosure as r
use Rattle.ms_trees.specs.declared.tree.Enclosure.{Enclosure}
use Rattle.ms_trees.proofs.Fits.{read_default}
use Rattle.ms_evaluator.proofs.room.meets_later.Goals as goal

pub returns : goal.returns
returns c =
    let x = read_default c.args.parts.now c.args.place c.index-parts-place.result (r.numeric_enclosure None false) c.requires in
    rw c.split_at.ensures.back at c.meets_some.ensures ∙ ap (λ (p : Enclosure). list_any (λ (q : Enclosure). r.compare_intervals r.meets p.interval q.interval) (drop (c.args.place + 1) c.args.parts.now)) x
