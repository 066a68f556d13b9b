use Rattle.std.proofs.Common.{◌∙◌, sym, arith, None, false}
use Rattle.ms_trees.specs.Enclosure as r
use Rattle.ms_trees.specs.declared.tree.Enclosure.{Enclosure}
use Rattle.ms_trees.proofs.Bools.{ap2}
use Rattle.ms_trees.proofs.Fits.{read_default}
use Rattle.ms_evaluator.proofs.Turns.{pair_meets}
use Rattle.ms_evaluator.proofs.room.first_meets.Goals as goal

pub returns : goal.returns
returns c =
    let x = read_default c.args.parts.now c.args.j c.index-parts-j.result (r.numeric_enclosure None false) (omega (arith, c.if-j-k.false, c.if-k-parts.false)) in
    let y = read_default c.args.parts.now c.args.k c.index-parts-k.result (r.numeric_enclosure None false) (omega (arith, c.if-k-parts.false)) in
    λ t. pair_meets c.args.parts.now c.args.j c.args.k (omega (arith, c.if-j-k.false)) (omega (arith, c.if-k-parts.false)) (sym (ap2 (λ (p q : Enclosure). r.compare_intervals r.meets p.interval q.interval) x y) ∙ sym c.meets.ensures ∙ t)
