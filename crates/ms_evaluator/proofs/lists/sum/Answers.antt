use Rattle.std.proofs.Common.{◌∙◌, ◌+◌, drop, refl}
use Rattle.ms_num.specs.Span.{add_span}
use Rattle.ms_trees.specs.Enclosure.{operation}
use Rattle.std.proofs.lemmas.List.{drop_all}
use Rattle.ms_trees.proofs.Fits.{drop_here}
use Rattle.ms_ground.proofs.Known.{within_plain}
use Rattle.ms_evaluator.proofs.Totals.{total_goes, total_leaves, total_ends}
use Rattle.ms_evaluator.proofs.lists.sum.Goals as goal

pub loop-part-preserved : goal.loop-part-preserved
loop-part-preserved c =
    let l = c.loop-part in
    record {
      rest = total_goes l.total c.part-item.result (drop l.part-index c.args.parts.now) (drop (l.part-index + 1) c.args.parts.now) (drop_here c.args.parts.now l.part-index c.part-item.result c.loop-part-test.true c.part-item.is) c.in_ok-total.total c.in_ok-total.ensures ∙ l.invariant.rest;
      plain = within_plain (operation add_span l.total c.part-item.result) c.in_ok-total.total refl c.in_ok-total.ensures;
    }

pub returns : goal.returns
returns c = total_ends c.loop-part.total (drop c.loop-part.part-index c.args.parts.now) (drop_all c.loop-part.part-index c.args.parts.now c.loop-part-test.false) c.loop-part.invariant.plain ∙ c.loop-part.invariant.rest

pub returns-in_err-total : goal.returns-in_err-total
returns-in_err-total c =
    let l = c.loop-part in
    c.from_residual.ensures ∙ total_leaves l.total c.part-item.result (drop l.part-index c.args.parts.now) (drop (l.part-index + 1) c.args.parts.now) (drop_here c.args.parts.now l.part-index c.part-item.result c.loop-part-test.true c.part-item.is) c.in_err-total.ensures ∙ l.invariant.rest
