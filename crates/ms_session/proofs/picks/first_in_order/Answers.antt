use Rattle.std.proofs.Common.{length, arith, sym, ◌∙◌}
use Rattle.ms_boxes.specs.Boxes.{box_of}
use Rattle.ms_session.proofs.Turns.{first_more, first_found, first_end}
use Rattle.ms_session.proofs.picks.first_in_order.Goals as goal

pub returns-then-is_unfixed : goal.returns-then-is_unfixed
returns-then-is_unfixed c = first_found (box_of c.args.sets.now) (length c.args.sets.now) c.loop-variable.variable c.loop-variable.invariant (omega arith) (sym c.is_unfixed.ensures ∙ c.if-is_unfixed.true)

pub loop-variable-preserved : goal.loop-variable-preserved
loop-variable-preserved c = first_more (box_of c.args.sets.now) (length c.args.sets.now) c.loop-variable.variable c.loop-variable.invariant (sym c.is_unfixed.ensures ∙ c.if-is_unfixed.false)

pub returns : goal.returns
returns c = first_end (box_of c.args.sets.now) (length c.args.sets.now) c.loop-variable.variable c.loop-variable.invariant (omega arith)
