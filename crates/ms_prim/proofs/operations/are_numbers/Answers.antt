use Rattle.ms_prim.proofs.Reading.{other_length}
use Rattle.ms_prim.proofs.operations.are_numbers.Goals as goal

pub returns-then-parts-row : goal.returns-then-parts-row
returns-then-parts-row c = other_length c.args.point.now c.args.parts.now c.args.row.now c.if-parts-row.true
