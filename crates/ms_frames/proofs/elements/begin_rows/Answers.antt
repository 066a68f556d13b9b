use Rattle.std.proofs.Common.{refl}
use Rattle.ms_frames.specs.Frames.{resume}
use Rattle.ms_rules.specs.Cells.{empty}
use Rattle.ms_rules.specs.Conversions.{kind_of_type}
use Rattle.ms_frames.proofs.Moved.{shows, rows_begin}
use Rattle.ms_frames.proofs.elements.begin_rows.Goals as goal

pub returns : goal.returns
returns c out frames here ws = shows out _ _ _ frames here _ ws (rows_begin out here c.args.place c.args.rows.now _ _ (empty (kind_of_type c.args.kind)) (resume out frames here) c.args.left.now ws refl (c.width_of.ensures out here.calls)) (rw (c.empty-cells.ensures, c.kind_of_type.ensures) at (c.next_row.ensures out frames here ws))
