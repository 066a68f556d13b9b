use Rattle.ms_show.proofs.Joins.{rows_text_of-joined}
use Rattle.ms_show.proofs.parts.rows_text.Goals as goal

pub returns : goal.returns
returns c =
    rw (c.from_vec-2.ensures, c.in_ok-extend_from_slice.ensures.items, c.in_ok-push_later_rows.ensures, c.in_ok-push_joined.ensures, c.in_ok-text.ensures.items, c.row.ensures)
    (rows_text_of-joined c.args.width c.args.parts.now c.requires c.if-is_empty.ensures)
