use Rattle.ms_show.proofs.Joins.{members_text_of-first}
use Rattle.ms_show.proofs.sets.members_text.Goals as goal

pub returns : goal.returns
returns c =
    rw (c.from_vec.ensures, c.in_ok-extend_from_slice.ensures.items, c.in_ok-push_ranges.ensures, c.in_ok-push_numbers.ensures, c.in_ok-push_at.ensures, c.in_ok-text.ensures.items)
    (members_text_of-first c.args.first c.args.rest.now)
