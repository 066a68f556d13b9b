use Rattle.ms_parser.proofs.Listed.{of_range_is}
use Rattle.ms_parser.proofs.item.of_range.Goals as goal

pub returns : goal.returns
returns c = rw (of_range_is c.args.tokens.now _ _ _ c.in_ok-first.ensures c.place-place.ensures) c.behind_range.ensures
