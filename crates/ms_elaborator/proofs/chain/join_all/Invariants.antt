use Rattle.std.proofs.Common.{◌≡◌, length}
use Rattle.ms_syntax.specs.Tree.{links_view}
use Rattle.ms_elaborator.specs.Walk.{from_right, joined_right}
use Rattle.ms_elaborator.proofs.chain.join_all.Given as goal

abbrev pub invariant-loop-link : goal.invariant-loop-link
invariant-loop-link l = joined_right l.types (links_view l.links) ≡ from_right l.types (links_view l.rest) l.behind

abbrev pub decreases-loop-link : goal.decreases-loop-link
decreases-loop-link l = length l.rest
