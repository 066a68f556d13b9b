use Rattle.std.proofs.Common.{◌≡◌, ℕ, drop}
use Rattle.ms_placing.specs.Outside.{Outside}
use Rattle.ms_placing.specs.Placing as p
use Rattle.ms_frames.specs.Frames.{links}
use Rattle.ms_frames.proofs.chains.are_or.Given as goal

abbrev pub invariant-loop-link : goal.invariant-loop-link
invariant-loop-link l = (out : Outside) (d : ℕ) → p.are_or (links out d (drop l.link-index l.links)) ≡ p.are_or (links out d l.links)
