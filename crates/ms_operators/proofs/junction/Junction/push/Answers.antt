use Rattle.ms_operators.proofs.Depths.{deepest_more}
use Rattle.ms_operators.proofs.junction.Junction.push.Goals as goal

pub invariant_of-self-2 : goal.invariant_of-self-2
invariant_of-self-2 c = rw (c.in_ok-push.ensures.ok, deepest_more c.self.inside.parts c.in_ok-part.part, ← c.self.invariant) c.max-depth.ensures
