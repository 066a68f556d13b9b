use Rattle.std.proofs.Common.{◌≡◌, ◌-◌, length, rules}
use Rattle.std.specs.Prelude.{option_map, slice_get}
use Rattle.ms_num.proofs.SharedMembers.{hi_highest}
use Rattle.ms_num.proofs.ranges.Ranges.hi.Goals as goal

value : (c : goal.After-map) → c.map.result ≡ option_map (λ s. s.hi) (slice_get c.args.self.now (length c.args.self.now - 1))
value c = search rules

pub returns-clause-highest : goal.returns-clause-highest
returns-clause-highest c = rw (value c, ← c.self.view_is) (hi_highest _ _ c.self.invariant)
