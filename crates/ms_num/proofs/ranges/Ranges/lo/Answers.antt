use Rattle.std.proofs.Common.{◌≡◌, rules}
use Rattle.std.specs.Prelude.{option_map, slice_get}
use Rattle.ms_num.proofs.SharedMembers.{lo_lowest}
use Rattle.ms_num.proofs.ranges.Ranges.lo.Goals as goal

value : (c : goal.After-map) → c.map.result ≡ option_map (λ s. s.lo) (slice_get c.args.self.now 0)
value c = search rules

pub returns-clause-lowest : goal.returns-clause-lowest
returns-clause-lowest c = rw (value c, ← c.self.view_is) (lo_lowest _ _ c.self.invariant)
