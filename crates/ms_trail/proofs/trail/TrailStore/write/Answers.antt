use Rattle.ms_num.specs.Sets.{set_of}
use Rattle.ms_trail.specs.Trailed.{slot_at}
use Rattle.ms_trail.proofs.Written.{puts}
use Rattle.ms_trail.proofs.trail.TrailStore.write.Goals as goal

pub set_domain-requires-clause-proper : goal.set_domain-requires-clause-proper
set_domain-requires-clause-proper c = (c.in-Some.ensures c.args.self.now.ranges (slot_at c.args.self.now c.args.v).1).proper

pub returns-in-Some-clause-ok : goal.returns-in-Some-clause-ok
returns-in-Some-clause-ok c =
    let t = c.args.self.now in
    let row = (slot_at t c.args.v).1 in
    puts t c.set_domain.new.self c.args.v (set_of c.args.set.now) c.in-Some.domain row c.in_ok-set_domain.ensures.ok (c.in-Some.ensures t.ranges row)
