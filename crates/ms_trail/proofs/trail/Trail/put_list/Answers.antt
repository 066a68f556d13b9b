use Rattle.std.proofs.Common.{◌∙◌, ap, set}
use Rattle.ms_num.specs.Sets.{Set, set_of}
use Rattle.ms_cells.specs.Cells.{Lists}
use Rattle.ms_trail.specs.Trailed.{slot_at}
use Rattle.ms_trail.proofs.Written.{puts}
use Rattle.ms_trail.proofs.trail.Trail.put_list.Goals as goal

pub set_domain-requires-clause-proper : goal.set_domain-requires-clause-proper
set_domain-requires-clause-proper c = (c.in_ok-domain.ensures.domain (slot_at c.add_list.new.self c.args.v).1).proper

pub returns-clause-ok : goal.returns-clause-ok
returns-clause-ok c =
    let mid = c.add_list.new.self in
    let row = (slot_at mid c.args.v).1 in
    puts mid c.set_domain.new.self c.args.v (set_of c.args.set) c.in_ok-domain.domain row c.in_ok-set_domain.ensures.ok (c.in_ok-domain.ensures.domain row)
    ∙ ap (λ (l : Lists Set). record l { current = set l.current c.args.v (set_of c.args.set) }) c.in_ok-domain.ensures.same
