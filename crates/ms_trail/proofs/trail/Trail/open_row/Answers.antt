use Rattle.std.proofs.Common.{◌∙◌}
use Rattle.ms_trail.proofs.Filled.{roomy_proper, roomy_same}
use Rattle.ms_trail.proofs.trail.Trail.open_row.Goals as goal

pub set_domain-requires-clause-proper : goal.set_domain-requires-clause-proper
set_domain-requires-clause-proper c = roomy_proper c.opened.new.self c.args.v _ c.in-Some.opened (rw c.in-Some.is at c.in_ok-opened.ensures.some)

pub returns-in-Some : goal.returns-in-Some
returns-in-Some c = roomy_same c.opened.new.self c.set_domain.new.self c.args.v _ c.in-Some.opened (rw c.in-Some.is at c.in_ok-opened.ensures.some) c.in_ok-set_domain.ensures.ok ∙ c.in_ok-opened.ensures.same
