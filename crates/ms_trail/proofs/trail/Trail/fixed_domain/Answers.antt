use Rattle.std.proofs.Common.{List, sym, subst}
use Rattle.ms_num.specs.Span.{Span}
use Rattle.ms_num.specs.Sets.{set_of}
use Rattle.ms_domains.specs.Domains.{StandsFor}
use Rattle.ms_trail.proofs.Grown.{pinned_all}
use Rattle.ms_trail.proofs.trail.Trail.fixed_domain.Goals as goal

pub returns-clause-made : goal.returns-clause-made
returns-clause-made c = λ row. subst (λ (r : List (List Span)). StandsFor r row (set_of c.args.set.now) c.in_ok-domain.domain) (sym (pinned_all c.add_list.new.self c.pin.new.self c.pin.ensures.fixed)) (rw c.in_ok-copied.ensures at c.in_ok-domain.ensures.domain row)
