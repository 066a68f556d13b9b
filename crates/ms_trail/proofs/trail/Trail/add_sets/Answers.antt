use Rattle.std.proofs.Common.{◌∙◌, ap, map}
use Rattle.ms_num.specs.Sets.{Set, set_of}
use Rattle.ms_cells.specs.Cells.{Lists, grown}
use Rattle.ms_trail.proofs.Grown.{grown_sets}
use Rattle.ms_trail.proofs.trail.Trail.add_sets.Goals as goal

pub returns-clause-ok : goal.returns-clause-ok
returns-clause-ok c =
    grown_sets c.domains_of.new.self c.add.new.self c.args.sets.now c.in_ok-domains.domains.items c.in_ok-domains.lengths.items c.in_ok-domains.ensures.made (rw (c.deref.ensures.value, c.deref-2.ensures.value) at c.in_ok-add.ensures.ok)
    ∙ ap (λ (l : Lists Set). grown l (map set_of c.args.sets.now)) c.in_ok-domains.ensures.same
