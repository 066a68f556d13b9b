use Rattle.std.proofs.Common.{◌∙◌, ap, rules, SFits, w64}
use Rattle.std.proofs.lemmas.Int.{to_z-of_z}
use Rattle.ms_domains.specs.Domains.{domain_set}
use Rattle.ms_trail.proofs.spread.has_above.Goals as goal

pub returns : goal.returns
returns c =
    let base : SFits w64 c.args.base = search rules in
    let z : SFits w64 c.above.result = search rules in
    c.has.ensures ∙ ap (domain_set c.args.lists.now c.args.row.now c.args.domain).has (to_z-of_z w64 c.above.result z ∙ rw (to_z-of_z w64 c.args.base base) at c.above.ensures)
