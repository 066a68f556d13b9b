use Rattle.std.proofs.Common.{◌∙◌, sym, ap, nat_lt}
use Rattle.ms_free_names.specs.Uses.{is_bound}
use Rattle.ms_free_names.proofs.Counts.{bound_counted}
use Rattle.ms_free_names.proofs.bound.Bound.contains.Goals as goal

pub returns : goal.returns
returns c = ap (nat_lt 0) (c.count.ensures ∙ c.self.invariant c.args.name.now)
    ∙ sym (bound_counted c.self.inside.names.items c.args.name.now)
    ∙ ap (λ bs. is_bound bs c.args.name.now) c.self.view_is
