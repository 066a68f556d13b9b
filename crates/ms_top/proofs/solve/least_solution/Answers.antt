use Rattle.std.proofs.Common.{◌≡◌, ◌∙◌}
use Rattle.ms_top.specs.Solution.{domains, constraint_trees}
use Rattle.ms_top.proofs.Fitting.{small_fits}
use Rattle.ms_top.proofs.solve.least_solution.Goals as goal

pub set_least-requires-clause-fit : goal.set_least-requires-clause-fit
set_least-requires-clause-fit c =
    let same_domains : c.deref.result.now ≡ domains c.args.model.now = c.deref.ensures.value ∙ c.in_ok-domains.ensures in
    let same_trees : c.deref-2.result.now ≡ constraint_trees c.args.model.now = c.deref-2.ensures.value ∙ c.in_ok-trees.ensures in
    rw (same_domains, same_trees) (small_fits c.args.model.now c.requires)
