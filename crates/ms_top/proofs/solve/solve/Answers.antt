use Rattle.std.proofs.Common.{◌∙◌, sym, ap, length}
use Rattle.std.specs.Prelude.{ℤ}
use Rattle.std.proofs.lemmas.List.{length-map}
use Rattle.ms_top.specs.Solution.{IsLeast, domain_of, domains}
use Rattle.ms_top.proofs.Enumerating.{within_length}
use Rattle.ms_top.proofs.solve.solve.Goals as goal

pub solution_text-requires : goal.solution_text-requires
solution_text-requires c =
    let least : IsLeast c.args.model.now c.in-Some.point = rw c.in-Some.is at c.in_ok-point.ensures in
    sym (length-map c.args.model.now.declarations domain_of) ∙ within_length (domains c.args.model.now) c.in-Some.point least.solution.within ∙ ap (length {A = ℤ}) (sym c.as_slice.ensures)
