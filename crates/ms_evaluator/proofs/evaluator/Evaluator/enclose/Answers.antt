use Rattle.std.proofs.Common.{◌≡◌, ◌∙◌, sym, ap, subst, IfOk}
use Rattle.ms_trees.specs.Enclosure.{enclosure}
use Rattle.ms_trees.specs.WellFormed.{is_well_formed, is_numeric}
use Rattle.ms_evaluator.specs.Findings.{number_in, truth_in}
use Rattle.ms_evaluator.proofs.Findings.{findings_known, number_found_some, truth_found_else}
use Rattle.ms_evaluator.proofs.evaluator.Evaluator.enclose.Goals as goal

pub returns-in-Some : goal.returns-in-Some
returns-in-Some g c =
    let b = g.B.Intervals.spans c.args.sets in
    let tree = c.args.g.now in
    number_found_some (is_well_formed b tree) (is_numeric tree) c.in-Some.x (enclosure b tree) (sym c.in-Some.is ∙ c.in_ok-x.ensures.value ∙ ap number_in (findings_known b tree))

pub returns-in-None : goal.returns-in-None
returns-in-None g c =
    let b = g.B.Intervals.spans c.args.sets in
    let tree = c.args.g.now in
    let none = truth_found_else (is_well_formed b tree) (is_numeric tree) (enclosure b tree) (sym c.in-None.is ∙ c.in_ok-x.ensures.value ∙ ap number_in (findings_known b tree)) in
    subst (λ q. IfOk c.truth.result (λ o. o ≡ q)) (ap truth_in (findings_known b tree) ∙ none) c.truth.ensures.value
