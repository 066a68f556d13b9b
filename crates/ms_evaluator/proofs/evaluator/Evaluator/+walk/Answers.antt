use Rattle.std.proofs.Common.{◌≡◌, ◌∙◌, ◌+◌, [], ◌∷◌, ◌++◌, take, drop, map, sym, ap, subst}
use Rattle.ms_trees.proofs.Bools.{ap2}
use Rattle.ms_trees.proofs.Fits.{drop_here}
use Rattle.ms_evaluator.specs.Findings.{findings, number_in, truth_in, all_known}
use Rattle.ms_evaluator.specs.Pushed.{IsLeft}
use Rattle.ms_evaluator.proofs.Stacked.{pushing, stops, pushes}
use Rattle.ms_evaluator.proofs.evaluator.Evaluator.+walk.Goals as goal

pub push_numbers-loop-part-init : goal.push_numbers-loop-part-init
push_numbers-loop-part-init g t c = pushing c.args.self.now.kept.items (map number_in (map (findings (g.B.Intervals.spans c.args.sets)) c.args.parts.now))

pub push_numbers-returns-in_default : goal.push_numbers-returns-in_default
push_numbers-returns-in_default g t c =
    let l = c.loop-part in
    let found = findings (g.B.Intervals.spans c.args.sets) in
    let rest = map number_in (map found (drop l.part-index c.args.parts.now)) in
    let later = map number_in (map found (drop (l.part-index + 1) c.args.parts.now)) in
    let all = map number_in (map found c.args.parts.now) in
    let here : rest ≡ number_in (found c.part-item.result) ∷ later = ap (λ ys. map number_in (map found ys)) (drop_here c.args.parts.now l.part-index c.part-item.result c.loop-part-test.true c.part-item.is) in
    let cut = c.truncate.ensures.items ∙ ap2 take (c.len-base.ensures ∙ c.args.self.now.kept.ok.0) c.in_ok-x.ensures.kept in
    subst (λ s. IsLeft c.args.self.now.kept.items s (all_known all)) (sym cut) (stops c.args.self.now.kept.items l.self.kept.items rest all (number_in (found c.part-item.result)) later here l.invariant (sym c.in_ok-x.ensures.value ∙ c.in_default.is))

pub push_numbers-loop-part-preserved : goal.push_numbers-loop-part-preserved
push_numbers-loop-part-preserved g t c =
    let l = c.loop-part in
    let found = findings (g.B.Intervals.spans c.args.sets) in
    let rest = map number_in (map found (drop l.part-index c.args.parts.now)) in
    let later = map number_in (map found (drop (l.part-index + 1) c.args.parts.now)) in
    let all = map number_in (map found c.args.parts.now) in
    let here : rest ≡ number_in (found c.part-item.result) ∷ later = ap (λ ys. map number_in (map found ys)) (drop_here c.args.parts.now l.part-index c.part-item.result c.loop-part-test.true c.part-item.is) in
    let new = c.in_ok-extend_from_slice.ensures.items ∙ ap (λ s. s ++ c.in-Some.x ∷ []) c.in_ok-x.ensures.kept in
    pushes c.args.self.now.kept.items l.self.kept.items rest all (number_in (found c.part-item.result)) later here c.in-Some.x c.extend_from_slice.new.self.items l.invariant (sym c.in_ok-x.ensures.value ∙ c.in-Some.is) new

pub push_truths-loop-part-init : goal.push_truths-loop-part-init
push_truths-loop-part-init g t c = pushing c.args.self.now.kept.items (map truth_in (map (findings (g.B.Intervals.spans c.args.sets)) c.args.parts.now))

pub push_truths-returns-in_default : goal.push_truths-returns-in_default
push_truths-returns-in_default g t c =
    let l = c.loop-part in
    let found = findings (g.B.Intervals.spans c.args.sets) in
    let rest = map truth_in (map found (drop l.part-index c.args.parts.now)) in
    let later = map truth_in (map found (drop (l.part-index + 1) c.args.parts.now)) in
    let all = map truth_in (map found c.args.parts.now) in
    let here : rest ≡ truth_in (found c.part-item.result) ∷ later = ap (λ ys. map truth_in (map found ys)) (drop_here c.args.parts.now l.part-index c.part-item.result c.loop-part-test.true c.part-item.is) in
    let cut = c.truncate.ensures.items ∙ ap2 take (c.len-base.ensures ∙ c.args.self.now.kept.ok.0) c.in_ok-x.ensures.kept in
    subst (λ s. IsLeft c.args.self.now.kept.items s (all_known all)) (sym cut) (stops c.args.self.now.kept.items l.self.kept.items rest all (truth_in (found c.part-item.result)) later here l.invariant (sym c.in_ok-x.ensures.value ∙ c.in_default.is))

pub push_truths-loop-part-preserved : goal.push_truths-loop-part-preserved
push_truths-loop-part-preserved g t c =
    let l = c.loop-part in
    let found = findings (g.B.Intervals.spans c.args.sets) in
    let rest = map truth_in (map found (drop l.part-index c.args.parts.now)) in
    let later = map truth_in (map found (drop (l.part-index + 1) c.args.parts.now)) in
    let all = map truth_in (map found c.args.parts.now) in
    let here : rest ≡ truth_in (found c.part-item.result) ∷ later = ap (λ ys. map truth_in (map found ys)) (drop_here c.args.parts.now l.part-index c.part-item.result c.loop-part-test.true c.part-item.is) in
    let new = c.in_ok-extend_from_slice.ensures.items ∙ ap (λ s. s ++ c.in-Some.x ∷ []) c.in_ok-x.ensures.kept in
    pushes c.args.self.now.kept.items l.self.kept.items rest all (truth_in (found c.part-item.result)) later here c.in-Some.x c.extend_from_slice.new.self.items l.invariant (sym c.in_ok-x.ensures.value ∙ c.in-Some.is) new
