use Rattle.std.proofs.Common.{map, drop}
use Rattle.ms_evaluator.specs.Findings.{findings, number_in, truth_in}
use Rattle.ms_evaluator.proofs.Stacked.{IsPushing}
use Rattle.ms_evaluator.proofs.evaluator.Evaluator.+walk.Given as goal

abbrev pub invariant-push_numbers-loop-part : goal.invariant-push_numbers-loop-part
invariant-push_numbers-loop-part g l = IsPushing l.fn.self.kept.items l.self.kept.items (map number_in (map (findings (g.B.Intervals.spans l.sets)) (drop l.part-index l.parts))) (map number_in (map (findings (g.B.Intervals.spans l.sets)) l.parts))

abbrev pub invariant-push_truths-loop-part : goal.invariant-push_truths-loop-part
invariant-push_truths-loop-part g l = IsPushing l.fn.self.kept.items l.self.kept.items (map truth_in (map (findings (g.B.Intervals.spans l.sets)) (drop l.part-index l.parts))) (map truth_in (map (findings (g.B.Intervals.spans l.sets)) l.parts))
