use Rattle.std.proofs.Common.{map, sym, ◌∙◌, refl}
use Rattle.ms_postorder.proofs.Moves.{walked}
use Rattle.ms_postorder.proofs.search.Search.walk.Goals as goal

pub returns : goal.returns
returns c =
    walked (map (λ v. v.items) c.args.graph.now) c.args.self.now c.loop-frame.self _ c.loop-frame.invariant.search c.loop-frame.invariant.finishes
    (sym c.loop-frame.self.waiting.ok.0 ∙ c.in_default.ensures.cases.0) (sym c.pop.new.self.ok.0 ∙ c.in_default.ensures.cases.1) refl refl
