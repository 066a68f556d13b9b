use Rattle.std.proofs.Common.{◌≡◌, ◌∙◌, ◌++◌, ◌∷◌, [], ap, ◌<◌, length, rules}
use Rattle.std.proofs.lemmas.List.{length-set}
use Rattle.ms_cells.proofs.Reaching.{trail_set, reach_set}
use Rattle.ms_cells.proofs.Undone.{lists-set}
use Rattle.ms_cells.proofs.cells.Cells.set.Goals as goal

pub returns-clause-ok : goal.returns-clause-ok
returns-clause-ok g c =
    let taken : c.push_reserved.new.self.items ≡ c.self.inside.taken.items ++ (c.args.at, c.index-before.result.now) ∷ [] = c.push_reserved.ensures.items ∙ ap (λ q. q ++ (c.args.at, c.index-before.result.now) ∷ []) c.in_ok-reserve.ensures.items in
    rw (taken, ← c.self.view_is) (lists-set c.self.inside.current.items c.self.inside.taken.items c.self.inside.marks.items c.args.at c.args.value c.index-before.result.now c.index-before.ensures c.self.invariant.0)

pub invariant_of-self-2 : goal.invariant_of-self-2
invariant_of-self-2 g c =
    let taken : c.push_reserved.new.self.items ≡ c.self.inside.taken.items ++ (c.args.at, c.index-before.result.now) ∷ [] = c.push_reserved.ensures.items ∙ ap (λ q. q ++ (c.args.at, c.index-before.result.now) ∷ []) c.in_ok-reserve.ensures.items in
    let there : c.args.at < length c.self.inside.current.items = search rules in (
      trail_set c.self.inside.current.items _ c.self.inside.taken.items c.push_reserved.new.self.items c.self.inside.marks.items (c.args.at, c.index-before.result.now) (length-set c.self.inside.current.items c.args.at c.args.value) taken there c.self.invariant.0,
      reach_set c.self.inside.taken.items c.push_reserved.new.self.items c.self.inside.marks.items c.self.inside.reaches.items c.self.inside.reach c.further-self-inside.result (c.args.at, c.index-before.result.now) taken c.self.invariant.0.within c.further-self-inside.ensures.least c.further-self-inside.ensures.above c.self.invariant.1,
    )
