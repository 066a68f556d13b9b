use Rattle.std.proofs.Common.{arith, ◌≡◌, ◌≤◌, ◌-◌, None, length, sym, ap, subst, ◌∙◌}
use Rattle.std.specs.Prelude.{slice_get}
use Rattle.ms_graph.proofs.Places.{none_past}
use Rattle.ms_graph.proofs.Searches.{walk_over}
use Rattle.ms_graph.proofs.graph.Search.walk_on.Goals as goal

pub returns : goal.returns
returns c =
    let h = c.loop-place.invariant in
    let none : slice_get c.deref.result.now (length c.deref.result.now - 1) ≡ None = sym c.last.ensures.value ∙ sym c.copied.ensures ∙ c.in_default.is in
    let past : length c.deref.result.now ≤ length c.deref.result.now - 1 = none_past c.deref.result.now (length c.deref.result.now - 1) none in
    let same : length c.deref.result.now ≡ length c.loop-place.self.walk.items = ap length c.deref.ensures.value in
    (h.search, walk_over c.args.graph.now c.loop-place.self h.search (omega arith), h.stays)
