use Rattle.ms_trail.specs.Trailed.{Trailed}
use Rattle.std.proofs.Common.{refl, ◌<◌, length, arith, map, max, ap, ◌∙◌, ℕ, take}
use Rattle.std.proofs.lemmas.List.{length-map, get_or_read}
use Rattle.ms_trail.specs.Trailed.{slot_set}
use Rattle.ms_trail.proofs.Trailing.{Undoes, undone_trailed, undone_sets}
use Rattle.ms_trail.proofs.trail.TrailStore.undo.Goals as goal

pub invariant_of-self : goal.invariant_of-self
invariant_of-self c =
    let t : Trailed = record { cells = c.self.inside.cells; ranges = c.self.inside.ranges.items; kept = c.self.inside.kept.items; fixed = c.self.inside.fixed } in
    let u : Trailed = record { cells = c.undo.new.self; ranges = c.truncate-2.new.self.items; kept = c.truncate.new.self.items; fixed = c.self.inside.fixed } in
    let there : c.args.mark.number < length c.self.inside.cells.saved = omega (arith, rw (← c.self.view_is) at c.requires, length-map c.self.inside.cells.saved (map (slot_set t.ranges))) in
    let kept = get_or_read c.self.inside.kept.items c.args.mark.number c.index.result.now (omega (arith, there, c.self.invariant.count)) c.index.ensures 0 in
    let named = c.max-named.ensures ∙ ap (λ (n : ℕ). max n c.self.inside.fixed) kept in
    let d : Undoes t u c.args.mark.number = record { there = there; current = c.undo.ensures.now; saved = c.undo.ensures.saved; kept = c.truncate.ensures.items; ranges = c.truncate-2.ensures.items ∙ ap (λ (n : ℕ). take n c.self.inside.ranges.items) named; fixed = refl } in
    undone_trailed t u c.args.mark.number c.self.invariant d

pub returns-clause-current : goal.returns-clause-current
returns-clause-current c =
    let t : Trailed = record { cells = c.self.inside.cells; ranges = c.self.inside.ranges.items; kept = c.self.inside.kept.items; fixed = c.self.inside.fixed } in
    let u : Trailed = record { cells = c.undo.new.self; ranges = c.truncate-2.new.self.items; kept = c.truncate.new.self.items; fixed = c.self.inside.fixed } in
    let there : c.args.mark.number < length c.self.inside.cells.saved = omega (arith, rw (← c.self.view_is) at c.requires, length-map c.self.inside.cells.saved (map (slot_set t.ranges))) in
    let kept = get_or_read c.self.inside.kept.items c.args.mark.number c.index.result.now (omega (arith, there, c.self.invariant.count)) c.index.ensures 0 in
    let named = c.max-named.ensures ∙ ap (λ (n : ℕ). max n c.self.inside.fixed) kept in
    let d : Undoes t u c.args.mark.number = record { there = there; current = c.undo.ensures.now; saved = c.undo.ensures.saved; kept = c.truncate.ensures.items; ranges = c.truncate-2.ensures.items ∙ ap (λ (n : ℕ). take n c.self.inside.ranges.items) named; fixed = refl } in
    rw (← c.self.view_is) (undone_sets t u c.args.mark.number c.self.invariant d).0

pub returns-clause-saved : goal.returns-clause-saved
returns-clause-saved c =
    let t : Trailed = record { cells = c.self.inside.cells; ranges = c.self.inside.ranges.items; kept = c.self.inside.kept.items; fixed = c.self.inside.fixed } in
    let u : Trailed = record { cells = c.undo.new.self; ranges = c.truncate-2.new.self.items; kept = c.truncate.new.self.items; fixed = c.self.inside.fixed } in
    let there : c.args.mark.number < length c.self.inside.cells.saved = omega (arith, rw (← c.self.view_is) at c.requires, length-map c.self.inside.cells.saved (map (slot_set t.ranges))) in
    let kept = get_or_read c.self.inside.kept.items c.args.mark.number c.index.result.now (omega (arith, there, c.self.invariant.count)) c.index.ensures 0 in
    let named = c.max-named.ensures ∙ ap (λ (n : ℕ). max n c.self.inside.fixed) kept in
    let d : Undoes t u c.args.mark.number = record { there = there; current = c.undo.ensures.now; saved = c.undo.ensures.saved; kept = c.truncate.ensures.items; ranges = c.truncate-2.ensures.items ∙ ap (λ (n : ℕ). take n c.self.inside.ranges.items) named; fixed = refl } in
    rw (← c.self.view_is) (undone_sets t u c.args.mark.number c.self.invariant d).1
