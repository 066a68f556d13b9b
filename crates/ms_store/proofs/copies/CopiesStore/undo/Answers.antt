use Rattle.std.proofs.Common.{rules, ap, sym, ◌∙◌, ◌≡◌, ◌<◌, ◌+◌, length, map, arith}
use Rattle.std.proofs.lemmas.List.{length-map, take-map}
use Rattle.ms_num.specs.Sets.{set_of}
use Rattle.ms_cells.specs.Cells.{seen}
use Rattle.ms_store.proofs.ListsOf.{saved_some}
use Rattle.ms_store.proofs.Copying.{seen_last, copied_undone, last_of_saved}
use Rattle.ms_store.proofs.copies.CopiesStore.undo.Goals as goal

pub invariant_of-self : goal.invariant_of-self
invariant_of-self c =
    let e = sym c.truncate.ensures.items ∙ c.in-Some.ensures.items in
    let there : c.args.mark.number < length (map (λ l. l.items) c.self.inside.saved.items) = omega (arith, rw (← c.self.view_is) at c.requires, length-map (map (λ l. l.items) c.self.inside.saved.items) (map set_of)) in
    copied_undone (seen c.self.inside.current.items (map (λ l. l.items) c.self.inside.saved.items)) c.in-Some.sets.items (map (λ l. l.items) c.pop.new.self.items) c.args.mark.number (seen_last (λ l. l.items) c.self.inside.saved.items c.pop.new.self.items c.in-Some.sets (c.args.mark.number + 1) e) there c.self.invariant

pub returns-in-Some-clause-current : goal.returns-in-Some-clause-current
returns-in-Some-clause-current c =
    let e = sym c.truncate.ensures.items ∙ c.in-Some.ensures.items in
    let there : c.args.mark.number < length (map (λ l. l.items) c.self.inside.saved.items) = omega (arith, rw (← c.self.view_is) at c.requires, length-map (map (λ l. l.items) c.self.inside.saved.items) (map set_of)) in
    let last = last_of_saved (map (λ l. l.items) c.self.inside.saved.items) (map (λ l. l.items) c.pop.new.self.items) c.in-Some.sets.items c.args.mark.number (seen_last (λ l. l.items) c.self.inside.saved.items c.pop.new.self.items c.in-Some.sets (c.args.mark.number + 1) e) there in
    rw (← c.self.view_is) (saved_some set_of (map (λ l. l.items) c.self.inside.saved.items) c.args.mark.number c.in-Some.sets.items last.0)

pub returns-in-Some-clause-saved : goal.returns-in-Some-clause-saved
returns-in-Some-clause-saved c =
    let e = sym c.truncate.ensures.items ∙ c.in-Some.ensures.items in
    let there : c.args.mark.number < length (map (λ l. l.items) c.self.inside.saved.items) = omega (arith, rw (← c.self.view_is) at c.requires, length-map (map (λ l. l.items) c.self.inside.saved.items) (map set_of)) in
    let last = last_of_saved (map (λ l. l.items) c.self.inside.saved.items) (map (λ l. l.items) c.pop.new.self.items) c.in-Some.sets.items c.args.mark.number (seen_last (λ l. l.items) c.self.inside.saved.items c.pop.new.self.items c.in-Some.sets (c.args.mark.number + 1) e) there in
    rw (← c.self.view_is) (ap (map (map set_of)) last.1 ∙ sym (take-map (map set_of) c.args.mark.number (map (λ l. l.items) c.self.inside.saved.items)))
