use Rattle.std.proofs.Common.{rules, ap, sym, ◌∙◌, ◌≡◌, ◌<◌, ◌+◌, ◌++◌, length, map, subst, List, arith, ◌^◌}
use Rattle.std.proofs.lemmas.List.{length-map}
use Rattle.ms_num.specs.Span.{Span}
use Rattle.ms_num.specs.Sets.{set_of}
use Rattle.ms_cells.specs.Cells.{Lists, seen}
use Rattle.ms_store.specs.Copied.{IsCopied}
use Rattle.ms_store.proofs.ListsOf.{grown_of}
use Rattle.ms_store.proofs.Copying.{grown_parts, copied_grown}
use Rattle.ms_store.proofs.copies.CopiesStore.grow.Goals as goal

pub invariant_of-self : goal.invariant_of-self
invariant_of-self c =
    let e = c.in_ok-current.ensures ∙ ap (λ (s : List (List Span)). s ++ c.args.sets.now) c.deref.ensures.value in
    let same = grown_parts (λ l. l.items) c.in_ok-current.current.items c.self.inside.saved.items c.in_ok-saved.saved.items c.self.inside.current.items c.args.sets.now e (rw c.deref-2.ensures.value at c.in_ok-saved.ensures) in
    let few : length c.self.inside.current.items + length c.args.sets.now < 2 ^ 32 = omega (arith, rw (← c.self.view_is) at c.requires.few, length-map c.self.inside.current.items set_of) in
    subst (λ (l : Lists (List Span)). IsCopied l) (sym same) (copied_grown (seen c.self.inside.current.items (map (λ l. l.items) c.self.inside.saved.items)) c.args.sets.now few c.requires.filled c.self.invariant)

pub returns-clause-ok : goal.returns-clause-ok
returns-clause-ok c =
    let e = c.in_ok-current.ensures ∙ ap (λ (s : List (List Span)). s ++ c.args.sets.now) c.deref.ensures.value in
    let same = grown_parts (λ l. l.items) c.in_ok-current.current.items c.self.inside.saved.items c.in_ok-saved.saved.items c.self.inside.current.items c.args.sets.now e (rw c.deref-2.ensures.value at c.in_ok-saved.ensures) in
    rw (← c.self.view_is) (grown_of set_of (seen c.self.inside.current.items (map (λ l. l.items) c.self.inside.saved.items)) _ c.args.sets.now same)
