use Rattle.std.proofs.Common.{sym, ◌≤◌, ◌≡◌, length, map, subst, List, arith}
use Rattle.std.proofs.lemmas.List.{length-map}
use Rattle.ms_num.specs.Span.{Span}
use Rattle.ms_num.specs.Sets.{set_of}
use Rattle.ms_cells.specs.Cells.{Lists, seen}
use Rattle.ms_store.specs.Copied.{IsCopied}
use Rattle.ms_store.proofs.ListsOf.{shrunk_of}
use Rattle.ms_store.proofs.Copying.{shrunk_parts, copied_shrunk}
use Rattle.ms_store.proofs.copies.CopiesStore.shrink.Goals as goal

pub invariant_of-self : goal.invariant_of-self
invariant_of-self c =
    let same = shrunk_parts (λ l. l.items) c.truncate.new.self.items c.self.inside.saved.items c.shorten.new.lists.items c.self.inside.current.items c.args.vars c.truncate.ensures.items c.shorten.ensures in
    let there : c.args.vars ≤ length c.self.inside.current.items = omega (arith, rw (← c.self.view_is) at c.requires, length-map c.self.inside.current.items set_of) in
    subst (λ (l : Lists (List Span)). IsCopied l) (sym same) (copied_shrunk (seen c.self.inside.current.items (map (λ l. l.items) c.self.inside.saved.items)) c.args.vars there c.self.invariant)

pub returns : goal.returns
returns c =
    let same = shrunk_parts (λ l. l.items) c.truncate.new.self.items c.self.inside.saved.items c.shorten.new.lists.items c.self.inside.current.items c.args.vars c.truncate.ensures.items c.shorten.ensures in
    rw (← c.self.view_is) (shrunk_of set_of (seen c.self.inside.current.items (map (λ l. l.items) c.self.inside.saved.items)) _ c.args.vars same)
