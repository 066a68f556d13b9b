use Rattle.std.proofs.Common.{◌≡◌, map, sym, ap, ◌∙◌}
use Rattle.ms_syntax.specs.Tree.{item_view}
use Rattle.ms_declarations.specs.First.{foreign, include}
use Rattle.ms_declarations.proofs.fault.declaration_fault.Goals as goal

pub returns-in-Some : goal.returns-in-Some
returns-in-Some c =
    include (ap (λ is. foreign (map item_view is) (map item_view c.args.library.now.items.items)) (sym c.deref.ensures.value)
    ∙ ap (λ is. foreign (map item_view c.deref.result.now) (map item_view is)) (sym c.deref-2.ensures.value) ∙ sym c.in-Some.ensures)
