use Rattle.std.proofs.Common.{◌≡◌, ◌<◌, length, sym, ap, subst, ◌∙◌}
use Rattle.std.proofs.lemmas.List.{length-map}
use Rattle.ms_syntax.specs.Tree.{binder_view, names_view}
use Rattle.ms_declarations.proofs.Cycles.{number_within}
use Rattle.ms_declarations.proofs.cycle.draw_name.Goals as goal

pub add_edges-requires : goal.add_edges-requires
add_edges-requires c =
    subst (λ n. c.in-Some.node < n) (length-map c.args.names.now binder_view ∙ sym c.requires)
    (number_within (names_view c.args.names.now) c.args.name.now c.in-Some.node (sym c.in-Some.ensures))
