use Rattle.std.proofs.Common.{◌≡◌, [], length, map, replicate, sym, ap, subst, ◌∙◌}
use Rattle.std.specs.List.{flat_map}
use Rattle.std.proofs.lemmas.List.{length-map}
use Rattle.ms_syntax.specs.Tree.{binder_view, item_view, names_view}
use Rattle.ms_declarations.specs.Declaring.{names_of}
use Rattle.ms_declarations.specs.Depends.{restrained, sayings}
use Rattle.ms_declarations.specs.Drawing.{TellsCycle, drawn, first_marked}
use Rattle.ms_declarations.proofs.Cycles.{lead_to_nodes, told_cycle, whole_graph}
use Rattle.ms_declarations.proofs.cycle.first_cycle.Goals as goal

pub on_cycles-requires : goal.on_cycles-requires
on_cycles-requires c =
    let items = map item_view c.args.items.now in
    let size : length c.args.names.now ≡ length (names_of items) = sym (length-map c.args.names.now binder_view) ∙ ap length c.requires in
    lead_to_nodes items c.in_ok-graph.graph (whole_graph items (names_view c.in_ok-values.values) c.in_ok-values.ensures c.in_ok-graph.graph (length c.args.names.now) size (names_view c.args.names.now) c.requires c.in_ok-graph.ensures)

pub returns : goal.returns
returns c =
    let items = map item_view c.args.items.now in
    let size : length c.args.names.now ≡ length (names_of items) = sym (length-map c.args.names.now binder_view) ∙ ap length c.requires in
    let is_g = whole_graph items (names_view c.in_ok-values.values) c.in_ok-values.ensures c.in_ok-graph.graph (length c.args.names.now) size (names_view c.args.names.now) c.requires c.in_ok-graph.ensures in
    let told = told_cycle items c.in_ok-graph.graph is_g c.in_ok-marks.marks.items c.in_ok-marks.ensures in
    let is = c.first_marked.ensures
    ∙ ap (λ ns. first_marked ns c.deref.result.now (flat_map restrained items)) c.requires
    ∙ ap (λ ms. first_marked (names_of items) ms (flat_map restrained items)) c.deref.ensures.value in
    subst (TellsCycle items) (sym is) told
