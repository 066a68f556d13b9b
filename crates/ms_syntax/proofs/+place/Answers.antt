use Rattle.std.proofs.Common.{rules, arith, ◌≡◌, ◌-◌, ◌<◌, suc, length, map, Some, sym, ap, ◌∙◌}
use Rattle.std.specs.Prelude.{slice_get, option_map}
use Rattle.std.proofs.lemmas.Option.{slice_get-map, slice_get_within}
use Rattle.std.proofs.lemmas.List.{length-map}
use Rattle.ms_syntax.specs.Tree.{ex_view, link_view}
use Rattle.ms_syntax.specs.Grouping.{place_of}
use Rattle.ms_syntax.proofs.Placed.{placed_last, link_place}
use Rattle.ms_syntax.proofs.+place.Goals as goal

pub place::last_place-returns-in-Some : goal.place::last_place-returns-in-Some
place::last_place-returns-in-Some t c =
    let e = ex_view c.args.first.now.value in
    let links = c.args.links.now in
    let link = c.in-Some.link.now in
    let got : slice_get links (length links - 1) ≡ Some link = sym c.in-Some.ensures.value in
    sym (link_place link)
    ∙ placed_last (place_of e) e (map link_view links) (link_view link) (length links - 1)
    (omega (arith, length-map links link_view, slice_get_within links (length links - 1) link got))
    (slice_get-map link_view links (length links - 1) ∙ ap (option_map link_view) got)
