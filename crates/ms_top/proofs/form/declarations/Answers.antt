use Rattle.std.proofs.Common.{◌+◌, ◌∷◌, map, drop, sym, ap, ◌∙◌, arith}
use Rattle.std.proofs.lemmas.List.{drop-map, length-map}
use Rattle.ms_syntax.specs.Tree.{item_view}
use Rattle.ms_top.specs.Plain.{beside, constraints_of, parts_of}
use Rattle.ms_top.proofs.Absent.{others}
use Rattle.ms_top.proofs.Gathering.{declared, declared_others, here}
use Rattle.ms_top.proofs.form.declarations.Goals as goal

-- src/form.rt:208:13
pub returns-in_default : goal.returns-in_default
returns-in_default c =
    let inv = c.loop-item.invariant in
    let items = c.args.items.now in
    let at = c.loop-item.item-index in
    let found = c.loop-item.found in
    let behind = here items at c.item-item.result c.loop-item-test.true c.item-item.is in (
      omega (arith, inv.count, c.loop-item-test.true, length-map items item_view),
      sym inv.so_far ∙ ap (λ v. declared found (parts_of (map item_view v))) behind ∙ ap (declared found) (others c.item-item.result (drop (at + 1) items) c.in_default.not-Declare)
          ∙ declared_others found (constraints_of (map item_view (c.item-item.result ∷ drop (at + 1) items))) ∙ ap (λ v. beside found (constraints_of (map item_view v))) (sym behind)
          ∙ ap (λ v. beside found (constraints_of v)) (sym (drop-map item_view at items)) ∙ ap (λ n. beside found (constraints_of (drop n (map item_view items)))) (sym inv.count),
    )
