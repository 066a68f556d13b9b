use Rattle.std.proofs.Common.{ap, sym, ◌∙◌, ◌≡◌, ◌<◌, length, map, arith, w64, rules, SFits}
use Rattle.std.proofs.lemmas.Int.{to_z-of_z}
use Rattle.std.proofs.lemmas.List.{length-map}
use Rattle.ms_num.specs.Ranges.{is_member}
use Rattle.ms_num.specs.Sets.{Set, set_of}
use Rattle.ms_cells.specs.Cells.{seen}
use Rattle.ms_store.proofs.ListsOf.{set_at-lists}
use Rattle.ms_store.proofs.copies.CopiesStore.has.Goals as goal

pub returns : goal.returns
returns c =
    let l = seen c.self.inside.current.items (map (λ l. l.items) c.self.inside.saved.items) in
    let there : c.args.v < length c.self.inside.current.items = omega (arith, rw (← c.self.view_is) at c.requires, length-map c.self.inside.current.items set_of) in
    let fits : SFits w64 c.args.n = search rules in
    rw (← c.self.view_is) (c.has.ensures ∙ ap (is_member c.index.result.now) (to_z-of_z w64 c.args.n fits) ∙ ap (λ (s : Set). s.has c.args.n) (sym (set_at-lists set_of l c.args.v c.index.result.now there c.index.ensures)))
