use Rattle.std.proofs.Common.{sym, ap, ◌∙◌, ◌≡◌, ◌<◌, arith, take, drop, length, List, ℕ, subst, ◌+◌, ◌≤◌}
use Rattle.std.proofs.lemmas.List.{get_or_read}
use Rattle.ms_cells.specs.Rows.{place_of, row_at}
use Rattle.ms_cells.specs.declared.rows.Place.{Place}
use Rattle.ms_cells.proofs.Rowed.{below_place, got_row}
use Rattle.ms_cells.proofs.rows.RowCells.row.Goals as goal

pub index-place-requires : goal.index-place-requires
index-place-requires g c = let b = below_place c.self.inside.places.items c.self.inside.values c.self.inside.words c.self.invariant c.args.at (rw (← c.self.view_is) at c.requires) in omega (arith, b, c.self.inside.places.ok.0)

pub slice-requires : goal.slice-requires
slice-requires g c =
    let b = below_place c.self.inside.places.items c.self.inside.values c.self.inside.words c.self.invariant c.args.at (rw (← c.self.view_is) at c.requires) in
    let p : c.index-place.result.now ≡ place_of c.self.inside.places.items c.args.at = get_or_read c.self.inside.places.items c.args.at c.index-place.result.now b c.index-place.ensures (record { start = 0; len = 0 }) in
    subst (λ (p : Place). p.start + p.len ≤ length c.self.inside.words.current) (sym p) (c.self.invariant.layout.within c.args.at b)

pub returns-clause-value : goal.returns-clause-value
returns-clause-value g c =
    let b = below_place c.self.inside.places.items c.self.inside.values c.self.inside.words c.self.invariant c.args.at (rw (← c.self.view_is) at c.requires) in
    let p : c.index-place.result.now ≡ place_of c.self.inside.places.items c.args.at = get_or_read c.self.inside.places.items c.args.at c.index-place.result.now b c.index-place.ensures (record { start = 0; len = 0 }) in
    rw (← c.self.view_is) (λ d. got_row c.self.inside.places.items c.self.inside.values c.self.inside.words c.self.invariant c.args.at (rw (← c.self.view_is) at c.requires) d ∙ ap (row_at c.self.inside.words.current) (sym p) ∙ sym c.slice.ensures.value)
