use Rattle.std.proofs.Common.{rules, sym, ap, ◌∙◌, ◌≡◌, ◌<◌, ◌≤◌, arith, length}
use Rattle.std.proofs.lemmas.List.{get_or_read}
use Rattle.ms_cells.specs.Rows.{place_of, with_rows}
use Rattle.ms_cells.proofs.Rowed.{seen_length, saved_each}
use Rattle.ms_cells.proofs.Growing.{less_rowed, less_is, shrunk_all}
use Rattle.ms_cells.proofs.rows.RowCells.shrink.Goals as goal

pub invariant_of-self : goal.invariant_of-self
invariant_of-self g c =
    let b : c.args.count < length c.self.inside.places.items = search rules in
    let p : c.index-place.result.now ≡ place_of c.self.inside.places.items c.args.count = get_or_read c.self.inside.places.items c.args.count c.index-place.result.now b c.index-place.ensures (record { start = 0; len = 0 }) in
    less_rowed c.self.inside.places.items c.truncate.new.self.items c.self.inside.values c.shrink-then-count-len.new.self c.self.inside.words c.shrink.new.self c.args.count c.index-place.result.now c.self.invariant b p c.truncate.ensures.items c.shrink-then-count-len.ensures c.shrink.ensures

pub returns-then-count-len : goal.returns-then-count-len
returns-then-count-len g c =
    let b : c.args.count < length c.self.inside.places.items = search rules in
    let p : c.index-place.result.now ≡ place_of c.self.inside.places.items c.args.count = get_or_read c.self.inside.places.items c.args.count c.index-place.result.now b c.index-place.ensures (record { start = 0; len = 0 }) in
    rw (← c.self.view_is) (less_is c.self.inside.places.items c.truncate.new.self.items c.self.inside.values c.shrink-then-count-len.new.self c.self.inside.words c.shrink.new.self c.args.count c.index-place.result.now c.self.invariant b p c.truncate.ensures.items c.shrink-then-count-len.ensures c.shrink.ensures)

pub returns-else-count-len : goal.returns-else-count-len
returns-else-count-len g c =
    let l = seen_length c.self.inside.places.items c.self.inside.values c.self.inside.words c.self.invariant in
    rw (← c.self.view_is) (shrunk_all (with_rows c.self.inside.places.items c.self.inside.values c.self.inside.words) c.args.count (omega (arith, l, c.self.invariant.count, c.if-count-len.false, c.len.ensures, c.self.inside.places.ok.0)) (saved_each c.self.inside.places.items _ c.self.inside.values.saved c.self.inside.words.saved (l ∙ c.self.invariant.count) c.self.invariant.lists))
