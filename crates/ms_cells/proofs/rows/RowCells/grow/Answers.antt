use Rattle.std.proofs.Common.{rules, sym, ap, ◌∙◌, ◌≡◌, ◌<◌, ◌+◌, ◌-◌, ◌++◌, arith, length, replicate, List, ℕ}
use Rattle.ms_cells.specs.Cells.{grown}
use Rattle.ms_cells.specs.declared.rows.Place.{Place}
use Rattle.ms_cells.proofs.Rowed.{seen_length}
use Rattle.ms_cells.proofs.Growing.{Grows, grow_rowed, grow_is, failed_rowed, failed_is}
use Rattle.ms_cells.proofs.rows.RowCells.grow.Goals as goal

pub grow-requires-2 : goal.grow-requires-2
grow-requires-2 g c = omega (arith, rw (← c.self.view_is) at c.requires.few, seen_length c.self.inside.places.items c.self.inside.values c.self.inside.words c.self.invariant)

pub invariant_of-self-in-Err-grow : goal.invariant_of-self-in-Err-grow
invariant_of-self-in-Err-grow g c =
    let places = c.in_ok-extend_from_slice.ensures.items ∙ ap (λ (m : List Place). c.self.inside.places.items ++ m) c.deref.ensures.value in
    failed_rowed c.self.inside.places.items c.in_ok-places.places.items c.extend_from_slice.new.self.items c.truncate-in-Err-grow.new.self.items c.self.inside.values c.grow-2.new.self c.self.inside.words c.grow.new.self c.deref-2.result.now c.len-count.result c.self.invariant places c.truncate-in-Err-grow.ensures.items (omega (arith, c.len-count.ensures, c.self.inside.places.ok.0)) c.in-Err-grow.ensures.err c.in_default.ensures.ok

pub returns-in-Err-grow-clause-err : goal.returns-in-Err-grow-clause-err
returns-in-Err-grow-clause-err g c =
    let places = c.in_ok-extend_from_slice.ensures.items ∙ ap (λ (m : List Place). c.self.inside.places.items ++ m) c.deref.ensures.value in
    rw (← c.self.view_is) (failed_is c.self.inside.places.items c.in_ok-places.places.items c.extend_from_slice.new.self.items c.truncate-in-Err-grow.new.self.items c.self.inside.values c.grow-2.new.self c.self.inside.words c.grow.new.self c.deref-2.result.now c.len-count.result c.self.invariant places c.truncate-in-Err-grow.ensures.items (omega (arith, c.len-count.ensures, c.self.inside.places.ok.0)) c.in-Err-grow.ensures.err c.in_default.ensures.ok)

pub invariant_of-self-in_default-grow : goal.invariant_of-self-in_default-grow
invariant_of-self-in_default-grow g c =
    let places = c.in_ok-extend_from_slice.ensures.items ∙ ap (λ (m : List Place). c.self.inside.places.items ++ m) c.deref.ensures.value in
    let full : c.deref-2.result.now ≡ replicate (c.in_ok-places.end - c.len-start.result) 18446744073709551615 = c.deref-2.ensures.value ∙ c.in_ok-full.ensures in
    let grows : Grows c.self.inside.places.items c.in_ok-places.places.items c.self.inside.values c.self.inside.words c.args.values.now c.args.lengths.now c.deref-2.result.now c.len-start.result c.in_ok-places.end = record { rowed = c.self.invariant; made_is = c.in_ok-places.ensures.places; start_is = c.len-start.ensures.count; end_is = c.in_ok-places.ensures.end; more_is = full; same = c.requires.same } in
    grow_rowed c.self.inside.places.items c.in_ok-places.places.items c.extend_from_slice.new.self.items c.self.inside.values c.grow-2.new.self c.self.inside.words c.grow.new.self c.args.values.now c.args.lengths.now c.deref-2.result.now c.len-start.result c.in_ok-places.end grows places c.in_default-grow.ensures.ok c.in_default.ensures.ok

pub returns-clause-ok : goal.returns-clause-ok
returns-clause-ok g c =
    let places = c.in_ok-extend_from_slice.ensures.items ∙ ap (λ (m : List Place). c.self.inside.places.items ++ m) c.deref.ensures.value in
    let full : c.deref-2.result.now ≡ replicate (c.in_ok-places.end - c.len-start.result) 18446744073709551615 = c.deref-2.ensures.value ∙ c.in_ok-full.ensures in
    let grows : Grows c.self.inside.places.items c.in_ok-places.places.items c.self.inside.values c.self.inside.words c.args.values.now c.args.lengths.now c.deref-2.result.now c.len-start.result c.in_ok-places.end = record { rowed = c.self.invariant; made_is = c.in_ok-places.ensures.places; start_is = c.len-start.ensures.count; end_is = c.in_ok-places.ensures.end; more_is = full; same = c.requires.same } in
    rw (← c.self.view_is) (grow_is c.self.inside.places.items c.in_ok-places.places.items c.extend_from_slice.new.self.items c.self.inside.values c.grow-2.new.self c.self.inside.words c.grow.new.self c.args.values.now c.args.lengths.now c.deref-2.result.now c.len-start.result c.in_ok-places.end grows places c.in_default-grow.ensures.ok c.in_default.ensures.ok)
