use Rattle.std.proofs.Common.{rules, sym, ap, ◌∙◌, ◌≡◌, ◌<◌, ◌+◌, arith, length, ℕ, set}
use Rattle.std.proofs.lemmas.Result.{on_ok_weaker}
use Rattle.ms_cells.specs.Rows.{place_of}
use Rattle.ms_cells.specs.declared.rows.Place.{Place}
use Rattle.ms_cells.proofs.Rowed.{below_place, word_is, word_place}
use Rattle.ms_cells.proofs.rows.RowCells.set_word.Goals as goal

small : (s i n m : ℕ) → s + i < n → m ≡ n → m < 4294967296 → s + i < 18446744073709551616
small s i n m a b c = omega (arith, a, b, c)

smaller : (s i n m : ℕ) → s + i < n → m ≡ n → m < 4294967296 → s + i < 4294967296
smaller s i n m a b c = omega (arith, a, b, c)

pub index-place-requires : goal.index-place-requires
index-place-requires g c = let b = below_place c.self.inside.places.items c.self.inside.values c.self.inside.words c.self.invariant c.args.at (rw (← c.self.view_is) at c.requires.there) in omega (arith, b, c.self.inside.places.ok.0)

pub overflow_add-place : goal.overflow_add-place
overflow_add-place g c =
    let w = (word_place c.self.inside.places.items c.self.inside.values c.self.inside.words c.self.invariant c.args.at c.args.i c.index-place.result.now (rw (← c.self.view_is) at c.requires.there) c.index-place.ensures (rw (← c.self.view_is) at c.requires.inside)).within in
    search (rules, small c.index-place.result.now.start c.args.i (length c.self.inside.words.current) c.len-few.result w c.len-few.ensures.count c.len-few.ensures.few)

pub overflow_cast-place : goal.overflow_cast-place
overflow_cast-place g c =
    let w = (word_place c.self.inside.places.items c.self.inside.values c.self.inside.words c.self.invariant c.args.at c.args.i c.index-place.result.now (rw (← c.self.view_is) at c.requires.there) c.index-place.ensures (rw (← c.self.view_is) at c.requires.inside)).within in
    search (rules, smaller c.index-place.result.now.start c.args.i (length c.self.inside.words.current) c.len-few.result w c.len-few.ensures.count c.len-few.ensures.few)

pub set-requires : goal.set-requires
set-requires g c = (word_place c.self.inside.places.items c.self.inside.values c.self.inside.words c.self.invariant c.args.at c.args.i c.index-place.result.now (rw (← c.self.view_is) at c.requires.there) c.index-place.ensures (rw (← c.self.view_is) at c.requires.inside)).within

pub returns-clause-ok : goal.returns-clause-ok
returns-clause-ok g c =
    let there = rw (← c.self.view_is) at c.requires.there in
    let w = word_place c.self.inside.places.items c.self.inside.values c.self.inside.words c.self.invariant c.args.at c.args.i c.index-place.result.now there c.index-place.ensures (rw (← c.self.view_is) at c.requires.inside) in
    let place = ap (λ (p : Place). p.start + c.args.i) w.is in
    rw (← c.self.view_is) (λ d. on_ok_weaker c.set.result (λ e. word_is c.self.inside.places.items c.self.inside.values c.self.inside.words c.self.invariant c.set.new.self c.args.at c.args.i c.args.word (rw place at e) there w.inside d) c.set.ensures.ok)
