use Rattle.std.proofs.Common.{◌≡◌, ◌+◌, ◌<◌, ◌&&◌, Bool, true, not, get_or, pos, [], Some, None, map, drop, length, add-zero, of_z, refl, arith, ◌∙◌, sym, ap, rules, to_z, w64, SFits}
use Rattle.std.specs.Prelude.{is_some, if◌then◌else◌}
use Rattle.std.proofs.lemmas.Int.{to_z-of_z, to_z_pos}
use Rattle.std.proofs.lemmas.List.{drop_all}
use Rattle.ms_num.specs.Numbers.{int_eq}
use Rattle.std.proofs.Math.ListN.{length-map, length-set}
use Rattle.ms_num.specs.Span.{point}
use Rattle.std.specs.List.{list_any, list_all}
use Rattle.ms_trees.specs.Value.{Meaning, value, selected, is_place, is_place2, compare, int_ne, how_many, all_defined, are_distinct, is_row}
use Rattle.ms_trees.specs.Enclosure.{points}
use Rattle.ms_trees.specs.Extreme.{extreme_at}
use Rattle.ms_trees.specs.declared.tree.Ground.TheFolds.{the_lemmas}
use Rattle.ms_trees.proofs.Fits.{fit-Abs, fit-Add, fit-AllDiff, fit-And, fit-BVar, fit-Count, fit-Div, fit-Elem, fit-Elem2, fit-Eq, fit-Greatest, fit-Iff, fit-Imp, fit-In, fit-IteB, fit-IteI, fit-Le, fit-Least, fit-Lt, fit-Mod, fit-Mul, fit-Ne, fit-Neg, fit-Not, fit-Or, fit-Sub, fit-Sum, fit-Table, fit-ToInt, fit-Var, fit-Xor, fit-sums, within-Add, within-Sub, within-Mul, drop_here, sums_on, sum_none, holds_on}
use Rattle.ms_trees.proofs.Walks.{number_within, first_of_pair, onward_one, onward_none, onward_number, numbers_on, counted_one, not_counted, all_counted, unselected, unselected2, elem_value, elem2_value, at_most_one, count_within, count_fits}
use Rattle.ms_trees.proofs.Bools.{ap2}
use Rattle.ms_trees.proofs.Found.{found_selected, found_below, number_part, part_well_formed}
use Rattle.ms_trees.proofs.Distinct.{distinct_on, first_part, pass_on}
use Rattle.ms_trees.specs.Kept.{part}
use Rattle.ms_trees.proofs.Keeping.{part_here, part_read, kept_next}
use Rattle.ms_trees.proofs.Rowed.{no_row, row_at, entry_here}
use Rattle.ms_trees.proofs.meaning.+meaning.Goals as goal

pub value_at-value_at-requires : goal.value_at-value_at-requires
value_at-value_at-requires t c = (search (rules, the_lemmas), rw c.get.ensures ((fit-Add _ _ _ (rw c.in-Add.is at c.requires)).left))

pub value_at-value_at-requires-in-Add : goal.value_at-value_at-requires-in-Add
value_at-value_at-requires-in-Add t c = (search (rules, the_lemmas), rw c.get-in-Add.ensures ((fit-Add _ _ _ (rw c.in-Add.is at c.requires)).right))

pub value_at-value_at-requires-in-Sub : goal.value_at-value_at-requires-in-Sub
value_at-value_at-requires-in-Sub t c = (search (rules, the_lemmas), rw c.get-in-Sub.ensures ((fit-Sub _ _ _ (rw c.in-Sub.is at c.requires)).left))

pub value_at-value_at-requires-in-Sub-2 : goal.value_at-value_at-requires-in-Sub-2
value_at-value_at-requires-in-Sub-2 t c = (search (rules, the_lemmas), rw c.get-in-Sub-2.ensures ((fit-Sub _ _ _ (rw c.in-Sub.is at c.requires)).right))

pub value_at-value_at-requires-in-Mul : goal.value_at-value_at-requires-in-Mul
value_at-value_at-requires-in-Mul t c = (search (rules, the_lemmas), rw c.get-in-Mul.ensures ((fit-Mul _ _ _ (rw c.in-Mul.is at c.requires)).left))

pub value_at-value_at-requires-in-Mul-2 : goal.value_at-value_at-requires-in-Mul-2
value_at-value_at-requires-in-Mul-2 t c = (search (rules, the_lemmas), rw c.get-in-Mul-2.ensures ((fit-Mul _ _ _ (rw c.in-Mul.is at c.requires)).right))

pub value_at-value_at-requires-in-Div : goal.value_at-value_at-requires-in-Div
value_at-value_at-requires-in-Div t c = (search (rules, the_lemmas), rw c.get-in-Div.ensures ((fit-Div _ _ _ (rw c.in-Div.is at c.requires)).left))

pub value_at-value_at-requires-in-Div-2 : goal.value_at-value_at-requires-in-Div-2
value_at-value_at-requires-in-Div-2 t c = (search (rules, the_lemmas), rw c.get-in-Div-2.ensures ((fit-Div _ _ _ (rw c.in-Div.is at c.requires)).right))

pub value_at-value_at-requires-in-Mod : goal.value_at-value_at-requires-in-Mod
value_at-value_at-requires-in-Mod t c = (search (rules, the_lemmas), rw c.get-in-Mod.ensures ((fit-Mod _ _ _ (rw c.in-Mod.is at c.requires)).left))

pub value_at-value_at-requires-in-Mod-2 : goal.value_at-value_at-requires-in-Mod-2
value_at-value_at-requires-in-Mod-2 t c = (search (rules, the_lemmas), rw c.get-in-Mod-2.ensures ((fit-Mod _ _ _ (rw c.in-Mod.is at c.requires)).right))

pub value_at-value_at-requires-in-Neg : goal.value_at-value_at-requires-in-Neg
value_at-value_at-requires-in-Neg t c = (search (rules, the_lemmas), rw c.get-in-Neg.ensures ((fit-Neg _ _ (rw c.in-Neg.is at c.requires)).fit))

pub value_at-value_at-requires-in-Abs : goal.value_at-value_at-requires-in-Abs
value_at-value_at-requires-in-Abs t c = (search (rules, the_lemmas), rw c.get-in-Abs.ensures ((fit-Abs _ _ (rw c.in-Abs.is at c.requires)).fit))

pub value_at-sum_at-requires : goal.value_at-sum_at-requires
value_at-sum_at-requires t c = (search (rules, the_lemmas), (rw c.as_slice.ensures (fit-Sum _ _ (rw c.in-Sum.is at c.requires)), rw c.as_slice.ensures (fit-sums _ _ (rw c.in-Sum.is at c.requires))))

pub value_at-extreme_at-requires : goal.value_at-extreme_at-requires
value_at-extreme_at-requires t c = (search (rules, the_lemmas), rw c.as_slice-in-Least.ensures (fit-Least _ _ (rw c.in-Least.is at c.requires)))

pub value_at-extreme_at-requires-in-Greatest : goal.value_at-extreme_at-requires-in-Greatest
value_at-extreme_at-requires-in-Greatest t c = (search (rules, the_lemmas), rw c.as_slice-in-Greatest.ensures (fit-Greatest _ _ (rw c.in-Greatest.is at c.requires)))

pub value_at-holds-requires : goal.value_at-holds-requires
value_at-holds-requires t c = (search (rules, the_lemmas), rw c.get-in-ToInt.ensures ((fit-ToInt _ _ (rw c.in-ToInt.is at c.requires)).fit))

pub value_at-value_at-requires-in-Elem : goal.value_at-value_at-requires-in-Elem
value_at-value_at-requires-in-Elem t c = (search (rules, the_lemmas), rw c.get-in-Elem.ensures ((fit-Elem _ _ _ _ (rw c.in-Elem.is at c.requires)).beside.fit))

pub value_at-selected_at-requires : goal.value_at-selected_at-requires
value_at-selected_at-requires t c =
    let fit = (fit-Elem _ _ _ _ (rw c.in-Elem.is at c.requires)).list in
    let below = rw c.len.ensures at (found_below _ c.len.result c.line_place.result c.line_place.ensures) in
    (search (rules, the_lemmas), (rw c.as_slice-in-Some-value_at-3.ensures fit, rw c.as_slice-in-Some-value_at-3.ensures below))

pub value_at-value_at-requires-in-Elem2 : goal.value_at-value_at-requires-in-Elem2
value_at-value_at-requires-in-Elem2 t c = (search (rules, the_lemmas), rw c.get-in-Elem2.ensures ((fit-Elem2 _ _ _ _ _ _ _ (rw c.in-Elem2.is at c.requires)).first.fit))

pub value_at-value_at-requires-in-Elem2-2 : goal.value_at-value_at-requires-in-Elem2-2
value_at-value_at-requires-in-Elem2-2 t c = (search (rules, the_lemmas), rw c.get-in-Elem2-2.ensures ((fit-Elem2 _ _ _ _ _ _ _ (rw c.in-Elem2.is at c.requires)).second.fit))

pub value_at-selected_at-requires-in-Some-pair-5 : goal.value_at-selected_at-requires-in-Some-pair-5
value_at-selected_at-requires-in-Some-pair-5 t c =
    let fit = (fit-Elem2 _ _ _ _ _ _ _ (rw c.in-Elem2.is at c.requires)).list in
    let below = rw c.len-in-Some-pair-5.ensures at (found_below _ c.len-in-Some-pair-5.result c.grid_place-place.result c.grid_place-place.ensures) in
    (search (rules, the_lemmas), (rw c.as_slice-in-Some-pair-5.ensures fit, rw c.as_slice-in-Some-pair-5.ensures below))

pub value_at-value_at-requires-in-Count : goal.value_at-value_at-requires-in-Count
value_at-value_at-requires-in-Count t c = (search (rules, the_lemmas), rw c.get-in-Count.ensures ((fit-Count _ _ _ (rw c.in-Count.is at c.requires)).beside.fit))

pub value_at-count_at-requires : goal.value_at-count_at-requires
value_at-count_at-requires t c =
    let s = c.in-Some-value_at-4 in
    let n : SFits w64 s.n = search rules in
    let whole = rw c.in-Count.is at c.requires in
    (search (rules, the_lemmas), (rw c.as_slice-in-Some-value_at-4.ensures ((fit-Count _ _ _ whole).list), rw (c.as_slice-in-Some-value_at-4.ensures, to_z-of_z w64 s.n n) (count_within c.args.point.now _ _ s.n whole (rw c.get-in-Count.ensures at s.ensures))))

pub value_at-holds-requires-in-IteI : goal.value_at-holds-requires-in-IteI
value_at-holds-requires-in-IteI t c = (search (rules, the_lemmas), rw c.get-in-IteI.ensures ((fit-IteI _ _ _ _ (rw c.in-IteI.is at c.requires)).condition.fit))

pub value_at-value_at-requires-then-holds-2 : goal.value_at-value_at-requires-then-holds-2
value_at-value_at-requires-then-holds-2 t c = (search (rules, the_lemmas), rw c.get-then-holds-2.ensures ((fit-IteI _ _ _ _ (rw c.in-IteI.is at c.requires)).first.fit))

pub value_at-value_at-requires-else-holds-2 : goal.value_at-value_at-requires-else-holds-2
value_at-value_at-requires-else-holds-2 t c = (search (rules, the_lemmas), rw c.get-else-holds-2.ensures ((fit-IteI _ _ _ _ (rw c.in-IteI.is at c.requires)).second.fit))

pub holds-all_hold-requires : goal.holds-all_hold-requires
holds-all_hold-requires t c = (search (rules, the_lemmas), rw c.as_slice.ensures (fit-And _ _ (rw c.in-And.is at c.requires)))

pub holds-some_holds-requires : goal.holds-some_holds-requires
holds-some_holds-requires t c = (search (rules, the_lemmas), rw c.as_slice-in-Or.ensures (fit-Or _ _ (rw c.in-Or.is at c.requires)))

pub holds-holds-requires : goal.holds-holds-requires
holds-holds-requires t c = (search (rules, the_lemmas), rw c.get.ensures ((fit-Not _ _ (rw c.in-Not.is at c.requires)).fit))

pub holds-holds-requires-in-Iff : goal.holds-holds-requires-in-Iff
holds-holds-requires-in-Iff t c = (search (rules, the_lemmas), rw c.get-in-Iff.ensures ((fit-Iff _ _ _ (rw c.in-Iff.is at c.requires)).left))

pub holds-holds-requires-in-Iff-2 : goal.holds-holds-requires-in-Iff-2
holds-holds-requires-in-Iff-2 t c = (search (rules, the_lemmas), rw c.get-in-Iff-2.ensures ((fit-Iff _ _ _ (rw c.in-Iff.is at c.requires)).right))

pub holds-holds-requires-in-Imp : goal.holds-holds-requires-in-Imp
holds-holds-requires-in-Imp t c = (search (rules, the_lemmas), rw c.get-in-Imp.ensures ((fit-Imp _ _ _ (rw c.in-Imp.is at c.requires)).left))

pub holds-holds-requires-else-not-holds : goal.holds-holds-requires-else-not-holds
holds-holds-requires-else-not-holds t c = (search (rules, the_lemmas), rw c.get-else-not-holds.ensures ((fit-Imp _ _ _ (rw c.in-Imp.is at c.requires)).right))

pub holds-holds-requires-in-Xor : goal.holds-holds-requires-in-Xor
holds-holds-requires-in-Xor t c = (search (rules, the_lemmas), rw c.get-in-Xor.ensures ((fit-Xor _ _ _ (rw c.in-Xor.is at c.requires)).left))

pub holds-holds-requires-in-Xor-2 : goal.holds-holds-requires-in-Xor-2
holds-holds-requires-in-Xor-2 t c = (search (rules, the_lemmas), rw c.get-in-Xor-2.ensures ((fit-Xor _ _ _ (rw c.in-Xor.is at c.requires)).right))

pub holds-value_at-requires : goal.holds-value_at-requires
holds-value_at-requires t c = (search (rules, the_lemmas), rw c.get-in-Eq.ensures ((fit-Eq _ _ _ (rw c.in-Eq.is at c.requires)).left))

pub holds-value_at-requires-in-Eq : goal.holds-value_at-requires-in-Eq
holds-value_at-requires-in-Eq t c = (search (rules, the_lemmas), rw c.get-in-Eq-2.ensures ((fit-Eq _ _ _ (rw c.in-Eq.is at c.requires)).right))

pub holds-value_at-requires-in-Ne : goal.holds-value_at-requires-in-Ne
holds-value_at-requires-in-Ne t c = (search (rules, the_lemmas), rw c.get-in-Ne.ensures ((fit-Ne _ _ _ (rw c.in-Ne.is at c.requires)).left))

pub holds-value_at-requires-in-Ne-2 : goal.holds-value_at-requires-in-Ne-2
holds-value_at-requires-in-Ne-2 t c = (search (rules, the_lemmas), rw c.get-in-Ne-2.ensures ((fit-Ne _ _ _ (rw c.in-Ne.is at c.requires)).right))

pub holds-value_at-requires-in-Lt : goal.holds-value_at-requires-in-Lt
holds-value_at-requires-in-Lt t c = (search (rules, the_lemmas), rw c.get-in-Lt.ensures ((fit-Lt _ _ _ (rw c.in-Lt.is at c.requires)).left))

pub holds-value_at-requires-in-Lt-2 : goal.holds-value_at-requires-in-Lt-2
holds-value_at-requires-in-Lt-2 t c = (search (rules, the_lemmas), rw c.get-in-Lt-2.ensures ((fit-Lt _ _ _ (rw c.in-Lt.is at c.requires)).right))

pub holds-value_at-requires-in-Le : goal.holds-value_at-requires-in-Le
holds-value_at-requires-in-Le t c = (search (rules, the_lemmas), rw c.get-in-Le.ensures ((fit-Le _ _ _ (rw c.in-Le.is at c.requires)).left))

pub holds-value_at-requires-in-Le-2 : goal.holds-value_at-requires-in-Le-2
holds-value_at-requires-in-Le-2 t c = (search (rules, the_lemmas), rw c.get-in-Le-2.ensures ((fit-Le _ _ _ (rw c.in-Le.is at c.requires)).right))

pub holds-holds-requires-in-IteB : goal.holds-holds-requires-in-IteB
holds-holds-requires-in-IteB t c = (search (rules, the_lemmas), rw c.get-in-IteB.ensures ((fit-IteB _ _ _ _ (rw c.in-IteB.is at c.requires)).condition.fit))

pub holds-holds-requires-then-holds : goal.holds-holds-requires-then-holds
holds-holds-requires-then-holds t c = (search (rules, the_lemmas), rw c.get-then-holds.ensures ((fit-IteB _ _ _ _ (rw c.in-IteB.is at c.requires)).first.fit))

pub holds-holds-requires-else-holds : goal.holds-holds-requires-else-holds
holds-holds-requires-else-holds t c = (search (rules, the_lemmas), rw c.get-else-holds.ensures ((fit-IteB _ _ _ _ (rw c.in-IteB.is at c.requires)).second.fit))

pub holds-value_at-requires-in-In : goal.holds-value_at-requires-in-In
holds-value_at-requires-in-In t c = (search (rules, the_lemmas), rw c.get-in-In.ensures ((fit-In _ _ _ (rw c.in-In.is at c.requires)).fit))

pub value_at-sum-requires : goal.value_at-sum-requires
value_at-sum-requires t c =
    let s = c.in-Some in
    let x : SFits w64 s.x = search rules in
    let y : SFits w64 s.y = search rules in
    rw (to_z-of_z w64 s.x x, to_z-of_z w64 s.y y)
    (within-Add c.args.point.now c.in-Add.a c.in-Add.b s.x s.y (rw c.in-Add.is at c.requires) (rw (c.value_at.ensures, c.get.ensures, c.value_at-in-Add.ensures, c.get-in-Add.ensures) at s.ensures))

pub value_at-difference-requires : goal.value_at-difference-requires
value_at-difference-requires t c =
    let s = c.in-Some-pair in
    let x : SFits w64 s.x = search rules in
    let y : SFits w64 s.y = search rules in
    rw (to_z-of_z w64 s.x x, to_z-of_z w64 s.y y)
    (within-Sub c.args.point.now c.in-Sub.a c.in-Sub.b s.x s.y (rw c.in-Sub.is at c.requires) (rw (c.value_at-in-Sub.ensures, c.get-in-Sub.ensures, c.value_at-in-Sub-2.ensures, c.get-in-Sub-2.ensures) at s.ensures))

pub value_at-product-requires : goal.value_at-product-requires
value_at-product-requires t c =
    let s = c.in-Some-pair-2 in
    let x : SFits w64 s.x = search rules in
    let y : SFits w64 s.y = search rules in
    rw (to_z-of_z w64 s.x x, to_z-of_z w64 s.y y)
    (within-Mul c.args.point.now c.in-Mul.a c.in-Mul.b s.x s.y (rw c.in-Mul.is at c.requires) (rw (c.value_at-in-Mul.ensures, c.get-in-Mul.ensures, c.value_at-in-Mul-2.ensures, c.get-in-Mul-2.ensures) at s.ensures))

pub value_at-quotient-requires : goal.value_at-quotient-requires
value_at-quotient-requires t c =
    let s = c.in-Some-pair-3 in
    let x : SFits w64 s.x = search rules in
    let both = fit-Div _ _ _ (rw c.in-Div.is at c.requires) in
    rw (to_z-of_z w64 s.x x)
    (number_within c.args.point.now c.in-Div.a (record { fit = both.left; numeric = both.left_numeric }) s.x (first_of_pair _ _ s.x s.y (rw (c.value_at-in-Div.ensures, c.get-in-Div.ensures, c.value_at-in-Div-2.ensures, c.get-in-Div-2.ensures) at s.ensures)))

pub value_at-remainder-requires : goal.value_at-remainder-requires
value_at-remainder-requires t c =
    let s = c.in-Some-pair-4 in
    let x : SFits w64 s.x = search rules in
    let both = fit-Mod _ _ _ (rw c.in-Mod.is at c.requires) in
    rw (to_z-of_z w64 s.x x)
    (number_within c.args.point.now c.in-Mod.a (record { fit = both.left; numeric = both.left_numeric }) s.x (first_of_pair _ _ s.x s.y (rw (c.value_at-in-Mod.ensures, c.get-in-Mod.ensures, c.value_at-in-Mod-2.ensures, c.get-in-Mod-2.ensures) at s.ensures)))

pub value_at-negated-requires : goal.value_at-negated-requires
value_at-negated-requires t c =
    let s = c.in-Some-value_at in
    let x : SFits w64 s.x = search rules in
    rw (to_z-of_z w64 s.x x)
    (number_within c.args.point.now c.in-Neg.a (fit-Neg _ _ (rw c.in-Neg.is at c.requires)) s.x (rw c.get-in-Neg.ensures at s.ensures))

pub value_at-magnitude-requires : goal.value_at-magnitude-requires
value_at-magnitude-requires t c =
    let s = c.in-Some-value_at-2 in
    let x : SFits w64 s.x = search rules in
    rw (to_z-of_z w64 s.x x)
    (number_within c.args.point.now c.in-Abs.a (fit-Abs _ _ (rw c.in-Abs.is at c.requires)) s.x (rw c.get-in-Abs.ensures at s.ensures))

pub value_at-returns-in-None-value_at-3 : goal.value_at-returns-in-None-value_at-3
value_at-returns-in-None-value_at-3 t c =
    let s = c.in-None-value_at-3 in
    let none = rw c.get-in-Elem.ensures at s.ensures in
    sym (unselected c.in-Elem.low 0 (map (value c.args.point.now) c.in-Elem.parts))
    ∙ ap (λ o. selected (is_place c.in-Elem.low o) 0 (map (value c.args.point.now) c.in-Elem.parts)) none
    ∙ sym (rw c.in-Elem.is (search the_lemmas))

pub value_at-returns-in-Some-value_at-3 : goal.value_at-returns-in-Some-value_at-3
value_at-returns-in-Some-value_at-3 t c =
    let s = c.in-Some-value_at-3 in
    let e = c.in-Elem in
    let z : SFits w64 s.z = search rules in
    let low : SFits w64 e.low = search rules in
    let place = rw (to_z-of_z w64 e.low low, to_z-of_z w64 s.z z, c.len.ensures) at c.line_place.ensures in
    let some = rw c.get-in-Elem.ensures at s.ensures in
    let ms = map (value c.args.point.now) e.parts in
    rw e.is
    (rw c.as_slice-in-Some-value_at-3.ensures at c.selected_at.ensures
    ∙ found_selected (is_place e.low (Some s.z)) (length e.parts) c.line_place.result ms (length-map e.parts (value c.args.point.now)) place
    ∙ ap (λ o. selected (is_place e.low o) 0 ms) some
    ∙ elem_value c.args.point.now e.low e.parts e.index)

pub value_at-returns-in-Some-pair-5 : goal.value_at-returns-in-Some-pair-5
value_at-returns-in-Some-pair-5 t c =
    let s = c.in-Some-pair-5 in
    let e = c.in-Elem2 in
    let y : SFits w64 s.y = search rules in
    let z : SFits w64 s.z = search rules in
    let low : SFits w64 e.low = search rules in
    let left : SFits w64 e.left = search rules in
    let place = rw (to_z-of_z w64 e.low low, to_z-of_z w64 e.left left, to_z-of_z w64 s.y y, to_z-of_z w64 s.z z, c.len-in-Some-pair-5.ensures) at c.grid_place-place.ensures in
    let both = rw (c.value_at-in-Elem2.ensures, c.get-in-Elem2.ensures, c.value_at-in-Elem2-2.ensures, c.get-in-Elem2-2.ensures) at s.ensures in
    let ms = map (value c.args.point.now) e.parts in
    rw e.is
    (rw c.as_slice-in-Some-pair-5.ensures at c.selected_at-in-Some-pair-5.ensures
    ∙ found_selected (is_place2 e.low e.left e.width (length e.parts) (Some s.y) (Some s.z)) (length e.parts) c.grid_place-place.result ms (length-map e.parts (value c.args.point.now)) place
    ∙ elem2_value c.args.point.now e.low e.left e.width e.parts e.row e.column (Some s.y) (Some s.z) both)

pub value_at-returns-in-None-pair-5 : goal.value_at-returns-in-None-pair-5
value_at-returns-in-None-pair-5 t c =
    let s = c.in-None-pair-5 in
    let e = c.in-Elem2 in
    let both = rw (c.value_at-in-Elem2.ensures, c.get-in-Elem2.ensures, c.value_at-in-Elem2-2.ensures, c.get-in-Elem2-2.ensures) at s.ensures in
    rw e.is
    (sym (unselected2 e.low e.left e.width (length e.parts) None None refl 0 (map (value c.args.point.now) e.parts))
    ∙ elem2_value c.args.point.now e.low e.left e.width e.parts e.row e.column None None both)

pub holds-bounds-point-v : goal.holds-bounds-point-v
holds-bounds-point-v t c = omega (arith, (fit-BVar (points c.args.point.now) c.in-BVar.v (rw c.in-BVar.is at c.requires)).within, length-map c.args.point.now point)

pub value_at-bounds-point-v : goal.value_at-bounds-point-v
value_at-bounds-point-v t c = omega (arith, (fit-Var (points c.args.point.now) c.in-Var.v (rw c.in-Var.is at c.requires)).within, length-map c.args.point.now point)

pub sum_at-sum-total-requires : goal.sum_at-sum-total-requires
sum_at-sum-total-requires t c =
    let x : SFits w64 c.in-Some.x = search rules in
    let l = c.loop-part in
    rw (to_z-of_z w64 c.in-Some.x x)
    (sums_on c.args.point.now _ _ c.part-item.result (to_z w64 l.total-bits) c.in-Some.x (drop_here c.args.parts.now l.part-index c.part-item.result (omega arith) c.part-item.is) l.invariant.fit l.invariant.narrow c.in-Some.ensures).within

pub sum_at-returns-in-None : goal.sum_at-returns-in-None
sum_at-returns-in-None t c =
    let l = c.loop-part in
    sum_none c.args.point.now _ _ c.part-item.result (to_z w64 l.total-bits) (drop_here c.args.parts.now l.part-index c.part-item.result (omega arith) c.part-item.is) c.in-None.ensures ∙ l.invariant.rest

pub sum_at-loop-part-preserved : goal.sum_at-loop-part-preserved
sum_at-loop-part-preserved t c =
    let x : SFits w64 c.in-Some.x = search rules in
    let r : SFits w64 c.sum-total.result = search rules in
    let l = c.loop-part in
    let on = sums_on c.args.point.now _ _ c.part-item.result (to_z w64 l.total-bits) c.in-Some.x (drop_here c.args.parts.now l.part-index c.part-item.result (omega arith) c.part-item.is) l.invariant.fit l.invariant.narrow c.in-Some.ensures in
    let e = to_z-of_z w64 c.sum-total.result r ∙ rw (to_z-of_z w64 c.in-Some.x x) at c.sum-total.ensures in
    record { fit = on.fit; narrow = rw e on.narrow; rest = rw e (sym on.sum ∙ l.invariant.rest) }

pub extreme_at-returns-in-None : goal.extreme_at-returns-in-None
extreme_at-returns-in-None t c =
    let l = c.loop-part in
    let x = c.part-item.result in
    let on = numbers_on c.args.point.now _ _ x (drop_here c.args.parts.now l.part-index x (omega arith) c.part-item.is) l.invariant.fit in
    onward_none (extreme_at c.args.which) l.best _ (map (value c.args.point.now) (drop (l.part-index + 1) c.args.parts.now)) c.in-None.ensures
    ∙ onward_number (extreme_at c.args.which) l.best (value c.args.point.now x) (map (value c.args.point.now) (drop (l.part-index + 1) c.args.parts.now))
    ∙ sym (on.onward (extreme_at c.args.which) l.best) ∙ l.invariant.rest

pub extreme_at-loop-part-preserved : goal.extreme_at-loop-part-preserved
extreme_at-loop-part-preserved t c =
    let l = c.loop-part in
    let x = c.part-item.result in
    let on = numbers_on c.args.point.now _ _ x (drop_here c.args.parts.now l.part-index x (omega arith) c.part-item.is) l.invariant.fit in
    let s : SFits w64 c.in-Some.x = search rules in
    let r : SFits w64 c.take.result = search rules in
    let taken = rw (to_z-of_z w64 c.in-Some.x s) at c.take.ensures in
    record {
      fit = on.fit;
      rest = rw (to_z-of_z w64 c.take.result r)
          (onward_one (extreme_at c.args.which) l.best _ c.in-Some.x c.take.result (map (value c.args.point.now) (drop (l.part-index + 1) c.args.parts.now)) c.in-Some.ensures taken
          ∙ onward_number (extreme_at c.args.which) l.best (value c.args.point.now x) (map (value c.args.point.now) (drop (l.part-index + 1) c.args.parts.now))
          ∙ sym (on.onward (extreme_at c.args.which) l.best) ∙ l.invariant.rest);
    }

pub selected_at-value_at-requires : goal.selected_at-value_at-requires
selected_at-value_at-requires t c =
    let below : c.in-Some.place < length c.args.parts.now = rw c.in-Some.is at c.requires.place in
    let fit = part_well_formed (points c.args.point.now) c.args.parts.now c.in-Some.place below c.requires.fit in
    (search (rules, the_lemmas), rw (part_read c.args.parts.now c.in-Some.place c.index-parts-place.result below c.index-parts-place.is) fit)

pub selected_at-returns-in-Some : goal.selected_at-returns-in-Some
selected_at-returns-in-Some t c =
    let p = c.in-Some.place in
    let below : p < length c.args.parts.now = rw c.in-Some.is at c.requires.place in
    rw c.in-Some.is
    (c.value_at.ensures
    ∙ ap (λ x. (value c.args.point.now x).number) (part_read c.args.parts.now p c.index-parts-place.result below c.index-parts-place.is)
    ∙ number_part c.args.point.now c.args.parts.now p below)

pub count_at-loop-part-preserved : goal.count_at-loop-part-preserved
count_at-loop-part-preserved t c =
    let l = c.loop-part in
    let x = c.part-item.result in
    let z = c.in-Some.x in
    let s : SFits w64 z = search rules in
    let n = to_z w64 (of_z w64 c.args.n) in
    let p : Meaning → Bool = λ m. compare int_eq m.number (Some n) in
    let on = numbers_on c.args.point.now _ _ x (drop_here c.args.parts.now l.part-index x (omega arith) c.part-item.is) l.invariant.fit in
    let here : p (value c.args.point.now x) ≡ int_eq z n = ap (λ o. compare int_eq o (Some n)) (sym c.in-Some.ensures) in
    let one : c.one_if_same-count.result ≡ (if p (value c.args.point.now x) then 1 else 0) = rw (to_z-of_z w64 z s) at c.one_if_same-count.ensures ∙ ap (λ b. if b then 1 else 0) (sym here) in
    let few = at_most_one (p (value c.args.point.now x)) c.one_if_same-count.result one in
    record {
      fit = on.fit;
      below = omega (arith, few, l.invariant.below);
      defined = sym (on.defined ∙ ap (λ o. is_some o && all_defined (map (value c.args.point.now) (drop (l.part-index + 1) c.args.parts.now))) (sym c.in-Some.ensures)) ∙ l.invariant.defined;
      rest = counted_one (p (value c.args.point.now x)) l.count c.one_if_same-count.result _ _ one (on.many p) ∙ l.invariant.rest;
    }

pub count_at-returns-in-None : goal.count_at-returns-in-None
count_at-returns-in-None t c =
    let l = c.loop-part in
    let x = c.part-item.result in
    let on = numbers_on c.args.point.now _ _ x (drop_here c.args.parts.now l.part-index x (omega arith) c.part-item.is) l.invariant.fit in
    not_counted (map (value c.args.point.now) c.args.parts.now) c.args.n
    (sym l.invariant.defined ∙ on.defined ∙ ap (λ o. is_some o && all_defined (map (value c.args.point.now) (drop (l.part-index + 1) c.args.parts.now))) (sym c.in-None.ensures))

pub count_at-returns : goal.count_at-returns
count_at-returns t c =
    let l = c.loop-part in
    let n = c.args.n in
    let ms = map (value c.args.point.now) c.args.parts.now in
    let none : drop l.part-index c.args.parts.now ≡ [] = drop_all l.part-index c.args.parts.now c.loop-part-test.false in
    let defined = sym l.invariant.defined ∙ ap (λ zs. all_defined (map (value c.args.point.now) zs)) none in
    let many = rw (to_z-of_z w64 n c.ranges.n) at (ap (λ zs. l.count + how_many (λ (m : Meaning). compare int_eq m.number (Some (to_z w64 (of_z w64 n)))) (map (value c.args.point.now) zs)) (sym none) ∙ l.invariant.rest) in
    let k : l.count ≡ how_many (λ (m : Meaning). compare int_eq m.number (Some n)) ms = sym (add-zero l.count) ∙ many in
    let few = count_fits ms n l.count defined k c.requires.narrow in
    rw (to_z_pos w64 l.count (omega (arith, few))) (all_counted ms n l.count defined k)

pub all_hold-loop-part-preserved : goal.all_hold-loop-part-preserved
all_hold-loop-part-preserved t c =
    let l = c.loop-part in
    let on = holds_on c.args.point.now _ _ c.part-item.result (drop_here c.args.parts.now l.part-index c.part-item.result (omega arith) c.part-item.is) l.invariant.fit in
    let true_here = sym c.holds.ensures ∙ c.if-not-holds.false in
    record { fit = on.fit; rest = rw true_here at (sym on.all) ∙ l.invariant.rest }

pub holds-all_differ-requires : goal.holds-all_differ-requires
holds-all_differ-requires t c = (search (rules, the_lemmas), rw c.as_slice-in-AllDiff.ensures (fit-AllDiff _ _ (rw c.in-AllDiff.is at c.requires)))

pub holds-is_some_row-requires : goal.holds-is_some_row-requires
holds-is_some_row-requires t c = (search (rules, the_lemmas), rw c.as_slice-in-Table.ensures (fit-Table _ _ _ (rw c.in-Table.is at c.requires)))

pub first_numbers-loop-place-preserved : goal.first_numbers-loop-place-preserved
first_numbers-loop-place-preserved t c =
    let l = c.loop-place in
    let x = c.index-parts-place.result in
    let lt : l.place < length c.args.parts.now = omega (arith, c.loop-place-test.true, c.min-place-end.ensures) in
    let on = numbers_on c.args.point.now _ _ x (drop_here c.args.parts.now l.place x lt c.index-parts-place.is) l.invariant.fit in
    let same = c.value_at.ensures ∙ ap (λ z. (value c.args.point.now z).number) (part_read c.args.parts.now l.place x lt c.index-parts-place.is) in
    let room : l.place < length l.kept = omega (arith, c.loop-place-test.true, c.min-place-end.ensures, l.invariant.size) in
    record {
      fit = on.fit;
      size = length-set l.kept l.place c.value_at.result ∙ l.invariant.size;
      kept = kept_next l.kept None c.value_at.result (λ k. (value c.args.point.now (part c.args.parts.now k)).number) l.place room same l.invariant.kept;
    }

pub first_numbers-returns : goal.first_numbers-returns
first_numbers-returns t c = λ k few lt. c.loop-place.invariant.kept k (omega (arith, c.loop-place-test.false, c.min-place-end.ensures, c.loop-place.invariant.size, few, lt))

pub all_differ-loop-place-preserved : goal.all_differ-loop-place-preserved
all_differ-loop-place-preserved t c =
    let l = c.loop-place in
    let on = distinct_on c.args.point.now c.args.parts.now l.place c.loop-place-test.true l.invariant.fit in
    let passes = sym c.differs_from_later.ensures ∙ c.if-not-differs_from_later.false in
    record { fit = on.fit; rest = rw passes at (sym on.turn) ∙ l.invariant.rest }

pub all_differ-returns-then-not-differs_from_later : goal.all_differ-returns-then-not-differs_from_later
all_differ-returns-then-not-differs_from_later t c =
    let l = c.loop-place in
    let on = distinct_on c.args.point.now c.args.parts.now l.place c.loop-place-test.true l.invariant.fit in
    let fails = sym c.differs_from_later.ensures ∙ c.if-not-differs_from_later.true in
    rw fails at (sym on.turn) ∙ l.invariant.rest

pub all_differ-returns : goal.all_differ-returns
all_differ-returns t c =
    let l = c.loop-place in
    let none : drop l.place c.args.parts.now ≡ [] = drop_all l.place c.args.parts.now c.loop-place-test.false in
    sym (ap (λ zs. are_distinct (map (value c.args.point.now) zs)) none) ∙ l.invariant.rest

pub differs_from_later-loop-later-init : goal.differs_from_later-loop-later-init
differs_from_later-loop-later-init t c =
    let here = part_here c.args.parts.now c.args.place c.requires.place in
    let on = numbers_on c.args.point.now _ _ (part c.args.parts.now c.args.place) here c.requires.fit in
    let some = c.is_none.ensures ∙ ap not c.if-is_none.false in
    record { fit = on.fit; rest = first_part c.args.point.now _ _ (part c.args.parts.now c.args.place) c.number_at-x.result true here c.number_at-x.ensures some }

pub differs_from_later-loop-later-preserved : goal.differs_from_later-loop-later-preserved
differs_from_later-loop-later-preserved t c =
    let l = c.loop-later in
    let here = part_here c.args.parts.now l.later c.loop-later-test.true in
    let differs = rw c.number_at.ensures at c.differ.ensures in
    let on = pass_on c.args.point.now _ _ (part c.args.parts.now l.later) (λ m. compare int_ne c.number_at-x.result m.number) c.differ.result here differs l.invariant.fit in
    record { fit = on.fit; rest = rw c.if-not-differ.false at (sym on.all) ∙ l.invariant.rest }

pub differs_from_later-returns-then-not-differ : goal.differs_from_later-returns-then-not-differ
differs_from_later-returns-then-not-differ t c =
    let l = c.loop-later in
    let here = part_here c.args.parts.now l.later c.loop-later-test.true in
    let differs = rw c.number_at.ensures at c.differ.ensures in
    let on = pass_on c.args.point.now _ _ (part c.args.parts.now l.later) (λ m. compare int_ne c.number_at-x.result m.number) c.differ.result here differs l.invariant.fit in
    rw c.if-not-differ.true at (sym on.all) ∙ l.invariant.rest

pub differs_from_later-returns : goal.differs_from_later-returns
differs_from_later-returns t c =
    let l = c.loop-later in
    let none : drop l.later c.args.parts.now ≡ [] = drop_all l.later c.args.parts.now c.loop-later-test.false in
    sym (ap (λ zs. list_all (λ (m : Meaning). compare int_ne c.number_at-x.result m.number) (map (value c.args.point.now) zs)) none) ∙ l.invariant.rest

pub is_some_row-loop-row-preserved : goal.is_some_row-loop-row-preserved
is_some_row-loop-row-preserved t c =
    let l = c.loop-row in
    let row = c.row-item.result in
    let here = drop_here c.args.rows.now l.row-index row (omega arith) c.row-item.is in
    let other = sym (rw c.as_slice.ensures at c.are_numbers.ensures) ∙ c.if-are_numbers.false in
    rw other at (sym (ap (list_any (is_row (map (value c.args.point.now) c.args.parts.now))) here)) ∙ l.invariant

pub is_some_row-returns : goal.is_some_row-returns
is_some_row-returns t c =
    let l = c.loop-row in
    let none : drop l.row-index c.args.rows.now ≡ [] = drop_all l.row-index c.args.rows.now c.loop-row-test.false in
    sym (ap (list_any (is_row (map (value c.args.point.now) c.args.parts.now))) none) ∙ l.invariant

pub are_numbers-returns-then-parts-row : goal.are_numbers-returns-then-parts-row
are_numbers-returns-then-parts-row t c = no_row c.args.point.now c.args.parts.now c.args.row.now c.if-parts-row.true

pub are_numbers-loop-place-preserved : goal.are_numbers-loop-place-preserved
are_numbers-loop-place-preserved t c =
    let l = c.loop-place in
    let here = part_here c.args.parts.now l.place c.loop-place-test.true in
    let there = entry_here c.args.row.now l.place (omega (arith, c.loop-place-test.true, c.if-parts-row.false)) in
    let same = rw c.number_at.ensures at c.is_entry.ensures in
    let on = row_at c.args.point.now _ _ (part c.args.parts.now l.place) _ _ (get_or c.args.row.now l.place (pos 0)) c.is_entry.result here there same l.invariant.fit in
    record { fit = on.fit; rest = rw c.if-not-is_entry.false at (sym on.turn) ∙ l.invariant.rest }

pub are_numbers-returns-then-not-is_entry : goal.are_numbers-returns-then-not-is_entry
are_numbers-returns-then-not-is_entry t c =
    let l = c.loop-place in
    let here = part_here c.args.parts.now l.place c.loop-place-test.true in
    let there = entry_here c.args.row.now l.place (omega (arith, c.loop-place-test.true, c.if-parts-row.false)) in
    let same = rw c.number_at.ensures at c.is_entry.ensures in
    let on = row_at c.args.point.now _ _ (part c.args.parts.now l.place) _ _ (get_or c.args.row.now l.place (pos 0)) c.is_entry.result here there same l.invariant.fit in
    rw c.if-not-is_entry.true at (sym on.turn) ∙ l.invariant.rest

pub are_numbers-returns : goal.are_numbers-returns
are_numbers-returns t c =
    let l = c.loop-place in
    let none : drop l.place c.args.parts.now ≡ [] = drop_all l.place c.args.parts.now c.loop-place-test.false in
    let end : drop l.place c.args.row.now ≡ [] = drop_all l.place c.args.row.now (omega (arith, c.loop-place-test.false, c.if-parts-row.false)) in
    sym (ap2 (λ zs ws. is_row (map (value c.args.point.now) zs) ws) none end) ∙ l.invariant.rest
