use Rattle.std.proofs.Common.{◌≡◌, sym, ap, ◌∙◌, Some, pos, w64, rules, SFits}
use Rattle.std.specs.Int.{w128}
use Rattle.std.specs.List.{list_any}
use Rattle.std.specs.Prelude.{◌+ℤ◌, ◌*ℤ◌, length}
use Rattle.std.proofs.lemmas.Int.{to_z-of_z}
use Rattle.std.proofs.Common.{◌<◌, ◌^◌, arith}
use Rattle.std.proofs.Math.Facts.{sfits_widen, to_z_pos}
use Rattle.ms_trees.specs.Enclosure.{points}
use Rattle.ms_num.specs.Numbers.{int_eq, min_at, max_at}
use Rattle.ms_trees.specs.Value.{compare, extreme, counted, selected, is_place, is_place2, is_row, are_distinct}
use Rattle.ms_prim.specs.Results.{at, part_at, all_meant, weighted, lit_at, relates, ties}
use Rattle.ms_prim.proofs.Reading.{fits_more, sum_within}
use Rattle.ms_prim.proofs.ValuesOf.{meets_sum, meets_product, meets_least, meets_greatest, meets_count, meets_element, meets_element2, meets_total, meets_compare, meets_clause, meets_table, meets_differ}
use Rattle.ms_prim.proofs.meeting.meets.Goals as goal

pub returns-in-Product : goal.returns-in-Product
returns-in-Product c =
    let a = c.args.point.now in
    let v = c.in-Product.v in
    let r : SFits w128 c.product.result = search rules in
    let x : SFits w64 c.number.result = search rules in
    let y : SFits w64 c.number-in-Product.result = search rules in
    let f : c.product.result ≡ part_at a c.in-Product.x *ℤ part_at a c.in-Product.y = rw (to_z-of_z w64 c.number.result x, to_z-of_z w64 c.number-in-Product.result y, c.number.ensures.value, c.number-in-Product.ensures.value) at c.product.ensures.value in
    rw c.in-Product.is (rw (to_z-of_z w128 c.product.result r) at c.equals-in-Product.ensures ∙ ap (λ z. int_eq z (at a v)) f ∙ meets_product a c.in-Product.x c.in-Product.y v)

pub returns-in-Least : goal.returns-in-Least
returns-in-Least c =
    let a = c.args.point.now in
    let s = c.in-Least in
    rw s.is (c.some_equals-in-Least.ensures ∙ ap (λ o. compare int_eq o (Some (at a s.v))) (c.least.ensures ∙ ap (λ ps. extreme min_at (all_meant a ps)) c.as_slice-in-Least.ensures) ∙ meets_least a s.parts s.v)

pub returns-in-Greatest : goal.returns-in-Greatest
returns-in-Greatest c =
    let a = c.args.point.now in
    let s = c.in-Greatest in
    rw s.is (c.some_equals-in-Greatest.ensures ∙ ap (λ o. compare int_eq o (Some (at a s.v))) (c.greatest.ensures ∙ ap (λ ps. extreme max_at (all_meant a ps)) c.as_slice-in-Greatest.ensures) ∙ meets_greatest a s.parts s.v)

pub returns-in-Sum : goal.returns-in-Sum
returns-in-Sum c =
    let a = c.args.point.now in
    let s = c.in-Sum in
    let k = c.total.ensures in
    let r : SFits w128 c.total.result = search rules in
    let n : SFits w64 s.n = search rules in
    let w = sum_within (points a) s.terms s.n s.v (rw s.is at c.requires.fit) in
    let f : c.from.result ≡ s.n = rw (to_z-of_z w64 s.n n) at c.from.ensures in
    let e = rw (to_z-of_z w128 c.total.result r, f, to_z-of_z w128 s.n (sfits_widen tt n), to_z-of_z w128 (c.total.result +ℤ s.n) (fits_more c.total.result s.n k.low k.high w)) at c.equals.ensures in
    rw s.is (e ∙ ap (λ z. int_eq (z +ℤ s.n) (at a s.v)) (k.value ∙ ap (weighted a) c.as_slice.ensures) ∙ meets_sum a s.terms s.n s.v)

pub returns-in-Count : goal.returns-in-Count
returns-in-Count c =
    let a = c.args.point.now in
    let s = c.in-Count in
    let i : SFits w64 c.number-n.result = search rules in
    let b : c.count.result < 2 ^ 127 = omega arith in
    let e = rw (to_z-of_z w64 c.number-n.result i, c.number-n.ensures.value, c.as_slice-in-Count.ensures) at c.count.ensures in
    rw s.is (c.equals-in-Count.ensures ∙ ap (λ z. int_eq z (at a s.v)) (to_z_pos w128 b) ∙ meets_count a s.parts s.x s.v c.count.result e)

pub returns-in-Element : goal.returns-in-Element
returns-in-Element c =
    let a = c.args.point.now in
    let s = c.in-Element in
    let low : SFits w64 s.low = search rules in
    let i : SFits w64 c.number-i.result = search rules in
    let e = rw (to_z-of_z w64 s.low low, to_z-of_z w64 c.number-i.result i, c.number-i.ensures.value, c.as_slice-in-Element.ensures) at c.element.ensures in
    rw s.is (c.some_equals-in-Element.ensures ∙ ap (λ o. compare int_eq o (Some (at a s.v))) e ∙ meets_element a s.low s.parts s.i s.v)

pub returns-in-Element2 : goal.returns-in-Element2
returns-in-Element2 c =
    let a = c.args.point.now in
    let s = c.in-Element2 in
    let low : SFits w64 s.low = search rules in
    let left : SFits w64 s.left = search rules in
    let i : SFits w64 c.number-i-in-Element2.result = search rules in
    let j : SFits w64 c.number-j.result = search rules in
    let e = rw (to_z-of_z w64 s.low low, to_z-of_z w64 s.left left, to_z-of_z w64 c.number-i-in-Element2.result i, to_z-of_z w64 c.number-j.result j, c.number-i-in-Element2.ensures.value, c.number-j.ensures.value, c.as_slice-in-Element2.ensures) at c.element2-x.ensures in
    rw s.is (c.some_equals-in-Element2.ensures ∙ ap (λ o. compare int_eq o (Some (at a s.v))) e ∙ meets_element2 a s.low s.left s.width s.parts s.i s.j s.v)

pub returns-in-Total : goal.returns-in-Total
returns-in-Total c =
    let a = c.args.point.now in
    let s = c.in-Total in
    let r : SFits w128 c.total-in-Total.result = search rules in
    let n : SFits w64 s.n = search rules in
    let f : c.from-in-Total.result ≡ s.n = rw (to_z-of_z w64 s.n n) at c.from-in-Total.ensures in
    let e = rw (to_z-of_z w128 c.total-in-Total.result r, f, to_z-of_z w128 s.n (sfits_widen tt n)) at c.compared.ensures in
    rw s.is (e ∙ ap (λ z. relates s.cmp z s.n) (c.total-in-Total.ensures.value ∙ ap (weighted a) c.as_slice-in-Total.ensures) ∙ meets_total a s.terms s.cmp s.n)

pub returns-in-Compare : goal.returns-in-Compare
returns-in-Compare c =
    let a = c.args.point.now in
    let s = c.in-Compare in
    let x : SFits w64 c.number-x.result = search rules in
    let y : SFits w64 c.number-y.result = search rules in
    let f : c.from-in-Compare.result ≡ c.number-x.result = rw (to_z-of_z w64 c.number-x.result x) at c.from-in-Compare.ensures in
    let g : c.from-in-Compare-2.result ≡ c.number-y.result = rw (to_z-of_z w64 c.number-y.result y) at c.from-in-Compare-2.ensures in
    let e = rw (f, g, to_z-of_z w128 c.number-x.result (sfits_widen tt x), to_z-of_z w128 c.number-y.result (sfits_widen tt y), c.number-x.ensures.value, c.number-y.ensures.value) at c.compared-in-Compare.ensures in
    rw s.is (c.is_tied.ensures ∙ ap (ties a s.tie) e ∙ meets_compare a s.cmp s.x s.y s.tie)

pub returns-in-Clause : goal.returns-in-Clause
returns-in-Clause c =
    let a = c.args.point.now in
    let s = c.in-Clause in
    rw s.is (c.is_tied-in-Clause.ensures ∙ ap (ties a s.tie) (c.some_holds.ensures ∙ ap (λ ls. list_any (lit_at a) ls) c.as_slice-in-Clause.ensures) ∙ meets_clause a s.lits s.tie)

pub returns-in-Table : goal.returns-in-Table
returns-in-Table c =
    let a = c.args.point.now in
    let s = c.in-Table in
    rw s.is (c.is_tied-in-Table.ensures ∙ ap (ties a s.tie) (rw (c.as_slice-in-Table.ensures, c.as_slice-in-Table-2.ensures) at c.is_some_row-found.ensures) ∙ meets_table a s.parts s.rows s.tie)

pub returns-in-Differ : goal.returns-in-Differ
returns-in-Differ c =
    let a = c.args.point.now in
    let s = c.in-Differ in
    rw s.is (c.is_tied-in-Differ.ensures ∙ ap (ties a s.tie) (c.all_differ.ensures ∙ ap (λ ps. are_distinct (all_meant a ps)) c.as_slice-in-Differ.ensures) ∙ meets_differ a s.parts s.tie)
