use Rattle.std.proofs.Common.{◌∙◌, ◌-◌, List, Option, ap, sym, arith, drop, map}
use Rattle.std.specs.Prelude.{ℤ}
use Rattle.std.specs.Ordering.{int_eq as same}
use Rattle.std.specs.HashSet.{contains}
use Rattle.ms_trees.specs.Value.{numeric_meaning, are_distinct as distinct}
use Rattle.ms_arrays.proofs.Lists.{before}
use Rattle.ms_arrays.proofs.Apart.{is_among, among_more, one_before, not_behind}
use Rattle.ms_arrays.proofs.repeats.are_distinct.Goals as goal

pub returns-then-not-branch : goal.returns-then-not-branch
returns-then-not-branch c =
    let xs = c.args.numbers.now in
    let k = c.loop-place.place in
    let n = c.index-numbers-place.result in
    let e = before xs k n (omega (arith, c.loop-place-test.true)) c.loop-place.invariant.within c.index-numbers-place.is in
    sym (not_behind (k - 1) xs (ap (λ (ys : List (Option ℤ)). distinct (map numeric_meaning ys)) e ∙ sym (one_before n (drop k xs) (contains same c.loop-place.seen) c.loop-place.invariant.distinct c.loop-place.invariant.seen) ∙ sym c.in_ok-is_new.ensures.new ∙ c.if-not-branch.true))

pub loop-place-preserved : goal.loop-place-preserved
loop-place-preserved c =
    let xs = c.args.numbers.now in
    let k = c.loop-place.place in
    let n = c.index-numbers-place.result in
    let e = before xs k n (omega (arith, c.loop-place-test.true)) c.loop-place.invariant.within c.index-numbers-place.is in
    record {
      within = omega (arith, c.loop-place.invariant.within);
      distinct = ap (λ (ys : List (Option ℤ)). distinct (map numeric_meaning ys)) e ∙ sym (one_before n (drop k xs) (contains same c.loop-place.seen) c.loop-place.invariant.distinct c.loop-place.invariant.seen) ∙ sym c.in_ok-is_new.ensures.new ∙ c.if-not-branch.false;
      seen = λ z. c.in_ok-is_new.ensures.added c.if-not-branch.false z ∙ among_more n (drop k xs) z (contains same c.loop-place.seen z) (c.loop-place.invariant.seen z) ∙ ap (λ (ys : List (Option ℤ)). is_among ys z) (sym e);
    }
