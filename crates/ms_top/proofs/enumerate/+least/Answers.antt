use Rattle.std.proofs.Common.{rules, ◌∙◌, sym, subst, List, take, arith, length-set, to_z, w64}
use Rattle.std.specs.Prelude.{ℤ, ◌≤ℤ◌}
use Rattle.std.proofs.lemmas.Int.{ints}
use Rattle.ms_top.specs.Search.{FitBehind, LeastBehind, NoneBehind}
use Rattle.ms_top.proofs.Enumerating.{fit_here, all_taken, empty_of, fit_more, found_more, none_more, next_front, front_kept}
use Rattle.ms_top.proofs.enumerate.+least.Goals as goal

pub set_least-all_hold-requires : goal.set_least-all_hold-requires
set_least-all_hold-requires t c =
    fit_here (take c.args.at c.args.point.now) c.args.point.now c.args.domains.now c.args.trees.now (empty_of c.args.domains.now c.in-empty.len_below)
    (all_taken c.args.at c.args.domains.now c.args.point.now c.in-empty.len_below c.requires.whole) c.requires.fit

pub set_each-set_least-requires : goal.set_each-set_least-requires
set_each-set_least-requires t c =
    let v : ℤ = to_z w64 c.loop-n.n-bits in
    let high : v ≤ℤ c.args.domain.highest = omega (arith, ints) in
    let front = take c.args.at c.args.point.now in (
      search rules,
      (
        omega (arith, length-set c.loop-n.point c.args.at v, c.requires.whole, c.loop-n.auto.point),
        subst (λ (q : List ℤ). FitBehind q c.args.others.now c.args.trees.now) (sym (next_front c.args.at c.loop-n.point front v c.loop-n.invariant.kept (omega arith)))
            (fit_more front c.args.domain c.args.others.now c.args.trees.now v c.loop-n.invariant.low high c.requires.fit),
      ),
    )

pub set_each-returns-then-set_least-clause-found : goal.set_each-returns-then-set_least-clause-found
set_each-returns-then-set_least-clause-found t c = λ _.
    let v : ℤ = to_z w64 c.loop-n.n-bits in
    let high : v ≤ℤ c.args.domain.highest = omega (arith, ints) in
    let front = take c.args.at c.args.point.now in
    found_more front c.args.domain c.args.others.now c.args.trees.now v c.set_least.new.point c.loop-n.invariant.low high c.loop-n.invariant.before
    (subst (λ (q : List ℤ). LeastBehind q c.args.others.now c.args.trees.now c.set_least.new.point) (next_front c.args.at c.loop-n.point front v c.loop-n.invariant.kept (omega arith))
    (c.set_least.ensures.found c.if-set_least.true))

pub set_each-loop-n-preserved : goal.set_each-loop-n-preserved
set_each-loop-n-preserved t c =
    let v : ℤ = to_z w64 c.loop-n.n-bits in
    let front = take c.args.at c.args.point.now in
    record {
      low = let low = c.loop-n.invariant.low in omega (arith, ints);
      kept = front_kept c.args.at c.loop-n.point c.set_least.new.point v c.set_least.ensures.kept ∙ c.loop-n.invariant.kept;
      before = none_more front c.args.domain c.args.others.now c.args.trees.now v _ (omega (arith, ints)) c.loop-n.invariant.before
          (subst (λ (q : List ℤ). NoneBehind q c.args.others.now c.args.trees.now) (next_front c.args.at c.loop-n.point front v c.loop-n.invariant.kept (omega arith))
          (c.set_least.ensures.none c.if-set_least.false));
    }

pub set_each-returns-else-set_least-clause-kept : goal.set_each-returns-else-set_least-clause-kept
set_each-returns-else-set_least-clause-kept t c =
    front_kept c.args.at c.loop-n.point c.set_least.new.point (to_z w64 c.loop-n.n-bits) c.set_least.ensures.kept ∙ c.loop-n.invariant.kept
