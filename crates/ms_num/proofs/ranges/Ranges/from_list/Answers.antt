use Rattle.std.proofs.Common.{refl, ◌≡◌, ◌∙◌, ◌<◌, ◌≤◌, ℕ, ap, sym, arith, true, false, length, get_or, ◌||◌, List}
use Rattle.std.specs.Prelude.{ℤ, pos, ◌≤ℤ◌, ◌<ℤ◌}
use Rattle.std.specs.List.{list_any, list_all}
use Rattle.std.specs.List.Sorted.{IsPermutation, IsSorted}
use Rattle.std.specs.Ordering.{int_cmp, is_lt}
use Rattle.std.proofs.lemmas.Bool.{false≢true, true≢false, true_from_ne_false}
use Rattle.std.proofs.lemmas.Cmp.{int_cmp_total}
use Rattle.std.proofs.lemmas.Int.{by_lt_z}
use Rattle.std.proofs.lemmas.List.{take_all, get_or_default}
use Rattle.std.proofs.lemmas.List.Folds.{list_any_more, list_all_at}
use Rattle.std.proofs.lemmas.List.Sorted.{All-permutation, list_any-IsPermutation, sorted_far, ranks_by}
use Rattle.ms_num.specs.Numbers.{int_eq}
use Rattle.ms_num.specs.Span.{is_within}
use Rattle.ms_num.proofs.SharedSpans.{read_within}
use Rattle.ms_num.proofs.Cuts.{lt_of}
use Rattle.ms_num.proofs.Build.{end_weaker}
use Rattle.ms_num.proofs.ranges.Ranges.from_list.Goals as goal

-- a sorted list does not fall
not_less : (x y : ℤ) → is_lt (int_cmp y x) ≡ false → x ≤ℤ y
not_less x y h = by_lt_z y x (λ l. absurd (false≢true (sym h ∙ less l))) (λ l. l)
  where
    less : y <ℤ x → is_lt (int_cmp y x) ≡ true
    less l = rw (lt_of y x l) refl

rises : (xs : List ℤ) → IsSorted int_cmp xs → (i j : ℕ) (d : ℤ) → i ≤ j → j < length xs → get_or xs i d ≤ℤ get_or xs j d
rises xs s i j d l m = not_less (get_or xs i d) (get_or xs j d) (sorted_far (λ x y. is_lt (int_cmp x y)) (ranks_by int_cmp_total (λ z. z)) xs s i j d l m)

within_at : (list xs : List ℤ) → IsPermutation list xs → list_all is_within list ≡ true → (i : ℕ) → i < length xs → is_within (get_or xs i (pos 0)) ≡ true
within_at list xs p a i l = All-permutation (λ n. is_within n ≡ true) list xs p (λ k d m. true_from_ne_false (is_within (get_or list k d)) (λ e. true≢false (sym a ∙ list_all_at is_within list k d m e))) i (pos 0) l

pub add_last-requires-clause-within : goal.add_last-requires-clause-within
add_last-requires-clause-within c =
    let perm = rw (c.in_ok-sorted.ensures.items, ← c.deref-number-items.ensures.value) at c.in_ok-sort.ensures.permutation in
    let within = within_at c.args.list.now c.deref-number-items.result.now perm c.requires c.loop-number.number-index c.loop-number-test.true in
    rw (read_within _ within) within

pub loop-number-preserved : goal.loop-number-preserved
loop-number-preserved c =
    let xs = c.deref-number-items.result.now in
    let i = c.loop-number.number-index in
    let perm = rw (c.in_ok-sorted.ensures.items, ← c.deref-number-items.ensures.value) at c.in_ok-sort.ensures.permutation in
    let within = within_at c.args.list.now c.deref-number-items.result.now perm c.requires c.loop-number.number-index c.loop-number-test.true in
    let sorted = rw (← c.deref-number-items.ensures.value) at c.in_ok-sort.ensures.sorted in
    record {
      proper = c.in_ok-add_last.ensures.proper;
      members = λ z.
          (rw (read_within _ within) at (c.in_ok-add_last.ensures.members z)) ∙ ap (λ b. b || int_eq z (get_or c.deref-number-items.result.now c.loop-number.number-index (pos 0))) (c.loop-number.invariant.members z)
          ∙ sym (list_any_more (int_eq z) c.deref-number-items.result.now c.loop-number.number-index (pos 0) c.loop-number-test.true);
      last = λ j d l m.
          end_weaker (get_or c.deref-number-items.result.now c.loop-number.number-index (pos 0)) (get_or c.deref-number-items.result.now j d) c.add_last.new.ranges.items
          (rw (get_or_default c.deref-number-items.result.now j d (pos 0) m) (rises c.deref-number-items.result.now sorted c.loop-number.number-index j (pos 0) (omega arith) m))
          (rw (read_within _ within) at c.in_ok-add_last.ensures.last);
    }

pub returns-clause-members : goal.returns-clause-members
returns-clause-members c =
    let perm = rw (c.in_ok-sorted.ensures.items, ← c.deref-number-items.ensures.value) at c.in_ok-sort.ensures.permutation in
    λ z. c.loop-number.invariant.members z ∙ ap (list_any (int_eq z)) (take_all c.loop-number.number-index c.deref-number-items.result.now c.loop-number-test.false)
    ∙ sym (list_any-IsPermutation (int_eq z) c.args.list.now c.deref-number-items.result.now perm)
