use Rattle.std.proofs.Common.{ℕ, ◌≡◌, ◌+◌, ◌-◌, ◌*◌, ◌/◌, ◌%◌, ◌≤◌, ◌<◌, ◌∙◌, sym, ap, arith, rules, set, length, ◌^◌}
use Rattle.std.specs.Prelude.{slice_index}
use Rattle.ms_bits.specs.Word.{bits_from}
use Rattle.ms_domains.proofs.Counting.{row_within, across_first, across_more, across_last, across_fits, bits_bound}
use Rattle.ms_domains.proofs.row.count.Goals as goal

few : (i to n m x : ℕ) → i ≤ to / 64 → to < 64 * n → n < 2 ^ 32 → m ≤ 64 → x ≤ 64 * i + m → x < 2 ^ 64
few i to n m x a b c d e = omega (arith, a, b, c, d, e)

pub returns-then-bottom-top : goal.returns-then-bottom-top
returns-then-bottom-top c =
    let row = set c.args.row.now c.args.at c.args.bits in
    let same : c.args.from / 64 ≡ c.args.to / 64 = c.if-bottom-top.true in
    let n : c.args.to % 64 - c.args.from % 64 + 1 ≡ c.args.to - c.args.from + 1 = omega arith in
    c.count.ensures ∙ ap (λ w. bits_from w (c.args.from % 64) (c.args.to % 64 - c.args.from % 64 + 1)) c.word.ensures ∙ ap (bits_from (slice_index (set c.args.row.now c.args.at c.args.bits) (c.args.from / 64)) (c.args.from % 64)) n ∙ sym (row_within (set c.args.row.now c.args.at c.args.bits) c.args.from (c.args.to - c.args.from + 1) (omega arith))

pub across-init : goal.across-init
across-init c = record {
  least = omega arith;
  most = omega (arith, c.if-bottom-top.false);
  counted = across_first (set c.args.row.now c.args.at c.args.bits) c.args.from c.word-2.result c.count-total.result c.count-total.ensures c.word-2.ensures;
}

pub overflow_add-total : goal.overflow_add-total
overflow_add-total c =
    let b = bits_bound c.word-in-across.result 0 64 in
    let f = across_fits (set c.args.row.now c.args.at c.args.bits) c.args.from c.across.i 64 c.across.total c.count-total-in-across.result c.across.invariant.counted (omega (arith, c.count-total-in-across.ensures, b)) in
    search (rules, few c.across.i c.args.to (length c.args.row.now) 64 _ c.across.invariant.most c.requires.there c.requires.few (omega arith) f)

pub across-preserved : goal.across-preserved
across-preserved c = record {
  least = let l = c.across.invariant.least in omega (arith, l);
  most = let l = c.across-test.true in omega (arith, l);
  counted = across_more (set c.args.row.now c.args.at c.args.bits) c.args.from c.across.i c.word-in-across.result c.across.total c.count-total-in-across.result c.across.invariant.least c.across.invariant.counted c.count-total-in-across.ensures c.word-in-across.ensures;
}

pub overflow_add-result : goal.overflow_add-result
overflow_add-result c =
    let b = bits_bound c.word-3.result 0 (c.args.to % 64 - 0 + 1) in
    let f = across_fits (set c.args.row.now c.args.at c.args.bits) c.args.from c.across.i 64 c.across.total c.count-2.result c.across.invariant.counted (omega (arith, c.count-2.ensures, b)) in
    search (rules, few c.across.i c.args.to (length c.args.row.now) 64 _ c.across.invariant.most c.requires.there c.requires.few (omega arith) f)

pub returns : goal.returns
returns c =
    let i : c.across.i ≡ c.args.to / 64 = omega (arith, c.across.invariant.most, c.across-test.false) in
    across_last (set c.args.row.now c.args.at c.args.bits) c.args.from c.args.to c.across.i c.word-3.result c.across.total c.count-2.result c.across.invariant.least i c.across.invariant.counted (c.count-2.ensures ∙ ap (bits_from c.word-3.result 0) (omega arith)) (c.word-3.ensures ∙ ap (slice_index (set c.args.row.now c.args.at c.args.bits)) (sym i))
