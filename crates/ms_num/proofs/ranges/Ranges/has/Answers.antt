use Rattle.std.proofs.Common.{◌≡◌, ◌∙◌, ◌<◌, rules, sym, ap, w64, SFits, arith, length, get_or}
use Rattle.std.specs.Prelude.{int_lt, int_le}
use Rattle.std.proofs.lemmas.Bool.{le-ltb}
use Rattle.std.proofs.lemmas.Int.{to_z-of_z}
use Rattle.std.proofs.lemmas.List.Sorted.{IsPartitionPoint-from_clause}
use Rattle.ms_num.specs.Ranges.{IsRanges}
use Rattle.ms_num.proofs.Cuts.{ends_below, member_at, member_past}
use Rattle.ms_num.proofs.ranges.Ranges.has.Goals as goal

pub returns-then-at-len : goal.returns-then-at-len
returns-then-at-len c =
    let ordered : IsRanges c.deref.result.now = rw c.deref.ensures.value c.self.invariant in
    let point = IsPartitionPoint-from_clause (λ s. int_lt s.hi c.args.n) _ _ c.partition_point-at.ensures.partitioned (ends_below _ c.args.n c.deref.result.now ordered) (λ a r q k. search rules) in
    let here : c.index.result.now ≡ get_or c.deref.result.now c.partition_point-at.result c.index.result.now = rw c.deref.ensures.value c.index.ensures in
    let inside : c.partition_point-at.result < length c.deref.result.now = omega arith in
    let member = member_at _ c.args.n c.deref.result.now ordered c.partition_point-at.result c.index.result.now inside (λ k d h. point.0 k d (omega arith) h) (point.1 c.partition_point-at.result c.index.result.now (omega arith) inside) in
    let fits : SFits w64 c.lo.result = search rules in
    rw (to_z-of_z w64 c.lo.result fits, to_z-of_z w64 c.args.n c.ranges.n, c.lo.ensures.value, ← c.self.view_is, ← c.deref.ensures.value) (ap (λ s. int_le s.lo c.args.n) here ∙ sym member)

pub returns-else-at-len : goal.returns-else-at-len
returns-else-at-len c =
    let ordered : IsRanges c.deref.result.now = rw c.deref.ensures.value c.self.invariant in
    let point = IsPartitionPoint-from_clause (λ s. int_lt s.hi c.args.n) _ _ c.partition_point-at.ensures.partitioned (ends_below _ c.args.n c.deref.result.now ordered) (λ a r q k. search rules) in
    let member = member_past c.args.n c.deref.result.now (λ k d h. point.0 k d (omega arith) (omega arith)) in
    rw (← c.self.view_is, ← c.deref.ensures.value) (le-ltb _ _ c.if-at-len.false ∙ sym member)
