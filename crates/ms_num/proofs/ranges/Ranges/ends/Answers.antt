use Rattle.std.proofs.Common.{◌≡◌, ◌≢◌, ◌∙◌, sym, ap, length, ◌-◌, List, []}
use Rattle.std.specs.Prelude.{ℤ, slice_index_or}
use Rattle.ms_num.specs.Span.{Span}
use Rattle.ms_num.specs.Sets.{lo_of, hi_of, set_of, span_of}
use Rattle.ms_num.proofs.SharedSets.{ranges_is_set, ends_interval, hi_last, lo_first, read_lo, read_hi}
use Rattle.ms_num.proofs.ranges.Ranges.ends.Goals as goal

first : (ss rs : List Span) (d : Span) (x : ℤ) → ss ≢ [] → rs ≡ ss → d ≡ slice_index_or rs 0 d → x ≡ d.lo → x ≡ lo_of ss
first ss rs d x some same is e = e ∙ ap (λ s. s.lo) is ∙ ap (λ l. (slice_index_or l 0 d).lo) same ∙ sym (lo_first ss d some)

last : (ss rs : List Span) (d : Span) (x : ℤ) → ss ≢ [] → rs ≡ ss → d ≡ slice_index_or rs (length rs - 1) d → x ≡ d.hi → x ≡ hi_of ss
last ss rs d x some same is e = e ∙ ap (λ s. s.hi) is ∙ ap (λ l. (slice_index_or l (length l - 1) d).hi) same ∙ sym (hi_last ss d some)

pub returns-clause-proper : goal.returns-clause-proper
returns-clause-proper c = ranges_is_set c.args.self.now c.ranges-ranges.ensures.proper c.requires

pub new-requires : goal.new-requires
new-requires c =
    let i = ends_interval c.args.self.now c.ranges-ranges.ensures.proper c.requires in
    let lo = first c.args.self.now _ c.index-ranges-0.result c.lo.result c.requires c.ranges-ranges.ensures.value c.index-ranges-0.is c.lo.ensures.value in
    let hi = last c.args.self.now _ c.index-ranges-ranges.result c.hi.result c.requires c.ranges-ranges.ensures.value c.index-ranges-ranges.is c.hi.ensures.value in
    rw (read_lo (span_of (set_of c.args.self.now)) c.lo.result i lo, read_hi (span_of (set_of c.args.self.now)) c.hi.result i hi) i

pub returns-clause-value : goal.returns-clause-value
returns-clause-value c =
    let i = ends_interval c.args.self.now c.ranges-ranges.ensures.proper c.requires in
    let lo = first c.args.self.now _ c.index-ranges-0.result c.lo.result c.requires c.ranges-ranges.ensures.value c.index-ranges-0.is c.lo.ensures.value in
    let hi = last c.args.self.now _ c.index-ranges-ranges.result c.hi.result c.requires c.ranges-ranges.ensures.value c.index-ranges-ranges.is c.hi.ensures.value in
    rw (read_lo (span_of (set_of c.args.self.now)) c.lo.result i lo, read_hi (span_of (set_of c.args.self.now)) c.hi.result i hi) at c.new.ensures
