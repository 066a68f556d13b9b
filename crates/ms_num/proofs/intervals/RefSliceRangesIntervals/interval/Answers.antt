use Rattle.std.proofs.Common.{◌≡◌, ◌∙◌, sym, ap, map, List, Some, length}
use Rattle.std.specs.Prelude.{option_map, slice_get, ℕ, ◌<◌, slice_index_or}
use Rattle.std.proofs.lemmas.Option.{slice_get-map, slice_get-get_or}
use Rattle.ms_num.specs.Span.{Span}
use Rattle.ms_num.specs.Sets.{set_of, declared_span, declared_spans}
use Rattle.ms_num.proofs.intervals.RefSliceRangesIntervals.interval.Goals as goal

at : (sets : List (List Span)) (v : ℕ) (s : List Span) → v < length sets → s ≡ slice_index_or sets v s → slice_get (declared_spans (map set_of sets)) v ≡ Some (declared_span (set_of s))
at sets v s l e = slice_get-map declared_span (map set_of sets) v ∙ ap (option_map declared_span) (slice_get-map set_of sets v ∙ ap (option_map set_of) (slice_get-get_or sets v s l ∙ ap (λ x. Some x) (sym e)))

pub returns : goal.returns
returns c = ap (λ x. Some x) c.declared_interval.ensures ∙ sym (at c.args.self.now c.args.variable c.in_ok-set.set.now c.in_ok-set.ensures.lookup.3.0 c.in_ok-set.ensures.lookup.1)
