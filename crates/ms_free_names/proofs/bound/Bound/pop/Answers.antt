use Rattle.std.proofs.Common.{◌≡◌, ◌∙◌, suc, ap, arith}
use Rattle.std.specs.HashMap.{get}
use Rattle.std.specs.Str.{bytes_eq}
use Rattle.ms_free_names.specs.Bound.{times_of}
use Rattle.ms_free_names.proofs.Counts.{counted_once, is_counted, lowered}
use Rattle.ms_free_names.proofs.bound.Bound.pop.Goals as goal

pub overflow_sub-times : goal.overflow_sub-times
overflow_sub-times c =
    let left = c.pop.new.self.items in
    let name = c.in-Some.name in
    let all = c.self.invariant name ∙ ap (λ bs. times_of bs name) c.in-Some.ensures.items ∙ counted_once left name in
    let is : c.count-times.result ≡ suc (times_of left name) = c.count-times.ensures ∙ all in
    omega (arith, is)

pub reset_count-requires : goal.reset_count-requires
reset_count-requires c =
    let left = c.pop.new.self.items in
    let name = c.in-Some.name in
    is_counted (get bytes_eq c.self.inside.counts name) (times_of left name)
    (c.self.invariant name ∙ ap (λ bs. times_of bs name) c.in-Some.ensures.items ∙ counted_once left name)

pub invariant_of-self : goal.invariant_of-self
invariant_of-self c =
    lowered c.pop.new.self.items c.in-Some.name (get bytes_eq c.self.inside.counts) (get bytes_eq c.reset_count.new.counts) c.count-times.result
    (λ w. c.self.invariant w ∙ ap (λ bs. times_of bs w) c.in-Some.ensures.items) c.count-times.ensures c.reset_count.ensures
