use Rattle.std.proofs.Common.{rules, ◌≡◌, length, [], ap, sym, ◌∙◌, arith, ◌<◌, subst, List}
use Rattle.std.specs.Prelude.{slice_index_or}
use Rattle.std.proofs.lemmas.List.{length_push, get_or_push}
use Rattle.ms_num.specs.Span.{Span}
use Rattle.ms_trail.specs.Trailed.{Trailed, sets_of, IsTrailed}
use Rattle.ms_trail.proofs.Written.{added_trailed, added_sets}
use Rattle.ms_trail.proofs.trail.Trail.add_list.Goals as goal

pub invariant_of-self-2 : goal.invariant_of-self-2
invariant_of-self-2 c =
    let t : Trailed = record { cells = c.self.inside.cells; ranges = c.self.inside.ranges.items; kept = c.self.inside.kept.items; fixed = c.self.inside.fixed } in
    subst (λ (r : List (List Span)). IsTrailed (record t { ranges = r })) (sym c.in_ok-push.ensures.items) (added_trailed t c.args.set c.self.invariant)

pub returns-clause-ok : goal.returns-clause-ok
returns-clause-ok c =
    let t : Trailed = record { cells = c.self.inside.cells; ranges = c.self.inside.ranges.items; kept = c.self.inside.kept.items; fixed = c.self.inside.fixed } in
    rw (← c.self.view_is) (ap (λ (r : List (List Span)). record t { ranges = r }) c.in_ok-push.ensures.items)

pub returns-clause-same : goal.returns-clause-same
returns-clause-same c =
    let t : Trailed = record { cells = c.self.inside.cells; ranges = c.self.inside.ranges.items; kept = c.self.inside.kept.items; fixed = c.self.inside.fixed } in
    rw (← c.self.view_is) (ap (λ (r : List (List Span)). sets_of (record t { ranges = r })) c.in_ok-push.ensures.items ∙ added_sets t c.args.set c.self.invariant)

pub returns-clause-domain : goal.returns-clause-domain
returns-clause-domain c = λ row.
    let count : c.len.result ≡ length c.self.inside.ranges.items = search rules in
    let there : c.len.result < length c.push.new.self.items = omega (arith, count, ap length c.in_ok-push.ensures.items, length_push c.self.inside.ranges.items c.args.set) in
    c.listed-domain.ensures c.push.new.self.items row there (ap (λ (r : List (List Span)). slice_index_or r c.len.result []) c.in_ok-push.ensures.items ∙ get_or_push c.self.inside.ranges.items c.args.set [] c.len.result (sym count))
