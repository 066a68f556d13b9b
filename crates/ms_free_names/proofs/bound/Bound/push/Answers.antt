use Rattle.std.proofs.Common.{◌≡◌, ◌∙◌, ◌+◌, ◌++◌, ◌∷◌, [], Some, cond, sym, ap, arith}
use Rattle.std.specs.HashMap.{get}
use Rattle.std.specs.Str.{bytes_eq}
use Rattle.ms_free_names.specs.Bound.{times_of}
use Rattle.ms_free_names.proofs.Counts.{raised, times_short}
use Rattle.ms_free_names.proofs.bound.Bound.push.Goals as goal

pub overflow_add-times : goal.overflow_add-times
overflow_add-times c =
    let names = c.self.inside.names in
    let is = c.count-times.ensures ∙ c.self.invariant c.args.name.now in
    let short = times_short names.items c.args.name.now in
    omega (arith, is, short, names.ok.0, names.ok.1, names.small)

pub invariant_of-self-2 : goal.invariant_of-self-2
invariant_of-self-2 c = λ w.
    let names = c.self.inside.names.items in
    let name = c.args.name.now in
    let old = get bytes_eq c.self.inside.counts in
    let times = c.count-times.result in
    let more : c.push_reserved.new.self.items ≡ names ++ name ∷ [] =
    c.push_reserved.ensures.items ∙ ap (λ bs. bs ++ c.in_ok-held.held ∷ []) c.in_ok-reserve.ensures.items ∙ ap (λ u. names ++ u ∷ []) c.in_ok-held.ensures in
    raised names name old (get bytes_eq c.set_count.new.counts) times c.self.invariant c.count-times.ensures
    (λ v. c.in_ok-set_count.ensures.ok v ∙ ap (λ u. cond (bytes_eq u v) (Some (times + 1)) (old v)) c.in_ok-key.ensures) w
    ∙ sym (ap (λ bs. times_of bs w) more)
