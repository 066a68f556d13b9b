use Rattle.std.proofs.Common.{List, map, Option, None, sym, ap, ◌∙◌}
use Rattle.std.specs.Prelude.{if◌then◌else◌}
use Rattle.ms_syntax.specs.Tree.{item_view}
use Rattle.ms_top.specs.declared.plain.Comparison.{Comparison}
use Rattle.ms_top.specs.Plain.{all_of, comparison_of}
use Rattle.ms_top.proofs.Gathering.{at_end, none_at_all}
use Rattle.ms_top.proofs.form.constraints.Goals as goal
use Rattle.ms_top.proofs.form.constraints.Goals.{in_default-via-in-Some+else-is_satisfy, in_default-via-in_default}

pub returns-in-Some : goal.returns-in-Some
returns-in-Some c =
    rw (at_end c.args.items.now c.in-Some.others.now c.in-Some.last.now c.in-Some.ensures.cases.0
    ∙ ap (λ b. if◌then◌else◌ {A = Option (List Comparison)} b (all_of comparison_of (map item_view c.in-Some.others.now)) None) (sym c.is_satisfy.ensures ∙ c.if-is_satisfy.true)) c.comparisons.ensures

pub returns-in_default : goal.returns-in_default
returns-in_default c = elim c.in_default.branch [
  | in_default-via-in-Some+else-is_satisfy w ↦
      at_end c.args.items.now w.in-Some.others.now w.in-Some.last.now w.in-Some.ensures.cases.0
      ∙ ap (λ b. if◌then◌else◌ {A = Option (List Comparison)} b (all_of comparison_of (map item_view w.in-Some.others.now)) None) (sym w.is_satisfy.ensures ∙ w.if-is_satisfy.false)
  | in_default-via-in_default w ↦ none_at_all c.args.items.now w.in_default.ensures.cases
]
