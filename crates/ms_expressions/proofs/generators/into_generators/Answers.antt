use Rattle.std.proofs.Common.{map, length, [], ◌∷◌, Option, Some, Vec, Global, ap, ◌∙◌, refl, arith}
use Rattle.std.proofs.lemmas.List.{map-append}
use Rattle.std.specs.Vec.Iter.{into_iter_items}
use Rattle.ms_syntax.specs.declared.tree.Binder.{Binder}
use Rattle.ms_syntax.specs.declared.tree.Expr.{Expr}
use Rattle.ms_syntax.specs.Tree.{ex_view, exs_view, binder_view, maybe_view, generator_view, names_view}
use Rattle.ms_expressions.specs.Rules.{generators_from}
use Rattle.ms_expressions.proofs.Gathered.{gathered, gather_none, gather_set, gather_end, none_left}
use Rattle.ms_expressions.proofs.Views.{one_generator}
use Rattle.ms_expressions.proofs.generators.into_generators.Goals as goal

pub returns-in_default : goal.returns-in_default
returns-in_default c =
    gather_none (map generator_view c.loop-e.found.items) (names_view c.loop-e.names.items) (exs_view (into_iter_items c.loop-e.e-iterator)) _ c.loop-e.invariant.1
    (ex_view c.in-Some.e) (exs_view (into_iter_items c.next.new.self)) (ap exs_view c.in-Some.ensures.steps.0) _ c.in_default.ensures refl

pub loop-e-preserved-in-Continue-branch-2 : goal.loop-e-preserved-in-Continue-branch-2
loop-e-preserved-in-Continue-branch-2 c =
    let found = map generator_view c.push-in-Some-set.new.self.items in
    let rest = exs_view (into_iter_items c.next.new.self) in
    let none = ap (λ (v : Vec Binder Global). v.items) c.replace-names.ensures.after ∙ c.new.ensures.items in (
      omega (arith, c.loop-e.invariant.0, c.in-Some.ensures.steps.1, ap length c.in-Some.ensures.steps.0),
      ap (λ v. gathered found (generators_from (names_view v) rest)) none
          ∙ gather_set (map generator_view c.loop-e.found.items) (names_view c.loop-e.names.items) (exs_view (into_iter_items c.loop-e.e-iterator)) _ c.loop-e.invariant.1
          (ex_view c.in-Some.e) rest (ap exs_view c.in-Some.ensures.steps.0) _ c.in-Some-part.ensures
          (binder_view c.in-Some-part.binder) (ex_view c.in-Some-set.set) (names_view c.push.new.self.items) found
          (ap (λ (s : Option Expr). Some (binder_view c.in-Some-part.binder, maybe_view s)) c.in-Some-set.is)
          (ap names_view c.in_ok-push.ensures.items ∙ map-append binder_view c.loop-e.names.items (c.in-Some-part.binder ∷ []))
          (one_generator c.loop-e.found.items c.push-in-Some-set.new.self.items c.from_vec-names.result c.push.new.self.items c.in-Some-set.set c.in_ok-push-2.ensures.items (c.from_vec-names.ensures ∙ ap (λ (v : Vec Binder Global). v.items) c.replace-names.ensures.value)),
    )

pub returns-then-is_empty : goal.returns-then-is_empty
returns-then-is_empty c =
    gather_end (map generator_view c.loop-e.found.items) (names_view c.loop-e.names.items) (exs_view (into_iter_items c.loop-e.e-iterator)) _ c.loop-e.invariant.1
    c.loop-e.names.items c.loop-e.names.len (none_left (into_iter_items c.loop-e.e-iterator) (omega (arith, c.loop-e.invariant.0, c.in-None.ensures.steps.0))) refl c.if-is_empty.ensures c.loop-e.names.ok.0
