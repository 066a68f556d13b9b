use Rattle.std.proofs.Common.{◌≡◌, ◌∙◌, List, take, Option, rules, arith}
use Rattle.ms_syntax.specs.Tree.{declaration_view, decls_view, ex_view, gens_view, generator_view, generators_view, link_view}
use Rattle.ms_syntax.specs.Tree as x
use Rattle.ms_syntax.specs.declared.tree.Expr.{the_lemmas}
use Rattle.ms_typing.specs.Least.{has}
use Rattle.ms_typing.specs.Term.{with_gens, with_locals}
use Rattle.ms_names.specs.Scopes.{names_of}
use Rattle.ms_names.specs.Worlds.{world_view}
use Rattle.ms_names.specs.declared.scope.Scope as scope
use Rattle.ms_nodes.specs.declared.parts.Elaborated.{Elaborated}
use Rattle.ms_nodes.specs.declared.parts.Source.{Source}
use Rattle.ms_elaborator.specs.Elaborate.{elab, elab_comprehension, elab_gathering, elab_local, elab_operand, elab_source, elab_sources}
use Rattle.ms_elaborator.proofs.Chains.{after_both}
use Rattle.ms_elaborator.proofs.Sizes.{in_access, in_concatenation, in_conjunction, in_disjunction, in_equivalence, in_implication, in_product, in_sum}
use Rattle.ms_elaborator.proofs.Turns.{arms_turn, links_turn, locals_turn, no_index_turn, one_index_turn, operands_turn, sets_turn}
use Rattle.ms_elaborator.proofs.walk.+check.Goals as goal
use Rattle.ms_elaborator.proofs.walk.+check.Goals.{check_indices-in-AnyInt, check_indices-in-Over+in_ok-m-in-Over+in_ok-push-in-Over}

pub check-returns-in_ok-m-in-GeneratorCall : goal.check-returns-in_ok-m-in-GeneratorCall
check-returns-in_ok-m-in-GeneratorCall t c =
    let world = world_view c.args.context.now.world.now in
    let around = c.args.context.now.around in
    let names = names_of c.args.scope.now in
    let gs = generators_view c.in-GeneratorCall.generators in
    let body = ex_view c.in-GeneratorCall.body.value in
    let place = c.in-GeneratorCall.place in
    let name = c.in-GeneratorCall.name in
    let given = c.in_ok-sources-in-GeneratorCall.sources in
    let view : ex_view c.args.e.now ≡ x.generator_call place name gs.0 gs.1 body = search (rules, the_lemmas) in
    let inner : elab world around (with_gens gs.0 names) body ≡ has c.in_ok-m-in-GeneratorCall.m = search (rules, the_lemmas, scope.the_lemmas) in
    rw view (after_both (elab_sources world around names gs.0 gs.1) (elab world around (with_gens gs.0 names) body)
    (λ (ss : List Source × Option Elaborated) (m : Elaborated). elab_gathering world around names place name gs.0 gs.1 ss m)
    (given.list.items, given.condition) c.in_ok-m-in-GeneratorCall.m c.generator_node.result
    c.in_ok-sources-in-GeneratorCall.ensures inner c.generator_node.ensures)

pub check-returns-in_ok-sources-in-Comprehension : goal.check-returns-in_ok-sources-in-Comprehension
check-returns-in_ok-sources-in-Comprehension t c =
    let world = world_view c.args.context.now.world.now in
    let around = c.args.context.now.around in
    let names = names_of c.args.scope.now in
    let gs = generators_view c.in-Comprehension.generators in
    let element = ex_view c.in-Comprehension.element.value in
    let place = c.in-Comprehension.place in
    let given = c.in_ok-sources-in-Comprehension.sources in
    let view : ex_view c.args.e.now ≡ x.comprehension place element gs.0 gs.1 = search (rules, the_lemmas) in
    let inner : elab world around (with_gens gs.0 names) element ≡ has c.in_ok-m-in-Comprehension.m = search (rules, the_lemmas, scope.the_lemmas) in
    rw view (after_both (elab world around (with_gens gs.0 names) element) (elab_sources world around names gs.0 gs.1)
    (λ (m : Elaborated) (ss : List Source × Option Elaborated). elab_comprehension around place gs.0 gs.1 m ss)
    c.in_ok-m-in-Comprehension.m (given.list.items, given.condition) c.comprehension_node.result
    inner c.in_ok-sources-in-Comprehension.ensures c.comprehension_node.ensures)

pub check_arms-loop-arm-preserved : goal.check_arms-loop-arm-preserved
check_arms-loop-arm-preserved t c =
    rw c.in_ok-push.ensures (c.loop-arm.invariant
    ∙ arms_turn (world_view c.args.context.now.world.now) c.args.context.now.around (names_of c.args.scope.now) c.args.arms.now c.loop-arm.arm-index c.arm-item.result c.loop-arm.choices.items
    c.in_ok-choice.choice c.loop-arm-test.true c.arm-item.is c.in_ok-choice.ensures)

pub check_links-loop-link-preserved : goal.check_links-loop-link-preserved
check_links-loop-link-preserved t c =
    rw c.in_ok-push.ensures (c.loop-link.invariant
    ∙ links_turn (world_view c.args.context.now.world.now) c.args.context.now.around (names_of c.args.scope.now) c.args.links.now c.loop-link.link-index c.link-item.result c.loop-link.operands.items
    c.loop-link.kind c.in_ok-next.next.kind c.in_ok-next.next.operand c.loop-link-test.true c.link-item.is c.in_ok-next.ensures)

pub check_operands-loop-link-preserved : goal.check_operands-loop-link-preserved
check_operands-loop-link-preserved t c =
    let world = world_view c.args.context.now.world.now in
    let around = c.args.context.now.around in
    let names = names_of c.args.scope.now in
    let h : elab_operand world around names (link_view c.link-item.result) ≡ has c.operand_of.result = search (rules, the_lemmas) in
    rw c.in_ok-push.ensures (c.loop-link.invariant
    ∙ operands_turn world around names c.args.links.now c.loop-link.link-index c.link-item.result c.loop-link.operands.items c.operand_of.result
    c.loop-link-test.true c.link-item.is h)

pub check_indices-loop-index-preserved : goal.check_indices-loop-index-preserved
check_indices-loop-index-preserved t c =
    let world = world_view c.args.context.now.world.now in
    let around = c.args.context.now.around in
    let names = names_of c.args.scope.now in
    elim c.match-index.branch [
      | check_indices-in-AnyInt w ↦ rw w.types-is (c.loop-index.invariant
          ∙ no_index_turn world around names c.args.indices.now c.loop-index.index-index c.index-item.result c.loop-index.types.items c.loop-index-test.true c.index-item.is w.in-AnyInt.is)
      | check_indices-in-Over+in_ok-m-in-Over+in_ok-push-in-Over w ↦ rw (w.types-is, w.in_ok-push-in-Over.ensures) (c.loop-index.invariant
          ∙ one_index_turn world around names c.args.indices.now c.loop-index.index-index c.index-item.result c.loop-index.types.items w.in-Over.set w.in_ok-m-in-Over.m
          c.loop-index-test.true c.index-item.is w.in-Over.is w.in_ok-m-in-Over.ensures)
    ]

pub check_locals-loop-i-preserved : goal.check_locals-loop-i-preserved
check_locals-loop-i-preserved t c =
    let h : elab_local (world_view c.args.context.now.world.now) c.args.context.now.around (with_locals (decls_view (take c.loop-i.i c.args.locals.now)) (names_of c.args.scope.now)) (declaration_view c.index-locals-i.result) ≡ has c.in_ok-m.m = search (rules, scope.the_lemmas) in
    rw c.in_ok-push.ensures (c.loop-i.invariant
    ∙ locals_turn (world_view c.args.context.now.world.now) c.args.context.now.around (names_of c.args.scope.now) c.args.locals.now c.loop-i.i c.index-locals-i.result c.loop-i.values.items c.in_ok-m.m
    c.loop-i-test.true c.index-locals-i.is h)

pub check_sets-loop-i-preserved : goal.check_sets-loop-i-preserved
check_sets-loop-i-preserved t c =
    let h : elab_source (world_view c.args.context.now.world.now) c.args.context.now.around (with_gens (gens_view (take c.loop-i.i c.args.list.now)) (names_of c.args.scope.now)) (generator_view c.index-list-i.result) ≡ has c.in_ok-set.set = search (rules, scope.the_lemmas) in
    rw c.in_ok-push.ensures (c.loop-i.invariant
    ∙ sets_turn (world_view c.args.context.now.world.now) c.args.context.now.around (names_of c.args.scope.now) c.args.list.now c.loop-i.i c.index-list-i.result c.loop-i.sets.items c.in_ok-set.set
    c.loop-i-test.true c.index-list-i.is h)

pub check-check_links-requires : goal.check-check_links-requires
check-check_links-requires t c =
    let s = in_equivalence c.args.e.now c.in-Equivalence.first c.in-Equivalence.links c.as_slice-links.result.now c.in-Equivalence.is c.as_slice-links.ensures.value in
    (omega arith, tt {0})

pub check-check_links-requires-in-Implication : goal.check-check_links-requires-in-Implication
check-check_links-requires-in-Implication t c =
    let s = in_implication c.args.e.now c.in-Implication.first c.in-Implication.links c.as_slice-links-in-Implication.result.now c.in-Implication.is c.as_slice-links-in-Implication.ensures.value in
    (omega arith, tt {0})

pub check-check_links-requires-in-Disjunction : goal.check-check_links-requires-in-Disjunction
check-check_links-requires-in-Disjunction t c =
    let s = in_disjunction c.args.e.now c.in-Disjunction.first c.in-Disjunction.links c.as_slice-links-in-Disjunction.result.now c.in-Disjunction.is c.as_slice-links-in-Disjunction.ensures.value in
    (omega arith, tt {0})

pub check-check_links-requires-in-Conjunction : goal.check-check_links-requires-in-Conjunction
check-check_links-requires-in-Conjunction t c =
    let s = in_conjunction c.args.e.now c.in-Conjunction.first c.in-Conjunction.links c.as_slice-links-in-Conjunction.result.now c.in-Conjunction.is c.as_slice-links-in-Conjunction.ensures.value in
    (omega arith, tt {0})

pub check-check_links-requires-in-Sum : goal.check-check_links-requires-in-Sum
check-check_links-requires-in-Sum t c =
    let s = in_sum c.args.e.now c.in-Sum.first c.in-Sum.links c.as_slice-links-in-Sum.result.now c.in-Sum.is c.as_slice-links-in-Sum.ensures.value in
    (omega arith, tt {0})

pub check-check_links-requires-in-Product : goal.check-check_links-requires-in-Product
check-check_links-requires-in-Product t c =
    let s = in_product c.args.e.now c.in-Product.first c.in-Product.links c.as_slice-links-in-Product.result.now c.in-Product.is c.as_slice-links-in-Product.ensures.value in
    (omega arith, tt {0})

pub check-check_operands-requires : goal.check-check_operands-requires
check-check_operands-requires t c =
    let s = in_concatenation c.args.e.now c.in-Concatenation.first c.in-Concatenation.links c.as_slice-links-in-Concatenation.result.now c.in-Concatenation.is c.as_slice-links-in-Concatenation.ensures.value in
    (omega arith, tt {0})

pub check-check_subscripts-requires : goal.check-check_subscripts-requires
check-check_subscripts-requires t c =
    let s = in_access c.args.e.now c.in-Access.place c.in-Access.array c.in-Access.subscripts c.as_slice-subscripts.result.now c.in-Access.is c.as_slice-subscripts.ensures.value in
    (omega arith, tt {0})
