use Rattle.std.proofs.Common.{◌≡◌, ◌++◌, map, drop, take}
use Rattle.ms_syntax.specs.Tree.{arm_view, arms_of, decls_view, exs_view, gens_view, indices_view, links_view, row_view, rows_of, subscripts_view}
use Rattle.ms_typing.specs.Least.{and_then, has}
use Rattle.ms_typing.specs.Term.{with_gens, with_locals}
use Rattle.ms_names.specs.Scopes.{names_of}
use Rattle.ms_names.specs.Worlds.{world_view}
use Rattle.ms_elaborator.specs.Elaborate as spec
use Rattle.ms_elaborator.proofs.walk.+check.Given as goal

abbrev pub invariant-check_all-loop-e : goal.invariant-check_all-loop-e
invariant-check_all-loop-e l =
    spec.elab_all (world_view l.context.world.now) l.context.around (names_of l.scope) (exs_view l.es)
    ≡ and_then (spec.elab_all (world_view l.context.world.now) l.context.around (names_of l.scope) (exs_view (drop l.e-index l.es))) (λ ts. has (l.parts.items ++ ts))

abbrev pub invariant-check_links-loop-link : goal.invariant-check_links-loop-link
invariant-check_links-loop-link l =
    spec.elab_links (world_view l.context.world.now) l.context.around (names_of l.scope) l.fn.first.kind (links_view l.links)
    ≡ and_then (spec.elab_links (world_view l.context.world.now) l.context.around (names_of l.scope) l.kind (links_view (drop l.link-index l.links))) (λ r. has (r.0, l.operands.items ++ r.1))

abbrev pub invariant-check_operands-loop-link : goal.invariant-check_operands-loop-link
invariant-check_operands-loop-link l =
    spec.elab_operands (world_view l.context.world.now) l.context.around (names_of l.scope) (links_view l.links)
    ≡ and_then (spec.elab_operands (world_view l.context.world.now) l.context.around (names_of l.scope) (links_view (drop l.link-index l.links))) (λ ts. has (l.operands.items ++ ts))

abbrev pub invariant-check_subscripts-loop-subscript : goal.invariant-check_subscripts-loop-subscript
invariant-check_subscripts-loop-subscript l =
    spec.elab_subscripts (world_view l.context.world.now) l.context.around (names_of l.scope) l.place l.fn.array.kind (subscripts_view l.subscripts)
    ≡ and_then (spec.elab_subscripts (world_view l.context.world.now) l.context.around (names_of l.scope) l.place l.kind (subscripts_view (drop l.subscript-index l.subscripts))) (λ r. has (r.0, l.list ++ r.1))

abbrev pub invariant-check_rows-loop-row : goal.invariant-check_rows-loop-row
invariant-check_rows-loop-row l =
    spec.elab_rows (world_view l.context.world.now) l.context.around (names_of l.scope) (rows_of (map row_view l.rows))
    ≡ and_then (spec.elab_rows (world_view l.context.world.now) l.context.around (names_of l.scope) (rows_of (map row_view (drop l.row-index l.rows)))) (λ ts. has (map (λ r. r.items) l.parts.items ++ ts))

abbrev pub invariant-check_arms-loop-arm : goal.invariant-check_arms-loop-arm
invariant-check_arms-loop-arm l =
    spec.elab_arms (world_view l.context.world.now) l.context.around (names_of l.scope) (arms_of (map arm_view l.arms))
    ≡ and_then (spec.elab_arms (world_view l.context.world.now) l.context.around (names_of l.scope) (arms_of (map arm_view (drop l.arm-index l.arms)))) (λ ts. has (l.choices.items ++ ts))

abbrev pub invariant-check_sets-loop-i : goal.invariant-check_sets-loop-i
invariant-check_sets-loop-i l =
    spec.elab_sets (world_view l.context.world.now) l.context.around (names_of l.scope) (gens_view l.list)
    ≡ and_then (spec.elab_sets (world_view l.context.world.now) l.context.around (with_gens (gens_view (take l.i l.list)) (names_of l.scope)) (gens_view (drop l.i l.list))) (λ ts. has (l.sets.items ++ ts))

abbrev pub invariant-check_locals-loop-i : goal.invariant-check_locals-loop-i
invariant-check_locals-loop-i l =
    spec.elab_locals (world_view l.context.world.now) l.context.around (names_of l.scope) (decls_view l.locals)
    ≡ and_then (spec.elab_locals (world_view l.context.world.now) l.context.around (with_locals (decls_view (take l.i l.locals)) (names_of l.scope)) (decls_view (drop l.i l.locals))) (λ ts. has (l.values.items ++ ts))

abbrev pub invariant-check_indices-loop-index : goal.invariant-check_indices-loop-index
invariant-check_indices-loop-index l =
    spec.elab_indices (world_view l.context.world.now) l.context.around (names_of l.scope) (indices_view l.indices)
    ≡ and_then (spec.elab_indices (world_view l.context.world.now) l.context.around (names_of l.scope) (indices_view (drop l.index-index l.indices))) (λ ts. has (l.types.items ++ ts))
