use Rattle.std.proofs.Common.{◌≡◌, drop, map, []}
use Rattle.ms_syntax.specs.Tree.{arm_view, arms_of, declaration_view, decls_of, exs_view, gens_view, index_view, indices_of, links_view, names_view, row_view, rows_of, subscripts_view}
use Rattle.ms_declarations.specs.Repeats.{twice_arms, twice_exs, twice_gens, twice_indices, twice_links, twice_locals, twice_rows, twice_subscripts}
use Rattle.ms_declarations.proofs.twice.+twice.Given as goal

abbrev pub invariant-check_all-loop-part : goal.invariant-check_all-loop-part
invariant-check_all-loop-part l = twice_exs (exs_view l.parts) ≡ twice_exs (exs_view (drop l.part-index l.parts))

abbrev pub invariant-check_links-loop-link : goal.invariant-check_links-loop-link
invariant-check_links-loop-link l = twice_links (links_view l.links) ≡ twice_links (links_view (drop l.link-index l.links))

abbrev pub invariant-check_arms-loop-arm : goal.invariant-check_arms-loop-arm
invariant-check_arms-loop-arm l = twice_arms (arms_of (map arm_view l.arms)) ≡ twice_arms (arms_of (map arm_view (drop l.arm-index l.arms)))

abbrev pub invariant-check_rows-loop-row : goal.invariant-check_rows-loop-row
invariant-check_rows-loop-row l = twice_rows (rows_of (map row_view l.rows)) ≡ twice_rows (rows_of (map row_view (drop l.row-index l.rows)))

abbrev pub invariant-check_subscripts-loop-subscript : goal.invariant-check_subscripts-loop-subscript
invariant-check_subscripts-loop-subscript l = twice_subscripts (subscripts_view l.subscripts) ≡ twice_subscripts (subscripts_view (drop l.subscript-index l.subscripts))

abbrev pub invariant-check_generator_list-loop-generator : goal.invariant-check_generator_list-loop-generator
invariant-check_generator_list-loop-generator l = twice_gens [] (gens_view l.generators) ≡ twice_gens (names_view l.names) (gens_view (drop l.generator-index l.generators))

abbrev pub invariant-check_locals-loop-declaration : goal.invariant-check_locals-loop-declaration
invariant-check_locals-loop-declaration l = twice_locals [] (decls_of (map declaration_view l.declarations)) ≡ twice_locals (names_view l.names) (decls_of (map declaration_view (drop l.declaration-index l.declarations)))

abbrev pub invariant-check_indices-loop-index : goal.invariant-check_indices-loop-index
invariant-check_indices-loop-index l = twice_indices (indices_of (map index_view l.indices)) ≡ twice_indices (indices_of (map index_view (drop l.index-index l.indices)))
