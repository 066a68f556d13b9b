use Rattle.std.proofs.Common.{◌≡◌, ◌++◌, drop, map}
use Rattle.ms_syntax.specs.Tree.{arm_view, arms_of, declaration_view, decls_of, exs_view, gens_view, index_view, indices_of, links_view, row_view, rows_of, subscripts_view}
use Rattle.ms_free_names.specs.Uses.{generated, locals, uses_arms, uses_exs, uses_gens, uses_indices, uses_links, uses_locals, uses_rows, uses_subscripts}
use Rattle.ms_free_names.proofs.uses.Uses.+uses.Given as goal

abbrev pub invariant-collect_all-loop-part : goal.invariant-collect_all-loop-part
invariant-collect_all-loop-part l = record {
  bound : l.self.bound ≡ l.initial.self.bound;
  found : l.self.found ++ uses_exs l.self.bound (exs_view (drop l.part-index l.parts)) ≡ l.initial.self.found ++ uses_exs l.initial.self.bound (exs_view l.parts);
}

abbrev pub invariant-collect_links-loop-link : goal.invariant-collect_links-loop-link
invariant-collect_links-loop-link l = record {
  bound : l.self.bound ≡ l.initial.self.bound;
  found : l.self.found ++ uses_links l.self.bound (links_view (drop l.link-index l.links)) ≡ l.initial.self.found ++ uses_links l.initial.self.bound (links_view l.links);
}

abbrev pub invariant-collect_arms-loop-arm : goal.invariant-collect_arms-loop-arm
invariant-collect_arms-loop-arm l = record {
  bound : l.self.bound ≡ l.initial.self.bound;
  found : l.self.found ++ uses_arms l.self.bound (arms_of (map arm_view (drop l.arm-index l.arms))) ≡ l.initial.self.found ++ uses_arms l.initial.self.bound (arms_of (map arm_view l.arms));
}

abbrev pub invariant-collect_rows-loop-row : goal.invariant-collect_rows-loop-row
invariant-collect_rows-loop-row l = record {
  bound : l.self.bound ≡ l.initial.self.bound;
  found : l.self.found ++ uses_rows l.self.bound (rows_of (map row_view (drop l.row-index l.rows))) ≡ l.initial.self.found ++ uses_rows l.initial.self.bound (rows_of (map row_view l.rows));
}

abbrev pub invariant-collect_subscripts-loop-subscript : goal.invariant-collect_subscripts-loop-subscript
invariant-collect_subscripts-loop-subscript l = record {
  bound : l.self.bound ≡ l.initial.self.bound;
  found : l.self.found ++ uses_subscripts l.self.bound (subscripts_view (drop l.subscript-index l.subscripts)) ≡ l.initial.self.found ++ uses_subscripts l.initial.self.bound (subscripts_view l.subscripts);
}

abbrev pub invariant-collect_generator_list-loop-generator : goal.invariant-collect_generator_list-loop-generator
invariant-collect_generator_list-loop-generator l = record {
  bound : l.self.bound ++ generated (gens_view (drop l.generator-index l.generators)) ≡ l.initial.self.bound ++ generated (gens_view l.generators);
  found : l.self.found ++ uses_gens l.self.bound (gens_view (drop l.generator-index l.generators)) ≡ l.initial.self.found ++ uses_gens l.initial.self.bound (gens_view l.generators);
}

abbrev pub invariant-collect_locals-loop-declaration : goal.invariant-collect_locals-loop-declaration
invariant-collect_locals-loop-declaration l = record {
  bound : l.self.bound ++ locals (decls_of (map declaration_view (drop l.declaration-index l.declarations))) ≡ l.initial.self.bound ++ locals (decls_of (map declaration_view l.declarations));
  found : l.self.found ++ uses_locals l.self.bound (decls_of (map declaration_view (drop l.declaration-index l.declarations))) ≡ l.initial.self.found ++ uses_locals l.initial.self.bound (decls_of (map declaration_view l.declarations));
}

abbrev pub invariant-collect_indices-loop-index : goal.invariant-collect_indices-loop-index
invariant-collect_indices-loop-index l = record {
  bound : l.self.bound ≡ l.initial.self.bound;
  found : l.self.found ++ uses_indices l.self.bound (indices_of (map index_view (drop l.index-index l.indices))) ≡ l.initial.self.found ++ uses_indices l.initial.self.bound (indices_of (map index_view l.indices));
}
