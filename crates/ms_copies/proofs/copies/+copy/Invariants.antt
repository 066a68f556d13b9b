use Rattle.std.proofs.Common.{◌≡◌, map, take}
use Rattle.ms_syntax.specs.Tree.{ex_view, link_view, arm_view, row_view, subscript_view, generator_view, declaration_view, index_view, note_view}
use Rattle.ms_copies.proofs.copies.+copy.Given as goal

abbrev pub invariant-copy_exprs-loop-part : goal.invariant-copy_exprs-loop-part
invariant-copy_exprs-loop-part l = map ex_view l.all.items ≡ map ex_view (take l.part-index l.parts)

abbrev pub invariant-copy_links-loop-link : goal.invariant-copy_links-loop-link
invariant-copy_links-loop-link l = map link_view l.all.items ≡ map link_view (take l.link-index l.links)

abbrev pub invariant-copy_arms-loop-arm : goal.invariant-copy_arms-loop-arm
invariant-copy_arms-loop-arm l = map arm_view l.all.items ≡ map arm_view (take l.arm-index l.arms)

abbrev pub invariant-copy_rows-loop-row : goal.invariant-copy_rows-loop-row
invariant-copy_rows-loop-row l = map row_view l.all.items ≡ map row_view (take l.row-index l.rows)

abbrev pub invariant-copy_subscripts-loop-subscript : goal.invariant-copy_subscripts-loop-subscript
invariant-copy_subscripts-loop-subscript l = map subscript_view l.all.items ≡ map subscript_view (take l.subscript-index l.subscripts)

abbrev pub invariant-copy_generator_list-loop-generator : goal.invariant-copy_generator_list-loop-generator
invariant-copy_generator_list-loop-generator l = map generator_view l.all.items ≡ map generator_view (take l.generator-index l.generators)

abbrev pub invariant-copy_declarations-loop-declaration : goal.invariant-copy_declarations-loop-declaration
invariant-copy_declarations-loop-declaration l = map declaration_view l.all.items ≡ map declaration_view (take l.declaration-index l.declarations)

abbrev pub invariant-copy_indices-loop-index : goal.invariant-copy_indices-loop-index
invariant-copy_indices-loop-index l = map index_view l.all.items ≡ map index_view (take l.index-index l.indices)

abbrev pub invariant-copy_notes-loop-note : goal.invariant-copy_notes-loop-note
invariant-copy_notes-loop-note l = map note_view l.all.items ≡ map note_view (take l.note-index l.notes)
