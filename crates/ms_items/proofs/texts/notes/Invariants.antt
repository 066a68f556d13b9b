use Rattle.std.proofs.Common.{◌≡◌, drop}
use Rattle.ms_syntax.specs.Tree.{notes_view}
use Rattle.ms_items.specs.Walk.{walk_notes}
use Rattle.ms_items.proofs.texts.notes.Given as goal

abbrev pub invariant-loop-note : goal.invariant-loop-note
invariant-loop-note l = walk_notes (notes_view l.list) ≡ walk_notes (notes_view (drop l.note-index l.list))
