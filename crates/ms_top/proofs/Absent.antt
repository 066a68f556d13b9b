-- Lists of a tree that are empty, and items that declare nothing.
use Rattle.std.proofs.Common.{◌≡◌, ℕ, suc, List, [], ◌∷◌, length, map, false, refl, sym, ap, ◌∙◌, arith}
use Rattle.std.specs.Prelude.{◌==◌}
use Rattle.std.proofs.lemmas.Bool.Decides.{nat_tests}
use Rattle.std.proofs.lemmas.List.{length-map}
use Rattle.ms_syntax.specs.declared.tree.Declaration.{Declaration}
use Rattle.ms_syntax.specs.declared.tree.Index.{Index}
use Rattle.ms_syntax.specs.declared.tree.Item.{Item}
use Rattle.ms_syntax.specs.declared.tree.Item.TheVariants as i
use Rattle.ms_syntax.specs.declared.tree.Note.{Note}
use Rattle.ms_syntax.specs.declared.token.Place.{Place}
use Rattle.ms_syntax.specs.Tree.{Exs, Maybe, indices_of, indices_view, index_view, item_view, notes_of, notes_view, note_view}
use Rattle.ms_top.specs.Plain.{beside, constraints_of, has_no_indices, has_no_notes, parts_of}

none_before : (n : ℕ) → (suc n == 0) ≡ false
none_before n = grind (arith, nat_tests)

notes_are : (ns : List (Place × List ℕ × Exs)) → (length ns == 0) ≡ has_no_notes (notes_of ns)
notes_are [] = refl
notes_are (n ∷ ns) = none_before (length ns)

indices_are : (is : List Maybe) → (length is == 0) ≡ has_no_indices (indices_of is)
indices_are [] = refl
indices_are (i ∷ is) = none_before (length is)

pub no_notes : (ns : List Note) → (length ns == 0) ≡ has_no_notes (notes_view ns)
no_notes ns = ap (λ n. n == 0) (sym (length-map ns note_view)) ∙ notes_are (map note_view ns)

pub no_indices : (is : List Index) → (length is == 0) ≡ has_no_indices (indices_view is)
no_indices is = ap (λ n. n == 0) (sym (length-map is index_view)) ∙ indices_are (map index_view is)

-- items of which the first declares nothing
pub others : (item : Item) (more : List Item) → ((d : Declaration) → item ≡ i.Declare d → ⊥) → parts_of (map item_view (item ∷ more)) ≡ beside [] (constraints_of (map item_view (item ∷ more)))
others (i.Declare d) more h = absurd (h d refl)
others (i.Include p w) more h = refl
others (i.Enum p w ns) more h = refl
others (i.Assign p w e) more h = refl
others (i.Constraint p e ns) more h = refl
others (i.Solve p ns q) more h = refl
others (i.Output p e) more h = refl
others (i.Predicate p w ps e) more h = refl
others (i.Function p k w ps e) more h = refl
