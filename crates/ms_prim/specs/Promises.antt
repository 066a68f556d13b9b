-- The laws of primitives.
use Rattle.std.specs.Prelude.{◌≡◌, ◌<◌, ℕ, List, length, Bool, true, false, ℤ, slice_index_or, pos}
use Rattle.ms_num.specs.Span.{Span}
use Rattle.ms_trees.specs.Value.{value}
use Rattle.ms_trees.specs.Enclosure.{enclosure, points, span_at}
use Rattle.ms_trees.specs.WellFormed.{is_sorted, is_numeric}
use Rattle.ms_trees.specs.Laws.{IsSmaller, LiesIn}
use Rattle.ms_trees.specs.declared.tree.Ground.{Ground}
use Rattle.ms_boxes.specs.Boxes.{Each, Assignment, InBox, IsProper, number_at}
use Rattle.ms_prim.specs.declared.primitive.Primitive.{Primitive}
use Rattle.ms_prim.specs.Constraints.{Binding, held, equal_to, equivalent_to, binding, operation, tree_of}
use Rattle.ms_prim.specs.Naming.{variables, names_of}
use Rattle.ms_prim.specs.Fitting.{is_fit}
use Rattle.ms_prim.specs.Settling.{IsMet, IsSettled}
use Rattle.ms_prim.specs.Narrowing.{Narrows, Fails}
use Rattle.ms_num.specs.Sets.{Set, spans_of}
use Rattle.ms_cells.specs.Cells.{Lists}
use Rattle.ms_store.specs.CutGives.{CutGives}
use Rattle.ms_store.specs.declared.store.Cut.{Cut}
use Rattle.ms_store.specs.declared.store.Cut.TheVariants.{Emptied}
use Rattle.ms_prim.specs.Naming.{is_named}

-- the operation that a variable equals is a number, each other one a truth value
abbrev pub is_equal_to : Binding → Bool
is_equal_to held = false
is_equal_to (equal_to v) = true
is_equal_to (equivalent_to v) = false

-- the trees of a primitive that may be asked are well sorted
pub record IsSortedTree (b : List Span) (p : Primitive) : Type 0 where
  pub whole : is_sorted b (tree_of p) ≡ true
  pub boolean : is_numeric (tree_of p) ≡ false
  pub inner : is_sorted b (operation p) ≡ true
  pub sort : is_numeric (operation p) ≡ is_equal_to (binding p)

abbrev pub FitPrimitivesAreSorted : Type 0
FitPrimitivesAreSorted = (b : List Span) (p : Primitive) → is_fit b p ≡ true → IsSortedTree b p

-- a primitive that may be asked on intervals may be asked on smaller ones
abbrev pub SmallerIntervalsStayFit : Type 0
SmallerIntervalsStayFit = (b b' : List Span) → length b ≡ length b' → IsSmaller b b' → (p : Primitive) → is_fit b' p ≡ true → is_fit b p ≡ true

-- where the tree of a primitive is refuted, no assignment meets it
abbrev pub RefutedPrimitivesFail : Type 0
RefutedPrimitivesFail = (b : List Span) (a : List ℤ) → LiesIn a b → (p : Primitive) → is_fit b p ≡ true → (enclosure b (tree_of p)).may_be_true ≡ false → (value a (tree_of p)).truth ≡ false

-- on one assignment, settled is met
abbrev pub SettledPointsMeet : Type 0
SettledPointsMeet = (a : List ℤ) (p : Primitive) → is_fit (points a) p ≡ true → IsSettled (points a) p → IsMet a p

-- a primitive says nothing of variables that it does not name
abbrev pub NamesDecideValues : Type 0
NamesDecideValues = (a a' : List ℤ) (g : Ground) → Each (λ v. slice_index_or a v (pos 0) ≡ slice_index_or a' v (pos 0)) (variables g) → value a g ≡ value a' g

abbrev pub NamesDecideEnclosures : Type 0
NamesDecideEnclosures = (b b' : List Span) (g : Ground) → Each (λ v. span_at b v ≡ span_at b' v) (variables g) → enclosure b g ≡ enclosure b' g

abbrev pub NamesDecideSettled : Type 0
NamesDecideSettled = (b b' : List Span) (p : Primitive) → Each (λ v. span_at b v ≡ span_at b' v) (names_of p) → IsSettled b p → IsSettled b' p

-- ---- a propagator as a chain of cuts

-- each assignment of the sets that meets the primitive has a number of the variable that passes
abbrev pub NeededPass : Primitive → ℕ → (ℤ → Bool) → Lists Set → Type 0
NeededPass p v keep l = (a : Assignment) → InBox a l.current → IsMet a p → keep (number_at a v) ≡ true

-- a cut of a named variable that takes no number which is needed narrows, whatever it answers
abbrev pub CutsNarrow : Type 0
CutsNarrow = (p : Primitive) (v : ℕ) (keep : ℤ → Bool) (old new : Lists Set) (c : Cut) → is_named p v ≡ true → v < length old.current → CutGives c keep v old new → NeededPass p v keep old → Narrows p old new

-- where such a cut would leave nothing, no assignment meets the primitive
abbrev pub EmptiedCutsFail : Type 0
EmptiedCutsFail = (p : Primitive) (v : ℕ) (keep : ℤ → Bool) (old new : Lists Set) → v < length old.current → CutGives Emptied keep v old new → NeededPass p v keep old → Fails p old

-- nothing done narrows, and one narrowing may follow another
abbrev pub SameListsNarrow : Type 0
SameListsNarrow = (p : Primitive) (old new : Lists Set) → new ≡ old → Narrows p old new

abbrev pub NarrowingsFollow : Type 0
NarrowingsFollow = (p : Primitive) (a b c : Lists Set) → Narrows p a b → Narrows p b c → Narrows p a c

-- what fails afterwards failed before
abbrev pub FailuresCarryBack : Type 0
FailuresCarryBack = (p : Primitive) (a b : Lists Set) → Narrows p a b → Fails p b → Fails p a

-- no set becomes empty, and each primitive that might be asked may still be asked
abbrev pub NarrowedStayProper : Type 0
NarrowedStayProper = (p : Primitive) (old new : Lists Set) → IsProper old.current → Narrows p old new → IsProper new.current

abbrev pub NarrowedStayFit : Type 0
NarrowedStayFit = (p : Primitive) (old new : Lists Set) → IsProper old.current → Narrows p old new → (q : Primitive) → is_fit (spans_of old.current) q ≡ true → is_fit (spans_of new.current) q ≡ true
