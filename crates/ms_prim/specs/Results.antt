-- What the parts of a primitive are on an assignment, as code reads them.
use Rattle.std.specs.Prelude.{ℕ, List, [], ◌∷◌, map, Bool, not, IsTrue, ℤ, pos, ◌+ℤ◌, ◌*ℤ◌, int_le, int_lt, slice_index_or, Option, Some, None, if◌then◌else◌}
use Rattle.std.specs.List.{All}
use Rattle.ms_num.specs.Span.{Span}
use Rattle.ms_num.specs.Numbers.{int_eq}
use Rattle.ms_trees.specs.Value.{Meaning, numeric_meaning, boolean_meaning, int_ne, iff}
use Rattle.ms_prim.specs.declared.pieces.Part.{Part}
use Rattle.ms_prim.specs.declared.pieces.Part.TheVariants.{V, N}
use Rattle.ms_prim.specs.declared.pieces.Lit.{Lit}
use Rattle.ms_prim.specs.declared.pieces.Term.{Term}
use Rattle.ms_prim.specs.declared.pieces.Cmp.{Cmp}
use Rattle.ms_prim.specs.declared.pieces.Cmp.TheVariants.{Same, Other, AtMost, Less}
use Rattle.ms_prim.specs.declared.pieces.Tie.{Tie}
use Rattle.ms_prim.specs.declared.pieces.Tie.TheVariants.{Holds, Iff}
use Rattle.ms_prim.specs.Fitting.{part_fits, term_fits, lit_fits}

abbrev pub at : List ℤ → ℕ → ℤ
at a v = slice_index_or a v (pos 0)

abbrev pub part_at : List ℤ → Part → ℤ
part_at a (V v) = at a v
part_at a (N n) = n

abbrev pub meant : List ℤ → Part → Meaning
meant a p = numeric_meaning (Some (part_at a p))

abbrev pub all_meant : List ℤ → List Part → List Meaning
all_meant a parts = map (meant a) parts

-- the sum of the terms
abbrev pub weighted : List ℤ → List Term → ℤ
weighted a [] = pos 0
weighted a (t ∷ ts) = (t.factor *ℤ at a t.var) +ℤ weighted a ts

abbrev pub is_one : List ℤ → ℕ → Bool
is_one a v = int_eq (at a v) (pos 1)

abbrev pub lit_at : List ℤ → Lit → Bool
lit_at a l = if l.positive then is_one a l.var else not (is_one a l.var)

abbrev pub relates : Cmp → ℤ → ℤ → Bool
relates Same x y = int_eq x y
relates Other x y = int_ne x y
relates AtMost x y = int_le x y
relates Less x y = int_lt x y

-- the truth value is that of the tie
abbrev pub ties : List ℤ → Tie → Bool → Bool
ties a Holds t = t
ties a (Iff v) t = iff t (is_one a v)

abbrev pub PartsAreFit : List Span → List Part → Type 0
PartsAreFit b parts = All (λ p. IsTrue (part_fits b p)) parts

abbrev pub TermsAreFit : List Span → List Term → Type 0
TermsAreFit b terms = All (λ t. IsTrue (term_fits b t)) terms

abbrev pub LitsAreFit : List Span → List Lit → Type 0
LitsAreFit b lits = All (λ l. IsTrue (lit_fits b l)) lits
