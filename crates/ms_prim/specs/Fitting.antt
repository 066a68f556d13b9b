-- On which intervals a primitive may be asked: its variables are there, those of literals are truth variables, and its
-- numbers are within the limits.
use Rattle.std.specs.Prelude.{ℕ, List, length, Bool, true, not, ◌&&◌, ℤ, pos, int_le, nat_le}
use Rattle.std.specs.List.{list_all}
use Rattle.ms_num.specs.Span.{Span, is_within}
use Rattle.ms_trees.specs.Enclosure.{span_at}
use Rattle.ms_trees.specs.WellFormed.{has_variable, is_well_formed, is_numeric}
use Rattle.ms_prim.specs.declared.pieces.Part.{Part}
use Rattle.ms_prim.specs.declared.pieces.Part.TheVariants.{V, N}
use Rattle.ms_prim.specs.declared.pieces.Lit.{Lit}
use Rattle.ms_prim.specs.declared.pieces.Term.{Term}
use Rattle.ms_prim.specs.declared.pieces.Tie.{Tie}
use Rattle.ms_prim.specs.declared.pieces.Tie.TheVariants.{Holds, Iff}
use Rattle.ms_prim.specs.declared.primitive.Primitive.{Primitive}
use Rattle.ms_prim.specs.declared.primitive.Primitive.TheVariants.{Sum, Product, Quotient, Remainder, Absolute, Least, Greatest, Count, Element, Element2, Total, Compare, Member, Clause, Table, Differ, Whole}

-- a variable without other numbers than 0 and 1
abbrev pub bit_fits : List Span → ℕ → Bool
bit_fits b v = has_variable b v && int_le (pos 0) (span_at b v).lo && int_le (span_at b v).hi (pos 1)

abbrev pub part_fits : List Span → Part → Bool
part_fits b (V v) = has_variable b v
part_fits b (N n) = is_within n

abbrev pub parts_fit : List Span → List Part → Bool
parts_fit b parts = list_all (part_fits b) parts

abbrev pub term_fits : List Span → Term → Bool
term_fits b t = has_variable b t.var && is_within t.factor

-- at most so many terms
abbrev pub most_terms : ℕ
most_terms = 2000000

abbrev pub terms_fit : List Span → List Term → Bool
terms_fit b terms = list_all (term_fits b) terms && nat_le (length terms) most_terms

abbrev pub lit_fits : List Span → Lit → Bool
lit_fits b l = bit_fits b l.var

abbrev pub lits_fit : List Span → List Lit → Bool
lits_fit b lits = list_all (lit_fits b) lits

abbrev pub tie_fits : List Span → Tie → Bool
tie_fits b Holds = true
tie_fits b (Iff v) = bit_fits b v

abbrev pub is_fit : List Span → Primitive → Bool
is_fit b (Sum terms n v) = terms_fit b terms && is_within n && has_variable b v
is_fit b (Product x y v) = part_fits b x && part_fits b y && has_variable b v
is_fit b (Quotient x y v) = part_fits b x && part_fits b y && has_variable b v
is_fit b (Remainder x y v) = part_fits b x && part_fits b y && has_variable b v
is_fit b (Absolute x v) = part_fits b x && has_variable b v
is_fit b (Least parts v) = parts_fit b parts && has_variable b v
is_fit b (Greatest parts v) = parts_fit b parts && has_variable b v
is_fit b (Count parts x v) = parts_fit b parts && part_fits b x && has_variable b v
is_fit b (Element low parts i v) = parts_fit b parts && part_fits b i && has_variable b v
is_fit b (Element2 low left width parts i j v) = parts_fit b parts && part_fits b i && part_fits b j && has_variable b v
is_fit b (Total terms cmp n) = terms_fit b terms && is_within n
is_fit b (Compare cmp x y tie) = part_fits b x && part_fits b y && tie_fits b tie
is_fit b (Member x set tie) = part_fits b x && tie_fits b tie
is_fit b (Clause lits tie) = lits_fit b lits && tie_fits b tie
is_fit b (Table parts rows tie) = parts_fit b parts && tie_fits b tie
is_fit b (Differ parts tie) = parts_fit b parts && tie_fits b tie
is_fit b (Whole g) = is_well_formed b g && not (is_numeric g)
