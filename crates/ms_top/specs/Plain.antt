-- The plain form: variables with ranges of numbers, comparisons of sums, and `solve satisfy`. What trees of it
-- stand for, and what is allowed of them.
use Rattle.std.specs.Prelude.{◌≡◌, ℕ, List, [], ◌∷◌, length, position, Option, Some, None, option_map, IsTrue, is_some, Bool, true, false, not, ◌&&◌, ◌==◌, ◌-◌, take, slice_get, if◌then◌else◌, nat_le, nat_lt}
use Rattle.std.specs.List.{list_all, list_any}
use Rattle.std.specs.Str.{bytes_eq}
use Rattle.ms_syntax.specs.declared.tree.Operator.{Operator}
use Rattle.ms_syntax.specs.declared.tree.Operator.TheVariants as o
use Rattle.ms_syntax.specs.declared.tree.Sign.TheVariants as sign
use Rattle.ms_syntax.specs.declared.tree.Mode.{Mode}
use Rattle.ms_syntax.specs.declared.tree.Mode.TheVariants as mode
use Rattle.ms_syntax.specs.Tree as x
use Rattle.ms_syntax.specs.Tree.{Ex, Maybe, Links, Indices, Bs, Kd, Notes, Decl, Gl, It, Items, of_sum, of_comparison, of_range}
use Rattle.ms_top.specs.declared.plain.Number.{Number}
use Rattle.ms_top.specs.declared.plain.PlainDeclaration.{PlainDeclaration}
use Rattle.ms_top.specs.declared.plain.Term.{Term}
use Rattle.ms_top.specs.declared.plain.Term.TheVariants as term
use Rattle.ms_top.specs.declared.plain.Total.{Total}
use Rattle.ms_top.specs.declared.plain.Relation.{Relation}
use Rattle.ms_top.specs.declared.plain.Relation.TheVariants as relation
use Rattle.ms_top.specs.declared.plain.Comparison.{Comparison}
use Rattle.ms_top.specs.declared.plain.PlainModel.{PlainModel}
use Rattle.ms_top.specs.Typing.{IsTextOf, IsWellTyped}

-- ---- what a part of a tree stands for, where it is of the form

abbrev pub magnitude_of : Ex → Option ℕ
magnitude_of (x.number p n) = Some n
magnitude_of _ = None

-- a number, with a minus before it or not
abbrev pub number_of : Ex → Option Number
number_of (x.number p n) = Some (record { negative = false; magnitude = n })
number_of (x.prefix p sign.Minus e) = option_map (λ n. record { negative = true; magnitude = n }) (magnitude_of e)
number_of _ = None

abbrev pub term_of : Ex → Option Term
term_of (x.name p w) = Some (term.Name w)
term_of e = option_map term.Number (number_of e)

abbrev pub before : {A : Type 0} → Option A → Option (List A) → Option (List A)
before (Some a) (Some more) = Some (a ∷ more)
before _ _ = None

-- the terms behind the first, each behind a plus
abbrev pub added_of : Links → Option (List Term)
added_of x.no_links = Some []
added_of (x.link o.Plus p e more) = before (term_of e) (added_of more)
added_of _ = None

abbrev pub sum_of : Option Term → Option (List Term) → Option Total
sum_of (Some t) (Some ts) = Some (record { first = t; others = ts })
sum_of _ _ = None

-- a term, or terms with plus between them
abbrev pub total_of : Ex → Option Total
total_of (x.chain n e links) = if n == of_sum then sum_of (term_of e) (added_of links) else None
total_of e = sum_of (term_of e) (Some [])

abbrev pub relation_of : Operator → Option Relation
relation_of o.Equal = Some relation.Equal
relation_of o.NotEqual = Some relation.NotEqual
relation_of o.Less = Some relation.Less
relation_of o.AtMost = Some relation.AtMost
relation_of o.Greater = Some relation.Greater
relation_of o.AtLeast = Some relation.AtLeast
relation_of _ = None

abbrev pub compared_by : Option Relation → Option Total → Option Total → Option Comparison
compared_by (Some r) (Some a) (Some b) = Some (record { left = a; relation = r; right = b })
compared_by _ _ _ = None

-- LEFT RELATION RIGHT
abbrev pub compared_of : Ex → Option Comparison
compared_of (x.chain n e (x.link op p f x.no_links)) = if n == of_comparison then compared_by (relation_of op) (total_of e) (total_of f) else None
compared_of _ = None

abbrev pub has_no_notes : Notes → Bool
has_no_notes x.no_notes = true
has_no_notes (x.note p w es more) = false

-- constraint LEFT RELATION RIGHT
abbrev pub comparison_of : It → Option Comparison
comparison_of (x.constraint p e notes) = if has_no_notes notes then compared_of e else None
comparison_of _ = None

abbrev pub ends_of : Option Number → Option Number → Option (Number × Number)
ends_of (Some low) (Some high) = Some (low, high)
ends_of _ _ = None

-- LOWEST .. HIGHEST
abbrev pub range_of : Ex → Option (Number × Number)
range_of (x.chain n e (x.link o.To p f x.no_links)) = if n == of_range then ends_of (number_of e) (number_of f) else None
range_of _ = None

abbrev pub has_no_indices : Indices → Bool
has_no_indices x.no_indices = true
has_no_indices (x.index i more) = false

abbrev pub range_of_base : Mode → Bs → Option (Number × Number)
range_of_base mode.Var (x.of_values e) = range_of e
range_of_base _ _ = None

-- var LOWEST .. HIGHEST
abbrev pub range_of_kind : Kd → Option (Number × Number)
range_of_kind (x.kind indices m base) = if has_no_indices indices then range_of_base m base else None

abbrev pub is_absent : Maybe → Bool
is_absent x.absent = true
is_absent (x.present e) = false

abbrev pub declared_as : List ℕ → Option (Number × Number) → Option PlainDeclaration
declared_as w None = None
declared_as w (Some r) = Some (record { lowest = r.0; highest = r.1; name = w })

-- neither notes nor a value
abbrev pub is_bare : Decl → Bool
is_bare (x.declare p kd w notes value) = has_no_notes notes && is_absent value

-- var LOWEST .. HIGHEST : NAME
abbrev pub declaration_of : Decl → Option PlainDeclaration
declaration_of (x.declare p kd w notes value) = if is_bare (x.declare p kd w notes value) then declared_as w (range_of_kind kd) else None

abbrev pub asks_to_satisfy : Gl → Bool
asks_to_satisfy (x.satisfy p) = true
asks_to_satisfy _ = false

-- solve satisfy
abbrev pub is_satisfy : It → Bool
is_satisfy (x.solve p notes goal) = has_no_notes notes && asks_to_satisfy goal
is_satisfy _ = false

abbrev pub all_of : {A B : Type 0} → (A → Option B) → List A → Option (List B)
all_of f [] = Some []
all_of f (a ∷ more) = before (f a) (all_of f more)

abbrev pub is_end : Option It → Bool
is_end (Some i) = is_satisfy i
is_end None = false

-- constraints, and then one item, which solves
abbrev pub constraints_of : List It → Option (List Comparison)
constraints_of items = if is_end (slice_get items (length items - 1)) then all_of comparison_of (take (length items - 1) items) else None

abbrev pub behind : Option PlainDeclaration → Option (List PlainDeclaration × List Comparison) → Option (List PlainDeclaration × List Comparison)
behind (Some d) (Some r) = Some (d ∷ r.0, r.1)
behind _ _ = None

abbrev pub beside : List PlainDeclaration → Option (List Comparison) → Option (List PlainDeclaration × List Comparison)
beside ds None = None
beside ds (Some cs) = Some (ds, cs)

-- declarations, and then the others
abbrev pub parts_of : List It → Option (List PlainDeclaration × List Comparison)
parts_of (x.declaration d ∷ more) = behind (declaration_of d) (parts_of more)
parts_of items = beside [] (constraints_of items)

-- the model that a tree is, whether its last ; is there or not
abbrev pub plain_of : Items → Option PlainModel
plain_of tree = option_map (λ r. record { declarations = r.0; constraints = r.1 }) (parts_of tree.0)

-- ---- what is allowed of such models

-- the place of the declaration of a name
abbrev pub place_of : List PlainDeclaration → List ℕ → Option ℕ
place_of ds w = position (λ d. bytes_eq d.name w) ds

abbrev pub is_small_number : Number → Bool
is_small_number n = nat_le n.magnitude 1000000

-- a number is small, and a name is declared
abbrev pub is_small_term : List PlainDeclaration → Term → Bool
is_small_term ds (term.Number n) = is_small_number n
is_small_term ds (term.Name w) = is_some (place_of ds w)

-- at most 100 terms
abbrev pub is_small_total : List PlainDeclaration → Total → Bool
is_small_total ds x = nat_lt (length x.others) 100 && is_small_term ds x.first && list_all (is_small_term ds) x.others

abbrev pub is_small_comparison : List PlainDeclaration → Comparison → Bool
is_small_comparison ds c = is_small_total ds c.left && is_small_total ds c.right

abbrev pub is_small_declaration : PlainDeclaration → Bool
is_small_declaration d = is_small_number d.lowest && is_small_number d.highest

-- no name is declared twice
abbrev pub differ : List PlainDeclaration → Bool
differ [] = true
differ (d ∷ ds) = not (list_any (λ e. bytes_eq e.name d.name) ds) && differ ds

-- at most 8 declarations
abbrev pub is_small : PlainModel → Bool
is_small m =
    nat_le (length m.declarations) 8 && list_all is_small_declaration m.declarations && differ m.declarations && list_all (is_small_comparison m.declarations) m.constraints

-- ---- texts

-- the tree is this model, which is small
abbrev pub IsPlain : PlainModel → Items → Type 0
IsPlain m tree = (plain_of tree ≡ Some m) × IsTrue (is_small m)

-- the bytes of a model file are a text of the plain form, that of this model, and well typed
abbrev pub IsPlainText : PlainModel → List ℕ → Type 0
IsPlainText m bytes = (tree : Items) × IsTextOf tree bytes × IsWellTyped tree × IsPlain m tree
