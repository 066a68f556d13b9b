-- Index sets of declarations, and whether the index sets of a value are those.
use Rattle.std.specs.Prelude.{ℕ, ◌*◌, ◌==◌, ℤ, pos, Bool, true, ◌&&◌, List, [], ◌∷◌, ◌++◌, Option, Some, None, if◌then◌else◌}
use Rattle.ms_num.specs.Numbers.{int_eq}
use Rattle.ms_num.specs.Span.{Span}
use Rattle.ms_code.specs.declared.code.Code.{Code}
use Rattle.ms_values.specs.declared.operand.Cells.{Cells}
use Rattle.ms_values.specs.declared.operand.IndexRange.{IndexRange}
use Rattle.ms_values.specs.declared.operand.Indices.{Indices}
use Rattle.ms_values.specs.declared.operand.Indices.TheVariants as i
use Rattle.ms_values.specs.declared.operand.Operand.{Operand}
use Rattle.ms_values.specs.declared.operand.Operand.TheVariants as o
use Rattle.ms_rules.specs.Operands.{count_of, set_of}
use Rattle.ms_rules.specs.Arrays.{as_range, index_range}
use Rattle.ms_walk.specs.Around.{Around}
use Rattle.ms_declared.specs.Made.{Made, and_then, made, faulty}
use Rattle.ms_declared.specs.Placing.{placed_in}
use Rattle.ms_declared.specs.declared.fault.ValueFault.TheVariants as v

-- the index set of one dimension; none where any will do
abbrev pub Side : Type 0
Side = Option IndexRange

-- ---- index sets that are declared

-- the set of an operand, which the text of this file gives
abbrev pub set_in : ℕ → Operand → Made (List Span)
set_in file x = has_set (set_of x)
  where
    has_set : Option (List Span) → Made (List Span)
    has_set None = faulty (v.NoValue file)
    has_set (Some rs) = made rs

-- an index set is a range
abbrev pub ranged : ℕ → List Span → Made IndexRange
ranged file rs = is_range (as_range (Some rs))
  where
    is_range : Option (ℤ × ℕ) → Made IndexRange
    is_range None = faulty (v.Shape file)
    is_range (Some r) = made (index_range r)

abbrev pub placed_set : Around → ℕ → Code → Made (List Span)
placed_set a file e = and_then (placed_in a e) (λ x. set_in file x.1)

abbrev pub side_of : Around → ℕ → Option Code → Made Side
side_of a file None = made None
side_of a file (Some e) = and_then (placed_set a file e) (λ rs. and_then (ranged file rs) (λ r. made (Some r)))

-- of all dimensions, behind those so far
abbrev pub sides_behind : Around → ℕ → List Side → List (Option Code) → Made (List Side)
sides_behind a file ss [] = made ss
sides_behind a file ss (e ∷ es) = and_then (side_of a file e) (λ s. sides_behind a file (ss ++ s ∷ []) es)

abbrev pub sides_of : Around → ℕ → List (Option Code) → Made (List Side)
sides_of a file es = sides_behind a file [] es

-- how many elements there are
abbrev pub side_count : Side → ℕ
side_count None = 0
side_count (Some r) = r.count

abbrev pub elements_in : List Side → ℕ
elements_in [] = 1
elements_in (s ∷ []) = side_count s
elements_in (s ∷ t ∷ []) = side_count s * side_count t
elements_in (s ∷ t ∷ u ∷ us) = 0

-- ---- index sets of a value

abbrev pub begins_at_one : IndexRange → Bool
begins_at_one r = int_eq r.low (pos 1)

-- the same indices
abbrev pub is_side : Side → IndexRange → Bool
is_side None r = true
is_side (Some s) r = int_eq s.low r.low && s.count == r.count

-- as many
abbrev pub is_long : Side → ℕ → Bool
is_long None n = true
is_long (Some s) n = s.count == n

-- what is declared, where it is
abbrev pub moved : Side → IndexRange → IndexRange
moved None r = r
moved (Some s) r = s

-- an array whose indices all begin at 1 takes the declared index sets where the lengths agree
abbrev pub line_fitted : ℕ → Side → IndexRange → Made Indices
line_fitted file s r =
    if begins_at_one r && is_long s r.count then made (i.Line (moved s r).low)
    else (if is_side s r then made (i.Line r.low) else faulty (v.Shape file))

abbrev pub grid_fitted : ℕ → Side → Side → IndexRange → IndexRange → Made Indices
grid_fitted file s t r q =
    if (begins_at_one r && begins_at_one q) && (is_long s r.count && is_long t q.count) then made (i.Grid (moved s r) (moved t q))
    else (if is_side s r && is_side t q then made (i.Grid r q) else faulty (v.Shape file))

-- of so many elements
abbrev pub indices_fitted : ℕ → List Side → Indices → ℕ → Made Indices
indices_fitted file (s ∷ []) (i.Line low) n = line_fitted file s (record { low = low; count = n })
indices_fitted file (s ∷ t ∷ []) (i.Grid r q) n = grid_fitted file s t r q
indices_fitted file [] is n = faulty (v.Shape file)
indices_fitted file (s ∷ []) (i.Grid r q) n = faulty (v.Shape file)
indices_fitted file (s ∷ t ∷ []) (i.Line low) n = faulty (v.Shape file)
indices_fitted file (s ∷ t ∷ u ∷ us) is n = faulty (v.Shape file)

abbrev pub arranged : Indices → Cells → Operand
arranged is cs = o.Array (record { indices = is; cells = cs })

-- a value with the index sets that its declaration has
abbrev pub fitted : ℕ → List Side → Operand → Made Operand
fitted file ss (o.Number m) = made (o.Number m)
fitted file ss (o.Truth b) = made (o.Truth b)
fitted file ss (o.Set s) = made (o.Set s)
fitted file ss (o.Text t) = made (o.Text t)
fitted file ss (o.Integer x) = made (o.Integer x)
fitted file ss (o.Condition x) = made (o.Condition x)
fitted file ss (o.Array a) = and_then (indices_fitted file ss a.indices (count_of a.cells)) (λ is. made (arranged is a.cells))
fitted file ss (o.NoArray kind) = made (o.NoArray kind)
