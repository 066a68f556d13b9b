-- The least type of a term, or its first fault, as a function; and what each node asks of its parts.
use Rattle.std.specs.Prelude.{ℕ, Bool, true, false, not, List, [], ◌∷◌, ◌++◌, Option, Some, None, length, map, replicate, option_and_then, if◌then◌else◌, ◌&&◌, ◌||◌, is_some, unwrap_or, slice_get}
use Rattle.ms_syntax.specs.declared.token.Place.{Place}
use Rattle.ms_syntax.specs.declared.tree.Operator.{Operator}
use Rattle.ms_syntax.specs.declared.tree.Operator.TheVariants as o
use Rattle.ms_syntax.specs.declared.tree.Sign.TheVariants as sign
use Rattle.ms_typing.specs.declared.types.Scalar.{Scalar}
use Rattle.ms_typing.specs.declared.types.Scalar.TheVariants.{Truth, Number, Empty}
use Rattle.ms_typing.specs.declared.types.Shape.{Shape}
use Rattle.ms_typing.specs.declared.types.Shape.TheVariants.{Single, Line, Grid}
use Rattle.ms_typing.specs.declared.types.ExprType.{ExprType}
use Rattle.ms_typing.specs.declared.types.ExprType.TheVariants.{Plain, Text, Set, Search}
use Rattle.ms_typing.specs.declared.types.Cause.{Cause}
use Rattle.ms_typing.specs.declared.types.Cause.TheVariants as cause
use Rattle.ms_built_ins.specs.declared.names.BuiltIn.{BuiltIn}
use Rattle.ms_built_ins.specs.declared.names.BuiltIn.TheVariants as b
use Rattle.ms_built_ins.specs.BuiltIns.{or_else}
use Rattle.ms_typing.specs.Conversion.{as_known, converts, is_element, is_grid, is_line, known_of, numbers, shape_fits, shape_of, shaped, truths}
use Rattle.ms_typing.specs.Meaning.{Meaning, Told, is_search}
use Rattle.ms_typing.specs.Meaning as m
use Rattle.ms_typing.specs.Term.{Form, Term, Terms, node, no_terms, term}
use Rattle.ms_typing.specs.Term as f
use Rattle.ms_typing.specs.Row.{arms, is_array, is_array_type, is_fixed, is_shown, search_condition}
use Rattle.ms_typing.specs.Fault.{is_unknown, is_unsupported, wrong_count}

-- what a node asks of its parts, and the type that it then has
abbrev pub Given : Type 0
Given = Option (List ExprType × ExprType)

abbrev pub convert_all : List ExprType → List ExprType → Bool
convert_all [] [] = true
convert_all [] (u ∷ us) = false
convert_all (t ∷ ts) [] = false
convert_all (t ∷ ts) (u ∷ us) = converts t u && convert_all ts us

-- t, where the parts convert to these
abbrev pub needs : List ExprType → List ExprType → ExprType → Given
needs ts us t = if convert_all ts us then Some (us, t) else None

-- ---- most rows: operands that are known or variable as one, others that are fixed, and a result that is known where
-- ---- the former are

pub data Kind : Type 0 where
  follows : Scalar → Shape → Kind
  fixed : ExprType → Kind

abbrev pub at : Bool → Kind → ExprType
at k (follows c s) = Plain c s k
at k (fixed t) = t

abbrev pub are_known : List Kind → List ExprType → Bool
are_known [] ts = true
are_known (x ∷ xs) [] = true
are_known (follows c s ∷ xs) (t ∷ ts) = known_of t && are_known xs ts
are_known (fixed u ∷ xs) (t ∷ ts) = are_known xs ts

abbrev pub uniform : List Kind → Kind → List ExprType → Given
uniform xs r ts = needs ts (map (at (are_known xs ts)) xs) (at (are_known xs ts) r)

abbrev pub a_truth : Kind
a_truth = follows Truth Single

abbrev pub a_number : Kind
a_number = follows Number Single

abbrev pub of_truths : List ExprType → Given
of_truths ts = uniform (a_truth ∷ a_truth ∷ []) a_truth ts

abbrev pub of_numbers : List ExprType → Given
of_numbers ts = uniform (a_number ∷ a_number ∷ []) a_number ts

abbrev pub compares : List ExprType → Given
compares ts = uniform (a_number ∷ a_number ∷ []) a_truth ts

-- ---- parts

-- the type of a part; where there is none, the row asks for another number of parts
abbrev pub operand : ℕ → List ExprType → ExprType
operand n ts = unwrap_or (slice_get ts n) (truths true)

abbrev pub last_of : List ExprType → Option ExprType
last_of [] = None
last_of (t ∷ []) = Some t
last_of (t ∷ (u ∷ us)) = last_of (u ∷ us)

-- a part of any type that passes a test
abbrev pub tested : (ExprType → Bool) → ExprType → ExprType → List ExprType → Given
tested test t r ts = if test t then needs ts (t ∷ []) r else None

-- ---- the least that two types convert to

abbrev pub join_scalar : Scalar → Scalar → Scalar
join_scalar Empty c = c
join_scalar Truth Number = Number
join_scalar Truth Truth = Truth
join_scalar Truth Empty = Truth
join_scalar Number c = Number

-- the second, where the first converts to it
abbrev pub into : ExprType → ExprType → Option ExprType
into t u = if converts t u then Some u else None

abbrev pub join : ExprType → ExprType → Option ExprType
join (Plain c s k) (Plain d r l) = if shape_fits s r then Some (Plain (join_scalar c d) s (k && l)) else None
join (Plain c s k) (Text r) = into (Plain c s k) (Text r)
join (Plain c s k) Set = None
join (Plain c s k) Search = into (Plain c s k) Search
join (Text s) (Plain d r l) = into (Plain d r l) (Text s)
join (Text s) (Text r) = into (Text r) (Text s)
join (Text s) Set = None
join (Text s) Search = None
join Set (Plain d r l) = None
join Set (Text r) = None
join Set Set = Some Set
join Set Search = None
join Search (Plain d r l) = into (Plain d r l) Search
join Search (Text r) = None
join Search Set = None
join Search Search = Some Search

abbrev pub join_all : ExprType → List ExprType → Option ExprType
join_all t [] = Some t
join_all t (u ∷ us) = option_and_then (λ v. join_all v us) (join t u)

abbrev pub join_some : List ExprType → Option ExprType
join_some [] = None
join_some (t ∷ ts) = join_all t ts

-- ---- names that are called

-- an array of such elements
abbrev pub over_array : Scalar → Scalar → List ExprType → Given
over_array c r ts = let s = shape_of (operand 0 ts) in if is_array s then uniform (follows c s ∷ []) (follows r Single) ts else None

-- an array of ints, or two ints
abbrev pub extreme : List ExprType → Given
extreme ts = if is_array (shape_of (operand 0 ts)) then over_array Number Number ts else of_numbers ts

abbrev pub array_line : ExprType → List ExprType → Given
array_line t ts = if is_array_type t then needs ts (Set ∷ t ∷ []) (shaped Line t) else None

abbrev pub array_grid : ExprType → List ExprType → Given
array_grid t ts = if is_array_type t then needs ts (Set ∷ Set ∷ t ∷ []) (shaped Grid t) else None

abbrev pub on_incumbent : ExprType → List ExprType → Given
on_incumbent (Plain c s k) ts = needs ts (Plain c Single false ∷ []) (Plain c Single true)
on_incumbent (Text s) ts = None
on_incumbent Set ts = None
on_incumbent Search ts = None

abbrev pub call_built_in : BuiltIn → List ExprType → Given
call_built_in b.ForAll ts = over_array Truth Truth ts
call_built_in b.Exists ts = over_array Truth Truth ts
call_built_in b.Sum ts = over_array Number Number ts
call_built_in b.Min ts = extreme ts
call_built_in b.Max ts = extreme ts
call_built_in b.Abs ts = uniform (a_number ∷ []) a_number ts
call_built_in b.BoolToInt ts = uniform (a_truth ∷ []) a_number ts
call_built_in b.Count ts = uniform (follows Number Line ∷ a_number ∷ []) a_number ts
call_built_in b.AllDifferent ts = over_array Number Truth ts
call_built_in b.Table ts = uniform (follows Number Line ∷ fixed (Plain Number Grid true) ∷ []) a_truth ts
call_built_in b.Length ts = tested is_array_type (operand 0 ts) (numbers true) ts
call_built_in b.IndexSet ts = tested is_line (operand 0 ts) Set ts
call_built_in b.RowIndexSet ts = tested is_grid (operand 0 ts) Set ts
call_built_in b.ColumnIndexSet ts = tested is_grid (operand 0 ts) Set ts
call_built_in b.Card ts = needs ts (Set ∷ []) (numbers true)
call_built_in b.ArrayLine ts = array_line (operand 1 ts) ts
call_built_in b.ArrayGrid ts = array_grid (operand 2 ts) ts
call_built_in b.Show ts = tested is_shown (operand 0 ts) (Text Single) ts
call_built_in b.Fix ts = tested is_fixed (operand 0 ts) (operand 0 ts) ts
call_built_in b.Sol ts = on_incumbent (operand 0 ts) ts
call_built_in b.HasSol ts = needs ts [] (truths true)
call_built_in b.Uniform ts = needs ts (numbers true ∷ numbers true ∷ []) (numbers true)
call_built_in b.Next ts = needs ts [] Search
call_built_in b.Post ts = needs ts (truths false ∷ []) Search
call_built_in b.Commit ts = needs ts [] Search
call_built_in b.Print ts = or_else (needs ts [] Search) (needs ts (Text Single ∷ []) Search)
call_built_in b.Scope ts = needs ts (Search ∷ []) Search
call_built_in b.Repeat ts = needs ts (Search ∷ []) Search
call_built_in b.Break ts = None
call_built_in b.Fail ts = None
call_built_in b.Skip ts = None
call_built_in b.TimeLimit ts = needs ts (numbers true ∷ Search ∷ []) Search
call_built_in b.Keep ts = needs ts (Plain Number Line false ∷ []) Search
call_built_in b.ClearFront ts = needs ts [] Search
call_built_in b.PrintFront ts = needs ts [] Search

abbrev pub call : Meaning → List ExprType → Given
call (m.value t) ts = None
call (m.function us t) ts = needs ts us t
call (m.built_in x) ts = call_built_in x ts

abbrev pub call_told : Told → List ExprType → Given
call_told m.unknown ts = None
call_told (m.means w) ts = call w ts
call_told (m.barred w) ts = None

-- ---- other forms

-- the names that are written without brackets
abbrev pub is_bare : BuiltIn → Bool
is_bare b.Break = true
is_bare b.Fail = true
is_bare b.Skip = true
is_bare other = false

abbrev pub stand : Meaning → List ExprType → Given
stand (m.value t) ts = needs ts [] t
stand (m.function us t) ts = None
stand (m.built_in x) ts = if is_bare x then needs ts [] Search else None

abbrev pub stand_told : Told → List ExprType → Given
stand_told m.unknown ts = None
stand_told (m.means w) ts = stand w ts
stand_told (m.barred w) ts = None

abbrev pub is_repeat : Meaning → Bool
is_repeat (m.value t) = false
is_repeat (m.function us t) = false
is_repeat (m.built_in b.Repeat) = true
is_repeat (m.built_in other) = false

-- the element of what is asked of an array
abbrev pub element_asked : List ExprType → ExprType
element_asked us = shaped Single (operand 0 us)

abbrev pub generate_over : Meaning → List ExprType → List ExprType → ExprType → Given
generate_over w asked ts t =
    if is_element t then option_and_then (λ g. needs ts (asked ++ (element_asked g.0 ∷ [])) g.1) (call w (shaped Line t ∷ [])) else None

abbrev pub generate : Meaning → List ExprType → Bool → List ExprType → Given
generate w asked one ts =
    if is_repeat w && one then needs ts (asked ++ (Search ∷ [])) Search else option_and_then (generate_over w asked ts) (last_of ts)

abbrev pub generate_told : Told → List ExprType → Bool → List ExprType → Given
generate_told m.unknown asked one ts = None
generate_told (m.means w) asked one ts = generate w asked one ts
generate_told (m.barred w) asked one ts = None

-- an element of an array without elements counts as an int
abbrev pub compared : Scalar → Scalar
compared Empty = Number
compared Truth = Truth
compared Number = Number

abbrev pub equate_at : ExprType → List ExprType → Given
equate_at (Plain c s k) ts = needs ts (Plain (compared c) Single k ∷ Plain (compared c) Single k ∷ []) (truths k)
equate_at (Text s) ts = needs ts (Text Single ∷ Text Single ∷ []) (truths true)
equate_at Set ts = needs ts (Set ∷ Set ∷ []) (truths true)
equate_at Search ts = None

-- of two ints, bools, sets or strings
abbrev pub equate : List ExprType → Given
equate ts = option_and_then (λ t. equate_at t ts) (join (operand 0 ts) (operand 1 ts))

abbrev pub concat_at : ExprType → List ExprType → Given
concat_at t ts = if is_line t then needs ts (t ∷ t ∷ []) t else needs ts (Text Single ∷ Text Single ∷ []) (Text Single)

abbrev pub concat : List ExprType → Given
concat ts = option_and_then (λ t. concat_at t ts) (join (operand 0 ts) (operand 1 ts))

-- of bools, else of searches
abbrev pub connect : List ExprType → Given
connect ts = or_else (of_truths ts) (needs ts (Search ∷ Search ∷ []) Search)

abbrev pub operate : Operator → List ExprType → Given
operate o.Equivalent ts = of_truths ts
operate o.Implies ts = of_truths ts
operate o.ImpliedBy ts = of_truths ts
operate o.Or ts = connect ts
operate o.Xor ts = of_truths ts
operate o.And ts = connect ts
operate o.Equal ts = equate ts
operate o.NotEqual ts = equate ts
operate o.Less ts = compares ts
operate o.AtMost ts = compares ts
operate o.Greater ts = compares ts
operate o.AtLeast ts = compares ts
operate o.In ts = uniform (a_number ∷ fixed Set ∷ []) a_truth ts
operate o.To ts = needs ts (numbers true ∷ numbers true ∷ []) Set
operate o.Plus ts = of_numbers ts
operate o.Minus ts = of_numbers ts
operate o.Times ts = of_numbers ts
operate o.Div ts = of_numbers ts
operate o.Mod ts = of_numbers ts
operate o.Concat ts = concat ts

abbrev pub access_plain : Scalar → Shape → List ExprType → Given
access_plain c Single ts = None
access_plain c Line ts = uniform (follows c Line ∷ a_number ∷ []) (follows c Single) ts
access_plain c Grid ts = uniform (follows c Grid ∷ a_number ∷ a_number ∷ []) (follows c Single) ts

abbrev pub access_text : Shape → List ExprType → Given
access_text Single ts = None
access_text Line ts = needs ts (Text Line ∷ numbers true ∷ []) (Text Single)
access_text Grid ts = needs ts (Text Grid ∷ numbers true ∷ numbers true ∷ []) (Text Single)

abbrev pub access_at : ExprType → List ExprType → Given
access_at (Plain c s k) ts = access_plain c s ts
access_at (Text s) ts = access_text s ts
access_at Set ts = None
access_at Search ts = None

abbrev pub elements_at : Shape → List ExprType → ExprType → Given
elements_at s ts t = if is_element t then needs ts (replicate (length ts) t) (shaped s t) else None

-- elements of one type
abbrev pub elements : Shape → List ExprType → Given
elements s ts = option_and_then (elements_at s ts) (join_all (Plain Empty Single true) ts)

abbrev pub comprehend : List ExprType → ExprType → List ExprType → Given
comprehend asked t ts = if is_element t then needs ts (t ∷ asked) (shaped Line t) else None

abbrev pub conditions : List ExprType → List ExprType
conditions [] = []
conditions (t ∷ []) = []
conditions (c ∷ (t ∷ ts)) = c ∷ conditions ts

abbrev pub branches : List ExprType → List ExprType
branches [] = []
branches (t ∷ []) = t ∷ []
branches (c ∷ (t ∷ ts)) = t ∷ branches ts

abbrev pub all_known : List ExprType → Bool
all_known [] = true
all_known (t ∷ ts) = known_of t && all_known ts

abbrev pub some_search : List ExprType → Bool
some_search [] = false
some_search (t ∷ ts) = is_search t || some_search ts

-- what each condition is to be, where one of them is variable, and where one is a search
abbrev pub variable_conditions : List ExprType → List ExprType
variable_conditions cs = map truths (map known_of cs)

abbrev pub search_conditions : List ExprType → List ExprType
search_conditions cs = map search_condition (map (λ c. not (is_search c)) cs)

abbrev pub choose_variable : List ExprType → List ExprType → ExprType → Given
choose_variable cs ts (Plain c s k) = needs ts (arms (variable_conditions cs) (Plain c Single false)) (Plain c Single false)
choose_variable cs ts (Text s) = None
choose_variable cs ts Set = None
choose_variable cs ts Search = None

abbrev pub choose_known : List ExprType → List ExprType → ExprType → Given
choose_known cs ts t = needs ts (arms (replicate (length cs) (truths true)) t) t

abbrev pub choose_among : List ExprType → List ExprType → Given
choose_among cs ts =
    if some_search cs then needs ts (arms (search_conditions cs) Search) Search
    else option_and_then (if all_known cs then choose_known cs ts else choose_variable cs ts) (join_some (branches ts))

abbrev pub last_given : List ExprType → List ExprType → ExprType → Given
last_given declared ts t = needs ts (declared ++ (t ∷ [])) t

abbrev pub outputs_at : Shape → List ExprType → Given
outputs_at s ts = if is_array s then needs ts (Text s ∷ []) (Text s) else None

-- ---- all forms: what is asked of the parts, and the least type of the node, over the least types of its parts

abbrev pub row : Form → List ExprType → Given
row f.number ts = needs ts [] (numbers true)
row f.text ts = needs ts [] (Text Single)
row f.truth ts = needs ts [] (truths true)
row (f.stands t) ts = stand_told t ts
row (f.calls t) ts = call_told t ts
row (f.generates t asked one) ts = generate_told t asked one ts
row (f.operation op) ts = operate op ts
row (f.prefix sign.Not) ts = uniform (a_truth ∷ []) a_truth ts
row (f.prefix sign.Minus) ts = uniform (a_number ∷ []) a_number ts
row f.parenthesis ts = needs ts (operand 0 ts ∷ []) (operand 0 ts)
row f.access ts = access_at (operand 0 ts) ts
row f.array ts = elements Line ts
row (f.grid true) ts = elements Grid ts
row (f.grid false) ts = None
row f.set ts = needs ts (replicate (length ts) (numbers true)) Set
row (f.comprehension asked) ts = comprehend asked (operand 0 ts) ts
row f.choice ts = choose_among (conditions ts) ts
row (f.lets declared) ts = option_and_then (last_given declared ts) (last_of ts)
row (f.declares true asked t) ts = needs ts asked t
row (f.declares false asked t) ts = None
row (f.assigns t) ts = needs ts (t ∷ []) t
row f.gives ts = needs ts (operand 0 ts ∷ []) (operand 0 ts)
row f.constrains ts = needs ts (truths false ∷ []) (truths false)
row f.satisfies ts = needs ts [] (truths true)
row f.optimizes ts = needs ts (numbers false ∷ []) (numbers false)
row f.searches ts = needs ts (Search ∷ []) Search
row f.outputs ts = outputs_at (shape_of (operand 0 ts)) ts
row f.unsupported ts = None
row f.misplaced ts = None

-- ---- terms

abbrev pub otherwise : Form → List ExprType → Cause
otherwise g ts = if is_some (row g (map as_known ts)) then cause.NotKnown else cause.Mismatch

abbrev pub why : Form → List ExprType → Cause
why g ts =
    if is_unknown g then cause.Unknown
    else (if wrong_count g ts then cause.Arity
    else (if is_unsupported g then cause.Unsupported else otherwise g ts))

pub data Typing (A : Type 0) : Type 0 where
  has : A → Typing A
  fault : Cause → Place → Typing A

abbrev pub settle : Place → Form → List ExprType → Given → Typing ExprType
settle p g ts (Some x) = has x.1
settle p g ts None = fault (why g ts) p

abbrev pub and_then : {A B : Type 0} → Typing A → (A → Typing B) → Typing B
and_then (has a) f = f a
and_then (fault c p) f = fault c p

abbrev mutual
  pub typing : Term → Typing ExprType
  typing (node p g xs) = and_then (typings xs) (λ ts. settle p g ts (row g ts))

  pub typings : Terms → Typing (List ExprType)
  typings no_terms = has []
  typings (term x xs) = and_then (typing x) (λ t. and_then (typings xs) (λ ts. has (t ∷ ts)))
