-- The two tables: for each form, and for each name that is called, the types of its operands and of its result.
use Rattle.std.specs.Prelude.{◌≡◌, ℕ, Bool, true, false, List, [], ◌∷◌, ◌++◌, map, replicate}
use Rattle.ms_syntax.specs.declared.tree.Operator.TheVariants as o
use Rattle.ms_syntax.specs.declared.tree.Sign.TheVariants as sign
use Rattle.ms_typing.specs.declared.types.Scalar.{Scalar}
use Rattle.ms_typing.specs.declared.types.Scalar.TheVariants.{Truth, Number}
use Rattle.ms_typing.specs.declared.types.Shape.{Shape}
use Rattle.ms_typing.specs.declared.types.Shape.TheVariants.{Single, Line, Grid}
use Rattle.ms_typing.specs.declared.types.ExprType.{ExprType}
use Rattle.ms_typing.specs.declared.types.ExprType.TheVariants.{Plain, Text, Set, Search}
use Rattle.ms_built_ins.specs.declared.names.BuiltIn.TheVariants as b
use Rattle.ms_typing.specs.Conversion.{is_element, is_grid, is_line, numbers, shaped, truths}
use Rattle.ms_typing.specs.Meaning.{Meaning}
use Rattle.ms_typing.specs.Meaning as m
use Rattle.ms_typing.specs.Term.{Form}
use Rattle.ms_typing.specs.Term as f

-- an array of one dimension or two
abbrev pub is_array : Shape → Bool
is_array Single = false
is_array Line = true
is_array Grid = true

abbrev pub is_array_type : ExprType → Bool
is_array_type (Plain b s k) = is_array s
is_array_type (Text s) = is_array s
is_array_type Set = false
is_array_type Search = false

-- a known int or bool, an array of them, or a set
abbrev pub is_shown : ExprType → Bool
is_shown (Plain b s k) = k
is_shown (Text s) = false
is_shown Set = true
is_shown Search = false

-- a known int or bool, or an array
abbrev pub is_fixed : ExprType → Bool
is_fixed (Plain b s k) = k
is_fixed (Text s) = is_array s
is_fixed Set = false
is_fixed Search = false

-- ---- names that are called. A result of bool or int is known where the operands are that it depends on: they have one `k`

pub data Call : Meaning → List ExprType → ExprType → Type 0 where
  function : {ts : List ExprType} {t : ExprType} → Call (m.function ts t) ts t
  for_all : {s : Shape} {k : Bool} → is_array s ≡ true → Call (m.built_in b.ForAll) (Plain Truth s k ∷ []) (truths k)
  exists_one : {s : Shape} {k : Bool} → is_array s ≡ true → Call (m.built_in b.Exists) (Plain Truth s k ∷ []) (truths k)
  sum_of : {s : Shape} {k : Bool} → is_array s ≡ true → Call (m.built_in b.Sum) (Plain Number s k ∷ []) (numbers k)
  min_of : {s : Shape} {k : Bool} → is_array s ≡ true → Call (m.built_in b.Min) (Plain Number s k ∷ []) (numbers k)
  min_two : {k : Bool} → Call (m.built_in b.Min) (numbers k ∷ numbers k ∷ []) (numbers k)
  max_of : {s : Shape} {k : Bool} → is_array s ≡ true → Call (m.built_in b.Max) (Plain Number s k ∷ []) (numbers k)
  max_two : {k : Bool} → Call (m.built_in b.Max) (numbers k ∷ numbers k ∷ []) (numbers k)
  absolute : {k : Bool} → Call (m.built_in b.Abs) (numbers k ∷ []) (numbers k)
  bool_to_int : {k : Bool} → Call (m.built_in b.BoolToInt) (truths k ∷ []) (numbers k)
  count : {k : Bool} → Call (m.built_in b.Count) (Plain Number Line k ∷ numbers k ∷ []) (numbers k)
  all_different : {s : Shape} {k : Bool} → is_array s ≡ true → Call (m.built_in b.AllDifferent) (Plain Number s k ∷ []) (truths k)
  table : {k : Bool} → Call (m.built_in b.Table) (Plain Number Line k ∷ Plain Number Grid true ∷ []) (truths k)
  -- it depends on no element
  length_of : {t : ExprType} → is_array_type t ≡ true → Call (m.built_in b.Length) (t ∷ []) (numbers true)
  index_set : {t : ExprType} → is_line t ≡ true → Call (m.built_in b.IndexSet) (t ∷ []) Set
  row_index_set : {t : ExprType} → is_grid t ≡ true → Call (m.built_in b.RowIndexSet) (t ∷ []) Set
  column_index_set : {t : ExprType} → is_grid t ≡ true → Call (m.built_in b.ColumnIndexSet) (t ∷ []) Set
  card : Call (m.built_in b.Card) (Set ∷ []) (numbers true)
  array_line : {t : ExprType} → is_array_type t ≡ true → Call (m.built_in b.ArrayLine) (Set ∷ t ∷ []) (shaped Line t)
  array_grid : {t : ExprType} → is_array_type t ≡ true → Call (m.built_in b.ArrayGrid) (Set ∷ Set ∷ t ∷ []) (shaped Grid t)
  show : {t : ExprType} → is_shown t ≡ true → Call (m.built_in b.Show) (t ∷ []) (Text Single)
  fixed : {t : ExprType} → is_fixed t ≡ true → Call (m.built_in b.Fix) (t ∷ []) t
  -- a value on the incumbent is known
  sol : {c : Scalar} → Call (m.built_in b.Sol) (Plain c Single false ∷ []) (Plain c Single true)
  has_sol : Call (m.built_in b.HasSol) [] (truths true)
  uniform : Call (m.built_in b.Uniform) (numbers true ∷ numbers true ∷ []) (numbers true)
  next : Call (m.built_in b.Next) [] Search
  post : Call (m.built_in b.Post) (truths false ∷ []) Search
  commit : Call (m.built_in b.Commit) [] Search
  print_solution : Call (m.built_in b.Print) [] Search
  print_text : Call (m.built_in b.Print) (Text Single ∷ []) Search
  scope : Call (m.built_in b.Scope) (Search ∷ []) Search
  repeat : Call (m.built_in b.Repeat) (Search ∷ []) Search
  time_limit : Call (m.built_in b.TimeLimit) (numbers true ∷ Search ∷ []) Search
  keep : Call (m.built_in b.Keep) (Plain Number Line false ∷ []) Search
  clear_front : Call (m.built_in b.ClearFront) [] Search
  print_front : Call (m.built_in b.PrintFront) [] Search

-- ---- forms

-- conditions, each before its branch, and the last branch
abbrev pub arms : List ExprType → ExprType → List ExprType
arms [] t = t ∷ []
arms (c ∷ cs) t = c ∷ t ∷ arms cs t

-- a known bool, or a search
abbrev pub search_condition : Bool → ExprType
search_condition true = truths true
search_condition false = Search

pub data Row : Form → List ExprType → ExprType → Type 0 where
  number : Row f.number [] (numbers true)
  text : Row f.text [] (Text Single)
  truth : Row f.truth [] (truths true)
  stands : {t : ExprType} → Row (f.stands (m.means (m.value t))) [] t
  break_stands : Row (f.stands (m.means (m.built_in b.Break))) [] Search
  fail_stands : Row (f.stands (m.means (m.built_in b.Fail))) [] Search
  skip_stands : Row (f.stands (m.means (m.built_in b.Skip))) [] Search
  calls : {w : Meaning} {us : List ExprType} {t : ExprType} → Call w us t → Row (f.calls (m.means w)) us t
  -- `f(gens)(e)` as `f([e | gens])`
  generates : {w : Meaning} {asked : List ExprType} {one : Bool} {t : ExprType} → (u : ExprType) → is_element u ≡ true → Call w (shaped Line u ∷ []) t
      → Row (f.generates (m.means w) asked one) (asked ++ (u ∷ [])) t
  repeat_each : {asked : List ExprType} → Row (f.generates (m.means (m.built_in b.Repeat)) asked true) (asked ++ (Search ∷ [])) Search
  equivalent : {k : Bool} → Row (f.operation o.Equivalent) (truths k ∷ truths k ∷ []) (truths k)
  implies : {k : Bool} → Row (f.operation o.Implies) (truths k ∷ truths k ∷ []) (truths k)
  implied_by : {k : Bool} → Row (f.operation o.ImpliedBy) (truths k ∷ truths k ∷ []) (truths k)
  exclusive_or : {k : Bool} → Row (f.operation o.Xor) (truths k ∷ truths k ∷ []) (truths k)
  or : {k : Bool} → Row (f.operation o.Or) (truths k ∷ truths k ∷ []) (truths k)
  and : {k : Bool} → Row (f.operation o.And) (truths k ∷ truths k ∷ []) (truths k)
  -- searches one after the other; a known bool stands as one
  search_or : Row (f.operation o.Or) (Search ∷ Search ∷ []) Search
  search_and : Row (f.operation o.And) (Search ∷ Search ∷ []) Search
  equal_numbers : {k : Bool} → Row (f.operation o.Equal) (numbers k ∷ numbers k ∷ []) (truths k)
  equal_truths : {k : Bool} → Row (f.operation o.Equal) (truths k ∷ truths k ∷ []) (truths k)
  equal_sets : Row (f.operation o.Equal) (Set ∷ Set ∷ []) (truths true)
  equal_texts : Row (f.operation o.Equal) (Text Single ∷ Text Single ∷ []) (truths true)
  unequal_numbers : {k : Bool} → Row (f.operation o.NotEqual) (numbers k ∷ numbers k ∷ []) (truths k)
  unequal_truths : {k : Bool} → Row (f.operation o.NotEqual) (truths k ∷ truths k ∷ []) (truths k)
  unequal_sets : Row (f.operation o.NotEqual) (Set ∷ Set ∷ []) (truths true)
  unequal_texts : Row (f.operation o.NotEqual) (Text Single ∷ Text Single ∷ []) (truths true)
  less : {k : Bool} → Row (f.operation o.Less) (numbers k ∷ numbers k ∷ []) (truths k)
  at_most : {k : Bool} → Row (f.operation o.AtMost) (numbers k ∷ numbers k ∷ []) (truths k)
  greater : {k : Bool} → Row (f.operation o.Greater) (numbers k ∷ numbers k ∷ []) (truths k)
  at_least : {k : Bool} → Row (f.operation o.AtLeast) (numbers k ∷ numbers k ∷ []) (truths k)
  member : {k : Bool} → Row (f.operation o.In) (numbers k ∷ Set ∷ []) (truths k)
  range : Row (f.operation o.To) (numbers true ∷ numbers true ∷ []) Set
  plus : {k : Bool} → Row (f.operation o.Plus) (numbers k ∷ numbers k ∷ []) (numbers k)
  minus : {k : Bool} → Row (f.operation o.Minus) (numbers k ∷ numbers k ∷ []) (numbers k)
  times : {k : Bool} → Row (f.operation o.Times) (numbers k ∷ numbers k ∷ []) (numbers k)
  quotient : {k : Bool} → Row (f.operation o.Div) (numbers k ∷ numbers k ∷ []) (numbers k)
  remainder : {k : Bool} → Row (f.operation o.Mod) (numbers k ∷ numbers k ∷ []) (numbers k)
  concat_texts : Row (f.operation o.Concat) (Text Single ∷ Text Single ∷ []) (Text Single)
  concat_arrays : {t : ExprType} → is_line t ≡ true → Row (f.operation o.Concat) (t ∷ t ∷ []) t
  negated : {k : Bool} → Row (f.prefix sign.Not) (truths k ∷ []) (truths k)
  negative : {k : Bool} → Row (f.prefix sign.Minus) (numbers k ∷ []) (numbers k)
  parenthesis : {t : ExprType} → Row f.parenthesis (t ∷ []) t
  access_line : {c : Scalar} {k : Bool} → Row f.access (Plain c Line k ∷ numbers k ∷ []) (Plain c Single k)
  access_grid : {c : Scalar} {k : Bool} → Row f.access (Plain c Grid k ∷ numbers k ∷ numbers k ∷ []) (Plain c Single k)
  -- strings are known, so the index is
  access_text_line : Row f.access (Text Line ∷ numbers true ∷ []) (Text Single)
  access_text_grid : Row f.access (Text Grid ∷ numbers true ∷ numbers true ∷ []) (Text Single)
  array : (n : ℕ) (t : ExprType) → is_element t ≡ true → Row f.array (replicate n t) (shaped Line t)
  grid : (n : ℕ) (t : ExprType) → is_element t ≡ true → Row (f.grid true) (replicate n t) (shaped Grid t)
  set : (n : ℕ) → Row f.set (replicate n (numbers true)) Set
  comprehension : {asked : List ExprType} {t : ExprType} → is_element t ≡ true → Row (f.comprehension asked) (t ∷ asked) (shaped Line t)
  -- known conditions take branches of any one type
  choice_known : {t : ExprType} → (n : ℕ) → Row f.choice (arms (replicate n (truths true)) t) t
  -- where a condition is variable, they are bool or int
  choice_variable : {c : Scalar} → (ks : List Bool) → Row f.choice (arms (map truths ks) (Plain c Single false)) (Plain c Single false)
  choice_search : (ks : List Bool) → Row f.choice (arms (map search_condition ks) Search) Search
  lets : {declared : List ExprType} {t : ExprType} → Row (f.lets declared) (declared ++ (t ∷ [])) t
  declares : {asked : List ExprType} {t : ExprType} → Row (f.declares true asked t) asked t
  assigns : {t : ExprType} → Row (f.assigns t) (t ∷ []) t
  gives : {t : ExprType} → Row f.gives (t ∷ []) t
  constrains : Row f.constrains (truths false ∷ []) (truths false)
  satisfies : Row f.satisfies [] (truths true)
  optimizes : Row f.optimizes (numbers false ∷ []) (numbers false)
  searches : Row f.searches (Search ∷ []) Search
  outputs : {s : Shape} → is_array s ≡ true → Row f.outputs (Text s ∷ []) (Text s)
