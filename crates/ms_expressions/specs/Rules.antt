-- The rules of the grammar, each as what it reads.
use Rattle.std.specs.Prelude.{ℕ, zero, suc, List, [], ◌∷◌, ◌++◌, length, Option, Some, None, option_map, option_and_then, pred, Bool, true, false, ◌==◌, if◌then◌else◌}
use Rattle.ms_syntax.specs.declared.token.Token.{Token}
use Rattle.ms_syntax.specs.declared.token.Symbol.{Symbol}
use Rattle.ms_syntax.specs.declared.token.Keyword.TheVariants as k
use Rattle.ms_syntax.specs.declared.token.Symbol.TheVariants as s
use Rattle.ms_syntax.specs.declared.token.Place.{Place}
use Rattle.ms_syntax.specs.declared.tree.Operator.{Operator}
use Rattle.ms_syntax.specs.declared.tree.Operator.TheVariants as o
use Rattle.ms_syntax.specs.declared.tree.Mode.{Mode}
use Rattle.ms_syntax.specs.declared.tree.Mode.TheVariants as m
use Rattle.ms_syntax.specs.Tree as x
use Rattle.ms_syntax.specs.Tree.{of_membership, Names, Ex, Maybe, Exs, Links, Arms, Rows, Subscripts, Gens, Decls, Decl, Kd, Bs, Indices, Notes, Params, Gl, It, exs_of, links_of, arms_of, rows_of, subscripts_of, gens_of, decls_of, notes_of}
use Rattle.ms_cursor.specs.Level.{height, is_single}
use Rattle.ms_cursor.specs.declared.level.Level.TheVariants as lv
use Rattle.ms_expressions.specs.declared.reach.Reach.{Reach}
use Rattle.ms_expressions.specs.declared.reach.Reach.TheVariants as reach
use Rattle.ms_cursor.specs.Reading.{Parser, ◌>>=◌, pure, fail, by, must, deeper, opening, many, sealed, placed, pair, into, skip, closing, enter}
use Rattle.ms_cursor.specs.Kinds.{a_number, a_text, a_name, a_truth, a_sign, symbol, keyword, infix_of}

-- ---- names that generators declare

abbrev pub a_binder : Parser (Place × List ℕ)
a_binder = must a_name >>= λ c. pure (c.1.place, c.0)

unfoldable pub more_names : Parser Names
more_names = many (symbol s.Comma) (λ a y. a_binder)

unfoldable pub names : Parser Names
names = a_binder >>= λ n. more_names >>= λ ns. pure (n ∷ ns)

-- ---- the generators that a list of expressions is, if it is one

-- names that have been read go before
abbrev pub generators_from : Names → Exs → Option Gens
generators_from [] x.no_exs = Some x.no_gens
generators_from (n ∷ ns) x.no_exs = None
generators_from ns (x.ex (x.name p w) more) = generators_from (ns ++ (p, w) ∷ []) more
generators_from ns (x.ex (x.chain l (x.name p w) (x.link o.In q e x.no_links)) more) = if l == of_membership then option_map (x.gen (ns ++ (p, w) ∷ []) e) (generators_from [] more) else None
generators_from ns (x.ex _ more) = None

abbrev pub generators_of : Exs → Option Gens
generators_of es = generators_from [] es

-- a token of f, where the expressions are generators
abbrev pub if_generators : Exs → (Token → Option (Unit {0})) → Token → Option Gens
if_generators es f t = option_and_then (λ a. generators_of es) (f t)

-- ---- inside brackets: inner reads an expression

module _ (inner : Reach → Parser Ex) where
  -- each behind a comma
  unfoldable pub more : Parser Exs
  more = into exs_of (many (symbol s.Comma) (λ a y. inner reach.Any))

  -- one or more, with commas between
  unfoldable pub list : Parser Exs
  list = into (λ r. x.ex r.0 r.1) (pair (inner reach.Any) more)

  -- any number, and what closes them
  unfoldable pub listed : Symbol → Parser Exs
  listed close = by (symbol close) (λ a y. pure x.no_exs) (closing (symbol close) list)

  unfoldable pub second : Parser Maybe
  second = by (symbol s.Comma) (λ a y. into x.present (inner reach.Any)) (pure x.absent)

  -- after the opening bracket
  unfoldable pub subscript : Parser (Ex × Maybe)
  subscript = pair (inner reach.Any) (closing (symbol s.CloseBracket) second)

  unfoldable pub generator : Parser (Names × Ex)
  generator = pair names (skip (keyword k.In) (inner reach.Range))

  unfoldable pub more_generators : Parser Gens
  more_generators = into gens_of (many (symbol s.Comma) (λ a y. generator))

  unfoldable pub generators : Parser Gens
  generators = into (λ r. x.gen r.0.0 r.0.1 r.1) (pair generator more_generators)

  unfoldable pub condition : Parser Maybe
  condition = by (keyword k.Where) (λ a y. into x.present (inner reach.Any)) (pure x.absent)

  -- generators, a condition, and the closing bracket
  unfoldable pub generated : Parser (Gens × Maybe)
  generated = pair generators (closing (symbol s.CloseBracket) condition)

  unfoldable pub array_rest : Place → Parser Ex
  array_rest p = by (symbol s.CloseBracket) (λ a y. pure (x.array p x.no_exs))
      (inner reach.Any >>= λ e. by (symbol s.Bar) (λ a y. into (λ g. x.comprehension p e g.0 g.1) generated)
      (into (λ es. x.array p (x.ex e es)) (closing (symbol s.CloseBracket) more)))

  unfoldable pub more_rows : Parser Rows
  more_rows = into rows_of (many (symbol s.Bar) (λ a y. list))

  -- one or more, with bars between
  unfoldable pub row_list : Parser Rows
  row_list = into (λ r. x.row r.0 r.1) (pair list more_rows)

  unfoldable pub rows_rest : Place → Parser Ex
  rows_rest p = by (symbol s.CloseRows) (λ a y. pure (x.rows p x.no_rows)) (into (x.rows p) (closing (symbol s.CloseRows) row_list))

  unfoldable pub set_rest : Place → Parser Ex
  set_rest p = into (x.set p) (listed s.CloseBrace)

  -- an expression, and the closing parenthesis behind it
  abbrev pub body : Parser Ex
  body = closing (symbol s.CloseParenthesis) (inner reach.Any)

  unfoldable pub paren_rest : Place → Parser Ex
  paren_rest p = into (x.paren p) body

  unfoldable pub arm : Parser (Ex × Ex)
  arm = pair (inner reach.Any) (skip (keyword k.Then) (inner reach.Any))

  unfoldable pub arms : Parser Arms
  arms = into arms_of (many (keyword k.Elseif) (λ a y. arm))

  unfoldable pub if_rest : Place → Parser Ex
  if_rest p = into (λ r. x.if_else p r.0.0 r.0.1 r.1.0 r.1.1) (pair arm (pair arms (skip (keyword k.Else) (closing (keyword k.Endif) (inner reach.Any)))))

-- ---- levels

abbrev pub chained : ℕ → Ex → Links → Ex
chained n e x.no_links = e
chained n e (x.link op p e2 more) = x.chain n e (x.link op p e2 more)

abbrev pub accessing : Place → Ex → Subscripts → Ex
accessing p e x.no_subscripts = e
accessing p e (x.subscript i j more) = x.access p e (x.subscript i j more)

module _ (d : ℕ) (inner : Reach → Parser Ex) where
  -- a condition with its closing parenthesis, and a body in parentheses
  abbrev pub condition_and_body : Parser (Ex × Ex)
  condition_and_body = pair (body inner) (enter d (symbol s.OpenParenthesis) >>= λ c. body inner)

  -- after `where`
  unfoldable pub after_where : Place → List ℕ → Gens → Parser Ex
  after_where p w gs = into (λ r. x.generator_call p w gs (x.present r.0) r.1) condition_and_body

  -- in the brackets behind a list of generators
  unfoldable pub generator_body : Place → List ℕ → Gens → Parser Ex
  generator_body p w gs = into (x.generator_call p w gs x.absent) (body inner)

  -- after the brackets of a list
  unfoldable pub after_list : Place → List ℕ → Exs → Parser Ex
  after_list p w es = opening d (if_generators es (symbol s.OpenParenthesis)) (λ gs y. generator_body p w gs)
      (sealed (symbol s.OpenParenthesis) (x.call p w es))

  -- after the opening bracket
  unfoldable pub arguments : Place → List ℕ → Parser Ex
  arguments p w = by (symbol s.CloseParenthesis) (λ a y. pure (x.call p w x.no_exs))
      (list inner >>= λ es. by (if_generators es (keyword k.Where)) (λ gs y. after_where p w gs) (must (symbol s.CloseParenthesis) >>= λ c. after_list p w es))

  unfoldable pub named : Place → List ℕ → Parser Ex
  named p w = opening d (symbol s.OpenParenthesis) (λ a y. arguments p w) (pure (x.name p w))

  -- what stands in brackets, and `if`
  unfoldable pub bracketed : Parser Ex
  bracketed = opening d (keyword k.If) (λ a y. if_rest inner y.place) (opening d (symbol s.OpenParenthesis) (λ a y. paren_rest inner y.place)
      (opening d (symbol s.OpenBracket) (λ a y. array_rest inner y.place) (opening d (symbol s.OpenRows) (λ a y. rows_rest inner y.place)
      (enter d (symbol s.OpenBrace) >>= λ c. set_rest inner c.1.place))))

  -- an atom that does not begin with a name
  unfoldable pub closed : Parser Ex
  closed = by a_number (λ n y. pure (x.number y.place n)) (by a_text (λ w y. pure (x.text y.place w)) (by a_truth (λ b y. pure (x.truth y.place b)) bracketed))

  unfoldable pub atom : Parser Ex
  atom = by a_name (λ w y. named y.place w) closed

  -- after the bracket
  unfoldable pub opened_subscript : Unit {0} → Parser (Ex × Maybe)
  opened_subscript a = deeper d a >>= λ b. subscript inner

  unfoldable pub subscripts : Parser Subscripts
  subscripts = into subscripts_of (many (symbol s.OpenBracket) (λ a y. opened_subscript a))

  unfoldable pub accessed : Parser Ex
  accessed = into (λ r. accessing r.0 r.1.0 r.1.1) (placed (pair atom subscripts))

  unfoldable pub signed : Parser Ex
  signed = by a_sign (λ g y. into (x.prefix y.place g) accessed) accessed

-- behind a first operand that binds no looser than n
unfoldable pub one_more : ℕ → Parser Ex → Ex → Parser Ex
one_more n operand first = by (infix_of n) (λ op y. into (λ e. x.chain n first (x.link op y.place e x.no_links)) operand) (pure first)

unfoldable pub links : ℕ → Parser Ex → Parser Links
links n operand = into links_of (many (infix_of n) (λ op y. into {B = Operator × Place × Ex} (λ e. (op, y.place, e)) operand))

-- behind a first operand with so many levels below it: one operator of the next level, or any number of them
unfoldable pub behind : ℕ → Parser Ex → Ex → Parser Ex
behind h operand first = if is_single (suc (suc h)) then one_more (suc (suc h)) operand first else into (chained (suc (suc h)) first) (links (suc (suc h)) operand)

-- so many levels of operators, the tightest first, over what stands between them
unfoldable pub tier : ℕ → Parser Ex → Parser Ex
tier zero operand = operand
tier (suc h) operand = tier h operand >>= behind h (tier h operand)

-- what a list goes on with: one more, or its end, and whether a mark stands there
pub data Turn (A : Type 0) : Type 0 where
  item : A → Turn A
  last : Bool → Turn A

-- ---- declarations: inner reads an expression here, and inmost one inside a bracket, of which e more may open

-- a word that is a name
abbrev pub a_word : Parser (List ℕ)
a_word = into (λ c. c.0) (must a_name)

module _ (inmost : Reach → Parser Ex) where
  -- an index set inside its brackets
  unfoldable pub index_set : Parser Maybe
  index_set = by (keyword k.Int) (λ a y. pure x.absent) (into x.present (inmost reach.Range))

  -- one or two, and the closing bracket
  unfoldable pub index_sets : Parser Indices
  index_sets = index_set >>= λ i. by (symbol s.Comma) (λ a y. into (λ j. x.index i (x.index j x.no_indices)) (closing (symbol s.CloseBracket) index_set))
      (skip (symbol s.CloseBracket) (pure (x.index i x.no_indices)))

module _ (inner : Reach → Parser Ex) where
  -- after `set`
  unfoldable pub set_base : Parser Bs
  set_base = skip (keyword k.Of) (by (keyword k.Int) (λ b z. pure x.set_of_int) (into x.set_of (inner reach.Range)))

  unfoldable pub base : Parser Bs
  base = by (keyword k.Bool) (λ a y. pure x.of_bool) (by (keyword k.Int) (λ a y. pure x.of_int) (by (keyword k.String) (λ a y. pure x.of_string) (by (keyword k.Ann) (λ a y. pure x.of_ann)
      (by (keyword k.Set) (λ a y. set_base) (into x.of_values (inner reach.Range))))))

  -- a base with its mark, and its colon
  unfoldable pub marked : Parser (Mode × Bs)
  marked = by (keyword k.Var) (λ a y. into {B = Mode × Bs} (λ b. (m.Var, b)) (closing (symbol s.Colon) base))
      (by (keyword k.Par) (λ a y. into {B = Mode × Bs} (λ b. (m.Par, b)) (closing (symbol s.Colon) base)) (into {B = Mode × Bs} (λ b. (m.Unmarked, b)) (closing (symbol s.Colon) base)))

module _ (e : ℕ) (inner inmost : Reach → Parser Ex) where
  -- a kind and its colon
  unfoldable pub kind : Parser Kd
  kind = by (keyword k.Array) (λ a y. into (λ r. x.kind r.0 r.1.0 r.1.1) (pair (enter e (symbol s.OpenBracket) >>= λ c. index_sets inmost) (skip (keyword k.Of) (marked inner))))
      (into (λ r. x.kind x.no_indices r.0 r.1) (marked inner))

  -- the kind and the name of a parameter, with the place of its first token
  unfoldable pub parameter : Parser (Place × Kd × List ℕ)
  parameter = into {B = Place × Kd × List ℕ} (λ r. (r.0, r.1.0, r.1.1)) (placed (pair kind a_word))

  -- what stands in brackets behind the name of a note
  unfoldable pub note_arguments : Parser Exs
  note_arguments = opening e (symbol s.OpenParenthesis) (λ a y. closing (symbol s.CloseParenthesis) (list inmost)) (pure x.no_exs)

  unfoldable pub note_rest : Place → Parser (Place × List ℕ × Exs)
  note_rest p = into {B = Place × List ℕ × Exs} (λ r. (p, r.0, r.1)) (pair a_word note_arguments)

  unfoldable pub notes : Parser Notes
  notes = into notes_of (many (symbol s.ColonColon) (λ a y. note_rest y.place))

  unfoldable pub value : Parser Maybe
  value = by (symbol s.Equal) (λ a y. into x.present (inner reach.Any)) (pure x.absent)

  -- behind the colon
  unfoldable pub declared : Parser (List ℕ × (Notes × Maybe))
  declared = pair a_word (pair notes value)

  unfoldable pub declaration : Parser Decl
  declaration = into (λ r. x.declare r.0 r.1.0 r.1.1.0 r.1.1.1.0 r.1.1.1.1) (placed (pair kind declared))

  -- declarations, each behind a semicolon, the last semicolon or none, and the closing brace
  unfoldable pub more_locals : ℕ → Parser (List Decl × Bool)
  more_locals zero = skip (symbol s.CloseBrace) (pure ([], false))
  more_locals (suc n) = by (symbol s.Semicolon) (λ a y. by (symbol s.CloseBrace) (λ b z. pure ([], true)) (declaration >>= λ d. into {B = List Decl × Bool} (λ r. (d ∷ r.0, r.1)) (more_locals n)))
      (skip (symbol s.CloseBrace) (pure ([], false)))

  -- one turn of it: a declaration, or the end
  unfoldable pub local_turn : Parser (Turn Decl)
  local_turn = by (symbol s.Semicolon) (λ a y. by (symbol s.CloseBrace) (λ b z. pure (last true)) (into item declaration)) (skip (symbol s.CloseBrace) (pure (last false)))

  unfoldable pub locals : Parser (List Decl × Bool)
  locals = declaration >>= λ d. into {B = List Decl × Bool} (λ r. (d ∷ r.0, r.1)) (λ ts. more_locals (length ts) ts)

-- ---- what stands where

-- where d more brackets may open; inner reads inside one, and inmost inside two
module _ (d : ℕ) (inner inmost : Reach → Parser Ex) where
  unfoldable pub local : Place → Parser Ex
  local p = into (λ r. x.let_in p (decls_of r.0.0) r.0.1 r.1) (pair (enter d (symbol s.OpenBrace) >>= λ c. locals (pred d) inner inmost) (skip (keyword k.In) (tier (height lv.Equivalence) (signed d inner))))

  unfoldable pub reads : Reach → Parser Ex
  reads reach.Any = by (keyword k.Let) (λ a y. local y.place) (tier (height lv.Equivalence) (signed d inner))
  reads reach.Range = tier (height lv.Range) (signed d inner)

-- what reads an expression in which brackets nest no deeper than one less than the number, and what reads one inside
-- a bracket of it
unfoldable pub nested : ℕ → (Reach → Parser Ex) × (Reach → Parser Ex)
nested zero = (λ c. fail, λ c. fail)
nested (suc d) = (reads d (nested d).0 (nested d).1, (nested d).0)

unfoldable pub under : ℕ → Reach → Parser Ex
under d = (nested d).0

unfoldable pub inmost : ℕ → Reach → Parser Ex
inmost d = (nested d).1
