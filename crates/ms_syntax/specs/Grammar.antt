-- The grammar: which tokens a tree is written as. Each operand is of a level that its place allows, so tokens are
-- written by one tree at most.
use Rattle.std.specs.Prelude.{◌≡◌, ℕ, zero, suc, ◌≤◌, List, [], ◌∷◌, ◌++◌, length, Option, Some, None, IsSome, option_and_then, Bool, true, false, if◌then◌else◌}
use Rattle.ms_base.specs.declared.limits.TheConstants.{NESTING_LIMIT}
use Rattle.ms_syntax.specs.declared.token.Place.{Place}
use Rattle.ms_syntax.specs.declared.token.Token.{Token}
use Rattle.ms_syntax.specs.declared.token.Token.TheVariants as t
use Rattle.ms_syntax.specs.declared.token.Keyword.{Keyword}
use Rattle.ms_syntax.specs.declared.token.Keyword.TheVariants as k
use Rattle.ms_syntax.specs.declared.token.Symbol.{Symbol}
use Rattle.ms_syntax.specs.declared.token.Symbol.TheVariants as s
use Rattle.ms_syntax.specs.declared.token.Spanned.{Spanned}
use Rattle.ms_syntax.specs.declared.tree.Operator.{Operator}
use Rattle.ms_syntax.specs.declared.tree.Operator.TheVariants as o
use Rattle.ms_syntax.specs.declared.tree.Sign.{Sign}
use Rattle.ms_syntax.specs.declared.tree.Sign.TheVariants as g
use Rattle.ms_syntax.specs.declared.tree.Mode.{Mode}
use Rattle.ms_syntax.specs.declared.tree.Mode.TheVariants as m
use Rattle.ms_syntax.specs.Tree as x
use Rattle.ms_syntax.specs.Tree.{Names, Ex, Maybe, Exs, Links, Arms, Rows, Subscripts, Gens, Decls, Decl, Kd, Bs, Indices, Notes, Params, Gl, It, Items, Pairs, of_concat, of_product, of_sum, of_range, of_membership, of_comparison, of_conjunction, of_disjunction, of_implication, of_equivalence, of_let}

-- ---- lists of tokens

abbrev pub Tokens : Type 0
Tokens = List Spanned

-- one after the other
infixr 11 ◌⋅◌
abbrev pub ◌⋅◌ : (Tokens → Type 0) → (Tokens → Type 0) → Tokens → Type 0
(l ⋅ m) w = (u : Tokens) × (v : Tokens) × (w ≡ u ++ v) × l u × m v

abbrev pub nothing : Tokens → Type 0
nothing w = w ≡ []

abbrev pub none : Tokens → Type 0
none w = ⊥

-- this token
abbrev pub the : Token → Tokens → Type 0
the token w = (y : Spanned) × (w ≡ y ∷ []) × (y.token ≡ token)

-- this token at this place
abbrev pub at : Place → Token → Tokens → Type 0
at place token w = (y : Spanned) × (w ≡ y ∷ []) × (y.token ≡ token) × (y.place ≡ place)

abbrev pub BeginsAt : Place → Tokens → Type 0
BeginsAt place [] = ⊥
BeginsAt place (y ∷ w) = y.place ≡ place

-- so, and the first token is at the place
abbrev pub from : Place → (Tokens → Type 0) → Tokens → Type 0
from place l w = BeginsAt place w × l w

-- so, where a condition holds
abbrev pub where_so : Type 0 → (Tokens → Type 0) → Tokens → Type 0
where_so condition l w = condition × l w

abbrev pub mark : Symbol → Tokens → Type 0
mark x = the (t.Symbol x)

abbrev pub word : Keyword → Tokens → Type 0
word x = the (t.Keyword x)

-- ---- levels

-- an atom is 0, an access 1, one with a sign 2, chains 3 to 12 from the tightest to the loosest, a `let` 13
abbrev pub level : Ex → ℕ
level (x.let_in p ds c e) = 13
level (x.chain n e ls) = suc n
level (x.prefix p g e) = 2
level (x.access p e is) = 1
level e = 0

-- what the operands of an operator bind at most
abbrev pub operands : Operator → ℕ
operands o.Equivalent = of_equivalence
operands o.Implies = of_implication
operands o.ImpliedBy = of_implication
operands o.Or = of_disjunction
operands o.Xor = of_disjunction
operands o.And = of_conjunction
operands o.Equal = of_comparison
operands o.NotEqual = of_comparison
operands o.Less = of_comparison
operands o.AtMost = of_comparison
operands o.Greater = of_comparison
operands o.AtLeast = of_comparison
operands o.In = of_membership
operands o.To = of_range
operands o.Plus = of_sum
operands o.Minus = of_sum
operands o.Times = of_product
operands o.Div = of_product
operands o.Mod = of_product
operands o.Concat = of_concat

-- whether a level has one operator at most
abbrev pub single : Operator → Bool
single o.Equal = true
single o.NotEqual = true
single o.Less = true
single o.AtMost = true
single o.Greater = true
single o.AtLeast = true
single o.In = true
single o.To = true
single _ = false

abbrev pub sign_of : Operator → Token
sign_of o.Equivalent = t.Symbol s.DoubleArrow
sign_of o.Implies = t.Symbol s.RightArrow
sign_of o.ImpliedBy = t.Symbol s.LeftArrow
sign_of o.Or = t.Symbol s.Or
sign_of o.Xor = t.Keyword k.Xor
sign_of o.And = t.Symbol s.And
sign_of o.Equal = t.Symbol s.Equal
sign_of o.NotEqual = t.Symbol s.NotEqual
sign_of o.Less = t.Symbol s.Less
sign_of o.AtMost = t.Symbol s.AtMost
sign_of o.Greater = t.Symbol s.Greater
sign_of o.AtLeast = t.Symbol s.AtLeast
sign_of o.In = t.Keyword k.In
sign_of o.To = t.Symbol s.DotDot
sign_of o.Plus = t.Symbol s.Plus
sign_of o.Minus = t.Symbol s.Minus
sign_of o.Times = t.Symbol s.Star
sign_of o.Div = t.Keyword k.Div
sign_of o.Mod = t.Keyword k.Mod
sign_of o.Concat = t.Symbol s.PlusPlus

abbrev pub mark_of : Sign → Token
mark_of g.Not = t.Keyword k.Not
mark_of g.Minus = t.Symbol s.Minus

abbrev pub truth_of : Bool → Token
truth_of true = t.Keyword k.True
truth_of false = t.Keyword k.False

-- at least one operator, and no second where the level has one at most
abbrev pub IsChain : Links → Type 0
IsChain x.no_links = ⊥
IsChain (x.link op p e x.no_links) = Unit {0}
IsChain (x.link op p e (x.link op2 p2 e2 more)) = single op ≡ false

abbrev pub HasSubscript : Subscripts → Type 0
HasSubscript x.no_subscripts = ⊥
HasSubscript (x.subscript i j more) = Unit {0}

-- an expression that binds no looser than n
abbrev pub bound : ℕ → Ex → (Tokens → Type 0) → Tokens → Type 0
bound n e = where_so (level e ≤ n)

abbrev pub WritesMoreNames : Names → Tokens → Type 0
WritesMoreNames [] = nothing
WritesMoreNames (n ∷ ns) = mark s.Comma ⋅ at n.0 (t.Name n.1) ⋅ WritesMoreNames ns

abbrev pub WritesNames : Names → Tokens → Type 0
WritesNames [] = none
WritesNames (n ∷ ns) = at n.0 (t.Name n.1) ⋅ WritesMoreNames ns

abbrev pub WritesMode : Mode → Tokens → Type 0
WritesMode m.Unmarked = nothing
WritesMode m.Var = word k.Var
WritesMode m.Par = word k.Par

-- ---- what a tree is written as, a node at a time

abbrev mutual
  pub Writes : Ex → Tokens → Type 0
  Writes (x.let_in p ds c e) = at p (t.Keyword k.Let) ⋅ mark s.OpenBrace ⋅ WritesDecls ds c ⋅ mark s.CloseBrace ⋅ word k.In ⋅ bound of_let e (Writes e)
  Writes (x.chain n e ls) = where_so (IsChain ls) (bound n e (Writes e) ⋅ WritesLinks n ls)
  Writes (x.prefix p g e) = at p (mark_of g) ⋅ bound 1 e (Writes e)
  Writes (x.access p e is) = from p (where_so (HasSubscript is) (bound 0 e (Writes e) ⋅ WritesSubscripts is))
  Writes (x.number p n) = at p (t.Number n)
  Writes (x.text p w) = at p (t.Text w)
  Writes (x.truth p b) = at p (truth_of b)
  Writes (x.name p w) = at p (t.Name w)
  Writes (x.call p w es) = at p (t.Name w) ⋅ mark s.OpenParenthesis ⋅ WritesList es ⋅ mark s.CloseParenthesis
  Writes (x.generator_call p w gs c e) = at p (t.Name w) ⋅ mark s.OpenParenthesis ⋅ WritesGens gs ⋅ WritesWhere c ⋅ mark s.CloseParenthesis ⋅ mark s.OpenParenthesis ⋅ Writes e ⋅ mark s.CloseParenthesis
  Writes (x.paren p e) = at p (t.Symbol s.OpenParenthesis) ⋅ Writes e ⋅ mark s.CloseParenthesis
  Writes (x.array p es) = at p (t.Symbol s.OpenBracket) ⋅ WritesList es ⋅ mark s.CloseBracket
  Writes (x.comprehension p e gs c) = at p (t.Symbol s.OpenBracket) ⋅ Writes e ⋅ mark s.Bar ⋅ WritesGens gs ⋅ WritesWhere c ⋅ mark s.CloseBracket
  Writes (x.rows p rs) = at p (t.Symbol s.OpenRows) ⋅ WritesRows rs ⋅ mark s.CloseRows
  Writes (x.set p es) = at p (t.Symbol s.OpenBrace) ⋅ WritesList es ⋅ mark s.CloseBrace
  Writes (x.if_else p c b more e) = at p (t.Keyword k.If) ⋅ (Writes c ⋅ word k.Then ⋅ Writes b) ⋅ WritesArms more ⋅ word k.Else ⋅ Writes e ⋅ word k.Endif

  -- operators whose operands bind no looser than n
  pub WritesLinks : ℕ → Links → Tokens → Type 0
  WritesLinks n x.no_links = nothing
  WritesLinks n (x.link op p e more) = where_so (operands op ≡ n) (at p (sign_of op) ⋅ bound n e (Writes e) ⋅ WritesLinks n more)

  pub WritesSubscripts : Subscripts → Tokens → Type 0
  WritesSubscripts x.no_subscripts = nothing
  WritesSubscripts (x.subscript i j more) = mark s.OpenBracket ⋅ (Writes i ⋅ WritesSecond j ⋅ mark s.CloseBracket) ⋅ WritesSubscripts more

  pub WritesSecond : Maybe → Tokens → Type 0
  WritesSecond x.absent = nothing
  WritesSecond (x.present e) = mark s.Comma ⋅ Writes e

  pub WritesWhere : Maybe → Tokens → Type 0
  WritesWhere x.absent = nothing
  WritesWhere (x.present e) = word k.Where ⋅ Writes e

  -- with commas between
  pub WritesList : Exs → Tokens → Type 0
  WritesList x.no_exs = nothing
  WritesList (x.ex e more) = Writes e ⋅ WritesMore more

  -- the same, with at least one
  pub WritesSome : Exs → Tokens → Type 0
  WritesSome x.no_exs = none
  WritesSome (x.ex e more) = Writes e ⋅ WritesMore more

  pub WritesMore : Exs → Tokens → Type 0
  WritesMore x.no_exs = nothing
  WritesMore (x.ex e more) = mark s.Comma ⋅ Writes e ⋅ WritesMore more

  pub WritesRows : Rows → Tokens → Type 0
  WritesRows x.no_rows = nothing
  WritesRows (x.row r more) = WritesSome r ⋅ WritesMoreRows more

  pub WritesMoreRows : Rows → Tokens → Type 0
  WritesMoreRows x.no_rows = nothing
  WritesMoreRows (x.row r more) = mark s.Bar ⋅ WritesSome r ⋅ WritesMoreRows more

  pub WritesArms : Arms → Tokens → Type 0
  WritesArms x.no_arms = nothing
  WritesArms (x.arm c b more) = word k.Elseif ⋅ (Writes c ⋅ word k.Then ⋅ Writes b) ⋅ WritesArms more

  pub WritesGens : Gens → Tokens → Type 0
  WritesGens x.no_gens = none
  WritesGens (x.gen ns e more) = (WritesNames ns ⋅ word k.In ⋅ bound of_membership e (Writes e)) ⋅ WritesMoreGens more

  pub WritesMoreGens : Gens → Tokens → Type 0
  WritesMoreGens x.no_gens = nothing
  WritesMoreGens (x.gen ns e more) = mark s.Comma ⋅ (WritesNames ns ⋅ word k.In ⋅ bound of_membership e (Writes e)) ⋅ WritesMoreGens more

  -- with semicolons between, and one at the end or not
  pub WritesDecls : Decls → Bool → Tokens → Type 0
  WritesDecls x.no_decls c = none
  WritesDecls (x.decl d more) c = WritesDecl d ⋅ WritesMoreDecls more c

  pub WritesMoreDecls : Decls → Bool → Tokens → Type 0
  WritesMoreDecls x.no_decls true = mark s.Semicolon
  WritesMoreDecls x.no_decls false = nothing
  WritesMoreDecls (x.decl d more) c = mark s.Semicolon ⋅ WritesDecl d ⋅ WritesMoreDecls more c

  pub WritesDecl : Decl → Tokens → Type 0
  WritesDecl (x.declare p kd w ns v) = from p ((WritesKind kd ⋅ mark s.Colon) ⋅ the (t.Name w) ⋅ WritesNotes ns ⋅ WritesValue v)

  pub WritesValue : Maybe → Tokens → Type 0
  WritesValue x.absent = nothing
  WritesValue (x.present e) = mark s.Equal ⋅ Writes e

  pub WritesKind : Kd → Tokens → Type 0
  WritesKind (x.kind is mode b) = WritesIndices is ⋅ WritesMode mode ⋅ WritesBase b

  pub WritesIndices : Indices → Tokens → Type 0
  WritesIndices x.no_indices = nothing
  WritesIndices (x.index i x.no_indices) = word k.Array ⋅ mark s.OpenBracket ⋅ WritesIndex i ⋅ mark s.CloseBracket ⋅ word k.Of
  WritesIndices (x.index i (x.index j x.no_indices)) = word k.Array ⋅ mark s.OpenBracket ⋅ WritesIndex i ⋅ mark s.Comma ⋅ WritesIndex j ⋅ mark s.CloseBracket ⋅ word k.Of
  WritesIndices (x.index i (x.index j (x.index l more))) = none

  pub WritesIndex : Maybe → Tokens → Type 0
  WritesIndex x.absent = word k.Int
  WritesIndex (x.present e) = bound of_membership e (Writes e)

  pub WritesBase : Bs → Tokens → Type 0
  WritesBase x.of_bool = word k.Bool
  WritesBase x.of_int = word k.Int
  WritesBase x.of_string = word k.String
  WritesBase x.of_ann = word k.Ann
  WritesBase x.set_of_int = word k.Set ⋅ word k.Of ⋅ word k.Int
  WritesBase (x.set_of e) = word k.Set ⋅ word k.Of ⋅ bound of_membership e (Writes e)
  WritesBase (x.of_values e) = bound of_membership e (Writes e)

  pub WritesNotes : Notes → Tokens → Type 0
  WritesNotes x.no_notes = nothing
  WritesNotes (x.note p w es more) = at p (t.Symbol s.ColonColon) ⋅ (the (t.Name w) ⋅ WritesArguments es) ⋅ WritesNotes more

  -- one or more in parentheses, or nothing at all
  pub WritesArguments : Exs → Tokens → Type 0
  WritesArguments x.no_exs = nothing
  WritesArguments (x.ex e more) = mark s.OpenParenthesis ⋅ (Writes e ⋅ WritesMore more) ⋅ mark s.CloseParenthesis

-- ---- items

abbrev pub WritesParam : Place × Kd × List ℕ → Tokens → Type 0
WritesParam p = from p.0 ((WritesKind p.1 ⋅ mark s.Colon) ⋅ the (t.Name p.2))

abbrev pub WritesMoreParams : Params → Tokens → Type 0
WritesMoreParams [] = nothing
WritesMoreParams (p ∷ ps) = mark s.Comma ⋅ WritesParam p ⋅ WritesMoreParams ps

abbrev pub WritesParamList : Params → Tokens → Type 0
WritesParamList [] = nothing
WritesParamList (p ∷ ps) = WritesParam p ⋅ WritesMoreParams ps

abbrev pub WritesParams : Params → Tokens → Type 0
WritesParams ps = mark s.OpenParenthesis ⋅ WritesParamList ps ⋅ mark s.CloseParenthesis

abbrev pub WritesNameList : Names → Tokens → Type 0
WritesNameList [] = nothing
WritesNameList (n ∷ ns) = at n.0 (t.Name n.1) ⋅ WritesMoreNames ns

abbrev pub WritesElements : Option Names → Tokens → Type 0
WritesElements None = nothing
WritesElements (Some ns) = mark s.Equal ⋅ mark s.OpenBrace ⋅ WritesNameList ns ⋅ mark s.CloseBrace

abbrev pub WritesGoal : Gl → Tokens → Type 0
WritesGoal (x.satisfy p) = at p (t.Keyword k.Satisfy)
WritesGoal (x.minimize p e) = at p (t.Keyword k.Minimize) ⋅ Writes e
WritesGoal (x.maximize p e) = at p (t.Keyword k.Maximize) ⋅ Writes e
WritesGoal (x.search_by p e) = at p (t.Keyword k.Search) ⋅ Writes e

abbrev pub WritesItem : It → Tokens → Type 0
WritesItem (x.include p w) = at p (t.Keyword k.Include) ⋅ the (t.Text w)
WritesItem (x.declaration d) = WritesDecl d
WritesItem (x.enumeration p w ns) = at p (t.Keyword k.Enum) ⋅ the (t.Name w) ⋅ WritesElements ns
WritesItem (x.assignment p w e) = at p (t.Name w) ⋅ mark s.Equal ⋅ Writes e
WritesItem (x.constraint p e ns) = at p (t.Keyword k.Constraint) ⋅ Writes e ⋅ WritesNotes ns
WritesItem (x.solve p ns goal) = at p (t.Keyword k.Solve) ⋅ WritesNotes ns ⋅ WritesGoal goal
WritesItem (x.output p e) = at p (t.Keyword k.Output) ⋅ Writes e
WritesItem (x.predicate p w ps e) = at p (t.Keyword k.Predicate) ⋅ the (t.Name w) ⋅ WritesParams ps ⋅ mark s.Equal ⋅ Writes e
WritesItem (x.function p kd w ps e) = at p (t.Keyword k.Function) ⋅ (WritesKind kd ⋅ mark s.Colon) ⋅ the (t.Name w) ⋅ WritesParams ps ⋅ mark s.Equal ⋅ Writes e

-- each behind a semicolon, and one at the end or not
abbrev pub WritesMoreItems : {A : Type 0} → (A → Tokens → Type 0) → List A → Bool → Tokens → Type 0
WritesMoreItems writes [] true = mark s.Semicolon
WritesMoreItems writes [] false = nothing
WritesMoreItems writes (a ∷ more) c = mark s.Semicolon ⋅ writes a ⋅ WritesMoreItems writes more c

abbrev pub WritesItems : {A : Type 0} → (A → Tokens → Type 0) → List A → Bool → Tokens → Type 0
WritesItems writes [] true = none
WritesItems writes [] false = nothing
WritesItems writes (a ∷ more) c = writes a ⋅ WritesMoreItems writes more c

abbrev pub WritesTree : Items → Tokens → Type 0
WritesTree r = WritesItems WritesItem r.0 r.1

abbrev pub WritesPair : Place × List ℕ × Ex → Tokens → Type 0
WritesPair a = at a.0 (t.Name a.1) ⋅ mark s.Equal ⋅ Writes a.2

abbrev pub WritesPairs : Pairs → Tokens → Type 0
WritesPairs r = WritesItems WritesPair r.0 r.1

-- ---- nesting

abbrev pub opens : Token → Bool
opens (t.Symbol s.OpenParenthesis) = true
opens (t.Symbol s.OpenBracket) = true
opens (t.Symbol s.OpenRows) = true
opens (t.Symbol s.OpenBrace) = true
opens (t.Keyword k.If) = true
opens _ = false

abbrev pub closes : Token → Bool
closes (t.Symbol s.CloseParenthesis) = true
closes (t.Symbol s.CloseBracket) = true
closes (t.Symbol s.CloseRows) = true
closes (t.Symbol s.CloseBrace) = true
closes (t.Keyword k.Endif) = true
closes _ = false

abbrev pub less_one : ℕ → Option ℕ
less_one zero = None
less_one (suc n) = Some n

-- how many more may open, after a token that opens or closes or neither
abbrev pub left_after : ℕ → Token → Option ℕ
left_after n token = if opens token then less_one n else (if closes token then Some (suc n) else Some n)

-- how many more may open after the tokens, and None where they pass what may
abbrev pub left : ℕ → Tokens → Option ℕ
left n [] = Some n
left n (y ∷ w) = option_and_then (λ m. left m w) (left_after n y.token)

abbrev pub max_nesting : ℕ
max_nesting = NESTING_LIMIT

abbrev pub IsShallow : Tokens → Type 0
IsShallow w = IsSome (left max_nesting w)

-- ---- the first fault, of tokens that are to be written as a value of a language

-- a list of the language, nesting aside, begins with these tokens
abbrev pub Begins : {A : Type 0} → (A → Tokens → Type 0) → Tokens → Type 0
Begins {A} writes w = (x : A) × (more : Tokens) × writes x (w ++ more)

-- no list of the language begins with w and the next token; at the end none is w
abbrev pub CannotGoOn : {A : Type 0} → (A → Tokens → Type 0) → Tokens → Tokens → Type 0
CannotGoOn {A} writes w [] = (x : A) → writes x w → ⊥
CannotGoOn writes w (y ∷ r) = Begins writes (w ++ y ∷ []) → ⊥

-- the k-th token is the first that cannot stand there
pub record SyntaxAt {A : Type 0} (writes : A → Tokens → Type 0) (ts : Tokens) (k : ℕ) : Type 0 where
  pub front : Tokens
  pub rest : Tokens
  pub whole : ts ≡ front ++ rest
  pub count : length front ≡ k
  pub begins : Begins writes front
  pub shallow : IsShallow front
  pub next : CannotGoOn writes front rest

-- the k-th token can stand there, and is the first at which brackets nest too deep
pub record DeepAt {A : Type 0} (writes : A → Tokens → Type 0) (ts : Tokens) (k : ℕ) : Type 0 where
  pub front : Tokens
  pub opening : Spanned
  pub rest : Tokens
  pub whole : ts ≡ front ++ opening ∷ rest
  pub count : length front ≡ k
  pub begins : Begins writes (front ++ opening ∷ [])
  pub shallow : IsShallow front
  pub passes : left max_nesting (front ++ opening ∷ []) ≡ None
