-- The rules of items, of data and of all of the tokens, each as what it reads. No bracket is open
-- here: as many may open as may at all.
use Rattle.std.specs.Prelude.{ℕ, suc, pred, List, [], Option, Some, None, option_and_then, Bool}
use Rattle.ms_base.specs.declared.limits.TheConstants.{NESTING_LIMIT}
use Rattle.ms_syntax.specs.declared.token.Token.{Token}
use Rattle.ms_syntax.specs.declared.token.Keyword.TheVariants as k
use Rattle.ms_syntax.specs.declared.token.Symbol.TheVariants as s
use Rattle.ms_syntax.specs.declared.token.Place.{Place}
use Rattle.ms_syntax.specs.declared.tree.Mode.TheVariants as m
use Rattle.ms_syntax.specs.Tree as x
use Rattle.ms_syntax.specs.Tree.{Names, Ex, Maybe, Decl, Kd, Notes, Params, Gl, It}
use Rattle.ms_expressions.specs.declared.reach.Reach.TheVariants as reach
use Rattle.ms_cursor.specs.Reading.{Parser, pick, front, ◌>>=◌, pure, by, must, separated}
use Rattle.ms_cursor.specs.Reading.{placed, pair, into, skip, closing, enter, finish}
use Rattle.ms_cursor.specs.Kinds.{a_text, symbol, keyword, kind_word}
use Rattle.ms_expressions.specs.Rules.{under, a_word, a_binder, names}
use Rattle.ms_expressions.specs.Rules as r
use Rattle.ms_parser.specs.Lists.{items}

-- ---- of which items are made

abbrev pub any : Parser Ex
any = under (suc NESTING_LIMIT) reach.Any

abbrev pub range : Parser Ex
range = under (suc NESTING_LIMIT) reach.Range

abbrev pub kind : Parser Kd
kind = r.kind NESTING_LIMIT (under (suc NESTING_LIMIT)) (under NESTING_LIMIT)

abbrev pub notes : Parser Notes
notes = r.notes NESTING_LIMIT (under (suc NESTING_LIMIT)) (under NESTING_LIMIT)

-- behind a kind and its colon
abbrev pub declared : Parser (List ℕ × (Notes × Maybe))
declared = r.declared NESTING_LIMIT (under (suc NESTING_LIMIT)) (under NESTING_LIMIT)

abbrev pub declaration : Parser Decl
declaration = r.declaration NESTING_LIMIT (under (suc NESTING_LIMIT)) (under NESTING_LIMIT)

-- the same behind a kind that has been read
abbrev pub declared_as : Place → Kd → Parser Decl
declared_as p kd = into (λ c. x.declare p kd c.0 c.1.0 c.1.1) declared

-- inside a bracket
abbrev pub parameter : Parser (Place × Kd × List ℕ)
parameter = r.parameter (pred NESTING_LIMIT) (under NESTING_LIMIT) (under (pred NESTING_LIMIT))

abbrev pub a_string : Parser (List ℕ)
a_string = into (λ c. c.0) (must a_text)

-- ---- parts of items

unfoldable pub name_list : Parser Names
name_list = by (symbol s.CloseBrace) (λ a y. pure []) (closing (symbol s.CloseBrace) names)

unfoldable pub elements : Parser (Option Names)
elements =
    by (symbol s.Equal) (λ a y. into Some (enter NESTING_LIMIT (symbol s.OpenBrace) >>= λ c. name_list))
    (pure None)

unfoldable pub parameter_list : Parser Params
parameter_list =
    by (symbol s.CloseParenthesis) (λ a y. pure [])
    (closing (symbol s.CloseParenthesis) (separated (symbol s.Comma) parameter))

unfoldable pub parameters : Parser Params
parameters = enter NESTING_LIMIT (symbol s.OpenParenthesis) >>= λ c. parameter_list

unfoldable pub goal : Parser Gl
goal =
    by (keyword k.Satisfy) (λ a y. pure (x.satisfy y.place))
    (by (keyword k.Minimize) (λ a y. into (x.minimize y.place) any)
    (by (keyword k.Maximize) (λ a y. into (x.maximize y.place) any)
    (must (keyword k.Search) >>= λ c. into (x.search_by c.1.place) any)))

-- behind `=`
abbrev pub body : Parser Ex
body = skip (symbol s.Equal) any

-- ---- items, behind the words that they begin with

abbrev pub include : Place → Parser It
include p = into (x.include p) a_string

abbrev pub enumeration : Place → Parser It
enumeration p = into (λ c. x.enumeration p c.0 c.1) (pair a_word elements)

abbrev pub constraint : Place → Parser It
constraint p = into (λ c. x.constraint p c.0 c.1) (pair any notes)

abbrev pub solve : Place → Parser It
solve p = into (λ c. x.solve p c.0 c.1) (pair notes goal)

abbrev pub output : Place → Parser It
output p = into (x.output p) any

abbrev pub predicate : Place → Parser It
predicate p = into (λ c. x.predicate p c.0 c.1.0 c.1.1) (pair a_word (pair parameters body))

abbrev pub function : Place → Parser It
function p =
    into (λ c. x.function p c.0 c.1.0 c.1.1.0 c.1.1.1)
    (pair kind (pair a_word (pair parameters body)))

-- ---- items that begin with a range

-- the name that an expression is, if it is one and a token of f comes
abbrev pub if_name : Ex → (Token → Option (Unit {0})) → Token → Option (List ℕ)
if_name (x.name p w) f t = option_and_then (λ a. Some w) (f t)
if_name _ f t = None

-- a declaration whose kind is the values of a set
abbrev pub of_values : Place → Ex → Parser It
of_values p e =
    skip (symbol s.Colon)
    (into (λ c. x.declaration (x.declare p (x.kind x.no_indices m.Unmarked (x.of_values e))
    c.0 c.1.0 c.1.1)) declared)

-- a name that is assigned a value, or such a declaration
abbrev pub behind_range : Place → Ex → Parser It
behind_range p e =
    by (if_name e (symbol s.Equal)) (λ w y. into (x.assignment p w) any) (of_values p e)

unfoldable pub of_range : Parser It
of_range = placed range >>= λ r. behind_range r.0 r.1

-- ---- an item

-- goes by the next token, which is left where it is
abbrev pub peek : {A B : Type 0} → (Token → Option A) → Parser B → Parser B → Parser B
peek f p q = λ ts. pick (front f ts) (λ a. p ts) (q ts)

unfoldable pub an_item : Parser It
an_item =
    by (keyword k.Include) (λ a y. include y.place)
    (by (keyword k.Enum) (λ a y. enumeration y.place)
    (by (keyword k.Constraint) (λ a y. constraint y.place)
    (by (keyword k.Solve) (λ a y. solve y.place)
    (by (keyword k.Output) (λ a y. output y.place)
    (by (keyword k.Predicate) (λ a y. predicate y.place)
    (by (keyword k.Function) (λ a y. function y.place)
    (peek kind_word (into x.declaration declaration) of_range)))))))

-- a name and its value, in data
unfoldable pub assignment : Parser (Place × List ℕ × Ex)
assignment = into {B = Place × List ℕ × Ex} (λ r. (r.0.0, r.0.1, r.1)) (pair a_binder body)

-- ---- all of the tokens

unfoldable pub statement : Parser Ex
statement = any >>= finish

unfoldable pub assignments : Parser (List (Place × List ℕ × Ex) × Bool)
assignments = items assignment >>= finish

unfoldable pub model : Parser (List It × Bool)
model = items an_item >>= finish
