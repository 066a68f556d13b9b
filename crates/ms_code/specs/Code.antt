-- The typed tree of an expression that has a type.
use Rattle.std.specs.Prelude.{ℕ, suc, nat_lt, Bool, true, false, not, ◌||◌, ◌&&◌, List, [], ◌∷◌, length, take, drop, Option, Some, None, option_map, unwrap_or, if◌then◌else◌}
use Rattle.ms_syntax.specs.declared.token.Place.{Place}
use Rattle.ms_syntax.specs.declared.tree.Operator.{Operator}
use Rattle.ms_syntax.specs.declared.tree.Operator.TheVariants as o
use Rattle.ms_syntax.specs.Tree.{Arms, Decl, Decls, Ex, Exs, Gens, Links, Maybe, Rows, Subscripts}
use Rattle.ms_syntax.specs.Tree as x
use Rattle.ms_typing.specs.declared.types.ExprType.{ExprType}
use Rattle.ms_typing.specs.declared.types.ExprType.TheVariants.{Plain, Text, Set, Search}
use Rattle.ms_typing.specs.declared.types.Scalar.TheVariants.{Number}
use Rattle.ms_typing.specs.declared.types.Shape.TheVariants.{Single, Line}
use Rattle.ms_typing.specs.declared.types.Surroundings.{Surroundings}
use Rattle.ms_built_ins.specs.declared.names.BuiltIn.{BuiltIn}
use Rattle.ms_built_ins.specs.declared.names.BuiltIn.TheVariants as b
use Rattle.ms_typing.specs.Conversion.{converts, known_of, shaped, truths}
use Rattle.ms_typing.specs.Row.{is_array_type}
use Rattle.ms_typing.specs.Kinds.{type_of_kind}
use Rattle.ms_typing.specs.Least.{Typing, typing}
use Rattle.ms_typing.specs.Least as l
use Rattle.ms_typing.specs.Meaning.{Meaning, Names, Told, World, is_search, look, seen, tell}
use Rattle.ms_typing.specs.Meaning as m
use Rattle.ms_typing.specs.Term.{term_of, with_gens, with_local, with_locals, with_names}
use Rattle.ms_code.specs.References.{refer}
use Rattle.ms_code.specs.declared.code.Reference.{Reference}
use Rattle.ms_code.specs.declared.code.Reference.TheVariants as r
use Rattle.ms_code.specs.declared.code.Condition.{Condition}
use Rattle.ms_code.specs.declared.code.Condition.TheVariants as k
use Rattle.ms_code.specs.declared.code.Code.{Code}
use Rattle.ms_code.specs.declared.code.Code.TheVariants as c
use Rattle.ms_code.specs.declared.code.Arm.{Arm, roll-Arm}
use Rattle.ms_code.specs.declared.code.Generator.{Generator, roll-Generator}
use Rattle.ms_code.specs.declared.code.Generators.{Generators, roll-Generators}
use Rattle.ms_code.specs.declared.code.Link.{Link, roll-Link}
use Rattle.ms_code.specs.declared.code.Row.{Row, roll-Row}
use Rattle.ms_code.specs.declared.code.Subscript.{Subscript, roll-Subscript}

-- ---- types: what has none counts as a bool, and its tree means nothing

abbrev pub least : Typing ExprType → ExprType
least (l.has t) = t
least (l.fault why p) = truths true

-- the least type of an expression
abbrev pub type_of : World → Surroundings → Names → Ex → ExprType
type_of world s ns e = least (typing (term_of world s ns e))

-- where a name leads; what stands for nothing counts as the latest local
abbrev pub led : Option Reference → Reference
led o = unwrap_or o (r.Local 0)

-- ---- conversions

-- a value of the second type, where the first is asked for: a type to which what was asked for converts is that type
abbrev pub brought : ExprType → ExprType → Code → Code
brought asked own e = if converts asked own then e else c.Convert asked e

-- operands of `++` over arrays become arrays of the joint type, and operands of a search become searches; operators take
-- all others as they are
abbrev pub asked_operand : ExprType → ExprType → ExprType
asked_operand whole own = if is_search whole || is_array_type whole then whole else own

-- ---- what functions ask for

-- the searches among the arguments of a built-in name, the constraint that is posted and the vector that is kept; a
-- built-in name takes all others as they are
abbrev pub asked_of_built_in : BuiltIn → List ExprType → List ExprType
asked_of_built_in b.Scope ts = Search ∷ []
asked_of_built_in b.Repeat ts = Search ∷ []
asked_of_built_in b.TimeLimit [] = []
asked_of_built_in b.TimeLimit (t ∷ ts) = t ∷ Search ∷ []
asked_of_built_in b.Post ts = truths false ∷ []
asked_of_built_in b.Keep ts = Plain Number Line false ∷ []
asked_of_built_in other ts = ts

-- the types of arguments, where these are their own
abbrev pub asked_of : Told → List ExprType → List ExprType
asked_of (m.means (m.function us t)) ts = us
asked_of (m.means (m.built_in name)) ts = asked_of_built_in name ts
asked_of (m.means (m.value t)) ts = ts
asked_of (m.barred meaning) ts = ts
asked_of m.unknown ts = ts

abbrev pub first_or : ExprType → List ExprType → ExprType
first_or t [] = t
first_or t (u ∷ us) = u

-- the type of the array that a function is given, where its elements are of this type
abbrev pub gathered : Told → ExprType → ExprType
gathered told t = first_or (shaped Line t) (asked_of told (shaped Line t ∷ []))

abbrev pub is_repeat : Told → Bool
is_repeat (m.means (m.built_in b.Repeat)) = true
is_repeat told = false

-- ---- conditions

abbrev pub condition_of : ExprType → Condition
condition_of t = if is_search t then k.Search else (if known_of t then k.Known else k.Variable)

-- ---- expressions

-- an operand of a chain, where the whole is of the first type and the operand of the second
abbrev pub operand : ExprType → ExprType → Code → Code
operand whole own e = brought (asked_operand whole own) own e

abbrev pub is_xor : Operator → Bool
is_xor o.Xor = true
is_xor other = false

-- how many links of a chain there are through the last `xor`; 0 where there is none
abbrev pub through_xor : Links → ℕ
through_xor x.no_links = 0
through_xor (x.link op p e links) = if nat_lt 0 (through_xor links) then suc (through_xor links) else (if is_xor op then 1 else 0)

-- a chain from its first operand and its links, which are given as they are and brought to what the chain asks. Of a chain
-- that is a search, what stands through the last `xor` is one operand, a known bool
abbrev pub chain : ExprType → ExprType → ℕ → Code → List Link → List Link → Code
chain whole own n first plain asked =
    if is_search whole && nat_lt 0 n then c.Chain (c.Convert Search (c.Chain first (take n plain))) (drop n asked)
    else c.Chain (operand whole own first) asked

-- the call of a function whose array is made by generators
abbrev pub generator_call : Told → Place → Reference → ExprType → Generators → Code → Code
generator_call told p r own gens e =
    if is_repeat told then c.RepeatEach p gens (brought Search own e)
    else c.Call p r (c.Gathered p (gathered told own) gens (brought (shaped Single (gathered told own)) own e) ∷ [])

-- a condition of this type, with its branch
abbrev pub arm : ExprType → Code → Code → Arm
arm own e branch = roll-Arm (record { kind = condition_of own; condition = e; branch = branch })

abbrev pub link : Operator → Place → Code → Link
link op p e = roll-Link (record { operator = op; place = p; operand = e })

abbrev pub subscript : Code → Option Code → Subscript
subscript e other = roll-Subscript (record { first = e; second = other })

abbrev pub row : List Code → Row
row es = roll-Row (record { elements = es })

-- where nothing stands
abbrev pub nowhere : Place
nowhere = record { file = 0; line = 1; col = 1 }

-- the place of the first name
abbrev pub first_place : x.Names → Place
first_place [] = nowhere
first_place (n ∷ ns) = n.0

abbrev pub generator : x.Names → Code → Generator
generator bs e = roll-Generator (record { place = first_place bs; names = length bs; set = e })

abbrev pub generators : List Generator → Option Code → Generators
generators list condition = roll-Generators (record { list = list; condition = condition })

abbrev pub types_of : World → Surroundings → Names → Exs → List ExprType
types_of world s ns x.no_exs = []
types_of world s ns (x.ex e es) = type_of world s ns e ∷ types_of world s ns es

abbrev mutual
  pub code_of : World → Surroundings → Names → Ex → Code
  code_of world s ns (x.let_in p ds closed e) = c.Let p (locals_code world s ns ds) (code_of world s (with_locals ds ns) e)
  code_of world s ns (x.chain level e links) =
      let whole = type_of world s ns (x.chain level e links) in
      chain whole (type_of world s ns e) (through_xor links) (code_of world s ns e) (links_code (truths true) world s ns links) (links_code whole world s ns links)
  code_of world s ns (x.prefix p sign e) = c.Prefix p sign (code_of world s ns e)
  code_of world s ns (x.access p e is) = c.Access p (code_of world s ns e) (subscripts_code world s ns is)
  code_of world s ns (x.number p n) = c.Number p n
  code_of world s ns (x.text p w) = c.Text p w
  code_of world s ns (x.truth p b) = c.Truth p b
  code_of world s ns (x.name p w) = c.Name p (led (refer world p ns w))
  code_of world s ns (x.call p w es) =
      c.Call p (led (refer world p ns w)) (arguments_code (asked_of (tell s (look world p ns w)) (types_of world s ns es)) world s ns es)
  code_of world s ns (x.generator_call p w gs condition e) =
      let inner = with_gens gs ns in
      generator_call (tell s (look world p ns w)) p (led (refer world p ns w)) (type_of world s inner e)
      (generators (gens_code world s ns gs) (maybe_code world s inner condition)) (code_of world s inner e)
  code_of world s ns (x.paren p e) = c.Parenthesis p (code_of world s ns e)
  code_of world s ns (x.array p es) =
      let whole = type_of world s ns (x.array p es) in
      c.Array p whole (elements_code (shaped Single whole) world s ns es)
  code_of world s ns (x.comprehension p e gs condition) =
      let inner = with_gens gs ns in
      c.Comprehension p (type_of world s ns (x.comprehension p e gs condition)) (generators (gens_code world s ns gs) (maybe_code world s inner condition))
      (code_of world s inner e)
  code_of world s ns (x.rows p rs) =
      let whole = type_of world s ns (x.rows p rs) in
      c.Rows p whole (rows_code (shaped Single whole) world s ns rs)
  code_of world s ns (x.set p es) = c.Set p (plain_code world s ns es)
  code_of world s ns (x.if_else p e b arms last) =
      let whole = type_of world s ns (x.if_else p e b arms last) in
      c.If p (arm (type_of world s ns e) (code_of world s ns e) (brought whole (type_of world s ns b) (code_of world s ns b)) ∷ arms_code whole world s ns arms)
      (brought whole (type_of world s ns last) (code_of world s ns last))

  -- what follows the first operand of a chain of the first type
  pub links_code : ExprType → World → Surroundings → Names → Links → List Link
  links_code whole world s ns x.no_links = []
  links_code whole world s ns (x.link op p e links) =
      link op p (operand whole (type_of world s ns e) (code_of world s ns e)) ∷ links_code whole world s ns links

  pub subscripts_code : World → Surroundings → Names → Subscripts → List Subscript
  subscripts_code world s ns x.no_subscripts = []
  subscripts_code world s ns (x.subscript e other is) = subscript (code_of world s ns e) (maybe_code world s ns other) ∷ subscripts_code world s ns is

  pub maybe_code : World → Surroundings → Names → Maybe → Option Code
  maybe_code world s ns x.absent = None
  maybe_code world s ns (x.present e) = Some (code_of world s ns e)

  pub plain_code : World → Surroundings → Names → Exs → List Code
  plain_code world s ns x.no_exs = []
  plain_code world s ns (x.ex e es) = code_of world s ns e ∷ plain_code world s ns es

  -- all brought to one type
  pub elements_code : ExprType → World → Surroundings → Names → Exs → List Code
  elements_code t world s ns x.no_exs = []
  elements_code t world s ns (x.ex e es) = brought t (type_of world s ns e) (code_of world s ns e) ∷ elements_code t world s ns es

  -- each brought to its own
  pub arguments_code : List ExprType → World → Surroundings → Names → Exs → List Code
  arguments_code ts world s ns x.no_exs = []
  arguments_code [] world s ns (x.ex e es) = code_of world s ns e ∷ arguments_code [] world s ns es
  arguments_code (t ∷ ts) world s ns (x.ex e es) = brought t (type_of world s ns e) (code_of world s ns e) ∷ arguments_code ts world s ns es

  pub rows_code : ExprType → World → Surroundings → Names → Rows → List Row
  rows_code t world s ns x.no_rows = []
  rows_code t world s ns (x.row es rs) = row (elements_code t world s ns es) ∷ rows_code t world s ns rs

  -- further conditions with their branches, which are brought to the first type
  pub arms_code : ExprType → World → Surroundings → Names → Arms → List Arm
  arms_code t world s ns x.no_arms = []
  arms_code t world s ns (x.arm e b arms) =
      arm (type_of world s ns e) (code_of world s ns e) (brought t (type_of world s ns b) (code_of world s ns b)) ∷ arms_code t world s ns arms

  pub gens_code : World → Surroundings → Names → Gens → List Generator
  gens_code world s ns x.no_gens = []
  gens_code world s ns (x.gen bs e gs) = generator bs (code_of world s ns e) ∷ gens_code world s (with_names bs ns) gs

  -- the values of locals, each brought to the type that it is declared with
  pub locals_code : World → Surroundings → Names → Decls → List Code
  locals_code world s ns x.no_decls = []
  locals_code world s ns (x.decl d ds) = local_code world s ns d ∷ locals_code world s (with_local d ns) ds

  pub local_code : World → Surroundings → Names → Decl → Code
  local_code world s ns (x.declare p kd w notes value) = value_code (seen s (type_of_kind kd)) world s ns value

  -- a value brought to this type; every local has one
  pub value_code : ExprType → World → Surroundings → Names → Maybe → Code
  value_code t world s ns x.absent = c.Truth nowhere true
  value_code t world s ns (x.present e) = brought t (type_of world s ns e) (code_of world s ns e)
