-- The typed tree of an expression, as `code_of` of `ms_code`, from the types that the walk gives. That both are one is proved
-- (`proofs/Made`).
use Rattle.std.specs.Prelude.{true, List, [], ◌∷◌, Option, Some, None}
use Rattle.ms_syntax.specs.Tree.{Arms, Decl, Decls, Ex, Exs, Gens, Links, Maybe, Rows, Subscripts}
use Rattle.ms_syntax.specs.Tree as x
use Rattle.ms_typing.specs.declared.types.ExprType.{ExprType}
use Rattle.ms_typing.specs.declared.types.Shape.TheVariants.{Single}
use Rattle.ms_typing.specs.declared.types.Surroundings.{Surroundings}
use Rattle.ms_typing.specs.Conversion.{shaped, truths}
use Rattle.ms_typing.specs.Kinds.{type_of_kind}
use Rattle.ms_typing.specs.Meaning.{Names, World, look, seen, tell}
use Rattle.ms_typing.specs.Term.{with_gens, with_local, with_locals, with_names}
use Rattle.ms_code.specs.References.{refer}
use Rattle.ms_code.specs.Code.{arm, asked_of, brought, chain, generator, generator_call, generators, least, led, link, nowhere, operand, row, subscript, through_xor}
use Rattle.ms_code.specs.declared.code.Code.{Code}
use Rattle.ms_code.specs.declared.code.Code.TheVariants as c
use Rattle.ms_code.specs.declared.code.Arm.{Arm}
use Rattle.ms_code.specs.declared.code.Generator.{Generator}
use Rattle.ms_code.specs.declared.code.Link.{Link}
use Rattle.ms_code.specs.declared.code.Row.{Row}
use Rattle.ms_code.specs.declared.code.Subscript.{Subscript}
use Rattle.ms_elaborator.specs.Walk.{walk}

-- the type that the walk gives
abbrev pub type_walked : World → Surroundings → Names → Ex → ExprType
type_walked world s ns e = least (walk world s ns e)

abbrev pub types_walked : World → Surroundings → Names → Exs → List ExprType
types_walked world s ns x.no_exs = []
types_walked world s ns (x.ex e es) = type_walked world s ns e ∷ types_walked world s ns es

abbrev mutual
  pub made_of : World → Surroundings → Names → Ex → Code
  made_of world s ns (x.let_in p ds closed e) = c.Let p (locals_made world s ns ds) (made_of world s (with_locals ds ns) e)
  made_of world s ns (x.chain level e links) =
      let whole = type_walked world s ns (x.chain level e links) in
      chain whole (type_walked world s ns e) (through_xor links) (made_of world s ns e) (links_made (truths true) world s ns links) (links_made whole world s ns links)
  made_of world s ns (x.prefix p sign e) = c.Prefix p sign (made_of world s ns e)
  made_of world s ns (x.access p e is) = c.Access p (made_of world s ns e) (subscripts_made world s ns is)
  made_of world s ns (x.number p n) = c.Number p n
  made_of world s ns (x.text p w) = c.Text p w
  made_of world s ns (x.truth p b) = c.Truth p b
  made_of world s ns (x.name p w) = c.Name p (led (refer world p ns w))
  made_of world s ns (x.call p w es) =
      c.Call p (led (refer world p ns w)) (arguments_made (asked_of (tell s (look world p ns w)) (types_walked world s ns es)) world s ns es)
  made_of world s ns (x.generator_call p w gs condition e) =
      let inner = with_gens gs ns in
      generator_call (tell s (look world p ns w)) p (led (refer world p ns w)) (type_walked world s inner e)
      (generators (gens_made world s ns gs) (maybe_made world s inner condition)) (made_of world s inner e)
  made_of world s ns (x.paren p e) = c.Parenthesis p (made_of world s ns e)
  made_of world s ns (x.array p es) =
      let whole = type_walked world s ns (x.array p es) in
      c.Array p whole (elements_made (shaped Single whole) world s ns es)
  made_of world s ns (x.comprehension p e gs condition) =
      let inner = with_gens gs ns in
      c.Comprehension p (type_walked world s ns (x.comprehension p e gs condition)) (generators (gens_made world s ns gs) (maybe_made world s inner condition))
      (made_of world s inner e)
  made_of world s ns (x.rows p rs) =
      let whole = type_walked world s ns (x.rows p rs) in
      c.Rows p whole (rows_made (shaped Single whole) world s ns rs)
  made_of world s ns (x.set p es) = c.Set p (plain_made world s ns es)
  made_of world s ns (x.if_else p e b arms last) =
      let whole = type_walked world s ns (x.if_else p e b arms last) in
      c.If p (arm (type_walked world s ns e) (made_of world s ns e) (brought whole (type_walked world s ns b) (made_of world s ns b)) ∷ arms_made whole world s ns arms)
      (brought whole (type_walked world s ns last) (made_of world s ns last))

  -- what follows the first operand of a chain of the first type
  pub links_made : ExprType → World → Surroundings → Names → Links → List Link
  links_made whole world s ns x.no_links = []
  links_made whole world s ns (x.link op p e links) =
      link op p (operand whole (type_walked world s ns e) (made_of world s ns e)) ∷ links_made whole world s ns links

  pub subscripts_made : World → Surroundings → Names → Subscripts → List Subscript
  subscripts_made world s ns x.no_subscripts = []
  subscripts_made world s ns (x.subscript e other is) = subscript (made_of world s ns e) (maybe_made world s ns other) ∷ subscripts_made world s ns is

  pub maybe_made : World → Surroundings → Names → Maybe → Option Code
  maybe_made world s ns x.absent = None
  maybe_made world s ns (x.present e) = Some (made_of world s ns e)

  pub plain_made : World → Surroundings → Names → Exs → List Code
  plain_made world s ns x.no_exs = []
  plain_made world s ns (x.ex e es) = made_of world s ns e ∷ plain_made world s ns es

  -- all brought to one type
  pub elements_made : ExprType → World → Surroundings → Names → Exs → List Code
  elements_made t world s ns x.no_exs = []
  elements_made t world s ns (x.ex e es) = brought t (type_walked world s ns e) (made_of world s ns e) ∷ elements_made t world s ns es

  -- each brought to its own
  pub arguments_made : List ExprType → World → Surroundings → Names → Exs → List Code
  arguments_made ts world s ns x.no_exs = []
  arguments_made [] world s ns (x.ex e es) = made_of world s ns e ∷ arguments_made [] world s ns es
  arguments_made (t ∷ ts) world s ns (x.ex e es) = brought t (type_walked world s ns e) (made_of world s ns e) ∷ arguments_made ts world s ns es

  pub rows_made : ExprType → World → Surroundings → Names → Rows → List Row
  rows_made t world s ns x.no_rows = []
  rows_made t world s ns (x.row es rs) = row (elements_made t world s ns es) ∷ rows_made t world s ns rs

  -- further conditions with their branches, which are brought to the first type
  pub arms_made : ExprType → World → Surroundings → Names → Arms → List Arm
  arms_made t world s ns x.no_arms = []
  arms_made t world s ns (x.arm e b arms) =
      arm (type_walked world s ns e) (made_of world s ns e) (brought t (type_walked world s ns b) (made_of world s ns b)) ∷ arms_made t world s ns arms

  pub gens_made : World → Surroundings → Names → Gens → List Generator
  gens_made world s ns x.no_gens = []
  gens_made world s ns (x.gen bs e gs) = generator bs (made_of world s ns e) ∷ gens_made world s (with_names bs ns) gs

  -- the values of locals, each brought to the type that it is declared with
  pub locals_made : World → Surroundings → Names → Decls → List Code
  locals_made world s ns x.no_decls = []
  locals_made world s ns (x.decl d ds) = local_made world s ns d ∷ locals_made world s (with_local d ns) ds

  pub local_made : World → Surroundings → Names → Decl → Code
  local_made world s ns (x.declare p kd w notes value) = value_made (seen s (type_of_kind kd)) world s ns value

  -- a value brought to this type; every local has one
  pub value_made : ExprType → World → Surroundings → Names → Maybe → Code
  value_made t world s ns x.absent = c.Truth nowhere true
  value_made t world s ns (x.present e) = brought t (type_walked world s ns e) (made_of world s ns e)
