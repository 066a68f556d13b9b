-- The order in which the code asks for types. That this is the typing of a term is proved (`proofs/Walked`).
use Rattle.std.specs.Prelude.{ℕ, suc, true, List, [], ◌∷◌, ◌++◌, ◌==◌, if◌then◌else◌}
use Rattle.ms_syntax.specs.declared.token.Place.{Place}
use Rattle.ms_syntax.specs.declared.tree.Operator.{Operator}
use Rattle.ms_syntax.specs.Tree.{Arms, Bs, Decl, Decls, Ex, Exs, Gens, Indices, Kd, Links, Maybe, Rows, Subscripts, of_concat}
use Rattle.ms_syntax.specs.Tree as x
use Rattle.ms_typing.specs.declared.types.ExprType.{ExprType}
use Rattle.ms_typing.specs.declared.types.Surroundings.{Surroundings}
use Rattle.ms_typing.specs.Conversion.{truths}
use Rattle.ms_typing.specs.Kinds.{kind_sets, stands_local, type_of_kind}
use Rattle.ms_typing.specs.Least.{Typing, and_then, has, operand, row, settle}
use Rattle.ms_typing.specs.Meaning.{Names, World, look, seen, tell}
use Rattle.ms_typing.specs.Term.{Form, are_even, declaring, generator_types, is_one_name, local_types, value_types, with_gens, with_local, with_locals, with_names}
use Rattle.ms_typing.specs.Term as f

-- a node whose parts have these types
unfoldable pub at_node : Place → Form → List ExprType → Typing ExprType
at_node p g ts = settle p g ts (row g ts)

-- an operator between operands of these types
abbrev pub at_operator : Operator → Place → ExprType → ExprType → Typing ExprType
at_operator op p t u = at_node p (f.operation op) (t ∷ u ∷ [])

abbrev pub at_link : Operator × Place × Ex → ExprType → ExprType → Typing ExprType
at_link l t u = at_operator l.0 l.1 t u

-- the last of these operands, where its value has this type, and the operators before it, from the right
abbrev pub from_right : List ExprType → Links → ExprType → Typing ExprType
from_right ts x.no_links t = has t
from_right [] (x.link op p e links) t = and_then (from_right [] links t) (λ u. at_operator op p (truths true) u)
from_right (t ∷ ts) (x.link op p e links) u = and_then (from_right ts links u) (λ v. at_operator op p t v)

abbrev pub links_count : Links → ℕ
links_count x.no_links = 0
links_count (x.link op p e links) = suc (links_count links)

-- operands with the operators between them, from the right
abbrev pub joined_right : List ExprType → Links → Typing ExprType
joined_right ts links = from_right ts links (operand (links_count links) ts)

-- a local whose parts have these types
abbrev pub at_local : Surroundings → Decl → List ExprType → Typing ExprType
at_local s (x.declare p k w notes v) ts =
    at_node p (f.declares (stands_local k v) (kind_sets k ++ value_types (seen s (type_of_kind k)) v) (seen s (type_of_kind k))) ts

abbrev mutual
  pub walk : World → Surroundings → Names → Ex → Typing ExprType
  walk world s ns (x.let_in p ds closed e) =
      and_then (walk_locals world s ns ds) (λ ts. and_then (walk world s (with_locals ds ns) e) (λ t.
      at_node p (declaring s (f.lets (local_types s ds))) (ts ++ (t ∷ []))))
  walk world s ns (x.chain level e links) =
      and_then (walk world s ns e) (λ t. if level == of_concat
      then and_then (walk_operands world s ns links) (λ ts. joined_right (t ∷ ts) links)
      else walk_links world s ns t links)
  walk world s ns (x.prefix p sign e) = and_then (walk world s ns e) (λ t. at_node p (f.prefix sign) (t ∷ []))
  walk world s ns (x.access p e is) = and_then (walk world s ns e) (λ t. walk_subscripts world s ns p t is)
  walk world s ns (x.number p n) = at_node p f.number []
  walk world s ns (x.text p w) = at_node p f.text []
  walk world s ns (x.truth p b) = at_node p f.truth []
  walk world s ns (x.name p w) = at_node p (f.stands (tell s (look world p ns w))) []
  walk world s ns (x.call p w es) = and_then (walk_all world s ns es) (λ ts. at_node p (f.calls (tell s (look world p ns w))) ts)
  walk world s ns (x.generator_call p w gs c e) =
      and_then (and_then (walk_sets world s ns gs) (λ ts. and_then (walk_maybe world s (with_gens gs ns) c) (λ us. has (ts ++ us)))) (λ ts. and_then (walk world s (with_gens gs ns) e) (λ t.
      at_node p (f.generates (tell s (look world p ns w)) (generator_types gs c) (is_one_name gs c)) (ts ++ (t ∷ []))))
  walk world s ns (x.paren p e) = and_then (walk world s ns e) (λ t. at_node p f.parenthesis (t ∷ []))
  walk world s ns (x.array p es) = and_then (walk_all world s ns es) (λ ts. at_node p f.array ts)
  walk world s ns (x.comprehension p e gs c) =
      and_then (walk world s (with_gens gs ns) e) (λ t. and_then (and_then (walk_sets world s ns gs) (λ ts. and_then (walk_maybe world s (with_gens gs ns) c) (λ us. has (ts ++ us)))) (λ ts.
      at_node p (declaring s (f.comprehension (generator_types gs c))) (t ∷ ts)))
  walk world s ns (x.rows p rs) = and_then (walk_rows world s ns rs) (λ ts. at_node p (f.grid (are_even rs)) ts)
  walk world s ns (x.set p es) = and_then (walk_all world s ns es) (λ ts. at_node p f.set ts)
  walk world s ns (x.if_else p c b arms e) =
      and_then (walk world s ns c) (λ t. and_then (walk world s ns b) (λ u. and_then (walk_arms world s ns arms) (λ ts. and_then (walk world s ns e) (λ v.
      at_node p f.choice (t ∷ u ∷ (ts ++ (v ∷ [])))))))

  pub walk_all : World → Surroundings → Names → Exs → Typing (List ExprType)
  walk_all world s ns x.no_exs = has []
  walk_all world s ns (x.ex e es) = and_then (walk world s ns e) (λ t. and_then (walk_all world s ns es) (λ ts. has (t ∷ ts)))

  -- on a first operand of this type
  pub walk_links : World → Surroundings → Names → ExprType → Links → Typing ExprType
  walk_links world s ns t x.no_links = has t
  walk_links world s ns t (x.link op p e links) = and_then (and_then (walk world s ns e) (λ u. at_operator op p t u)) (λ v. walk_links world s ns v links)

  pub walk_operands : World → Surroundings → Names → Links → Typing (List ExprType)
  walk_operands world s ns x.no_links = has []
  walk_operands world s ns (x.link op p e links) = and_then (walk world s ns e) (λ t. and_then (walk_operands world s ns links) (λ ts. has (t ∷ ts)))

  -- on an array of this type
  pub walk_subscripts : World → Surroundings → Names → Place → ExprType → Subscripts → Typing ExprType
  walk_subscripts world s ns p t x.no_subscripts = has t
  walk_subscripts world s ns p t (x.subscript e other is) =
      and_then (and_then (walk world s ns e) (λ u. and_then (walk_maybe world s ns other) (λ us. at_node p f.access (t ∷ u ∷ us)))) (λ u. walk_subscripts world s ns p u is)

  pub walk_maybe : World → Surroundings → Names → Maybe → Typing (List ExprType)
  walk_maybe world s ns x.absent = has []
  walk_maybe world s ns (x.present e) = and_then (walk world s ns e) (λ t. has (t ∷ []))

  pub walk_rows : World → Surroundings → Names → Rows → Typing (List ExprType)
  walk_rows world s ns x.no_rows = has []
  walk_rows world s ns (x.row es rs) = and_then (walk_all world s ns es) (λ ts. and_then (walk_rows world s ns rs) (λ us. has (ts ++ us)))

  pub walk_arms : World → Surroundings → Names → Arms → Typing (List ExprType)
  walk_arms world s ns x.no_arms = has []
  walk_arms world s ns (x.arm c b arms) =
      and_then (walk world s ns c) (λ t. and_then (walk world s ns b) (λ u. and_then (walk_arms world s ns arms) (λ ts. has (t ∷ u ∷ ts))))

  -- sets, each among the names before it
  pub walk_sets : World → Surroundings → Names → Gens → Typing (List ExprType)
  walk_sets world s ns x.no_gens = has []
  walk_sets world s ns (x.gen bs e gs) = and_then (walk world s ns e) (λ t. and_then (walk_sets world s (with_names bs ns) gs) (λ ts. has (t ∷ ts)))

  pub walk_locals : World → Surroundings → Names → Decls → Typing (List ExprType)
  walk_locals world s ns x.no_decls = has []
  walk_locals world s ns (x.decl d ds) = and_then (walk_local world s ns d) (λ t. and_then (walk_locals world s (with_local d ns) ds) (λ ts. has (t ∷ ts)))

  pub walk_local : World → Surroundings → Names → Decl → Typing ExprType
  walk_local world s ns (x.declare p k w notes v) =
      and_then (walk_kind world s ns k) (λ ts. and_then (walk_maybe world s ns v) (λ us. at_local s (x.declare p k w notes v) (ts ++ us)))

  pub walk_kind : World → Surroundings → Names → Kd → Typing (List ExprType)
  walk_kind world s ns (x.kind is m base) = and_then (walk_indices world s ns is) (λ ts. and_then (walk_base world s ns base) (λ us. has (ts ++ us)))

  pub walk_indices : World → Surroundings → Names → Indices → Typing (List ExprType)
  walk_indices world s ns x.no_indices = has []
  walk_indices world s ns (x.index e is) = and_then (walk_maybe world s ns e) (λ ts. and_then (walk_indices world s ns is) (λ us. has (ts ++ us)))

  pub walk_base : World → Surroundings → Names → Bs → Typing (List ExprType)
  walk_base world s ns x.of_bool = has []
  walk_base world s ns x.of_int = has []
  walk_base world s ns x.of_string = has []
  walk_base world s ns x.of_ann = has []
  walk_base world s ns x.set_of_int = has []
  walk_base world s ns (x.set_of e) = and_then (walk world s ns e) (λ t. has (t ∷ []))
  walk_base world s ns (x.of_values e) = and_then (walk world s ns e) (λ t. has (t ∷ []))

abbrev pub walk_subscript : World → Surroundings → Names → Place → ExprType → Ex → Maybe → Typing ExprType
walk_subscript world s ns p t e other =
    and_then (walk world s ns e) (λ u. and_then (walk_maybe world s ns other) (λ us. at_node p f.access (t ∷ u ∷ us)))

-- the sets of generators, and then the condition
abbrev pub walk_sources : World → Surroundings → Names → Gens → Maybe → Typing (List ExprType)
walk_sources world s ns gs c = and_then (walk_sets world s ns gs) (λ ts. and_then (walk_maybe world s (with_gens gs ns) c) (λ us. has (ts ++ us)))

-- an operator and its right operand, behind a left one of this type
abbrev pub walk_link : World → Surroundings → Names → ExprType → Operator × Place × Ex → Typing ExprType
walk_link world s ns t l = and_then (walk world s ns l.2) (λ u. at_link l t u)
