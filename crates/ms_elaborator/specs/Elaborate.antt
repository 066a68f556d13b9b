-- The types and typed trees of an expression in the order in which the code makes them. That they are its typing and its
-- typed tree is proved (`proofs/Elaborating`).
use Rattle.std.specs.Prelude.{ℕ, true, List, [], ◌∷◌, ◌++◌, map, length, Option, Some, None, option_map, ◌==◌, if◌then◌else◌}
use Rattle.ms_syntax.specs.declared.token.Place.{Place}
use Rattle.ms_syntax.specs.declared.tree.Operator.{Operator}
use Rattle.ms_syntax.specs.Tree.{Arms, Bs, Decl, Decls, Ex, Exs, Gens, Indices, Kd, Links, Maybe, Rows, Subscripts, of_concat}
use Rattle.ms_syntax.specs.Tree as x
use Rattle.ms_typing.specs.declared.types.ExprType.{ExprType}
use Rattle.ms_typing.specs.declared.types.Surroundings.{Surroundings}
use Rattle.ms_typing.specs.declared.types.Shape.TheVariants.{Single}
use Rattle.ms_typing.specs.Conversion.{shaped}
use Rattle.ms_typing.specs.Kinds.{type_of_kind}
use Rattle.ms_typing.specs.Least.{Typing, and_then, has}
use Rattle.ms_typing.specs.Meaning.{Names, World, look, seen, tell}
use Rattle.ms_typing.specs.Term.{are_even, declaring, generator_types, is_one_name, local_types, with_gens, with_local, with_locals, with_names}
use Rattle.ms_typing.specs.Term as f
use Rattle.ms_code.specs.References.{refer}
use Rattle.ms_code.specs.Code.{brought, first_place, led, nowhere, subscript}
use Rattle.ms_code.specs.declared.code.Code.{Code}
use Rattle.ms_code.specs.declared.code.Code.TheVariants as c
use Rattle.ms_code.specs.declared.code.Subscript.{Subscript}
use Rattle.ms_nodes.specs.declared.parts.Choice.{Choice}
use Rattle.ms_nodes.specs.declared.parts.Elaborated.{Elaborated}
use Rattle.ms_nodes.specs.declared.parts.Operand.{Operand}
use Rattle.ms_nodes.specs.declared.parts.Source.{Source}
use Rattle.ms_nodes.specs.Nodes.{arms, bring_all, bring_each, call, chain, gathering, row_of, sources}
use Rattle.ms_nodes.specs.Parts.{choice_kinds, kinds_maybe, kinds_of, made, operand_kinds, row_kinds, source_kinds}
use Rattle.ms_elaborator.specs.Walk.{at_local, at_node, at_operator, joined_right}

-- ---- nodes over parts that are there

-- a node, once it has its type
abbrev pub built : Typing ExprType → (ExprType → Code) → Typing Elaborated
built r node = and_then r (λ t. has (made t (node t)))

abbrev pub elab_let : Surroundings → Place → Decls → List Elaborated → Elaborated → Typing Elaborated
elab_let s p ds ls m =
    built (at_node p (declaring s (f.lets (local_types s ds))) (kinds_of ls ++ (m.kind ∷ []))) (λ t. c.Let p (bring_each [] ls) m.code)

abbrev pub elab_name : World → Surroundings → Names → Place → List ℕ → Typing Elaborated
elab_name world s ns p w = built (at_node p (f.stands (tell s (look world p ns w))) []) (λ t. c.Name p (led (refer world p ns w)))

abbrev pub elab_call : World → Surroundings → Names → Place → List ℕ → List Elaborated → Typing Elaborated
elab_call world s ns p w ms =
    built (at_node p (f.calls (tell s (look world p ns w))) (kinds_of ms)) (λ t. call (tell s (look world p ns w)) p (led (refer world p ns w)) ms)

abbrev pub elab_gathering : World → Surroundings → Names → Place → List ℕ → Gens → Maybe → List Source × Option Elaborated → Elaborated → Typing Elaborated
elab_gathering world s ns p w gs condition ss m =
    built (at_node p (f.generates (tell s (look world p ns w)) (generator_types gs condition) (is_one_name gs condition)) (source_kinds ss ++ (m.kind ∷ [])))
    (λ t. gathering (tell s (look world p ns w)) p (led (refer world p ns w)) (sources ss) m)

abbrev pub elab_array : Place → List Elaborated → Typing Elaborated
elab_array p ms = built (at_node p f.array (kinds_of ms)) (λ t. c.Array p t (bring_all (shaped Single t) ms))

abbrev pub elab_set : Place → List Elaborated → Typing Elaborated
elab_set p ms = built (at_node p f.set (kinds_of ms)) (λ t. c.Set p (bring_each [] ms))

abbrev pub elab_comprehension : Surroundings → Place → Gens → Maybe → Elaborated → List Source × Option Elaborated → Typing Elaborated
elab_comprehension s p gs condition m ss =
    built (at_node p (declaring s (f.comprehension (generator_types gs condition))) (m.kind ∷ source_kinds ss))
    (λ t. c.Comprehension p t (sources ss) m.code)

abbrev pub elab_grid : Place → Rows → List (List Elaborated) → Typing Elaborated
elab_grid p rs ms = built (at_node p (f.grid (are_even rs)) (row_kinds ms)) (λ t. c.Rows p t (map (row_of (shaped Single t)) ms))

abbrev pub elab_choice : Place → Choice → List Choice → Elaborated → Typing Elaborated
elab_choice p first more last =
    built (at_node p f.choice (first.condition.kind ∷ first.branch.kind ∷ (choice_kinds more ++ (last.kind ∷ []))))
    (λ t. c.If p (arms t (first ∷ more)) (brought t last.kind last.code))

-- a chain that has its type
abbrev pub elab_chain : Elaborated → ExprType × List Operand → Elaborated
elab_chain m r = made r.0 (chain r.0 m r.1)

-- operands with operators that group to the right
abbrev pub elab_right : Elaborated → Links → List Operand → Typing Elaborated
elab_right m links os = and_then (joined_right (m.kind ∷ operand_kinds os) links) (λ t. has (elab_chain m (t, os)))

-- a local's value, if it has one, as its type
abbrev pub valued : ExprType → Option Elaborated → Code
valued t None = c.Truth nowhere true
valued t (Some m) = brought t m.kind m.code

abbrev pub elab_declared : Surroundings → Decl → List ExprType → Option Elaborated → Typing Elaborated
elab_declared s (x.declare p k w notes v) ts o =
    built (at_local s (x.declare p k w notes v) (ts ++ kinds_maybe o)) (λ t. valued (seen s (type_of_kind k)) o)

abbrev pub operand_of : Operator → Place → Elaborated → Operand
operand_of op p m = record { operator = op; place = p; operand = m }

-- an operand behind operands of this type
abbrev pub elab_link : ExprType → Operand → Typing (ExprType × Operand)
elab_link t o = and_then (at_operator o.operator o.place t o.operand.kind) (λ u. has (u, o))

-- a subscript behind an array of this type
abbrev pub elab_access : Place → ExprType → Elaborated → Option Elaborated → Typing (ExprType × Subscript)
elab_access p t m other =
    and_then (at_node p f.access (t ∷ m.kind ∷ kinds_maybe other)) (λ u. has (u, subscript m.code (option_map (λ o. o.code) other)))

abbrev pub source_of : x.Names → Elaborated → Source
source_of bs m = record { place = first_place bs; names = length bs; set = m }

abbrev pub choice : Elaborated → Elaborated → Choice
choice m k = record { condition = m; branch = k }

-- ---- the walk

abbrev mutual
  pub elab : World → Surroundings → Names → Ex → Typing Elaborated
  elab world s ns (x.let_in p ds closed e) =
      and_then (elab_locals world s ns ds) (λ ls. and_then (elab world s (with_locals ds ns) e) (λ m. elab_let s p ds ls m))
  elab world s ns (x.chain level e links) =
      and_then (elab world s ns e) (λ m. if level == of_concat
      then and_then (elab_operands world s ns links) (λ os. elab_right m links os)
      else and_then (elab_links world s ns m.kind links) (λ r. has (elab_chain m r)))
  elab world s ns (x.prefix p sign e) =
      and_then (elab world s ns e) (λ m. built (at_node p (f.prefix sign) (m.kind ∷ [])) (λ t. c.Prefix p sign m.code))
  elab world s ns (x.access p e is) =
      and_then (elab world s ns e) (λ m. and_then (elab_subscripts world s ns p m.kind is) (λ r. has (made r.0 (c.Access p m.code r.1))))
  elab world s ns (x.number p n) = built (at_node p f.number []) (λ t. c.Number p n)
  elab world s ns (x.text p w) = built (at_node p f.text []) (λ t. c.Text p w)
  elab world s ns (x.truth p b) = built (at_node p f.truth []) (λ t. c.Truth p b)
  elab world s ns (x.name p w) = elab_name world s ns p w
  elab world s ns (x.call p w es) = and_then (elab_all world s ns es) (λ ms. elab_call world s ns p w ms)
  elab world s ns (x.generator_call p w gs condition e) =
      and_then (and_then (elab_sets world s ns gs) (λ ss. and_then (elab_maybe world s (with_gens gs ns) condition) (λ o. has (ss, o)))) (λ ss. and_then (elab world s (with_gens gs ns) e) (λ m.
      elab_gathering world s ns p w gs condition ss m))
  elab world s ns (x.paren p e) = and_then (elab world s ns e) (λ m. built (at_node p f.parenthesis (m.kind ∷ [])) (λ t. c.Parenthesis p m.code))
  elab world s ns (x.array p es) = and_then (elab_all world s ns es) (λ ms. elab_array p ms)
  elab world s ns (x.comprehension p e gs condition) =
      and_then (elab world s (with_gens gs ns) e) (λ m. and_then (and_then (elab_sets world s ns gs) (λ ss. and_then (elab_maybe world s (with_gens gs ns) condition) (λ o. has (ss, o)))) (λ ss.
      elab_comprehension s p gs condition m ss))
  elab world s ns (x.rows p rs) = and_then (elab_rows world s ns rs) (λ ms. elab_grid p rs ms)
  elab world s ns (x.set p es) = and_then (elab_all world s ns es) (λ ms. elab_set p ms)
  elab world s ns (x.if_else p condition b more e) =
      and_then (and_then (elab world s ns condition) (λ m. and_then (elab world s ns b) (λ k. has (choice m k)))) (λ first. and_then (elab_arms world s ns more) (λ as'. and_then (elab world s ns e) (λ last.
      elab_choice p first as' last)))

  pub elab_all : World → Surroundings → Names → Exs → Typing (List Elaborated)
  elab_all world s ns x.no_exs = has []
  elab_all world s ns (x.ex e es) = and_then (elab world s ns e) (λ m. and_then (elab_all world s ns es) (λ ms. has (m ∷ ms)))

  -- behind a first operand of this type: the type of the whole, and the operands
  pub elab_links : World → Surroundings → Names → ExprType → Links → Typing (ExprType × List Operand)
  elab_links world s ns t x.no_links = has (t, [])
  elab_links world s ns t (x.link op p e links) =
      and_then (and_then (elab world s ns e) (λ m. elab_link t (operand_of op p m))) (λ r. and_then (elab_links world s ns r.0 links) (λ q. has (q.0, r.1 ∷ q.1)))

  pub elab_operands : World → Surroundings → Names → Links → Typing (List Operand)
  elab_operands world s ns x.no_links = has []
  elab_operands world s ns (x.link op p e links) =
      and_then (elab world s ns e) (λ m. and_then (elab_operands world s ns links) (λ os. has (operand_of op p m ∷ os)))

  -- on an array of this type: the type of the whole, and the subscripts
  pub elab_subscripts : World → Surroundings → Names → Place → ExprType → Subscripts → Typing (ExprType × List Subscript)
  elab_subscripts world s ns p t x.no_subscripts = has (t, [])
  elab_subscripts world s ns p t (x.subscript e other is) =
      and_then (and_then (elab world s ns e) (λ m. and_then (elab_maybe world s ns other) (λ o. elab_access p t m o)))
      (λ r. and_then (elab_subscripts world s ns p r.0 is) (λ q. has (q.0, r.1 ∷ q.1)))

  pub elab_maybe : World → Surroundings → Names → Maybe → Typing (Option Elaborated)
  elab_maybe world s ns x.absent = has None
  elab_maybe world s ns (x.present e) = and_then (elab world s ns e) (λ m. has (Some m))

  pub elab_rows : World → Surroundings → Names → Rows → Typing (List (List Elaborated))
  elab_rows world s ns x.no_rows = has []
  elab_rows world s ns (x.row es rs) = and_then (elab_all world s ns es) (λ ms. and_then (elab_rows world s ns rs) (λ rest. has (ms ∷ rest)))

  pub elab_arms : World → Surroundings → Names → Arms → Typing (List Choice)
  elab_arms world s ns x.no_arms = has []
  elab_arms world s ns (x.arm condition b more) =
      and_then (and_then (elab world s ns condition) (λ m. and_then (elab world s ns b) (λ k. has (choice m k)))) (λ a. and_then (elab_arms world s ns more) (λ as'. has (a ∷ as')))

  -- sets, each among the names before it
  pub elab_sets : World → Surroundings → Names → Gens → Typing (List Source)
  elab_sets world s ns x.no_gens = has []
  elab_sets world s ns (x.gen bs e gs) =
      and_then (elab world s ns e) (λ m. and_then (elab_sets world s (with_names bs ns) gs) (λ ss. has (source_of bs m ∷ ss)))

  -- the least type of each local, with its value
  pub elab_locals : World → Surroundings → Names → Decls → Typing (List Elaborated)
  elab_locals world s ns x.no_decls = has []
  elab_locals world s ns (x.decl d ds) = and_then (elab_local world s ns d) (λ m. and_then (elab_locals world s (with_local d ns) ds) (λ ms. has (m ∷ ms)))

  pub elab_local : World → Surroundings → Names → Decl → Typing Elaborated
  elab_local world s ns (x.declare p k w notes v) =
      and_then (elab_kind world s ns k) (λ ts. and_then (elab_maybe world s ns v) (λ o. elab_declared s (x.declare p k w notes v) ts o))

  -- of the sets that a kind names the types alone
  pub elab_kind : World → Surroundings → Names → Kd → Typing (List ExprType)
  elab_kind world s ns (x.kind is m base) = and_then (elab_indices world s ns is) (λ ts. and_then (elab_base world s ns base) (λ us. has (ts ++ us)))

  pub elab_indices : World → Surroundings → Names → Indices → Typing (List ExprType)
  elab_indices world s ns x.no_indices = has []
  elab_indices world s ns (x.index e is) =
      and_then (and_then (elab_maybe world s ns e) (λ o. has (kinds_maybe o))) (λ ts. and_then (elab_indices world s ns is) (λ us. has (ts ++ us)))

  pub elab_base : World → Surroundings → Names → Bs → Typing (List ExprType)
  elab_base world s ns x.of_bool = has []
  elab_base world s ns x.of_int = has []
  elab_base world s ns x.of_string = has []
  elab_base world s ns x.of_ann = has []
  elab_base world s ns x.set_of_int = has []
  elab_base world s ns (x.set_of e) = and_then (elab world s ns e) (λ m. has (m.kind ∷ []))
  elab_base world s ns (x.of_values e) = and_then (elab world s ns e) (λ m. has (m.kind ∷ []))

abbrev pub elab_arm : World → Surroundings → Names → Ex → Ex → Typing Choice
elab_arm world s ns condition b = and_then (elab world s ns condition) (λ m. and_then (elab world s ns b) (λ k. has (choice m k)))

-- the sets of generators, and then the condition
abbrev pub elab_sources : World → Surroundings → Names → Gens → Maybe → Typing (List Source × Option Elaborated)
elab_sources world s ns gs condition = and_then (elab_sets world s ns gs) (λ ss. and_then (elab_maybe world s (with_gens gs ns) condition) (λ o. has (ss, o)))

abbrev pub elab_subscript : World → Surroundings → Names → Place → ExprType → Ex → Maybe → Typing (ExprType × Subscript)
elab_subscript world s ns p t e other = and_then (elab world s ns e) (λ m. and_then (elab_maybe world s ns other) (λ o. elab_access p t m o))

-- an operator and its right operand
abbrev pub elab_operand : World → Surroundings → Names → Operator × Place × Ex → Typing Operand
elab_operand world s ns l = and_then (elab world s ns l.2) (λ m. has (operand_of l.0 l.1 m))

-- behind a left operand of this type
abbrev pub elab_joined : World → Surroundings → Names → ExprType → Operator × Place × Ex → Typing (ExprType × Operand)
elab_joined world s ns t l = and_then (elab world s ns l.2) (λ m. elab_link t (operand_of l.0 l.1 m))

abbrev pub elab_behind : World → Surroundings → Names → Elaborated → Links → Typing Elaborated
elab_behind world s ns m links = and_then (elab_links world s ns m.kind links) (λ r. has (elab_chain m r))

-- an array with its subscripts
abbrev pub elab_indexed : World → Surroundings → Names → Place → Elaborated → Subscripts → Typing Elaborated
elab_indexed world s ns p m is = and_then (elab_subscripts world s ns p m.kind is) (λ r. has (made r.0 (c.Access p m.code r.1)))

-- the set of a generator
abbrev pub elab_source : World → Surroundings → Names → x.Names × Ex → Typing Source
elab_source world s ns g = and_then (elab world s ns g.1) (λ m. has (source_of g.0 m))
