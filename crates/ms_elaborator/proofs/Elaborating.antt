-- What the code makes of an expression is its type by the walk, with its typed tree.
use Rattle.std.proofs.Common.{◌≡◌, true, List, [], ◌∷◌, map, Option, option_map, refl, ap, ◌∙◌, ◌==◌}
use Rattle.ms_syntax.specs.declared.token.Place.{Place}
use Rattle.ms_syntax.specs.Tree.{Arms, Bs, Decl, Decls, Ex, Exs, Gens, Indices, Kd, Links, Maybe, Rows, Subscripts, of_concat}
use Rattle.ms_syntax.specs.Tree as x
use Rattle.ms_typing.specs.declared.types.ExprType.{ExprType}
use Rattle.ms_typing.specs.declared.types.Surroundings.{Surroundings}
use Rattle.ms_typing.specs.declared.types.Shape.TheVariants.{Single}
use Rattle.ms_typing.specs.Conversion.{shaped, truths}
use Rattle.ms_typing.specs.Kinds.{type_of_kind}
use Rattle.ms_typing.specs.Least.{Typing, and_then, has}
use Rattle.ms_typing.specs.Meaning.{Names, Told, World, look, seen, tell}
use Rattle.ms_typing.specs.Term.{are_even, declaring, generator_types, is_one_name, local_types, with_gens, with_local, with_locals, with_names}
use Rattle.ms_typing.specs.Term as f
use Rattle.ms_code.specs.References.{refer}
use Rattle.ms_code.specs.Code.{asked_of, brought, generators, least, led, subscript}
use Rattle.ms_code.specs.Code as code
use Rattle.ms_code.specs.declared.code.Code.{Code}
use Rattle.ms_code.specs.declared.code.Code.TheVariants as c
use Rattle.ms_code.specs.declared.code.Generators.{Generators}
use Rattle.ms_code.specs.declared.code.Reference.{Reference}
use Rattle.ms_code.specs.declared.code.Subscript.{Subscript}
use Rattle.ms_nodes.specs.declared.parts.Choice.{Choice}
use Rattle.ms_nodes.specs.declared.parts.Elaborated.{Elaborated}
use Rattle.ms_nodes.specs.declared.parts.Operand.{Operand}
use Rattle.ms_nodes.specs.declared.parts.Source.{Source}
use Rattle.ms_nodes.specs.Nodes.{arms, bring_all, bring_each, call, chain, gathering, row_of, sources}
use Rattle.ms_nodes.specs.Parts.{kinds_maybe, kinds_of, operand_kinds, row_kinds, source_kinds}
use Rattle.ms_elaborator.specs.Walk.{at_local, at_node, at_operator, joined_right, walk, walk_all, walk_arms, walk_base, walk_indices, walk_kind, walk_links, walk_local, walk_locals, walk_maybe, walk_operands, walk_rows, walk_sets, walk_sources, walk_subscripts}
use Rattle.ms_elaborator.specs.Made.{arguments_made, gens_made, links_made, local_made, made_of, maybe_made, subscripts_made, type_walked, types_walked, value_made}
use Rattle.ms_elaborator.specs.Elaborate.{elab, elab_access, elab_all, elab_arms, elab_base, elab_behind, elab_indices, elab_kind, elab_link, elab_links, elab_local, elab_locals, elab_maybe, elab_operands, elab_right, elab_rows, elab_sets, elab_sources, elab_subscripts, operand_of, source_of, valued}
use Rattle.ms_elaborator.proofs.Shapes.{listed, of_back, of_choice_more, of_choices, of_front, of_index, of_left, of_levels, of_link, of_list, of_local, of_more, of_one, of_present, of_steps, of_two, of_type, of_types, packed, paired}
use Rattle.ms_elaborator.proofs.Parts.{all_kinds, arguments_are, arms_are, choices, choices_kinds, elements_are, links_are, local_parts, locals_are, locals_kinds, maybe_is, maybe_kinds, operands, operands_kinds, part, part_maybe, parts, plain_are, row_parts, rows_are, rows_kinds, set_parts, sets_are, source_parts, sources_kinds, types_are, xors_are}

module _ (world : World) (s : Surroundings) (ns : Names) where
  -- ---- chains

  abbrev chain_code : Ex → Links → ExprType → Code
  chain_code e links whole =
      code.chain whole (type_walked world s ns e) (code.through_xor links) (made_of world s ns e) (links_made (truths true) world s ns links) (links_made whole world s ns links)

  chain_is : (e : Ex) (links : Links) (whole : ExprType) → chain whole (part world s ns e) (operands world s ns links) ≡ chain_code e links whole
  chain_is e links whole = rw (xors_are world s links ns, links_are world s links ns (truths true), links_are world s links ns whole) refl

  left_chain : (e : Ex) (links : Links) → elab world s ns e ≡ packed (walk world s ns e) (made_of world s ns e)
      → ((u : ExprType) → elab_links world s ns u links ≡ paired (walk_links world s ns u links) (operands world s ns links))
      → and_then (elab world s ns e) (λ (m : Elaborated). elab_behind world s ns m links)
      ≡ packed (and_then (walk world s ns e) (λ (t : ExprType). walk_links world s ns t links)) (chain_code e links (least (and_then (walk world s ns e) (λ (t : ExprType). walk_links world s ns t links))))
  left_chain e links h k =
      let whole = and_then (walk world s ns e) (λ (t : ExprType). walk_links world s ns t links) in
      rw h (of_left (walk world s ns e) (made_of world s ns e) (λ (u : ExprType). walk_links world s ns u links) (λ (u : ExprType). elab_links world s ns u links) (operands world s ns links)
      (λ (t : ExprType) (m : Elaborated) (os : List Operand). chain t m os) k)
      ∙ ap (λ (d : Code). packed whole d) (chain_is e links (least whole))

  right_chain : (e : Ex) (links : Links) → elab world s ns e ≡ packed (walk world s ns e) (made_of world s ns e)
      → elab_operands world s ns links ≡ listed (walk_operands world s ns links) (operands world s ns links)
      → and_then (elab world s ns e) (λ (m : Elaborated). and_then (elab_operands world s ns links) (λ (os : List Operand). elab_right m links os))
      ≡ packed (and_then (walk world s ns e) (λ (t : ExprType). and_then (walk_operands world s ns links) (λ (ts : List ExprType). joined_right (t ∷ ts) links)))
      (chain_code e links (least (and_then (walk world s ns e) (λ (t : ExprType). and_then (walk_operands world s ns links) (λ (ts : List ExprType). joined_right (t ∷ ts) links)))))
  right_chain e links h k =
      let whole = and_then (walk world s ns e) (λ (t : ExprType). and_then (walk_operands world s ns links) (λ (ts : List ExprType). joined_right (t ∷ ts) links)) in
      rw (h, k) (of_front operand_kinds (walk world s ns e) (made_of world s ns e) (walk_operands world s ns links) (operands world s ns links) (λ (ts : List ExprType). joined_right ts links)
      (λ (t : ExprType) (m : Elaborated) (os : List Operand). chain t m os) (λ ts l. operands_kinds world s links ns ts l))
      ∙ ap (λ (d : Code). packed whole d) (chain_is e links (least whole))

  -- ---- calls

  call_is : (told : Told) (p : Place) (r : Reference) (es : Exs)
      → call told p r (parts world s ns es) ≡ c.Call p r (arguments_made (asked_of told (types_walked world s ns es)) world s ns es)
  call_is told p r es = rw (types_are world s es ns) (ap (λ (ds : List Code). c.Call p r ds) (arguments_are world s es ns (asked_of told (types_walked world s ns es))))

  sources_are : (gs : Gens) (m : Maybe) → sources (source_parts world s ns gs m) ≡ generators (gens_made world s ns gs) (maybe_made world s (with_gens gs ns) m)
  sources_are gs m = rw (sets_are world s gs ns, maybe_is world s m (with_gens gs ns)) refl

module _ (world : World) (s : Surroundings) where
  local_value : (v : Maybe) (ns : Names) (t : ExprType) → valued t (part_maybe world s ns v) ≡ value_made t world s ns v
  local_value x.absent ns t = refl
  local_value (x.present e) ns t = refl

  both_sources : (gs : Gens) (m : Maybe) (ns : Names) → elab_sets world s ns gs ≡ listed (walk_sets world s ns gs) (set_parts world s ns gs)
      → elab_maybe world s (with_gens gs ns) m ≡ listed (walk_maybe world s (with_gens gs ns) m) (part_maybe world s (with_gens gs ns) m)
      → elab_sources world s ns gs m ≡ listed (walk_sources world s ns gs m) (source_parts world s ns gs m)
  both_sources gs m ns h k =
      rw (h, k) (of_two (walk_sets world s ns gs) (set_parts world s ns gs) (walk_maybe world s (with_gens gs ns) m) (part_maybe world s (with_gens gs ns) m)
      (λ (ss : List Source) (o : Option Elaborated). (ss, o)))

  mutual
    pub elaborated : (e : Ex) (ns : Names) → elab world s ns e ≡ packed (walk world s ns e) (made_of world s ns e)
    elaborated (x.let_in p ds closed e) ns =
        rw (locals_elaborated ds ns, elaborated e (with_locals ds ns))
        (of_back kinds_of (walk_locals world s ns ds) (local_parts world s ns ds) (walk world s (with_locals ds ns) e) (made_of world s (with_locals ds ns) e)
        (at_node p (declaring s (f.lets (local_types s ds)))) (λ (ls : List Elaborated) (m : Elaborated). c.Let p (bring_each [] ls) m.code) (λ ts h. locals_kinds world s ds ns ts h))
        ∙ ap (λ (xs : List Code). packed (walk world s ns (x.let_in p ds closed e)) (c.Let p xs (made_of world s (with_locals ds ns) e))) (locals_are world s ds ns)
    elaborated (x.chain level e links) ns =
        of_levels (level == of_concat) (elab world s ns e) (walk world s ns e)
        (λ (m : Elaborated). and_then (elab_operands world s ns links) (λ (os : List Operand). elab_right m links os)) (λ (m : Elaborated). elab_behind world s ns m links)
        (λ (t : ExprType). and_then (walk_operands world s ns links) (λ (ts : List ExprType). joined_right (t ∷ ts) links)) (λ (t : ExprType). walk_links world s ns t links)
        (chain_code world s ns e links)
        (right_chain world s ns e links (elaborated e ns) (operands_elaborated links ns))
        (left_chain world s ns e links (elaborated e ns) (λ u. links_elaborated links ns u))
    elaborated (x.prefix p sign e) ns = rw (elaborated e ns) (of_one (walk world s ns e) (made_of world s ns e) (at_node p (f.prefix sign)) (λ (d : Code). c.Prefix p sign d))
    elaborated (x.access p e is) ns =
        rw (elaborated e ns) (of_left (walk world s ns e) (made_of world s ns e) (λ (u : ExprType). walk_subscripts world s ns p u is) (λ (u : ExprType). elab_subscripts world s ns p u is)
        (subscripts_made world s ns is) (λ (t : ExprType) (m : Elaborated) (ds : List Subscript). c.Access p m.code ds) (λ u. subscripts_elaborated is ns p u))
    elaborated (x.number p n) ns = refl
    elaborated (x.text p w) ns = refl
    elaborated (x.truth p b) ns = refl
    elaborated (x.name p w) ns = refl
    elaborated (x.call p w es) ns =
        let told = tell s (look world p ns w) in
        let r = led (refer world p ns w) in
        rw (all_elaborated es ns) (of_list kinds_of (walk_all world s ns es) (parts world s ns es) (at_node p (f.calls told)) (λ (t : ExprType) (ms : List Elaborated). call told p r ms)
        (λ ts h. all_kinds world s es ns ts h))
        ∙ ap (λ (d : Code). packed (walk world s ns (x.call p w es)) d) (call_is world s ns told p r es)
    elaborated (x.generator_call p w gs condition e) ns =
        let told = tell s (look world p ns w) in
        let r = led (refer world p ns w) in
        let inner = with_gens gs ns in
        rw (both_sources gs condition ns (sets_elaborated gs ns) (maybe_elaborated condition inner), elaborated e inner)
        (of_back source_kinds (walk_sources world s ns gs condition) (source_parts world s ns gs condition) (walk world s inner e) (made_of world s inner e)
        (at_node p (f.generates told (generator_types gs condition) (is_one_name gs condition))) (λ (ss : List Source × Option Elaborated) (m : Elaborated). gathering told p r (sources ss) m)
        (λ ts h. sources_kinds world s gs condition ns ts h))
        ∙ ap (λ (gens : Generators). packed (walk world s ns (x.generator_call p w gs condition e)) (gathering told p r gens (part world s inner e))) (sources_are world s ns gs condition)
    elaborated (x.paren p e) ns = rw (elaborated e ns) (of_one (walk world s ns e) (made_of world s ns e) (at_node p f.parenthesis) (λ (d : Code). c.Parenthesis p d))
    elaborated (x.array p es) ns =
        let whole = walk world s ns (x.array p es) in
        rw (all_elaborated es ns) (of_list kinds_of (walk_all world s ns es) (parts world s ns es) (at_node p f.array)
        (λ (t : ExprType) (ms : List Elaborated). c.Array p t (bring_all (shaped Single t) ms)) (λ ts h. all_kinds world s es ns ts h))
        ∙ ap (λ (ds : List Code). packed whole (c.Array p (least whole) ds)) (elements_are world s es ns (shaped Single (least whole)))
    elaborated (x.comprehension p e gs condition) ns =
        let whole = walk world s ns (x.comprehension p e gs condition) in
        let inner = with_gens gs ns in
        rw (elaborated e inner, both_sources gs condition ns (sets_elaborated gs ns) (maybe_elaborated condition inner))
        (of_front source_kinds (walk world s inner e) (made_of world s inner e) (walk_sources world s ns gs condition) (source_parts world s ns gs condition)
        (at_node p (declaring s (f.comprehension (generator_types gs condition))))
        (λ (t : ExprType) (m : Elaborated) (ss : List Source × Option Elaborated). c.Comprehension p t (sources ss) m.code) (λ ts h. sources_kinds world s gs condition ns ts h))
        ∙ ap (λ (gens : Generators). packed whole (c.Comprehension p (least whole) gens (made_of world s inner e))) (sources_are world s ns gs condition)
    elaborated (x.rows p rs) ns =
        let whole = walk world s ns (x.rows p rs) in
        rw (rows_elaborated rs ns) (of_list row_kinds (walk_rows world s ns rs) (row_parts world s ns rs) (at_node p (f.grid (are_even rs)))
        (λ (t : ExprType) (ms : List (List Elaborated)). c.Rows p t (map (row_of (shaped Single t)) ms)) (λ ts h. rows_kinds world s rs ns ts h))
        ∙ ap (λ ds. packed whole (c.Rows p (least whole) ds)) (rows_are world s rs ns (shaped Single (least whole)))
    elaborated (x.set p es) ns =
        rw (all_elaborated es ns) (of_list kinds_of (walk_all world s ns es) (parts world s ns es) (at_node p f.set) (λ (t : ExprType) (ms : List Elaborated). c.Set p (bring_each [] ms))
        (λ ts h. all_kinds world s es ns ts h))
        ∙ ap (λ (ds : List Code). packed (walk world s ns (x.set p es)) (c.Set p ds)) (plain_are world s es ns)
    elaborated (x.if_else p e b more last) ns =
        let whole = walk world s ns (x.if_else p e b more last) in
        rw (elaborated e ns, elaborated b ns, arms_elaborated more ns, elaborated last ns)
        (of_choices (walk world s ns e) (made_of world s ns e) (walk world s ns b) (made_of world s ns b) (walk_arms world s ns more) (choices world s ns more)
        (walk world s ns last) (made_of world s ns last) (at_node p f.choice)
        (λ (t : ExprType) (first : Choice) (others : List Choice) (m : Elaborated). c.If p (arms t (first ∷ others)) (brought t m.kind m.code)) (λ ts h. choices_kinds world s more ns ts h))
        ∙ ap (λ ds. packed whole (c.If p (code.arm (type_walked world s ns e) (made_of world s ns e) (brought (least whole) (type_walked world s ns b) (made_of world s ns b)) ∷ ds)
        (brought (least whole) (type_walked world s ns last) (made_of world s ns last)))) (arms_are world s more ns (least whole))

    all_elaborated : (es : Exs) (ns : Names) → elab_all world s ns es ≡ listed (walk_all world s ns es) (parts world s ns es)
    all_elaborated x.no_exs ns = refl
    all_elaborated (x.ex e es) ns =
        rw (elaborated e ns, all_elaborated es ns)
        (of_more (walk world s ns e) (made_of world s ns e) (walk_all world s ns es) (parts world s ns es) (λ (m : Elaborated) (ms : List Elaborated). m ∷ ms))

    links_elaborated : (links : Links) (ns : Names) (t : ExprType) → elab_links world s ns t links ≡ paired (walk_links world s ns t links) (operands world s ns links)
    links_elaborated x.no_links ns t = refl
    links_elaborated (x.link op p e links) ns t =
        let next : and_then (elab world s ns e) (λ (m : Elaborated). elab_link t (operand_of op p m))
        ≡ paired (and_then (walk world s ns e) (λ (u : ExprType). at_operator op p t u)) (operand_of op p (part world s ns e))
        = rw (elaborated e ns) (of_link (walk world s ns e) (made_of world s ns e) (λ (u : ExprType). at_operator op p t u) (λ (m : Elaborated). operand_of op p m)) in
        ap (λ (r : Typing (ExprType × Operand)). and_then r (λ (q : ExprType × Operand). and_then (elab_links world s ns q.0 links) (λ (z : ExprType × List Operand). has (z.0, q.1 ∷ z.1)))) next
        ∙ of_steps (and_then (walk world s ns e) (λ (u : ExprType). at_operator op p t u)) (operand_of op p (part world s ns e)) (λ (u : ExprType). walk_links world s ns u links)
        (λ (u : ExprType). elab_links world s ns u links) (operands world s ns links) (λ u. links_elaborated links ns u)

    operands_elaborated : (links : Links) (ns : Names) → elab_operands world s ns links ≡ listed (walk_operands world s ns links) (operands world s ns links)
    operands_elaborated x.no_links ns = refl
    operands_elaborated (x.link op p e links) ns =
        rw (elaborated e ns, operands_elaborated links ns)
        (of_more (walk world s ns e) (made_of world s ns e) (walk_operands world s ns links) (operands world s ns links) (λ (m : Elaborated) (os : List Operand). operand_of op p m ∷ os))

    subscripts_elaborated : (is : Subscripts) (ns : Names) (p : Place) (t : ExprType) → elab_subscripts world s ns p t is ≡ paired (walk_subscripts world s ns p t is) (subscripts_made world s ns is)
    subscripts_elaborated x.no_subscripts ns p t = refl
    subscripts_elaborated (x.subscript e other is) ns p t =
        let here = and_then (walk world s ns e) (λ (u : ExprType). and_then (walk_maybe world s ns other) (λ (us : List ExprType). at_node p f.access (t ∷ (u ∷ us)))) in
        let made_here = subscript (made_of world s ns e) (option_map (λ (k : Elaborated). k.code) (part_maybe world s ns other)) in
        let next : and_then (elab world s ns e) (λ (m : Elaborated). and_then (elab_maybe world s ns other) (λ (o : Option Elaborated). elab_access p t m o)) ≡ paired here made_here
        = rw (elaborated e ns, maybe_elaborated other ns) (of_index (walk world s ns e) (made_of world s ns e) (walk_maybe world s ns other) (part_maybe world s ns other)
        (λ (ts : List ExprType). at_node p f.access (t ∷ ts)) (λ (m : Elaborated) (o : Option Elaborated). subscript m.code (option_map (λ (k : Elaborated). k.code) o))
        (λ ts h. maybe_kinds world s other ns ts h)) in
        ap (λ (r : Typing (ExprType × Subscript)). and_then r (λ (q : ExprType × Subscript). and_then (elab_subscripts world s ns p q.0 is) (λ (z : ExprType × List Subscript). has (z.0, q.1 ∷ z.1)))) next
        ∙ of_steps here made_here (λ (u : ExprType). walk_subscripts world s ns p u is) (λ (u : ExprType). elab_subscripts world s ns p u is) (subscripts_made world s ns is)
        (λ u. subscripts_elaborated is ns p u)
        ∙ ap (λ (o : Option Code). paired (walk_subscripts world s ns p t (x.subscript e other is)) (subscript (made_of world s ns e) o ∷ subscripts_made world s ns is)) (maybe_is world s other ns)

    maybe_elaborated : (m : Maybe) (ns : Names) → elab_maybe world s ns m ≡ listed (walk_maybe world s ns m) (part_maybe world s ns m)
    maybe_elaborated x.absent ns = refl
    maybe_elaborated (x.present e) ns = rw (elaborated e ns) (of_present (walk world s ns e) (made_of world s ns e))

    rows_elaborated : (rs : Rows) (ns : Names) → elab_rows world s ns rs ≡ listed (walk_rows world s ns rs) (row_parts world s ns rs)
    rows_elaborated x.no_rows ns = refl
    rows_elaborated (x.row es rs) ns =
        rw (all_elaborated es ns, rows_elaborated rs ns)
        (of_two (walk_all world s ns es) (parts world s ns es) (walk_rows world s ns rs) (row_parts world s ns rs) (λ (ms : List Elaborated) (rest : List (List Elaborated)). ms ∷ rest))

    arms_elaborated : (more : Arms) (ns : Names) → elab_arms world s ns more ≡ listed (walk_arms world s ns more) (choices world s ns more)
    arms_elaborated x.no_arms ns = refl
    arms_elaborated (x.arm e b more) ns =
        rw (elaborated e ns, elaborated b ns, arms_elaborated more ns)
        (of_choice_more (walk world s ns e) (made_of world s ns e) (walk world s ns b) (made_of world s ns b) (walk_arms world s ns more) (choices world s ns more))

    sets_elaborated : (gs : Gens) (ns : Names) → elab_sets world s ns gs ≡ listed (walk_sets world s ns gs) (set_parts world s ns gs)
    sets_elaborated x.no_gens ns = refl
    sets_elaborated (x.gen bs e gs) ns =
        rw (elaborated e ns, sets_elaborated gs (with_names bs ns))
        (of_more (walk world s ns e) (made_of world s ns e) (walk_sets world s (with_names bs ns) gs) (set_parts world s (with_names bs ns) gs)
        (λ (m : Elaborated) (ss : List Source). source_of bs m ∷ ss))

    locals_elaborated : (ds : Decls) (ns : Names) → elab_locals world s ns ds ≡ listed (walk_locals world s ns ds) (local_parts world s ns ds)
    locals_elaborated x.no_decls ns = refl
    locals_elaborated (x.decl d ds) ns =
        rw (local_elaborated d ns, locals_elaborated ds (with_local d ns))
        (of_more (walk_local world s ns d) (local_made world s ns d) (walk_locals world s (with_local d ns) ds) (local_parts world s (with_local d ns) ds)
        (λ (m : Elaborated) (ms : List Elaborated). m ∷ ms))

    local_elaborated : (d : Decl) (ns : Names) → elab_local world s ns d ≡ packed (walk_local world s ns d) (local_made world s ns d)
    local_elaborated (x.declare p k w notes v) ns =
        rw (kind_elaborated k ns, maybe_elaborated v ns)
        (of_local (walk_kind world s ns k) (walk_maybe world s ns v) (part_maybe world s ns v) (at_local s (x.declare p k w notes v)) (valued (seen s (type_of_kind k)))
        (λ ts h. maybe_kinds world s v ns ts h))
        ∙ ap (λ (d : Code). packed (walk_local world s ns (x.declare p k w notes v)) d) (local_value v ns (seen s (type_of_kind k)))

    pub kind_elaborated : (k : Kd) (ns : Names) → elab_kind world s ns k ≡ walk_kind world s ns k
    kind_elaborated (x.kind is m base) ns = rw (indices_elaborated is ns, base_elaborated base ns) refl

    indices_elaborated : (is : Indices) (ns : Names) → elab_indices world s ns is ≡ walk_indices world s ns is
    indices_elaborated x.no_indices ns = refl
    indices_elaborated (x.index e is) ns =
        let here : and_then (elab_maybe world s ns e) (λ (o : Option Elaborated). has (kinds_maybe o)) ≡ walk_maybe world s ns e
        = rw (maybe_elaborated e ns) (of_types (walk_maybe world s ns e) (part_maybe world s ns e) (λ ts h. maybe_kinds world s e ns ts h)) in
        rw (here, indices_elaborated is ns) refl

    base_elaborated : (base : Bs) (ns : Names) → elab_base world s ns base ≡ walk_base world s ns base
    base_elaborated x.of_bool ns = refl
    base_elaborated x.of_int ns = refl
    base_elaborated x.of_string ns = refl
    base_elaborated x.of_ann ns = refl
    base_elaborated x.set_of_int ns = refl
    base_elaborated (x.set_of e) ns = rw (elaborated e ns) (of_type (walk world s ns e) (made_of world s ns e))
    base_elaborated (x.of_values e) ns = rw (elaborated e ns) (of_type (walk world s ns e) (made_of world s ns e))
