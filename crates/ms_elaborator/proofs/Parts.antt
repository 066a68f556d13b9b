-- The parts of nodes as the walk types them: lists of types with trees, and what nodes make of them.
use Rattle.std.proofs.Common.{◌≡◌, ℕ, suc, nat_lt, List, [], ◌∷◌, map, Option, Some, None, option_map, refl, ap, if◌then◌else◌}
use Rattle.ms_syntax.specs.Tree.{Arms, Decl, Decls, Ex, Exs, Gens, Links, Maybe, Rows}
use Rattle.ms_syntax.specs.Tree as x
use Rattle.ms_typing.specs.declared.types.ExprType.{ExprType}
use Rattle.ms_typing.specs.declared.types.Surroundings.{Surroundings}
use Rattle.ms_typing.specs.Least.{has}
use Rattle.ms_typing.specs.Meaning.{Names, World}
use Rattle.ms_typing.specs.Term.{with_gens, with_local, with_names}
use Rattle.ms_code.specs.Code.{brought, is_xor, least}
use Rattle.ms_code.specs.Code as code
use Rattle.ms_nodes.specs.declared.parts.Choice.{Choice}
use Rattle.ms_nodes.specs.declared.parts.Elaborated.{Elaborated}
use Rattle.ms_nodes.specs.declared.parts.Operand.{Operand}
use Rattle.ms_nodes.specs.declared.parts.Source.{Source}
use Rattle.ms_nodes.specs.Nodes.{arm_of, bring_all, bring_each, linked, row_of, source, through_xor}
use Rattle.ms_nodes.specs.Parts.{choice_kinds, kinds_maybe, kinds_of, made, operand_kinds, row_kinds, set_kinds, source_kinds}
use Rattle.ms_elaborator.specs.Walk.{walk, walk_all, walk_arms, walk_local, walk_locals, walk_maybe, walk_operands, walk_rows, walk_sets, walk_sources}
use Rattle.ms_elaborator.specs.Made.{arguments_made, arms_made, elements_made, gens_made, links_made, local_made, locals_made, made_of, maybe_made, plain_made, rows_made, type_walked, types_walked}
use Rattle.ms_elaborator.specs.Elaborate.{choice, operand_of, source_of}
use Rattle.ms_elaborator.proofs.Shapes.{choices_have, more_have, present_has, two_have}

abbrev pub part : World → Surroundings → Names → Ex → Elaborated
part world s ns e = made (type_walked world s ns e) (made_of world s ns e)

abbrev pub parts : World → Surroundings → Names → Exs → List Elaborated
parts world s ns x.no_exs = []
parts world s ns (x.ex e es) = part world s ns e ∷ parts world s ns es

abbrev pub part_maybe : World → Surroundings → Names → Maybe → Option Elaborated
part_maybe world s ns x.absent = None
part_maybe world s ns (x.present e) = Some (part world s ns e)

abbrev pub operands : World → Surroundings → Names → Links → List Operand
operands world s ns x.no_links = []
operands world s ns (x.link op p e links) = operand_of op p (part world s ns e) ∷ operands world s ns links

abbrev pub row_parts : World → Surroundings → Names → Rows → List (List Elaborated)
row_parts world s ns x.no_rows = []
row_parts world s ns (x.row es rs) = parts world s ns es ∷ row_parts world s ns rs

abbrev pub choices : World → Surroundings → Names → Arms → List Choice
choices world s ns x.no_arms = []
choices world s ns (x.arm e b arms) = choice (part world s ns e) (part world s ns b) ∷ choices world s ns arms

abbrev pub set_parts : World → Surroundings → Names → Gens → List Source
set_parts world s ns x.no_gens = []
set_parts world s ns (x.gen bs e gs) = source_of bs (part world s ns e) ∷ set_parts world s (with_names bs ns) gs

abbrev pub source_parts : World → Surroundings → Names → Gens → Maybe → List Source × Option Elaborated
source_parts world s ns gs condition = (set_parts world s ns gs, part_maybe world s (with_gens gs ns) condition)

abbrev pub local_part : World → Surroundings → Names → Decl → Elaborated
local_part world s ns d = made (least (walk_local world s ns d)) (local_made world s ns d)

abbrev pub local_parts : World → Surroundings → Names → Decls → List Elaborated
local_parts world s ns x.no_decls = []
local_parts world s ns (x.decl d ds) = local_part world s ns d ∷ local_parts world s (with_local d ns) ds

module _ (world : World) (s : Surroundings) where
  -- ---- their types

  pub all_kinds : (es : Exs) (ns : Names) (ts : List ExprType) → walk_all world s ns es ≡ has ts → kinds_of (parts world s ns es) ≡ ts
  all_kinds x.no_exs ns ts h = cc
  all_kinds (x.ex e es) ns ts h = more_have (walk world s ns e) (walk_all world s ns es) (kinds_of (parts world s ns es)) ts (λ vs k. all_kinds es ns vs k) h

  pub maybe_kinds : (m : Maybe) (ns : Names) (ts : List ExprType) → walk_maybe world s ns m ≡ has ts → kinds_maybe (part_maybe world s ns m) ≡ ts
  maybe_kinds x.absent ns ts h = cc
  maybe_kinds (x.present e) ns ts h = present_has (walk world s ns e) ts h

  pub operands_kinds : (links : Links) (ns : Names) (ts : List ExprType) → walk_operands world s ns links ≡ has ts → operand_kinds (operands world s ns links) ≡ ts
  operands_kinds x.no_links ns ts h = cc
  operands_kinds (x.link op p e links) ns ts h =
      more_have (walk world s ns e) (walk_operands world s ns links) (operand_kinds (operands world s ns links)) ts (λ vs k. operands_kinds links ns vs k) h

  pub rows_kinds : (rs : Rows) (ns : Names) (ts : List ExprType) → walk_rows world s ns rs ≡ has ts → row_kinds (row_parts world s ns rs) ≡ ts
  rows_kinds x.no_rows ns ts h = cc
  rows_kinds (x.row es rs) ns ts h =
      two_have (walk_all world s ns es) (walk_rows world s ns rs) (kinds_of (parts world s ns es)) (row_kinds (row_parts world s ns rs)) ts
      (λ vs k. all_kinds es ns vs k) (λ vs k. rows_kinds rs ns vs k) h

  pub choices_kinds : (arms : Arms) (ns : Names) (ts : List ExprType) → walk_arms world s ns arms ≡ has ts → choice_kinds (choices world s ns arms) ≡ ts
  choices_kinds x.no_arms ns ts h = cc
  choices_kinds (x.arm e b arms) ns ts h =
      choices_have (walk world s ns e) (walk world s ns b) (walk_arms world s ns arms) (choice_kinds (choices world s ns arms)) ts (λ vs k. choices_kinds arms ns vs k) h

  pub sets_kinds : (gs : Gens) (ns : Names) (ts : List ExprType) → walk_sets world s ns gs ≡ has ts → set_kinds (set_parts world s ns gs) ≡ ts
  sets_kinds x.no_gens ns ts h = cc
  sets_kinds (x.gen bs e gs) ns ts h =
      more_have (walk world s ns e) (walk_sets world s (with_names bs ns) gs) (set_kinds (set_parts world s (with_names bs ns) gs)) ts
      (λ vs k. sets_kinds gs (with_names bs ns) vs k) h

  pub sources_kinds : (gs : Gens) (m : Maybe) (ns : Names) (ts : List ExprType) → walk_sources world s ns gs m ≡ has ts → source_kinds (source_parts world s ns gs m) ≡ ts
  sources_kinds gs m ns ts h =
      two_have (walk_sets world s ns gs) (walk_maybe world s (with_gens gs ns) m) (set_kinds (set_parts world s ns gs)) (kinds_maybe (part_maybe world s (with_gens gs ns) m)) ts
      (λ vs k. sets_kinds gs ns vs k) (λ vs k. maybe_kinds m (with_gens gs ns) vs k) h

  pub locals_kinds : (ds : Decls) (ns : Names) (ts : List ExprType) → walk_locals world s ns ds ≡ has ts → kinds_of (local_parts world s ns ds) ≡ ts
  locals_kinds x.no_decls ns ts h = cc
  locals_kinds (x.decl d ds) ns ts h =
      more_have (walk_local world s ns d) (walk_locals world s (with_local d ns) ds) (kinds_of (local_parts world s (with_local d ns) ds)) ts (λ vs k. locals_kinds ds (with_local d ns) vs k) h

  -- ---- what nodes make of them

  pub elements_are : (es : Exs) (ns : Names) (t : ExprType) → bring_all t (parts world s ns es) ≡ elements_made t world s ns es
  elements_are x.no_exs ns t = refl
  elements_are (x.ex e es) ns t = ap (λ xs. brought t (type_walked world s ns e) (made_of world s ns e) ∷ xs) (elements_are es ns t)

  pub types_are : (es : Exs) (ns : Names) → kinds_of (parts world s ns es) ≡ types_walked world s ns es
  types_are x.no_exs ns = refl
  types_are (x.ex e es) ns = ap (λ ts. type_walked world s ns e ∷ ts) (types_are es ns)

  pub arguments_are : (es : Exs) (ns : Names) (ts : List ExprType) → bring_each ts (parts world s ns es) ≡ arguments_made ts world s ns es
  arguments_are x.no_exs ns ts = refl
  arguments_are (x.ex e es) ns [] = ap (λ xs. made_of world s ns e ∷ xs) (arguments_are es ns [])
  arguments_are (x.ex e es) ns (t ∷ ts) = ap (λ xs. brought t (type_walked world s ns e) (made_of world s ns e) ∷ xs) (arguments_are es ns ts)

  pub plain_are : (es : Exs) (ns : Names) → bring_each [] (parts world s ns es) ≡ plain_made world s ns es
  plain_are x.no_exs ns = refl
  plain_are (x.ex e es) ns = ap (λ xs. made_of world s ns e ∷ xs) (plain_are es ns)

  pub links_are : (links : Links) (ns : Names) (t : ExprType) → linked t (operands world s ns links) ≡ links_made t world s ns links
  links_are x.no_links ns t = refl
  links_are (x.link op p e links) ns t = ap (λ xs. code.link op p (code.operand t (type_walked world s ns e) (made_of world s ns e)) ∷ xs) (links_are links ns t)

  pub xors_are : (links : Links) (ns : Names) → through_xor (operands world s ns links) ≡ code.through_xor links
  xors_are x.no_links ns = refl
  xors_are (x.link op p e links) ns = ap (λ (n : ℕ). if nat_lt 0 n then suc n else (if is_xor op then 1 else 0)) (xors_are links ns)

  pub rows_are : (rs : Rows) (ns : Names) (t : ExprType) → map (row_of t) (row_parts world s ns rs) ≡ rows_made t world s ns rs
  rows_are x.no_rows ns t = refl
  rows_are (x.row es rs) ns t = rw (elements_are es ns t, rows_are rs ns t) refl

  pub arms_are : (arms : Arms) (ns : Names) (t : ExprType) → map (arm_of t) (choices world s ns arms) ≡ arms_made t world s ns arms
  arms_are x.no_arms ns t = refl
  arms_are (x.arm e b arms) ns t =
      ap (λ xs. code.arm (type_walked world s ns e) (made_of world s ns e) (brought t (type_walked world s ns b) (made_of world s ns b)) ∷ xs) (arms_are arms ns t)

  pub sets_are : (gs : Gens) (ns : Names) → map source (set_parts world s ns gs) ≡ gens_made world s ns gs
  sets_are x.no_gens ns = refl
  sets_are (x.gen bs e gs) ns = ap (λ xs. code.generator bs (made_of world s ns e) ∷ xs) (sets_are gs (with_names bs ns))

  pub maybe_is : (m : Maybe) (ns : Names) → option_map (λ (e : Elaborated). e.code) (part_maybe world s ns m) ≡ maybe_made world s ns m
  maybe_is x.absent ns = refl
  maybe_is (x.present e) ns = refl

  pub locals_are : (ds : Decls) (ns : Names) → bring_each [] (local_parts world s ns ds) ≡ locals_made world s ns ds
  locals_are x.no_decls ns = refl
  locals_are (x.decl d ds) ns = ap (λ xs. local_made world s ns d ∷ xs) (locals_are ds (with_local d ns))
