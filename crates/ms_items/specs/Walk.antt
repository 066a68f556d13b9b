-- The order in which the code asks for the types of items. That this is the typing of their terms is proved (`proofs/Walked`).
use Rattle.std.specs.Prelude.{Bool, true, false, List, [], ◌∷◌, ◌++◌, if◌then◌else◌}
use Rattle.ms_syntax.specs.declared.token.Place.{Place}
use Rattle.ms_syntax.specs.Tree.{Bs, Decl, Ex, Gl, Indices, It, Kd, Maybe, Notes, Params}
use Rattle.ms_syntax.specs.Tree as x
use Rattle.ms_typing.specs.declared.types.ExprType.{ExprType}
use Rattle.ms_typing.specs.declared.types.Surroundings.{Surroundings}
use Rattle.ms_typing.specs.declared.types.Surroundings.TheVariants as s
use Rattle.ms_typing.specs.Conversion.{truths}
use Rattle.ms_typing.specs.Items.{around_body, assigned, body_term, orders_search, own_names, param_types}
use Rattle.ms_typing.specs.Kinds.{kind_sets, stands_outside, stands_parameter, stands_result, type_of_kind}
use Rattle.ms_typing.specs.Least.{Typing, and_then, has, row, settle, typing, typings}
use Rattle.ms_typing.specs.Meaning.{World, declared, is_search}
use Rattle.ms_typing.specs.Term.{Form, base_terms, kind_terms, term_of, value_types}
use Rattle.ms_typing.specs.Term as f
use Rattle.ms_items.specs.Parts.{checked}

-- a node whose parts have these types
abbrev pub at_node : Place → Form → List ExprType → Typing ExprType
at_node p g ts = settle p g ts (row g ts)

-- a node over one expression
abbrev pub walk_over : World → Surroundings → Place → Form → Ex → Typing ExprType
walk_over world s p g e = and_then (typing (term_of world s [] e)) (λ t. at_node p g (t ∷ []))

abbrev pub walk_maybe : World → Maybe → Typing (List ExprType)
walk_maybe world x.absent = has []
walk_maybe world (x.present e) = and_then (typing (term_of world s.Model [] e)) (λ t. has (t ∷ []))

abbrev pub walk_indices : World → Indices → Typing (List ExprType)
walk_indices world x.no_indices = has []
walk_indices world (x.index e is) = and_then (walk_maybe world e) (λ ts. and_then (walk_indices world is) (λ us. has (ts ++ us)))

abbrev pub walk_base : World → Bs → Typing (List ExprType)
walk_base world base = typings (base_terms world s.Model [] base)

-- a declaration whose parts have these types
abbrev pub at_declaration : Decl → List ExprType → Typing ExprType
at_declaration (x.declare p k w notes v) ts = at_node p (f.declares (stands_outside k) (kind_sets k ++ value_types (type_of_kind k) v) (type_of_kind k)) ts

-- its index sets, its range and its value
abbrev pub walk_declaration : World → Decl → Typing ExprType
walk_declaration world (x.declare p (x.kind is mode base) w notes v) =
    and_then (walk_indices world is) (λ ts. and_then (walk_base world base) (λ us. and_then (walk_maybe world v) (λ vs.
    at_declaration (x.declare p (x.kind is mode base) w notes v) ((ts ++ us) ++ vs))))

abbrev pub walk_param : World → Bool → Place → Kd → Typing ExprType
walk_param world search p k =
    and_then (typings (kind_terms world s.Model [] k)) (λ ts. at_node p (f.declares (stands_parameter search k) (kind_sets k) (type_of_kind k)) ts)

abbrev pub walk_params : World → Bool → Params → Typing (List ExprType)
walk_params world search [] = has []
walk_params world search (q ∷ qs) = and_then (walk_param world search q.0 q.1) (λ t. and_then (walk_params world search qs) (λ ts. has (t ∷ ts)))

-- a function whose result names sets of the first types, with what is asked of them, and whose parameters and body have the last
abbrev pub at_function : Place → Bool → List ExprType → List ExprType → ExprType → Params → List ExprType → ExprType → Typing ExprType
at_function p stands sets asked t ps us v = at_node p (f.declares stands (asked ++ (param_types ps ++ (t ∷ []))) t) (sets ++ (us ++ (v ∷ [])))

abbrev pub walk_function : World → Place → Bool → List ExprType → List ExprType → ExprType → Params → Ex → Typing ExprType
walk_function world p stands sets asked t ps e =
    and_then (walk_params world (is_search t) ps) (λ us. and_then (typing (body_term world (around_body t) ps e)) (λ v. at_function p stands sets asked t ps us v))

abbrev pub walk_notes : Notes → Typing (Unit {0})
walk_notes x.no_notes = has tt
walk_notes (x.note p w es notes) = if orders_search w then checked (at_node p f.unsupported []) else walk_notes notes

abbrev pub walk_goal : World → Place → Gl → Typing ExprType
walk_goal world p (x.satisfy q) = at_node p f.satisfies []
walk_goal world p (x.minimize q e) = walk_over world s.Model p f.optimizes e
walk_goal world p (x.maximize q e) = walk_over world s.Model p f.optimizes e
walk_goal world p (x.search_by q e) = walk_over world s.Search p f.searches e

abbrev pub walk_item : World → It → Typing (Unit {0})
walk_item world (x.include p w) = has tt
walk_item world (x.declaration d) = checked (walk_declaration world d)
walk_item world (x.enumeration p w ns) = checked (at_node p f.unsupported [])
walk_item world (x.assignment p w e) = checked (walk_over world s.Model p (assigned (declared (own_names world p) w)) e)
walk_item world (x.constraint p e notes) = checked (walk_over world s.Model p f.constrains e)
walk_item world (x.solve p notes goal) = and_then (walk_notes notes) (λ a. checked (walk_goal world p goal))
walk_item world (x.output p e) = checked (walk_over world s.Output p f.outputs e)
walk_item world (x.predicate p w ps e) = checked (walk_function world p true [] [] (truths false) ps e)
walk_item world (x.function p k w ps e) =
    and_then (typings (kind_terms world s.Model [] k)) (λ ts. checked (walk_function world p (stands_result k) ts (kind_sets k) (type_of_kind k) ps e))

abbrev pub walk_items : World → List It → Typing (Unit {0})
walk_items world [] = has tt
walk_items world (i ∷ is) = and_then (walk_item world i) (λ a. walk_items world is)
