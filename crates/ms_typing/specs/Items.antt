-- The terms of items and of a whole model, in the order of the text.
use Rattle.std.specs.Prelude.{ℕ, Bool, true, false, List, [], ◌∷◌, ◌++◌, map, Option, Some, None, if◌then◌else◌, codes}
use Rattle.std.specs.Str.{bytes_eq}
use Rattle.ms_syntax.specs.declared.token.Place.{Place}
use Rattle.ms_syntax.specs.Tree.{Decl, Ex, Gl, It, Kd, Maybe, Notes, Params}
use Rattle.ms_syntax.specs.Tree as x
use Rattle.ms_typing.specs.declared.types.ExprType.{ExprType}
use Rattle.ms_typing.specs.declared.types.ExprType.TheVariants.{Set}
use Rattle.ms_typing.specs.declared.types.Surroundings.{Surroundings}
use Rattle.ms_typing.specs.declared.types.Surroundings.TheVariants as s
use Rattle.ms_typing.specs.Conversion.{numbers, truths}
use Rattle.ms_typing.specs.Kinds.{kind_sets, stands_outside, stands_parameter, stands_result, type_of_kind}
use Rattle.ms_typing.specs.Meaning.{Globals, Meaning, Names, World, declared, is_library, is_search}
use Rattle.ms_typing.specs.Meaning as m
use Rattle.ms_typing.specs.Term.{Form, Term, Terms, kind_terms, maybe_terms, no_terms, node, one_term, term, term_of, then_terms, value_types}
use Rattle.ms_typing.specs.Term as f

-- ---- what items declare

abbrev pub param_types : Params → List ExprType
param_types ps = map (λ q. type_of_kind q.1) ps

abbrev pub list_names : List (Place × List ℕ) → Globals
list_names ns = map (λ n. (n.1, m.value (numbers true))) ns

abbrev pub enum_names : Option (List (Place × List ℕ)) → Globals
enum_names None = []
enum_names (Some ns) = list_names ns

abbrev pub globals_of : It → Globals
globals_of (x.include p w) = []
globals_of (x.declaration (x.declare p k w notes v)) = (w, m.value (type_of_kind k)) ∷ []
globals_of (x.enumeration p w ns) = (w, m.value Set) ∷ enum_names ns
globals_of (x.assignment p w e) = []
globals_of (x.constraint p e notes) = []
globals_of (x.solve p notes goal) = []
globals_of (x.output p e) = []
globals_of (x.predicate p w ps e) = (w, m.function (param_types ps) (truths false)) ∷ []
globals_of (x.function p k w ps e) = (w, m.function (param_types ps) (type_of_kind k)) ∷ []

abbrev pub globals : List It → Globals
globals [] = []
globals (i ∷ is) = globals_of i ++ globals is

-- the names of a model's items and of a library's
abbrev pub world_of : List It → List It → World
world_of model library = record { model = globals model; library = globals library }

-- ---- functions

-- the parameters of a function, the latest first
abbrev pub with_params : Params → Names → Names
with_params [] ns = ns
with_params (q ∷ qs) ns = with_params qs ((q.2, type_of_kind q.1) ∷ ns)

-- the body of a function, where it is called from
abbrev pub body_term : World → Surroundings → Params → Ex → Term
body_term world s ps e = term_of world s (with_params ps []) e

-- a parameter of a search function or of another
abbrev pub param_term : World → Bool → Place → Kd → Term
param_term world search p k = node p (f.declares (stands_parameter search k) (kind_sets k) (type_of_kind k)) (kind_terms world s.Model [] k)

abbrev pub param_terms : World → Bool → Params → Terms
param_terms world search [] = no_terms
param_terms world search (q ∷ qs) = term (param_term world search q.0 q.1) (param_terms world search qs)

-- where the body of a function with this result stands
abbrev pub around_body : ExprType → Surroundings
around_body t = if is_search t then s.Search else s.Model

-- ---- items

abbrev pub declaration_term : World → Decl → Term
declaration_term world (x.declare p k w notes v) =
    let t = type_of_kind k in
    node p (f.declares (stands_outside k) (kind_sets k ++ value_types t v) t) (then_terms (kind_terms world s.Model [] k) (maybe_terms world s.Model [] v))

-- an item gives a value to what items of its own text declare
abbrev pub assigned : Option Meaning → Form
assigned None = f.gives
assigned (Some (m.value t)) = f.assigns t
assigned (Some (m.function ts t)) = f.gives
assigned (Some (m.built_in b)) = f.gives

abbrev pub own_names : World → Place → Globals
own_names world p = if is_library p then world.library else world.model

-- an annotation of the solve item that names an order of branching; no other one is looked at
abbrev pub orders_search : List ℕ → Bool
orders_search w = if bytes_eq w (codes "int_search") then true else bytes_eq w (codes "bool_search")

-- the first of them
abbrev pub notes_terms : Notes → Terms
notes_terms x.no_notes = no_terms
notes_terms (x.note p w es notes) = if orders_search w then one_term (node p f.unsupported no_terms) else notes_terms notes

abbrev pub goal_term : World → Place → Gl → Term
goal_term world p (x.satisfy q) = node p f.satisfies no_terms
goal_term world p (x.minimize q e) = node p f.optimizes (one_term (term_of world s.Model [] e))
goal_term world p (x.maximize q e) = node p f.optimizes (one_term (term_of world s.Model [] e))
goal_term world p (x.search_by q e) = node p f.searches (one_term (term_of world s.Search [] e))

abbrev pub item_terms : World → It → Terms
item_terms world (x.include p w) = no_terms
item_terms world (x.declaration d) = one_term (declaration_term world d)
item_terms world (x.enumeration p w ns) = one_term (node p f.unsupported no_terms)
item_terms world (x.assignment p w e) = one_term (node p (assigned (declared (own_names world p) w)) (one_term (term_of world s.Model [] e)))
item_terms world (x.constraint p e notes) = one_term (node p f.constrains (one_term (term_of world s.Model [] e)))
item_terms world (x.solve p notes goal) = then_terms (notes_terms notes) (one_term (goal_term world p goal))
item_terms world (x.output p e) = one_term (node p f.outputs (one_term (term_of world s.Output [] e)))
item_terms world (x.predicate p w ps e) =
    one_term (node p (f.declares true (param_types ps ++ (truths false ∷ [])) (truths false))
    (then_terms (param_terms world false ps) (one_term (body_term world s.Model ps e))))
item_terms world (x.function p k w ps e) =
    let t = type_of_kind k in
    one_term (node p (f.declares (stands_result k) (kind_sets k ++ (param_types ps ++ (t ∷ []))) t)
    (then_terms (kind_terms world s.Model [] k) (then_terms (param_terms world (is_search t) ps) (one_term (body_term world (around_body t) ps e)))))

abbrev pub items_terms : World → List It → Terms
items_terms world [] = no_terms
items_terms world (i ∷ is) = then_terms (item_terms world i) (items_terms world is)

-- the library's items, and then the model's
abbrev pub model_terms : List It → List It → Terms
model_terms model library = let world = world_of model library in then_terms (items_terms world library) (items_terms world model)
