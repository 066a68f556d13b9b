-- The order in which the code asks for types is that of the terms.
use Rattle.std.proofs.Common.{◌≡◌, Bool, true, false, List, [], ◌∷◌, ◌++◌, append_assoc, refl, sym, ap, ◌∙◌}
use Rattle.ms_syntax.specs.declared.token.Place.{Place}
use Rattle.ms_syntax.specs.Tree.{Decl, Ex, Gl, Indices, It, Kd, Maybe, Notes, Params}
use Rattle.ms_syntax.specs.Tree as x
use Rattle.ms_typing.specs.declared.types.ExprType.{ExprType}
use Rattle.ms_typing.specs.declared.types.Surroundings.{Surroundings}
use Rattle.ms_typing.specs.declared.types.Surroundings.TheVariants as s
use Rattle.ms_typing.specs.Conversion.{truths}
use Rattle.ms_typing.specs.Items.{around_body, assigned, body_term, declaration_term, goal_term, item_terms, items_terms, notes_terms, orders_search, own_names, param_term, param_terms, param_types}
use Rattle.ms_typing.specs.Kinds.{kind_sets, stands_outside, stands_result, type_of_kind}
use Rattle.ms_typing.specs.Least.{Typing, and_then, fault, has, typing, typings}
use Rattle.ms_typing.specs.Meaning.{World, declared, is_search}
use Rattle.ms_typing.specs.Term.{Form, Terms, base_terms, index_terms, kind_terms, maybe_terms, no_terms, node, one_term, term, term_of, then_terms, value_types}
use Rattle.ms_typing.specs.Term as f
use Rattle.ms_items.specs.Parts.{checked}
use Rattle.ms_items.specs.Walk.{at_node, walk_base, walk_declaration, walk_function, walk_goal, walk_indices, walk_item, walk_items, walk_maybe, walk_notes, walk_over, walk_param, walk_params}

-- ---- one thing after the other

pub in_turn : {A B C : Type 0} (r : Typing A) (k : A → Typing B) (l : B → Typing C) → and_then (and_then r k) l ≡ and_then r (λ a. and_then (k a) l)
in_turn (has a) k l = refl
in_turn (fault c p) k l = refl

pub same_then : {A B : Type 0} (r : Typing A) (k l : A → Typing B) → ((a : A) → k a ≡ l a) → and_then r k ≡ and_then r l
same_then (has a) k l e = e a
same_then (fault c p) k l e = refl

-- the types of a list, behind others
pub put : (t : ExprType) (ts : List ExprType) (r : Typing (List ExprType)) → and_then (and_then r (λ us. has (t ∷ us))) (λ us. has (ts ++ us)) ≡ and_then r (λ us. has ((ts ++ (t ∷ [])) ++ us))
put t ts (has us) = ap has (put_one t ts us)
  where
    put_one : (t : ExprType) (ts us : List ExprType) → ts ++ (t ∷ us) ≡ (ts ++ (t ∷ [])) ++ us
    put_one t [] us = refl
    put_one t (u ∷ ts) us = ap (λ (vs : List ExprType). u ∷ vs) (put_one t ts us)
put t ts (fault c p) = refl

pub put_all : (ts us : List ExprType) (r : Typing (List ExprType)) → and_then (and_then r (λ vs. has (us ++ vs))) (λ vs. has (ts ++ vs)) ≡ and_then r (λ vs. has ((ts ++ us) ++ vs))
put_all ts us (has vs) = ap has (sym (append_assoc ts us vs))
put_all ts us (fault c p) = refl

-- those of two lists
pub typings_then : (xs ys : Terms) → typings (then_terms xs ys) ≡ and_then (typings xs) (λ ts. and_then (typings ys) (λ us. has (ts ++ us)))
typings_then no_terms ys = sym (all (typings ys))
  where
    all : (r : Typing (List ExprType)) → and_then r (λ us. has us) ≡ r
    all (has us) = refl
    all (fault c p) = refl
typings_then (term x xs) ys = rw (typings_then xs ys) (further (typing x) (typings xs) (typings ys))
  where
    behind : (t : ExprType) (q r : Typing (List ExprType))
        → and_then (and_then q (λ ts. and_then r (λ us. has (ts ++ us)))) (λ vs. has (t ∷ vs)) ≡ and_then (and_then q (λ ts. has (t ∷ ts))) (λ ts. and_then r (λ us. has (ts ++ us)))
    behind t (has ts) (has us) = refl
    behind t (has ts) (fault c p) = refl
    behind t (fault c p) r = refl

    further : (o : Typing ExprType) (q r : Typing (List ExprType))
        → and_then o (λ t. and_then (and_then q (λ ts. and_then r (λ us. has (ts ++ us)))) (λ vs. has (t ∷ vs))) ≡ and_then (and_then o (λ t. and_then q (λ ts. has (t ∷ ts)))) (λ ts. and_then r (λ us. has (ts ++ us)))
    further (has t) q r = behind t q r
    further (fault c p) q r = refl

-- ---- nodes

over_same : (r : Typing ExprType) (k : List ExprType → Typing ExprType) → and_then (and_then r (λ t. and_then (has []) (λ ts. has (t ∷ ts)))) k ≡ and_then r (λ t. k (t ∷ []))
over_same (has t) k = refl
over_same (fault c p) k = refl

pub over_walked : (world : World) (around : Surroundings) (p : Place) (g : Form) (e : Ex) → typing (node p g (one_term (term_of world around [] e))) ≡ walk_over world around p g e
over_walked world around p g e = over_same (typing (term_of world around [] e)) (at_node p g)

maybe_walked : (world : World) (v : Maybe) → typings (maybe_terms world s.Model [] v) ≡ walk_maybe world v
maybe_walked world x.absent = refl
maybe_walked world (x.present e) = one (typing (term_of world s.Model [] e))
  where
    one : (r : Typing ExprType) → and_then r (λ t. and_then (has []) (λ ts. has (t ∷ ts))) ≡ and_then r (λ t. has (t ∷ []))
    one (has t) = refl
    one (fault c p) = refl

indices_walked : (world : World) (is : Indices) → typings (index_terms world s.Model [] is) ≡ walk_indices world is
indices_walked world x.no_indices = refl
indices_walked world (x.index e is) = typings_then (maybe_terms world s.Model [] e) (index_terms world s.Model [] is) ∙ rw (maybe_walked world e, indices_walked world is) refl

-- what is done with the types of two lists
joined : (q r : Typing (List ExprType)) (k : List ExprType → Typing ExprType)
    → and_then (and_then q (λ ts. and_then r (λ us. has (ts ++ us)))) k ≡ and_then q (λ ts. and_then r (λ us. k (ts ++ us)))
joined (has ts) (has us) k = refl
joined (has ts) (fault c p) k = refl
joined (fault c p) r k = refl

-- a node over two lists
over_two : (p : Place) (g : Form) (xs ys : Terms) → typing (node p g (then_terms xs ys)) ≡ and_then (typings xs) (λ ts. and_then (typings ys) (λ us. at_node p g (ts ++ us)))
over_two p g xs ys = rw (typings_then xs ys) (joined (typings xs) (typings ys) (at_node p g))

declaration_walked : (world : World) (d : Decl) → typing (declaration_term world d) ≡ walk_declaration world d
declaration_walked world (x.declare p (x.kind is mode base) w notes v) =
    let k = x.kind is mode base in
    let g = f.declares (stands_outside k) (kind_sets k ++ value_types (type_of_kind k) v) (type_of_kind k) in
    over_two p g (kind_terms world s.Model [] k) (maybe_terms world s.Model [] v)
    ∙ rw (typings_then (index_terms world s.Model [] is) (base_terms world s.Model [] base), maybe_walked world v, indices_walked world is)
    (joined (walk_indices world is) (walk_base world base) (λ ts. and_then (walk_maybe world v) (λ vs. at_node p g (ts ++ vs))))

param_walked : (world : World) (search : Bool) (p : Place) (k : Kd) → typing (param_term world search p k) ≡ walk_param world search p k
param_walked world search p k = refl

params_walked : (world : World) (search : Bool) (ps : Params) → typings (param_terms world search ps) ≡ walk_params world search ps
params_walked world search [] = refl
params_walked world search (q ∷ qs) = rw (params_walked world search qs) refl

one_walked : (xs : Terms) (y : _) → typings (then_terms xs (one_term y)) ≡ and_then (typings xs) (λ ts. and_then (typing y) (λ u. has (ts ++ (u ∷ []))))
one_walked xs y = rw (typings_then xs (one_term y)) (same_then (typings xs) _ _ (λ ts. one ts (typing y)))
  where
    one : (ts : List ExprType) (r : Typing ExprType) → and_then (and_then r (λ t. and_then (has []) (λ us. has (t ∷ us)))) (λ us. has (ts ++ us)) ≡ and_then r (λ u. has (ts ++ (u ∷ [])))
    one ts (has t) = refl
    one ts (fault c p) = refl

-- parameters and a body
parts_walked : (world : World) (t : ExprType) (ps : Params) (e : Ex)
    → typings (then_terms (param_terms world (is_search t) ps) (one_term (body_term world (around_body t) ps e)))
    ≡ and_then (walk_params world (is_search t) ps) (λ us. and_then (typing (body_term world (around_body t) ps e)) (λ v. has (us ++ (v ∷ []))))
parts_walked world t ps e = rw (one_walked (param_terms world (is_search t) ps) (body_term world (around_body t) ps e), params_walked world (is_search t) ps) refl

-- ---- items

-- parameters and a body, as they are joined
function_parts : (q : Typing (List ExprType)) (r : Typing ExprType) (k : List ExprType → Typing ExprType)
    → and_then (and_then q (λ us. and_then r (λ v. has (us ++ (v ∷ []))))) k ≡ and_then q (λ us. and_then r (λ v. k (us ++ (v ∷ []))))
function_parts (has us) (has v) k = refl
function_parts (has us) (fault c p) k = refl
function_parts (fault c p) r k = refl

predicate_walked : (world : World) (p : Place) (ps : Params) (e : Ex)
    → typing (node p (f.declares true (param_types ps ++ (truths false ∷ [])) (truths false)) (then_terms (param_terms world false ps) (one_term (body_term world s.Model ps e))))
    ≡ walk_function world p true [] [] (truths false) ps e
predicate_walked world p ps e =
    rw (parts_walked world (truths false) ps e)
    (function_parts (walk_params world false ps) (typing (body_term world s.Model ps e)) (at_node p (f.declares true (param_types ps ++ (truths false ∷ [])) (truths false))))

function_walked : (world : World) (p : Place) (k : Kd) (t : ExprType) (ps : Params) (e : Ex)
    → typing (node p (f.declares (stands_result k) (kind_sets k ++ (param_types ps ++ (t ∷ []))) t)
    (then_terms (kind_terms world s.Model [] k) (then_terms (param_terms world (is_search t) ps) (one_term (body_term world (around_body t) ps e)))))
    ≡ and_then (typings (kind_terms world s.Model [] k)) (λ ts. walk_function world p (stands_result k) ts (kind_sets k) t ps e)
function_walked world p k t ps e =
    let g = f.declares (stands_result k) (kind_sets k ++ (param_types ps ++ (t ∷ []))) t in
    over_two p g (kind_terms world s.Model [] k) (then_terms (param_terms world (is_search t) ps) (one_term (body_term world (around_body t) ps e)))
    ∙ rw (parts_walked world t ps e) (same_then (typings (kind_terms world s.Model [] k)) _ _ (λ ts.
    function_parts (walk_params world (is_search t) ps) (typing (body_term world (around_body t) ps e)) (λ us. at_node p g (ts ++ us))))

-- ---- whether there is a fault

one_checked : (r : Typing ExprType) → and_then (and_then r (λ t. and_then (has []) (λ ts. has (t ∷ ts)))) (λ a. has tt) ≡ checked r
one_checked (has t) = refl
one_checked (fault c p) = refl

pub then_checked : (xs ys : Terms) → checked (typings (then_terms xs ys)) ≡ and_then (checked (typings xs)) (λ a. checked (typings ys))
then_checked xs ys = rw (typings_then xs ys) (join (typings xs) (typings ys))
  where
    join : (q r : Typing (List ExprType)) → checked (and_then q (λ ts. and_then r (λ us. has (ts ++ us)))) ≡ and_then (checked q) (λ a. checked r)
    join (has ts) (has us) = refl
    join (has ts) (fault c p) = refl
    join (fault c p) r = refl

notes_walked : (notes : Notes) → checked (typings (notes_terms notes)) ≡ walk_notes notes
notes_walked x.no_notes = refl
notes_walked (x.note p w es notes) = first (orders_search w) refl (notes_walked notes)
  where
    first : (b : Bool) → orders_search w ≡ b → checked (typings (notes_terms notes)) ≡ walk_notes notes → checked (typings (notes_terms (x.note p w es notes))) ≡ walk_notes (x.note p w es notes)
    first true e rest = rw e refl
    first false e rest = rw e rest

goal_walked : (world : World) (p : Place) (g : Gl) → typing (goal_term world p g) ≡ walk_goal world p g
goal_walked world p (x.satisfy q) = refl
goal_walked world p (x.minimize q e) = over_walked world s.Model p f.optimizes e
goal_walked world p (x.maximize q e) = over_walked world s.Model p f.optimizes e
goal_walked world p (x.search_by q e) = over_walked world s.Search p f.searches e

item_walked : (world : World) (i : It) → checked (typings (item_terms world i)) ≡ walk_item world i
item_walked world (x.include p w) = refl
item_walked world (x.declaration d) = one_checked (typing (declaration_term world d)) ∙ ap checked (declaration_walked world d)
item_walked world (x.enumeration p w ns) = refl
item_walked world (x.assignment p w e) =
    let g = assigned (declared (own_names world p) w) in
    one_checked (typing (node p g (one_term (term_of world s.Model [] e)))) ∙ ap checked (over_walked world s.Model p g e)
item_walked world (x.constraint p e notes) = one_checked (typing (node p f.constrains (one_term (term_of world s.Model [] e)))) ∙ ap checked (over_walked world s.Model p f.constrains e)
item_walked world (x.solve p notes goal) =
    then_checked (notes_terms notes) (one_term (goal_term world p goal))
    ∙ rw (notes_walked notes, one_checked (typing (goal_term world p goal)), goal_walked world p goal) refl
item_walked world (x.output p e) = one_checked (typing (node p f.outputs (one_term (term_of world s.Output [] e)))) ∙ ap checked (over_walked world s.Output p f.outputs e)
item_walked world (x.predicate p w ps e) = one_checked (typing (node p (f.declares true (param_types ps ++ (truths false ∷ [])) (truths false)) (then_terms (param_terms world false ps) (one_term (body_term world s.Model ps e))))) ∙ ap checked (predicate_walked world p ps e)
item_walked world (x.function p k w ps e) =
    let t = type_of_kind k in
    one_checked (typing (node p (f.declares (stands_result k) (kind_sets k ++ (param_types ps ++ (t ∷ []))) t)
    (then_terms (kind_terms world s.Model [] k) (then_terms (param_terms world (is_search t) ps) (one_term (body_term world (around_body t) ps e))))))
    ∙ ap checked (function_walked world p k t ps e)
    ∙ in_turn (typings (kind_terms world s.Model [] k)) (λ ts. walk_function world p (stands_result k) ts (kind_sets k) t ps e) (λ a. has tt)

pub items_walked : (world : World) (is : List It) → checked (typings (items_terms world is)) ≡ walk_items world is
items_walked world [] = refl
items_walked world (i ∷ is) = then_checked (item_terms world i) (items_terms world is) ∙ rw (item_walked world i, items_walked world is) refl
