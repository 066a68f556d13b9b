-- What chains and generators stand for.
use Rattle.std.proofs.Common.{◌≡◌, Bool, List, [], ◌∷◌, ◌++◌, map, ap, sym, ◌∙◌, rules, Box, Vec, Global}
use Rattle.std.proofs.lemmas.List.{map-append}
use Rattle.ms_syntax.specs.declared.tree.Expr.{Expr, the_lemmas}
use Rattle.ms_syntax.specs.declared.token.Place.{Place}
use Rattle.ms_syntax.specs.declared.tree.Operator.{Operator}
use Rattle.ms_syntax.specs.declared.tree.Declaration.{Declaration}
use Rattle.ms_syntax.specs.declared.tree.Link.{Link, roll-Link}
use Rattle.ms_syntax.specs.declared.tree.Expr.TheVariants as e
use Rattle.ms_syntax.specs.declared.tree.Binder.{Binder}
use Rattle.ms_syntax.specs.declared.tree.Generator.{Generator, roll-Generator}
use Rattle.ms_syntax.specs.declared.tree.Subscript.{Subscript}
use Rattle.ms_syntax.specs.Tree.{ex_view, link_view, links_view, exs_view, names_view, generator_view, decls_view, subscripts_view, chain, let_in, array, access, no_exs}

module _ (first : Box Expr Global) (links : Vec Link Global) where
  pub view_concat : ex_view (e.Concatenation first links) ≡ chain 2 (ex_view first.value) (links_view links.items)
  view_concat = search (rules, the_lemmas)

  pub view_product : ex_view (e.Product first links) ≡ chain 3 (ex_view first.value) (links_view links.items)
  view_product = search (rules, the_lemmas)

  pub view_sum : ex_view (e.Sum first links) ≡ chain 4 (ex_view first.value) (links_view links.items)
  view_sum = search (rules, the_lemmas)

  pub view_and : ex_view (e.Conjunction first links) ≡ chain 8 (ex_view first.value) (links_view links.items)
  view_and = search (rules, the_lemmas)

  pub view_or : ex_view (e.Disjunction first links) ≡ chain 9 (ex_view first.value) (links_view links.items)
  view_or = search (rules, the_lemmas)

  pub view_implies : ex_view (e.Implication first links) ≡ chain 10 (ex_view first.value) (links_view links.items)
  view_implies = search (rules, the_lemmas)

  pub view_same : ex_view (e.Equivalence first links) ≡ chain 11 (ex_view first.value) (links_view links.items)
  view_same = search (rules, the_lemmas)

view_generator : (names : List Binder) (set : Expr) → generator_view (roll-Generator (record { names = names; set = set })) ≡ (names_view names, ex_view set)
view_generator names set = search (rules, the_lemmas)

pub one_generator : (found more : List Generator) (names kept : List Binder) (set : Expr) → more ≡ found ++ roll-Generator (record { names = names; set = set }) ∷ [] → names ≡ kept
    → map generator_view more ≡ map generator_view found ++ (names_view kept, ex_view set) ∷ []
one_generator found more names kept set h g =
    ap (map generator_view) h ∙ map-append generator_view found (roll-Generator (record { names = names; set = set }) ∷ [])
    ∙ ap (λ v. map generator_view found ++ v ∷ []) (view_generator names set ∙ ap (λ k. (names_view k, ex_view set)) g)

view_link : (op : Operator) (p : Place) (e : Expr) → link_view (roll-Link (record { operator = op; place = p; operand = e })) ≡ (op, p, ex_view e)
view_link op p e = search (rules, the_lemmas)

pub one_link_more : (found more : List Link) (op : Operator) (p : Place) (e : Expr) → more ≡ found ++ roll-Link (record { operator = op; place = p; operand = e }) ∷ []
    → map link_view more ≡ map link_view found ++ (op, p, ex_view e) ∷ []
one_link_more found more op p e h =
    ap (map link_view) h ∙ map-append link_view found (roll-Link (record { operator = op; place = p; operand = e }) ∷ []) ∙ ap (λ v. map link_view found ++ v ∷ []) (view_link op p e)

view_let : (p : Place) (locals : Vec Declaration Global) (closed : Bool) (body : Box Expr Global) → ex_view (e.Let p locals closed body) ≡ let_in p (decls_view locals.items) closed (ex_view body.value)
view_let p locals closed body = search (rules, the_lemmas)

pub as_let : (p : Place) (locals : Vec Declaration Global) (closed : Bool) (body : Box Expr Global) (e2 : Expr) → body.value ≡ e2 → let_in p (decls_view locals.items) closed (ex_view e2) ≡ ex_view (e.Let p locals closed body)
as_let p locals closed body e2 h = ap (λ v. let_in p (decls_view locals.items) closed (ex_view v)) (sym h) ∙ sym (view_let p locals closed body)

view_array : (p : Place) (es : Vec Expr Global) → ex_view (e.Array p es) ≡ array p (exs_view es.items)
view_array p es = search (rules, the_lemmas)

pub as_array : (p : Place) (es : Vec Expr Global) → array p (exs_view es.items) ≡ ex_view (e.Array p es)
as_array p es = sym (view_array p es)

pub as_empty : (p : Place) (es : Vec Expr Global) → es.items ≡ [] → array p no_exs ≡ ex_view (e.Array p es)
as_empty p es h = ap (λ v. array p (exs_view v)) (sym h) ∙ sym (view_array p es)

view_access : (p : Place) (first : Box Expr Global) (is : Vec Subscript Global) → ex_view (e.Access p first is) ≡ access p (ex_view first.value) (subscripts_view is.items)
view_access p first is = search (rules, the_lemmas)

pub as_access : (p : Place) (first : Box Expr Global) (is : Vec Subscript Global) (atom : Expr) → first.value ≡ atom → access p (ex_view atom) (subscripts_view is.items) ≡ ex_view (e.Access p first is)
as_access p first is atom h = ap (λ v. access p (ex_view v) (subscripts_view is.items)) (sym h) ∙ sym (view_access p first is)
