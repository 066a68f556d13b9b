-- What is found part by part is the first clash of all that is declared.
use Rattle.std.proofs.Common.{◌≡◌, ℕ, List, [], ◌∷◌, ◌++◌, Bool, true, false, Option, Some, None, refl, sym, ap, subst, ◌∙◌}
use Rattle.std.specs.Prelude.{is_some, option_map, if◌then◌else◌, codes}
use Rattle.std.specs.Option.{option_or}
use Rattle.std.specs.Str.{bytes_eq}
use Rattle.ms_syntax.specs.declared.token.Place.{Place}
use Rattle.ms_syntax.specs.Tree as x
use Rattle.ms_syntax.specs.Tree.{Names, Params, Ex, Maybe, Exs, Links, Arms, Rows, Subscripts, Gens, Decls, Decl, Kd, Bs, Indices, It, Gl}
use Rattle.ms_declarations.specs.Declaring.{Declared, clash, declared_by, first_clash, in_base, in_decl, in_ex, in_exs, in_gens, in_goal, in_indices, in_items, in_kind, in_links, in_locals, in_maybe, in_arms, in_params, in_rows, in_subscripts, inside, listed, declarations, names_by, names_of, names_of_set, place_of, solves_by}
use Rattle.std.specs.List.{flat_map}
use Rattle.std.specs.Prelude.{Result, Ok, Err}
use Rattle.ms_declarations.specs.declared.stop.Stop.{Stop}
use Rattle.ms_declarations.specs.declared.stop.Stop.TheVariants.{Memory, Twice}
use Rattle.ms_declarations.specs.Repeats.{AreTypes, Pair, TellsWith, more, names_with, one, solved_by, twice, twice_arms, twice_base, twice_decl, twice_exs, twice_gens, twice_goal, twice_indices, twice_inside, twice_items, twice_kind, twice_links, twice_locals, twice_maybe, twice_params, twice_rows, twice_solve, twice_subscripts}

or_or : {A : Type 0} (a b c : Option A) → option_or (option_or a b) c ≡ option_or a (option_or b c)
or_or None b c = refl
or_or (Some x) b c = refl

or_none : {A : Type 0} (a : Option A) → option_or a None ≡ a
or_none None = refl
or_none (Some x) = refl

pub joined : (xs ys : List Declared) → first_clash (xs ++ ys) ≡ option_or (first_clash xs) (first_clash ys)
joined [] ys = refl
joined (d ∷ xs) ys = ap (option_or (clash d)) (joined xs ys) ∙ sym (or_or (clash d) (first_clash xs) (first_clash ys))

split : (xs ys : List Declared) (a b : Pair) → first_clash xs ≡ a → first_clash ys ≡ b → first_clash (xs ++ ys) ≡ option_or a b
split xs ys a b e f = joined xs ys ∙ ap (λ o. option_or o (first_clash ys)) e ∙ ap (option_or a) f

same_listed : (before ns : Names) → first_clash (listed before ns) ≡ more before ns
same_listed before [] = refl
same_listed before (n ∷ ns) = ap (option_or (one before n)) (same_listed (before ++ n ∷ []) ns)

mutual
  pub same : (e : Ex) → first_clash (in_ex e) ≡ twice e
  same (x.let_in p ds closed e) = split (in_locals [] ds) (in_ex e) _ _ (same_locals [] ds) (same e)
  same (x.chain n e ls) = split (in_ex e) (in_links ls) _ _ (same e) (same_links ls)
  same (x.prefix p s e) = same e
  same (x.access p e is) = split (in_ex e) (in_subscripts is) _ _ (same e) (same_subscripts is)
  same (x.number p n) = refl
  same (x.text p w) = refl
  same (x.truth p b) = refl
  same (x.name p w) = refl
  same (x.call p w es) = same_exs es
  same (x.generator_call p w gs c e) = split (in_gens [] gs ++ in_maybe c) (in_ex e) _ _ (split (in_gens [] gs) (in_maybe c) _ _ (same_gens [] gs) (same_maybe c)) (same e)
  same (x.paren p e) = same e
  same (x.array p es) = same_exs es
  same (x.comprehension p e gs c) = split (in_ex e) (in_gens [] gs ++ in_maybe c) _ _ (same e) (split (in_gens [] gs) (in_maybe c) _ _ (same_gens [] gs) (same_maybe c))
  same (x.rows p rs) = same_rows rs
  same (x.set p es) = same_exs es
  same (x.if_else p c b more e) = split (in_ex c) (in_ex b ++ (in_arms more ++ in_ex e)) _ _ (same c) (split (in_ex b) (in_arms more ++ in_ex e) _ _ (same b) (split (in_arms more) (in_ex e) _ _ (same_arms more) (same e)))

  pub same_maybe : (o : Maybe) → first_clash (in_maybe o) ≡ twice_maybe o
  same_maybe x.absent = refl
  same_maybe (x.present e) = same e

  pub same_exs : (es : Exs) → first_clash (in_exs es) ≡ twice_exs es
  same_exs x.no_exs = refl
  same_exs (x.ex e es) = split (in_ex e) (in_exs es) _ _ (same e) (same_exs es)

  pub same_links : (ls : Links) → first_clash (in_links ls) ≡ twice_links ls
  same_links x.no_links = refl
  same_links (x.link op p e ls) = split (in_ex e) (in_links ls) _ _ (same e) (same_links ls)

  pub same_arms : (more : Arms) → first_clash (in_arms more) ≡ twice_arms more
  same_arms x.no_arms = refl
  same_arms (x.arm c b more) = split (in_ex c) (in_ex b ++ in_arms more) _ _ (same c) (split (in_ex b) (in_arms more) _ _ (same b) (same_arms more))

  pub same_rows : (rs : Rows) → first_clash (in_rows rs) ≡ twice_rows rs
  same_rows x.no_rows = refl
  same_rows (x.row es rs) = split (in_exs es) (in_rows rs) _ _ (same_exs es) (same_rows rs)

  pub same_subscripts : (is : Subscripts) → first_clash (in_subscripts is) ≡ twice_subscripts is
  same_subscripts x.no_subscripts = refl
  same_subscripts (x.subscript e o is) = split (in_ex e) (in_maybe o ++ in_subscripts is) _ _ (same e) (split (in_maybe o) (in_subscripts is) _ _ (same_maybe o) (same_subscripts is))

  pub same_gens : (before : Names) (gs : Gens) → first_clash (in_gens before gs) ≡ twice_gens before gs
  same_gens before x.no_gens = refl
  same_gens before (x.gen ns e gs) = split (listed before ns) (in_ex e ++ in_gens (before ++ ns) gs) _ _ (same_listed before ns) (split (in_ex e) (in_gens (before ++ ns) gs) _ _ (same e) (same_gens (before ++ ns) gs))

  pub same_locals : (before : Names) (ds : Decls) → first_clash (in_locals before ds) ≡ twice_locals before ds
  same_locals before x.no_decls = refl
  same_locals before (x.decl d ds) = split (in_decl before d) (in_locals (before ++ declared_by d ∷ []) ds) _ _ (same_decl before d) (same_locals (before ++ declared_by d ∷ []) ds)

  pub same_decl : (before : Names) (d : Decl) → first_clash (in_decl before d) ≡ twice_decl before d
  same_decl before (x.declare p k w ns v) = ap (option_or (one before (p, w))) (split (in_kind k) (in_maybe v) _ _ (same_kind k) (same_maybe v))

  pub same_kind : (k : Kd) → first_clash (in_kind k) ≡ twice_kind k
  same_kind (x.kind is m b) = split (in_indices is) (in_base b) _ _ (same_indices is) (same_base b)

  pub same_base : (b : Bs) → first_clash (in_base b) ≡ twice_base b
  same_base x.of_bool = refl
  same_base x.of_int = refl
  same_base x.of_string = refl
  same_base x.of_ann = refl
  same_base x.set_of_int = refl
  same_base (x.set_of e) = same e
  same_base (x.of_values e) = same e

  pub same_indices : (is : Indices) → first_clash (in_indices is) ≡ twice_indices is
  same_indices x.no_indices = refl
  same_indices (x.index o is) = split (in_maybe o) (in_indices is) _ _ (same_maybe o) (same_indices is)

same_params : (before : Names) (ps : Params) → first_clash (in_params before ps) ≡ twice_params before ps
same_params before [] = refl
same_params before (p ∷ ps) = ap (option_or (one before (p.0, p.2))) (split (in_kind p.1) (in_params (before ++ (p.0, p.2) ∷ []) ps) _ _ (same_kind p.1) (same_params (before ++ (p.0, p.2) ∷ []) ps))

same_goal : (g : Gl) → first_clash (in_goal g) ≡ twice_goal g
same_goal (x.satisfy p) = refl
same_goal (x.minimize p e) = same e
same_goal (x.maximize p e) = same e
same_goal (x.search_by p e) = same e

same_inside : (i : It) → first_clash (inside i) ≡ twice_inside i
same_inside (x.include p w) = refl
same_inside (x.declaration (x.declare p k w ns v)) = split (in_kind k) (in_maybe v) _ _ (same_kind k) (same_maybe v)
same_inside (x.enumeration p w ns) = refl
same_inside (x.assignment p w e) = same e
same_inside (x.constraint p e ns) = same e
same_inside (x.solve p ns g) = same_goal g
same_inside (x.output p e) = same e
same_inside (x.predicate p w ps e) = split (in_params [] ps) (in_ex e) _ _ (same_params [] ps) (same e)
same_inside (x.function p k w ps e) = split (in_kind k) (in_params [] ps ++ in_ex e) _ _ (same_kind k) (split (in_params [] ps) (in_ex e) _ _ (same_params [] ps) (same e))

-- ---- items

place_push : (ns : Names) (n : Place × List ℕ) (w : List ℕ) → place_of (ns ++ n ∷ []) w ≡ option_or (place_of ns w) (if bytes_eq n.1 w then Some n.0 else None)
place_push [] n w = refl
place_push (m ∷ ns) n w = ap (λ o. if bytes_eq m.1 w then Some m.0 else o) (place_push ns n w) ∙ go (bytes_eq m.1 w) where
  go : (b : Bool) → (if b then Some m.0 else option_or (place_of ns w) (if bytes_eq n.1 w then Some n.0 else None)) ≡ option_or (if b then Some m.0 else place_of ns w) (if bytes_eq n.1 w then Some n.0 else None)
  go true = refl
  go false = refl

same_solve : (solves : Names) (i : It) → first_clash (listed solves (solves_by i)) ≡ twice_solve (place_of solves (codes "solve")) i
same_solve solves (x.include p w) = refl
same_solve solves (x.declaration d) = refl
same_solve solves (x.enumeration p w ns) = refl
same_solve solves (x.assignment p w e) = refl
same_solve solves (x.constraint p e ns) = refl
same_solve solves (x.solve p ns g) = or_none (option_map (λ earlier. (earlier, p)) (place_of solves (codes "solve")))
same_solve solves (x.output p e) = refl
same_solve solves (x.predicate p w ps e) = refl
same_solve solves (x.function p k w ps e) = refl

append_none : (ns : Names) (w : List ℕ) → place_of (ns ++ []) w ≡ place_of ns w
append_none [] w = refl
append_none (n ∷ ns) w = ap (λ o. if bytes_eq n.1 w then Some n.0 else o) (append_none ns w)

same_solved : (solves : Names) (i : It) → place_of (solves ++ solves_by i) (codes "solve") ≡ solved_by (place_of solves (codes "solve")) i
same_solved solves (x.include p w) = append_none solves (codes "solve")
same_solved solves (x.declaration d) = append_none solves (codes "solve")
same_solved solves (x.enumeration p w ns) = append_none solves (codes "solve")
same_solved solves (x.assignment p w e) = append_none solves (codes "solve")
same_solved solves (x.constraint p e ns) = append_none solves (codes "solve")
same_solved solves (x.solve p ns g) = place_push solves (p, codes "solve") (codes "solve")
same_solved solves (x.output p e) = append_none solves (codes "solve")
same_solved solves (x.predicate p w ps e) = append_none solves (codes "solve")
same_solved solves (x.function p k w ps e) = append_none solves (codes "solve")

-- which names an item declares hangs on the names of the enumerated types alone
same_names : (items : List It) (types : Names) → AreTypes items types → (i : It) → names_by items i ≡ names_with types i
same_names items types h (x.include p w) = refl
same_names items types h (x.declaration d) = refl
same_names items types h (x.enumeration p w ns) = refl
same_names items types h (x.assignment p w e) = ap (λ b. if b then names_of_set e else []) (sym (h w))
same_names items types h (x.constraint p e ns) = refl
same_names items types h (x.solve p ns g) = refl
same_names items types h (x.output p e) = refl
same_names items types h (x.predicate p w ps e) = refl
same_names items types h (x.function p k w ps e) = refl

pub same_names_of : (items : List It) (types : Names) → AreTypes items types → (is : List It) → flat_map (names_by items) is ≡ flat_map (names_with types) is
same_names_of items types h [] = refl
same_names_of items types h (i ∷ is) = ap (λ ns. ns ++ flat_map (names_by items) is) (same_names items types h i) ∙ ap (λ ns. names_with types i ++ ns) (same_names_of items types h is)

same_items : (items : List It) (types : Names) → AreTypes items types → (names solves : Names) (is : List It)
    → first_clash (in_items items names solves is) ≡ twice_items types names (place_of solves (codes "solve")) is
same_items items types h names solves [] = refl
same_items items types h names solves (i ∷ is) =
    split (listed names (names_by items i) ++ (listed solves (solves_by i) ++ inside i)) (in_items items (names ++ names_by items i) (solves ++ solves_by i) is) _ _
    (split (listed names (names_by items i)) (listed solves (solves_by i) ++ inside i) _ _ (same_listed names (names_by items i) ∙ ap (more names) (same_names items types h i))
    (split (listed solves (solves_by i)) (inside i) _ _ (same_solve solves i) (same_inside i)))
    (same_items items types h (names ++ names_by items i) (solves ++ solves_by i) is
    ∙ ap (λ solved. twice_items types (names ++ names_by items i) solved is) (same_solved solves i)
    ∙ ap (λ ns. twice_items types (names ++ ns) (solved_by (place_of solves (codes "solve")) i) is) (same_names items types h i))

pub same_text : (items : List It) (types : Names) → AreTypes items types → first_clash (declarations items) ≡ twice_items types [] None items
same_text items types h = same_items items types h [] [] items

-- what is found of a text, over its items alone
pub same_answer : (items : List It) (types : Names) → AreTypes items types → {X : Type 0} (view : X → Names) (r : Result X Stop)
    → TellsWith (twice_items types [] None items) (λ x. view x ≡ flat_map (names_with types) items) r
    → TellsWith (first_clash (declarations items)) (λ x. view x ≡ names_of items) r
same_answer items types h view (Ok x) t = (same_text items types h ∙ t.0, t.1 ∙ sym (same_names_of items types h items))
same_answer items types h view (Err Memory) t = tt
same_answer items types h view (Err (Twice p q)) t = same_text items types h ∙ t
