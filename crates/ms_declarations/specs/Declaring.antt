-- What a text declares.
use Rattle.std.specs.Prelude.{ℕ, List, [], ◌∷◌, ◌++◌, Bool, false, Option, Some, None, is_some, option_map, unwrap_or, if◌then◌else◌, codes}
use Rattle.std.specs.List.{flat_map, list_any}
use Rattle.std.specs.Option.{option_or}
use Rattle.std.specs.Str.{bytes_eq}
use Rattle.ms_syntax.specs.declared.token.Place.{Place}
use Rattle.ms_syntax.specs.Tree as x
use Rattle.ms_syntax.specs.Tree.{Names, Params, Ex, Maybe, Exs, Links, Arms, Rows, Subscripts, Gens, Decls, Decl, Kd, Bs, Indices, It, Gl}
use Rattle.ms_built_ins.specs.BuiltIns.{built_in}
pub use Rattle.ms_free_names.specs.Uses.{declared_by}

-- a name with its place, and what its own list declares before it
pub record Declared : Type 0 where
  pub before : Names
  pub place : Place
  pub name : List ℕ

-- names that one list declares one after the other
abbrev pub listed : Names → Names → List Declared
listed before [] = []
listed before (n ∷ ns) = record { before = before; place = n.0; name = n.1 } ∷ listed (before ++ n ∷ []) ns

-- ---- inside expressions, in the order of the text: the locals of each `let` are a list, and the names of all
-- generators of one comprehension are one

abbrev mutual
  pub in_ex : Ex → List Declared
  in_ex (x.let_in p ds closed e) = in_locals [] ds ++ in_ex e
  in_ex (x.chain n e ls) = in_ex e ++ in_links ls
  in_ex (x.prefix p s e) = in_ex e
  in_ex (x.access p e is) = in_ex e ++ in_subscripts is
  in_ex (x.number p n) = []
  in_ex (x.text p w) = []
  in_ex (x.truth p b) = []
  in_ex (x.name p w) = []
  in_ex (x.call p w es) = in_exs es
  in_ex (x.generator_call p w gs c e) = (in_gens [] gs ++ in_maybe c) ++ in_ex e
  in_ex (x.paren p e) = in_ex e
  in_ex (x.array p es) = in_exs es
  in_ex (x.comprehension p e gs c) = in_ex e ++ (in_gens [] gs ++ in_maybe c)
  in_ex (x.rows p rs) = in_rows rs
  in_ex (x.set p es) = in_exs es
  in_ex (x.if_else p c b more e) = in_ex c ++ (in_ex b ++ (in_arms more ++ in_ex e))

  pub in_maybe : Maybe → List Declared
  in_maybe x.absent = []
  in_maybe (x.present e) = in_ex e

  pub in_exs : Exs → List Declared
  in_exs x.no_exs = []
  in_exs (x.ex e es) = in_ex e ++ in_exs es

  pub in_links : Links → List Declared
  in_links x.no_links = []
  in_links (x.link op p e ls) = in_ex e ++ in_links ls

  pub in_arms : Arms → List Declared
  in_arms x.no_arms = []
  in_arms (x.arm c b more) = in_ex c ++ (in_ex b ++ in_arms more)

  pub in_rows : Rows → List Declared
  in_rows x.no_rows = []
  in_rows (x.row es rs) = in_exs es ++ in_rows rs

  pub in_subscripts : Subscripts → List Declared
  in_subscripts x.no_subscripts = []
  in_subscripts (x.subscript e o is) = in_ex e ++ (in_maybe o ++ in_subscripts is)

  pub in_gens : Names → Gens → List Declared
  in_gens before x.no_gens = []
  in_gens before (x.gen ns e gs) = listed before ns ++ (in_ex e ++ in_gens (before ++ ns) gs)

  pub in_locals : Names → Decls → List Declared
  in_locals before x.no_decls = []
  in_locals before (x.decl d ds) = in_decl before d ++ in_locals (before ++ declared_by d ∷ []) ds

  -- a name stands where its declaration begins, and so before what its kind and its value declare
  pub in_decl : Names → Decl → List Declared
  in_decl before (x.declare p k w ns v) = record { before = before; place = p; name = w } ∷ (in_kind k ++ in_maybe v)

  pub in_kind : Kd → List Declared
  in_kind (x.kind is m b) = in_indices is ++ in_base b

  pub in_base : Bs → List Declared
  in_base x.of_bool = []
  in_base x.of_int = []
  in_base x.of_string = []
  in_base x.of_ann = []
  in_base x.set_of_int = []
  in_base (x.set_of e) = in_ex e
  in_base (x.of_values e) = in_ex e

  pub in_indices : Indices → List Declared
  in_indices x.no_indices = []
  in_indices (x.index o is) = in_maybe o ++ in_indices is

-- ---- items

abbrev pub in_params : Names → Params → List Declared
in_params before [] = []
in_params before (p ∷ ps) = record { before = before; place = p.0; name = p.2 } ∷ (in_kind p.1 ++ in_params (before ++ (p.0, p.2) ∷ []) ps)

abbrev pub in_goal : Gl → List Declared
in_goal (x.satisfy p) = []
in_goal (x.minimize p e) = in_ex e
in_goal (x.maximize p e) = in_ex e
in_goal (x.search_by p e) = in_ex e

-- what an item declares in lists of its own
abbrev pub inside : It → List Declared
inside (x.include p w) = []
inside (x.declaration (x.declare p k w ns v)) = in_kind k ++ in_maybe v
inside (x.enumeration p w ns) = []
inside (x.assignment p w e) = in_ex e
inside (x.constraint p e ns) = in_ex e
inside (x.solve p ns g) = in_goal g
inside (x.output p e) = in_ex e
inside (x.predicate p w ps e) = in_params [] ps ++ in_ex e
inside (x.function p k w ps e) = in_kind k ++ (in_params [] ps ++ in_ex e)

-- the names that are all of some expressions
abbrev pub names_in : Exs → Option Names
names_in x.no_exs = Some []
names_in (x.ex (x.name p w) es) = option_map (λ ns. (p, w) ∷ ns) (names_in es)
names_in (x.ex e es) = None

-- the names of a set that lists nothing else
abbrev pub names_of_set : Ex → Names
names_of_set (x.set p es) = unwrap_or (names_in es) []
names_of_set e = []

-- whether an item declares an enumerated type of this name
abbrev pub enumerates : List ℕ → It → Bool
enumerates w (x.enumeration p v ns) = bytes_eq v w
enumerates w i = false

-- what an item declares in the list of all items. The list of an enumerated type may stand in an assignment
abbrev pub names_by : List It → It → Names
names_by items (x.include p w) = []
names_by items (x.declaration d) = declared_by d ∷ []
names_by items (x.enumeration p w ns) = (p, w) ∷ unwrap_or ns []
names_by items (x.assignment p w e) = if list_any (enumerates w) items then names_of_set e else []
names_by items (x.constraint p e ns) = []
names_by items (x.solve p ns g) = []
names_by items (x.output p e) = []
names_by items (x.predicate p w ps e) = (p, w) ∷ []
names_by items (x.function p k w ps e) = (p, w) ∷ []

-- solve items are a list of their own, in which all have one name
abbrev pub solves_by : It → Names
solves_by (x.solve p ns g) = (p, codes "solve") ∷ []
solves_by i = []

-- some items of a text, behind those that declare these names and solve items
abbrev pub in_items : List It → Names → Names → List It → List Declared
in_items items names solves [] = []
in_items items names solves (i ∷ is) =
    (listed names (names_by items i) ++ (listed solves (solves_by i) ++ inside i))
    ++ in_items items (names ++ names_by items i) (solves ++ solves_by i) is

-- ---- all of a text

-- each name that is declared, in the order of the text
abbrev pub declarations : List It → List Declared
declarations items = in_items items [] [] items

-- the names of the list of items
abbrev pub names_of : List It → Names
names_of items = flat_map (names_by items) items

-- ---- declared twice

-- the place of the first of some names that is this one
abbrev pub place_of : Names → List ℕ → Option Place
place_of [] w = None
place_of (n ∷ ns) w = if bytes_eq n.1 w then Some n.0 else place_of ns w

-- where a name is declared that its list has already, or that is built in: the earlier place and the later one
abbrev pub clash : Declared → Option (Place × Place)
clash d = if is_some (built_in d.name) then Some (d.place, d.place) else option_map (λ earlier. (earlier, d.place)) (place_of d.before d.name)

-- the first one in the order of the text
abbrev pub first_clash : List Declared → Option (Place × Place)
first_clash [] = None
first_clash (d ∷ ds) = option_or (clash d) (first_clash ds)
