-- Trees as plain data, and the one that each Rust tree stands for.
use Rattle.std.specs.Prelude.{ℕ, List, [], ◌∷◌, map, Bool, Option, Some, None, option_map}
use Rattle.ms_syntax.specs.declared.token.Place.{Place}
use Rattle.ms_syntax.specs.declared.tree.Operator.{Operator}
use Rattle.ms_syntax.specs.declared.tree.Sign.{Sign}
use Rattle.ms_syntax.specs.declared.tree.Mode.{Mode}
use Rattle.ms_syntax.specs.declared.tree.Binder.{Binder}
use Rattle.ms_syntax.specs.declared.tree.Base.TheOpen.{Base-F, Expr-F, Index-F, Arm-F, Declaration-F, Generator-F, Generators-F, Kind-F, Link-F, Note-F, Row-F, Subscript-F}
use Rattle.ms_syntax.specs.declared.tree.Base.{Base, fold-Base}
use Rattle.ms_syntax.specs.declared.tree.Expr.{Expr, fold-Expr}
use Rattle.ms_syntax.specs.declared.tree.Index.{Index, fold-Index}
use Rattle.ms_syntax.specs.declared.tree.Arm.{Arm, fold-Arm}
use Rattle.ms_syntax.specs.declared.tree.Declaration.{Declaration, fold-Declaration}
use Rattle.ms_syntax.specs.declared.tree.Generator.{Generator, fold-Generator}
use Rattle.ms_syntax.specs.declared.tree.Generators.{Generators, fold-Generators}
use Rattle.ms_syntax.specs.declared.tree.Kind.{Kind, fold-Kind}
use Rattle.ms_syntax.specs.declared.tree.Link.{Link, fold-Link}
use Rattle.ms_syntax.specs.declared.tree.Note.{Note, fold-Note}
use Rattle.ms_syntax.specs.declared.tree.Row.{Row, fold-Row}
use Rattle.ms_syntax.specs.declared.tree.Subscript.{Subscript, fold-Subscript}
use Rattle.ms_syntax.specs.declared.tree.Parameter.{Parameter}
use Rattle.ms_syntax.specs.declared.tree.Goal.{Goal}
use Rattle.ms_syntax.specs.declared.tree.Goal.TheVariants as g
use Rattle.ms_syntax.specs.declared.tree.Item.{Item}
use Rattle.ms_syntax.specs.declared.tree.Item.TheVariants as i
use Rattle.ms_syntax.specs.declared.tree.Tree.{Tree}
use Rattle.ms_syntax.specs.declared.tree.Assignment.{Assignment}
use Rattle.ms_syntax.specs.declared.tree.Assignments.{Assignments}

-- names with their places
abbrev pub Names : Type 0
Names = List (Place × List ℕ)

mutual
  pub data Ex : Type 0 where
    let_in : Place → Decls → Bool → Ex → Ex
    -- operands that bind no looser than the number, and the operators behind the first
    chain : ℕ → Ex → Links → Ex
    prefix : Place → Sign → Ex → Ex
    access : Place → Ex → Subscripts → Ex
    number : Place → ℕ → Ex
    text : Place → List ℕ → Ex
    truth : Place → Bool → Ex
    name : Place → List ℕ → Ex
    call : Place → List ℕ → Exs → Ex
    generator_call : Place → List ℕ → Gens → Maybe → Ex → Ex
    paren : Place → Ex → Ex
    array : Place → Exs → Ex
    comprehension : Place → Ex → Gens → Maybe → Ex
    rows : Place → Rows → Ex
    set : Place → Exs → Ex
    if_else : Place → Ex → Ex → Arms → Ex → Ex

  pub data Maybe : Type 0 where
    absent : Maybe
    present : Ex → Maybe

  pub data Exs : Type 0 where
    no_exs : Exs
    ex : Ex → Exs → Exs

  pub data Links : Type 0 where
    no_links : Links
    link : Operator → Place → Ex → Links → Links

  pub data Arms : Type 0 where
    no_arms : Arms
    arm : Ex → Ex → Arms → Arms

  pub data Rows : Type 0 where
    no_rows : Rows
    row : Exs → Rows → Rows

  pub data Subscripts : Type 0 where
    no_subscripts : Subscripts
    subscript : Ex → Maybe → Subscripts → Subscripts

  pub data Gens : Type 0 where
    no_gens : Gens
    gen : Names → Ex → Gens → Gens

  pub data Decls : Type 0 where
    no_decls : Decls
    decl : Decl → Decls → Decls

  pub data Decl : Type 0 where
    declare : Place → Kd → List ℕ → Notes → Maybe → Decl

  -- index sets, where `int` is absent; whether it is marked; and what the elements are
  pub data Kd : Type 0 where
    kind : Indices → Mode → Bs → Kd

  pub data Bs : Type 0 where
    of_bool : Bs
    of_int : Bs
    of_string : Bs
    of_ann : Bs
    set_of_int : Bs
    set_of : Ex → Bs
    of_values : Ex → Bs

  pub data Indices : Type 0 where
    no_indices : Indices
    index : Maybe → Indices → Indices

  pub data Notes : Type 0 where
    no_notes : Notes
    note : Place → List ℕ → Exs → Notes → Notes

-- ---- lists

abbrev pub maybe_of : Option Ex → Maybe
maybe_of None = absent
maybe_of (Some e) = present e

abbrev pub exs_of : List Ex → Exs
exs_of [] = no_exs
exs_of (e ∷ es) = ex e (exs_of es)

abbrev pub links_of : List (Operator × Place × Ex) → Links
links_of [] = no_links
links_of (l ∷ ls) = link l.0 l.1 l.2 (links_of ls)

abbrev pub arms_of : List (Ex × Ex) → Arms
arms_of [] = no_arms
arms_of (a ∷ as') = arm a.0 a.1 (arms_of as')

abbrev pub rows_of : List Exs → Rows
rows_of [] = no_rows
rows_of (r ∷ rs) = row r (rows_of rs)

abbrev pub subscripts_of : List (Ex × Maybe) → Subscripts
subscripts_of [] = no_subscripts
subscripts_of (i ∷ is) = subscript i.0 i.1 (subscripts_of is)

abbrev pub gens_of : List (Names × Ex) → Gens
gens_of [] = no_gens
gens_of (x ∷ xs) = gen x.0 x.1 (gens_of xs)

abbrev pub decls_of : List Decl → Decls
decls_of [] = no_decls
decls_of (d ∷ ds) = decl d (decls_of ds)

abbrev pub indices_of : List Maybe → Indices
indices_of [] = no_indices
indices_of (i ∷ is) = index i (indices_of is)

abbrev pub notes_of : List (Place × List ℕ × Exs) → Notes
notes_of [] = no_notes
notes_of (n ∷ ns) = note n.0 n.1 n.2 (notes_of ns)

abbrev pub binder_view : Binder → Place × List ℕ
binder_view b = (b.place, b.name)

abbrev pub names_view : List Binder → Names
names_view = map binder_view

-- ---- how loosely an expression binds: 0 an atom, 1 an access, 2 one with a sign, 3 to 12 a chain, 13 a `let`

-- what the operands of each level bind at most
abbrev pub of_concat : ℕ
of_concat = 2

abbrev pub of_product : ℕ
of_product = 3

abbrev pub of_sum : ℕ
of_sum = 4

abbrev pub of_range : ℕ
of_range = 5

abbrev pub of_membership : ℕ
of_membership = 6

abbrev pub of_comparison : ℕ
of_comparison = 7

abbrev pub of_conjunction : ℕ
of_conjunction = 8

abbrev pub of_disjunction : ℕ
of_disjunction = 9

abbrev pub of_implication : ℕ
of_implication = 10

abbrev pub of_equivalence : ℕ
of_equivalence = 11

-- what the body of a `let` binds at most
abbrev pub of_let : ℕ
of_let = 12

-- ---- one level of each type, with what is inside already seen

abbrev pub one_link : Operator × Place × Ex → Links
one_link l = link l.0 l.1 l.2 no_links

-- what stands inside for Base, Expr, Index, Arm, Declaration, Generator, Generators, Kind, Link, Note, Row, Subscript
abbrev pub Layer : (Type 0 → Type 0 → Type 0 → Type 0 → Type 0 → Type 0 → Type 0 → Type 0 → Type 0 → Type 0 → Type 0 → Type 0 → Type 0) → Type 0
Layer F = F Bs Ex Maybe (Ex × Ex) Decl (Names × Ex) (Gens × Maybe) Kd (Operator × Place × Ex) (Place × List ℕ × Exs) Exs (Ex × Maybe)

abbrev pub ex_step : Layer Expr-F → Ex
ex_step (Expr-F.Let p ds closed e) = let_in p (decls_of ds.items) closed e.value
ex_step (Expr-F.Equivalence first links) = chain of_equivalence first.value (links_of links.items)
ex_step (Expr-F.Implication first links) = chain of_implication first.value (links_of links.items)
ex_step (Expr-F.Disjunction first links) = chain of_disjunction first.value (links_of links.items)
ex_step (Expr-F.Conjunction first links) = chain of_conjunction first.value (links_of links.items)
ex_step (Expr-F.Comparison first l) = chain of_comparison first.value (one_link l.value)
ex_step (Expr-F.Membership first l) = chain of_membership first.value (one_link l.value)
ex_step (Expr-F.Range first l) = chain of_range first.value (one_link l.value)
ex_step (Expr-F.Sum first links) = chain of_sum first.value (links_of links.items)
ex_step (Expr-F.Product first links) = chain of_product first.value (links_of links.items)
ex_step (Expr-F.Concatenation first links) = chain of_concat first.value (links_of links.items)
ex_step (Expr-F.Prefix p s e) = prefix p s e.value
ex_step (Expr-F.Access p e is) = access p e.value (subscripts_of is.items)
ex_step (Expr-F.Number p n) = number p n
ex_step (Expr-F.Text p w) = text p w
ex_step (Expr-F.Truth p b) = truth p b
ex_step (Expr-F.Name p w) = name p w
ex_step (Expr-F.Call p w es) = call p w (exs_of es.items)
ex_step (Expr-F.GeneratorCall p w g e) = generator_call p w g.0 g.1 e.value
ex_step (Expr-F.Parenthesis p e) = paren p e.value
ex_step (Expr-F.Array p es) = array p (exs_of es.items)
ex_step (Expr-F.Comprehension p e g) = comprehension p e.value g.0 g.1
ex_step (Expr-F.Rows p rs) = rows p (rows_of rs.items)
ex_step (Expr-F.Set p es) = set p (exs_of es.items)
ex_step (Expr-F.If p c t more e) = if_else p c.value t.value (arms_of more.items) e.value

abbrev pub base_step : Layer Base-F → Bs
base_step (Base-F.Bool) = of_bool
base_step (Base-F.Int) = of_int
base_step (Base-F.String) = of_string
base_step (Base-F.Ann) = of_ann
base_step (Base-F.SetOfInt) = set_of_int
base_step (Base-F.SetOf e) = set_of e
base_step (Base-F.Within e) = of_values e

abbrev pub index_step : Layer Index-F → Maybe
index_step (Index-F.AnyInt) = absent
index_step (Index-F.Over e) = present e

abbrev pub arm_step : Layer Arm-F → Ex × Ex
arm_step a = (a.condition, a.branch)

abbrev pub declaration_step : Layer Declaration-F → Decl
declaration_step d = declare d.place d.kind d.name (notes_of d.notes.items) (maybe_of d.value)

abbrev pub generator_step : Layer Generator-F → Names × Ex
generator_step g = (names_view g.names, g.set)

abbrev pub generators_step : Layer Generators-F → Gens × Maybe
generators_step g = (gens_of g.list.items, maybe_of (option_map (λ b. b.value) g.condition))

abbrev pub kind_step : Layer Kind-F → Kd
kind_step k = kind (indices_of k.indices.items) k.mode k.base

abbrev pub link_step : Layer Link-F → Operator × Place × Ex
link_step l = (l.operator, l.place, l.operand)

abbrev pub note_step : Layer Note-F → Place × List ℕ × Exs
note_step n = (n.place, n.name, exs_of n.arguments.items)

abbrev pub row_step : Layer Row-F → Exs
row_step r = exs_of r.elements.items

abbrev pub subscript_step : Layer Subscript-F → Ex × Maybe
subscript_step i = (i.first, maybe_of i.second)

-- ---- what each Rust type stands for

abbrev pub base_view : Base → Bs
base_view = fold-Base _ _ _ _ _ _ _ _ _ _ _ _ base_step ex_step index_step arm_step declaration_step generator_step generators_step kind_step link_step note_step row_step subscript_step

abbrev pub ex_view : Expr → Ex
ex_view = fold-Expr _ _ _ _ _ _ _ _ _ _ _ _ base_step ex_step index_step arm_step declaration_step generator_step generators_step kind_step link_step note_step row_step subscript_step

abbrev pub index_view : Index → Maybe
index_view = fold-Index _ _ _ _ _ _ _ _ _ _ _ _ base_step ex_step index_step arm_step declaration_step generator_step generators_step kind_step link_step note_step row_step subscript_step

abbrev pub arm_view : Arm → Ex × Ex
arm_view = fold-Arm _ _ _ _ _ _ _ _ _ _ _ _ base_step ex_step index_step arm_step declaration_step generator_step generators_step kind_step link_step note_step row_step subscript_step

abbrev pub declaration_view : Declaration → Decl
declaration_view = fold-Declaration _ _ _ _ _ _ _ _ _ _ _ _ base_step ex_step index_step arm_step declaration_step generator_step generators_step kind_step link_step note_step row_step subscript_step

abbrev pub generator_view : Generator → Names × Ex
generator_view = fold-Generator _ _ _ _ _ _ _ _ _ _ _ _ base_step ex_step index_step arm_step declaration_step generator_step generators_step kind_step link_step note_step row_step subscript_step

abbrev pub generators_view : Generators → Gens × Maybe
generators_view = fold-Generators _ _ _ _ _ _ _ _ _ _ _ _ base_step ex_step index_step arm_step declaration_step generator_step generators_step kind_step link_step note_step row_step subscript_step

abbrev pub kind_view : Kind → Kd
kind_view = fold-Kind _ _ _ _ _ _ _ _ _ _ _ _ base_step ex_step index_step arm_step declaration_step generator_step generators_step kind_step link_step note_step row_step subscript_step

abbrev pub link_view : Link → Operator × Place × Ex
link_view = fold-Link _ _ _ _ _ _ _ _ _ _ _ _ base_step ex_step index_step arm_step declaration_step generator_step generators_step kind_step link_step note_step row_step subscript_step

abbrev pub note_view : Note → Place × List ℕ × Exs
note_view = fold-Note _ _ _ _ _ _ _ _ _ _ _ _ base_step ex_step index_step arm_step declaration_step generator_step generators_step kind_step link_step note_step row_step subscript_step

abbrev pub row_view : Row → Exs
row_view = fold-Row _ _ _ _ _ _ _ _ _ _ _ _ base_step ex_step index_step arm_step declaration_step generator_step generators_step kind_step link_step note_step row_step subscript_step

abbrev pub subscript_view : Subscript → Ex × Maybe
subscript_view = fold-Subscript _ _ _ _ _ _ _ _ _ _ _ _ base_step ex_step index_step arm_step declaration_step generator_step generators_step kind_step link_step note_step row_step subscript_step

abbrev pub exs_view : List Expr → Exs
exs_view es = exs_of (map ex_view es)

abbrev pub links_view : List Link → Links
links_view ls = links_of (map link_view ls)

abbrev pub subscripts_view : List Subscript → Subscripts
subscripts_view is = subscripts_of (map subscript_view is)

abbrev pub gens_view : List Generator → Gens
gens_view gs = gens_of (map generator_view gs)

abbrev pub decls_view : List Declaration → Decls
decls_view ds = decls_of (map declaration_view ds)

abbrev pub indices_view : List Index → Indices
indices_view is = indices_of (map index_view is)

abbrev pub notes_view : List Note → Notes
notes_view ns = notes_of (map note_view ns)

abbrev pub maybe_view : Option Expr → Maybe
maybe_view o = maybe_of (option_map ex_view o)

-- ---- items

abbrev pub Params : Type 0
Params = List (Place × Kd × List ℕ)

pub data Gl : Type 0 where
  satisfy : Place → Gl
  minimize : Place → Ex → Gl
  maximize : Place → Ex → Gl
  search_by : Place → Ex → Gl

pub data It : Type 0 where
  include : Place → List ℕ → It
  declaration : Decl → It
  enumeration : Place → List ℕ → Option Names → It
  assignment : Place → List ℕ → Ex → It
  constraint : Place → Ex → Notes → It
  solve : Place → Notes → Gl → It
  output : Place → Ex → It
  predicate : Place → List ℕ → Params → Ex → It
  function : Place → Kd → List ℕ → Params → Ex → It

abbrev pub parameter_view : Parameter → Place × Kd × List ℕ
parameter_view p = (p.place, kind_view p.kind, p.name)

abbrev pub params_view : List Parameter → Params
params_view = map parameter_view

abbrev pub goal_view : Goal → Gl
goal_view (g.Satisfy p) = satisfy p
goal_view (g.Minimize p e) = minimize p (ex_view e)
goal_view (g.Maximize p e) = maximize p (ex_view e)
goal_view (g.Search p e) = search_by p (ex_view e)

abbrev pub item_view : Item → It
item_view (i.Include p w) = include p w
item_view (i.Declare d) = declaration (declaration_view d)
item_view (i.Enum p w ns) = enumeration p w (option_map (λ v. names_view v.items) ns)
item_view (i.Assign p w e) = assignment p w (ex_view e)
item_view (i.Constraint p e ns) = constraint p (ex_view e) (notes_view ns.items)
item_view (i.Solve p ns q) = solve p (notes_view ns.items) (goal_view q)
item_view (i.Output p e) = output p (ex_view e)
item_view (i.Predicate p w ps e) = predicate p w (params_view ps.items) (ex_view e)
item_view (i.Function p k w ps e) = function p (kind_view k) w (params_view ps.items) (ex_view e)

-- items, and whether the last mark is there
abbrev pub Items : Type 0
Items = List It × Bool

abbrev pub tree_view : Tree → Items
tree_view t = (map item_view t.items.items, t.closed)

abbrev pub Pairs : Type 0
Pairs = List (Place × List ℕ × Ex) × Bool

abbrev pub assignment_view : Assignment → Place × List ℕ × Ex
assignment_view a = (a.place, a.name, ex_view a.value)

abbrev pub assignments_view : Assignments → Pairs
assignments_view d = (map assignment_view d.list.items, d.closed)
