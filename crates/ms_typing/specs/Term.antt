-- An expression whose names are told: each node with its place, its form and its parts in the order of the text.
use Rattle.std.specs.Prelude.{ℕ, suc, Bool, true, false, List, [], ◌∷◌, ◌++◌, ◌==◌, if◌then◌else◌, ◌&&◌}
use Rattle.ms_syntax.specs.declared.token.Place.{Place}
use Rattle.ms_syntax.specs.declared.tree.Operator.{Operator}
use Rattle.ms_syntax.specs.declared.tree.Sign.{Sign}
use Rattle.ms_syntax.specs.Tree.{Arms, Bs, Decl, Decls, Ex, Exs, Gens, Indices, Kd, Links, Maybe, Rows, Subscripts, of_concat}
use Rattle.ms_syntax.specs.Tree as x
use Rattle.ms_typing.specs.declared.types.ExprType.{ExprType}
use Rattle.ms_typing.specs.declared.types.ExprType.TheVariants.{Set}
use Rattle.ms_typing.specs.declared.types.Surroundings.{Surroundings}
use Rattle.ms_typing.specs.Conversion.{numbers, truths}
use Rattle.ms_typing.specs.Kinds.{kind_sets, stands_local, type_of_kind}
use Rattle.ms_typing.specs.Meaning.{Names, Told, World, is_data, look, seen, tell}

-- what decides the row at a node, besides the types of its parts
pub data Form : Type 0 where
  number : Form
  text : Form
  truth : Form
  -- a name by itself
  stands : Told → Form
  -- a name with arguments
  calls : Told → Form
  -- a name with generators, and then its element: what the sets and the condition are to be, and whether there is one
  -- generator with one name and no condition
  generates : Told → List ExprType → Bool → Form
  operation : Operator → Form
  prefix : Sign → Form
  parenthesis : Form
  -- an array, and one index or two
  access : Form
  array : Form
  -- rows, written one after the other: whether they have one length
  grid : Bool → Form
  set : Form
  -- an element, and then what the sets and the condition are to be
  comprehension : List ExprType → Form
  -- conditions, each before its branch, and the last branch
  choice : Form
  -- locals of these types, and then the body
  lets : List ExprType → Form
  -- a declaration, parameter or function: whether its kind is supported, what its parts are to be, and its type
  declares : Bool → List ExprType → ExprType → Form
  -- a value for a name of this type
  assigns : ExprType → Form
  -- a value for a name that is not declared here
  gives : Form
  constrains : Form
  satisfies : Form
  optimizes : Form
  searches : Form
  outputs : Form
  -- what the language does not support
  unsupported : Form
  -- what does not stand in these surroundings
  misplaced : Form

mutual
  pub data Term : Type 0 where
    node : Place → Form → Terms → Term

  pub data Terms : Type 0 where
    no_terms : Terms
    term : Term → Terms → Terms

abbrev pub one_term : Term → Terms
one_term t = term t no_terms

abbrev pub two_terms : Term → Term → Terms
two_terms t u = term t (term u no_terms)

-- these, and then those
abbrev pub then_terms : Terms → Terms → Terms
then_terms no_terms us = us
then_terms (term t ts) us = term t (then_terms ts us)

-- ---- names that expressions declare

abbrev pub with_names : x.Names → Names → Names
with_names [] ns = ns
with_names (b ∷ bs) ns = with_names bs ((b.1, numbers true) ∷ ns)

abbrev pub with_gens : Gens → Names → Names
with_gens x.no_gens ns = ns
with_gens (x.gen bs e gs) ns = with_gens gs (with_names bs ns)

abbrev pub with_local : Decl → Names → Names
with_local (x.declare p k w notes v) ns = (w, type_of_kind k) ∷ ns

abbrev pub with_locals : Decls → Names → Names
with_locals x.no_decls ns = ns
with_locals (x.decl d ds) ns = with_locals ds (with_local d ns)

-- ---- what the parts of some forms are to be

abbrev pub gens_sets : Gens → List ExprType
gens_sets x.no_gens = []
gens_sets (x.gen bs e gs) = Set ∷ gens_sets gs

abbrev pub condition_types : Maybe → List ExprType
condition_types x.absent = []
condition_types (x.present e) = truths true ∷ []

abbrev pub generator_types : Gens → Maybe → List ExprType
generator_types gs c = gens_sets gs ++ condition_types c

-- one generator with one name, and no condition
abbrev pub is_one_name : Gens → Maybe → Bool
is_one_name (x.gen (b ∷ []) e x.no_gens) x.absent = true
is_one_name gs c = false

abbrev pub local_types : Surroundings → Decls → List ExprType
local_types s x.no_decls = []
local_types s (x.decl (x.declare p k w notes v) ds) = seen s (type_of_kind k) ∷ local_types s ds

abbrev pub value_types : ExprType → Maybe → List ExprType
value_types t x.absent = []
value_types t (x.present e) = t ∷ []

abbrev pub exs_count : Exs → ℕ
exs_count x.no_exs = 0
exs_count (x.ex e es) = suc (exs_count es)

abbrev pub are_long : ℕ → Rows → Bool
are_long n x.no_rows = true
are_long n (x.row es rs) = (exs_count es == n) && are_long n rs

-- whether rows have one length
abbrev pub are_even : Rows → Bool
are_even x.no_rows = true
are_even (x.row es rs) = are_long (exs_count es) rs

-- in a value of a data file no names are declared
abbrev pub declaring : Surroundings → Form → Form
declaring s g = if is_data s then misplaced else g

-- ---- expressions

abbrev mutual
  pub term_of : World → Surroundings → Names → Ex → Term
  term_of world s ns (x.let_in p ds closed e) =
      node p (declaring s (lets (local_types s ds))) (then_terms (local_terms world s ns ds) (one_term (term_of world s (with_locals ds ns) e)))
  term_of world s ns (x.chain level e links) =
      if level == of_concat then right_term world s ns (term_of world s ns e) links else left_term world s ns (term_of world s ns e) links
  term_of world s ns (x.prefix p sign e) = node p (prefix sign) (one_term (term_of world s ns e))
  term_of world s ns (x.access p e is) = access_term world s ns p (term_of world s ns e) is
  term_of world s ns (x.number p n) = node p number no_terms
  term_of world s ns (x.text p w) = node p text no_terms
  term_of world s ns (x.truth p b) = node p truth no_terms
  term_of world s ns (x.name p w) = node p (stands (tell s (look world p ns w))) no_terms
  term_of world s ns (x.call p w es) = node p (calls (tell s (look world p ns w))) (exs_terms world s ns es)
  term_of world s ns (x.generator_call p w gs c e) =
      node p (generates (tell s (look world p ns w)) (generator_types gs c) (is_one_name gs c))
      (then_terms (gens_terms world s ns gs) (then_terms (maybe_terms world s (with_gens gs ns) c) (one_term (term_of world s (with_gens gs ns) e))))
  term_of world s ns (x.paren p e) = node p parenthesis (one_term (term_of world s ns e))
  term_of world s ns (x.array p es) = node p array (exs_terms world s ns es)
  term_of world s ns (x.comprehension p e gs c) =
      node p (declaring s (comprehension (generator_types gs c)))
      (term (term_of world s (with_gens gs ns) e) (then_terms (gens_terms world s ns gs) (maybe_terms world s (with_gens gs ns) c)))
  term_of world s ns (x.rows p rs) = node p (grid (are_even rs)) (rows_terms world s ns rs)
  term_of world s ns (x.set p es) = node p set (exs_terms world s ns es)
  term_of world s ns (x.if_else p c b arms e) =
      node p choice (term (term_of world s ns c) (term (term_of world s ns b) (then_terms (arms_terms world s ns arms) (one_term (term_of world s ns e)))))

  -- operators in pairs, to the left
  pub left_term : World → Surroundings → Names → Term → Links → Term
  left_term world s ns first x.no_links = first
  left_term world s ns first (x.link op p e links) = left_term world s ns (node p (operation op) (two_terms first (term_of world s ns e))) links

  -- and to the right
  pub right_term : World → Surroundings → Names → Term → Links → Term
  right_term world s ns first x.no_links = first
  right_term world s ns first (x.link op p e links) = node p (operation op) (two_terms first (right_term world s ns (term_of world s ns e) links))

  -- one node for each pair of brackets, all of them where the array stands
  pub access_term : World → Surroundings → Names → Place → Term → Subscripts → Term
  access_term world s ns p first x.no_subscripts = first
  access_term world s ns p first (x.subscript e other is) =
      access_term world s ns p (node p access (term first (term (term_of world s ns e) (maybe_terms world s ns other)))) is

  pub exs_terms : World → Surroundings → Names → Exs → Terms
  exs_terms world s ns x.no_exs = no_terms
  exs_terms world s ns (x.ex e es) = term (term_of world s ns e) (exs_terms world s ns es)

  pub maybe_terms : World → Surroundings → Names → Maybe → Terms
  maybe_terms world s ns x.absent = no_terms
  maybe_terms world s ns (x.present e) = one_term (term_of world s ns e)

  pub rows_terms : World → Surroundings → Names → Rows → Terms
  rows_terms world s ns x.no_rows = no_terms
  rows_terms world s ns (x.row es rs) = then_terms (exs_terms world s ns es) (rows_terms world s ns rs)

  pub arms_terms : World → Surroundings → Names → Arms → Terms
  arms_terms world s ns x.no_arms = no_terms
  arms_terms world s ns (x.arm c b arms) = term (term_of world s ns c) (term (term_of world s ns b) (arms_terms world s ns arms))

  -- the sets of generators: each sees the names before it
  pub gens_terms : World → Surroundings → Names → Gens → Terms
  gens_terms world s ns x.no_gens = no_terms
  gens_terms world s ns (x.gen bs e gs) = term (term_of world s ns e) (gens_terms world s (with_names bs ns) gs)

  -- locals: each sees those before it
  pub local_terms : World → Surroundings → Names → Decls → Terms
  local_terms world s ns x.no_decls = no_terms
  local_terms world s ns (x.decl d ds) = term (local_term world s ns d) (local_terms world s (with_local d ns) ds)

  pub local_term : World → Surroundings → Names → Decl → Term
  local_term world s ns (x.declare p k w notes v) =
      let t = seen s (type_of_kind k) in
      node p (declares (stands_local k v) (kind_sets k ++ value_types t v) t) (then_terms (kind_terms world s ns k) (maybe_terms world s ns v))

  -- the sets that a kind names
  pub kind_terms : World → Surroundings → Names → Kd → Terms
  kind_terms world s ns (x.kind is m base) = then_terms (index_terms world s ns is) (base_terms world s ns base)

  pub index_terms : World → Surroundings → Names → Indices → Terms
  index_terms world s ns x.no_indices = no_terms
  index_terms world s ns (x.index e is) = then_terms (maybe_terms world s ns e) (index_terms world s ns is)

  pub base_terms : World → Surroundings → Names → Bs → Terms
  base_terms world s ns x.of_bool = no_terms
  base_terms world s ns x.of_int = no_terms
  base_terms world s ns x.of_string = no_terms
  base_terms world s ns x.of_ann = no_terms
  base_terms world s ns x.set_of_int = no_terms
  base_terms world s ns (x.set_of e) = one_term (term_of world s ns e)
  base_terms world s ns (x.of_values e) = one_term (term_of world s ns e)
