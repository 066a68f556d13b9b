-- The order in which the declarations of a model are processed.
use Rattle.std.specs.Prelude.{◌≡◌, ℕ, suc, List, [], ◌∷◌, Option, Some, None, true, option_map, if◌then◌else◌, map, length, get_or, ◌↔◌}
use Rattle.std.specs.List.{list_any}
use Rattle.std.specs.List.Sorted.{IsStrictlyIncreasing}
use Rattle.std.specs.Str.{bytes_eq}
use Rattle.ms_syntax.specs.Tree.{It}
use Rattle.ms_typing.specs.Items.{globals}
use Rattle.ms_graph.specs.Graph.{Edges, HasEdge}
use Rattle.ms_free_names.specs.Uses.{Words}
use Rattle.ms_declarations.specs.Depends.{UsesName, is_value, sayings}
use Rattle.ms_postorder.specs.Postorder.{IsPostorder}

-- the names that items declare, in their order
abbrev pub declared : List It → Words
declared items = map (λ g. g.0) (globals items)

-- the number of the first of some names that is this one
abbrev pub number_in : Words → List ℕ → Option ℕ
number_in [] w = None
number_in (v ∷ vs) w = if bytes_eq v w then Some 0 else option_map (λ k. suc k) (number_in vs w)

-- a variable or parameter of the model has this name
abbrev pub IsValue : List It → List ℕ → Type 0
IsValue items w = list_any (is_value w) items ≡ true

-- what a name reads: what it uses, by its range, its index sets or the value that is given to it, and what a name
-- uses that it reads and that is no variable or parameter, and so a predicate or a function
pub data Reads (items : List It) (w : List ℕ) : List ℕ → Type 0 where
  directly : {u : List ℕ} → UsesName (sayings items) w u → Reads items w u
  through : {f u : List ℕ} → Reads items w f → (IsValue items f → ⊥) → UsesName (sayings items) f u → Reads items w u

-- of the names with two numbers: a variable or parameter reads another
pub record Needs (items : List It) (a b : ℕ) : Type 0 where
  pub reader : List ℕ
  pub read : List ℕ
  pub reader_number : number_in (declared items) reader ≡ Some a
  pub read_number : number_in (declared items) read ≡ Some b
  pub reader_value : IsValue items reader
  pub read_value : IsValue items read
  pub reads : Reads items reader read

-- a graph of the numbers of the declared names whose edges are these, from each name in item order
pub record AreNeeds (items : List It) (g : Edges) : Type 0 where
  pub size : length g ≡ length (declared items)
  pub rise : (a : ℕ) → IsStrictlyIncreasing (get_or g a [])
  pub edges : (a b : ℕ) → HasEdge g a b ↔ Needs items a b

-- the declarations in item order, where before a declaration come those that it reads and that have not come yet,
-- in item order, each by the same rule. Enumerated types, their values, predicates and functions come too, each in
-- its place in item order: nothing comes before them, and they come before nothing
pub record IsOrder (items : List It) (order : List ℕ) : Type 0 where
  pub needs : Edges
  pub are : AreNeeds items needs
  pub come : IsPostorder needs order
