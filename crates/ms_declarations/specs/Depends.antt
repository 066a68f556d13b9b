-- What the names of a text's items depend on.
use Rattle.std.specs.Prelude.{◌≡◌, ℕ, List, [], ◌∷◌, ◌++◌, Bool, true, false, ◌&&◌, Option, Some, None, ◌⊎◌, if◌then◌else◌}
use Rattle.std.specs.List.{flat_map, list_any}
use Rattle.std.specs.Str.{bytes_eq}
use Rattle.ms_syntax.specs.declared.token.Place.{Place}
use Rattle.ms_syntax.specs.declared.tree.Mode.{Mode}
use Rattle.ms_syntax.specs.declared.tree.Mode.TheVariants as m
use Rattle.ms_syntax.specs.Tree as x
use Rattle.ms_syntax.specs.Tree.{Names, It, Kd, Bs, Indices}
use Rattle.ms_declarations.specs.Declaring.{declared_by}
use Rattle.ms_free_names.specs.Uses.{Words, parameters, uses, uses_decl, uses_kind, uses_params}

abbrev pub In : {A : Type 0} → A → List A → Type 0
In y [] = ⊥
In y (z ∷ zs) = (y ≡ z) ⊎ In y zs

-- ---- what an item says of a name: by its range, index sets and value, or by its body

abbrev pub Saying : Type 0
Saying = List ℕ × Words

-- whether an item declares a variable or parameter of the model of this name
abbrev pub is_value : List ℕ → It → Bool
is_value w (x.declaration d) = bytes_eq (declared_by d).1 w
is_value w i = false

-- the name with the names that it uses. An assignment says something of a name that a declaration declares
abbrev pub says : List It → It → List Saying
says items (x.include p w) = []
says items (x.declaration d) = ((declared_by d).1, uses_decl [] d) ∷ []
says items (x.enumeration p w ns) = []
says items (x.assignment p w e) = if list_any (is_value w) items then (w, uses [] e) ∷ [] else []
says items (x.constraint p e ns) = []
says items (x.solve p ns g) = []
says items (x.output p e) = []
says items (x.predicate p w ps e) = (w, uses_params [] ps ++ uses (parameters ps) e) ∷ []
says items (x.function p k w ps e) = (w, uses_kind [] k ++ (uses_params [] ps ++ uses (parameters ps) e)) ∷ []

abbrev pub sayings : List It → List Saying
sayings items = flat_map (says items) items

-- a name uses another
abbrev pub UsesName : List Saying → List ℕ → List ℕ → Type 0
UsesName ss w u = (s : Saying) × In s ss × (s.0 ≡ w) × In u s.1

-- a name uses another, or one that depends on it
pub data DependsOn (ss : List Saying) : List ℕ → List ℕ → Type 0 where
  directly : {w u : List ℕ} → UsesName ss w u → DependsOn ss w u
  through : {w v u : List ℕ} → UsesName ss w v → DependsOn ss v u → DependsOn ss w u

-- ---- cycles

abbrev pub is_single : Indices → Bool
is_single x.no_indices = true
is_single (x.index o is) = false

abbrev pub is_fixed : Mode → Bool
is_fixed m.Unmarked = true
is_fixed m.Par = true
is_fixed m.Var = false

abbrev pub is_ann : Bs → Bool
is_ann x.of_bool = false
is_ann x.of_int = false
is_ann x.of_string = false
is_ann x.of_ann = true
is_ann x.set_of_int = false
is_ann (x.set_of e) = false
is_ann (x.of_values e) = false

-- a function whose result is an annotation is a search, which may call itself
abbrev pub is_annotation : Kd → Bool
is_annotation (x.kind is m b) = is_single is && (is_fixed m && is_ann b)

-- the names that may not depend on themselves
abbrev pub restrained : It → Names
restrained (x.declaration d) = declared_by d ∷ []
restrained (x.predicate p w ps e) = (p, w) ∷ []
restrained (x.function p k w ps e) = if is_annotation k then [] else (p, w) ∷ []
restrained i = []

-- the place of the first of them that depends on itself
pub record FirstCycle (items : List It) (p : Place) : Type 0 where
  pub before : Names
  pub name : List ℕ
  pub behind : Names
  pub names : flat_map restrained items ≡ before ++ (p, name) ∷ behind
  pub cyclic : DependsOn (sayings items) name name
  pub none_before : (n : Place × List ℕ) → In n before → DependsOn (sayings items) n.1 n.1 → ⊥

abbrev pub HasNoCycle : List It → Type 0
HasNoCycle items = (n : Place × List ℕ) → In n (flat_map restrained items) → DependsOn (sayings items) n.1 n.1 → ⊥
