-- The names that an expression uses and does not bind.
use Rattle.std.specs.Prelude.{ℕ, List, [], ◌∷◌, ◌++◌, Bool, if◌then◌else◌, map}
use Rattle.std.specs.List.{list_any}
use Rattle.std.specs.Str.{bytes_eq}
use Rattle.ms_syntax.specs.declared.token.Place.{Place}
use Rattle.ms_syntax.specs.Tree as x
use Rattle.ms_syntax.specs.Tree.{Names, Params, Ex, Maybe, Exs, Links, Arms, Rows, Subscripts, Gens, Decls, Decl, Kd, Bs, Indices, It, Gl}

-- names alone
abbrev pub Words : Type 0
Words = List (List ℕ)

-- what a declaration declares
abbrev pub declared_by : Decl → Place × List ℕ
declared_by (x.declare p k w ns v) = (p, w)

abbrev pub names_alone : Names → Words
names_alone ns = map (λ n. n.1) ns

abbrev pub is_bound : Words → List ℕ → Bool
is_bound bound w = list_any (λ b. bytes_eq b w) bound

-- a name that is not bound around
abbrev pub free_name : Words → List ℕ → Words
free_name bound w = if is_bound bound w then [] else w ∷ []

-- the names of some generators, and of some locals
abbrev pub generated : Gens → Words
generated x.no_gens = []
generated (x.gen ns e gs) = names_alone ns ++ generated gs

abbrev pub locals : Decls → Words
locals x.no_decls = []
locals (x.decl d ds) = (declared_by d).1 ∷ locals ds

-- ---- the names that an expression uses and does not bind, where some names are bound around it. A generator's
-- set sees the names of the generators before it, a local's kind and value those of the locals before it

abbrev mutual
  pub uses : Words → Ex → Words
  uses bound (x.let_in p ds closed e) = uses_locals bound ds ++ uses (bound ++ locals ds) e
  uses bound (x.chain n e ls) = uses bound e ++ uses_links bound ls
  uses bound (x.prefix p s e) = uses bound e
  uses bound (x.access p e is) = uses bound e ++ uses_subscripts bound is
  uses bound (x.number p n) = []
  uses bound (x.text p w) = []
  uses bound (x.truth p b) = []
  uses bound (x.name p w) = free_name bound w
  uses bound (x.call p w es) = free_name bound w ++ uses_exs bound es
  uses bound (x.generator_call p w gs c e) = free_name bound w ++ ((uses_gens bound gs ++ uses_maybe (bound ++ generated gs) c) ++ uses (bound ++ generated gs) e)
  uses bound (x.paren p e) = uses bound e
  uses bound (x.array p es) = uses_exs bound es
  uses bound (x.comprehension p e gs c) = (uses_gens bound gs ++ uses_maybe (bound ++ generated gs) c) ++ uses (bound ++ generated gs) e
  uses bound (x.rows p rs) = uses_rows bound rs
  uses bound (x.set p es) = uses_exs bound es
  uses bound (x.if_else p c b more e) = uses bound c ++ (uses bound b ++ (uses_arms bound more ++ uses bound e))

  pub uses_maybe : Words → Maybe → Words
  uses_maybe bound x.absent = []
  uses_maybe bound (x.present e) = uses bound e

  pub uses_exs : Words → Exs → Words
  uses_exs bound x.no_exs = []
  uses_exs bound (x.ex e es) = uses bound e ++ uses_exs bound es

  pub uses_links : Words → Links → Words
  uses_links bound x.no_links = []
  uses_links bound (x.link op p e ls) = uses bound e ++ uses_links bound ls

  pub uses_arms : Words → Arms → Words
  uses_arms bound x.no_arms = []
  uses_arms bound (x.arm c b more) = uses bound c ++ (uses bound b ++ uses_arms bound more)

  pub uses_rows : Words → Rows → Words
  uses_rows bound x.no_rows = []
  uses_rows bound (x.row es rs) = uses_exs bound es ++ uses_rows bound rs

  pub uses_subscripts : Words → Subscripts → Words
  uses_subscripts bound x.no_subscripts = []
  uses_subscripts bound (x.subscript e o is) = uses bound e ++ (uses_maybe bound o ++ uses_subscripts bound is)

  pub uses_gens : Words → Gens → Words
  uses_gens bound x.no_gens = []
  uses_gens bound (x.gen ns e gs) = uses bound e ++ uses_gens (bound ++ names_alone ns) gs

  pub uses_locals : Words → Decls → Words
  uses_locals bound x.no_decls = []
  uses_locals bound (x.decl d ds) = uses_decl bound d ++ uses_locals (bound ++ (declared_by d).1 ∷ []) ds

  pub uses_decl : Words → Decl → Words
  uses_decl bound (x.declare p k w ns v) = uses_kind bound k ++ uses_maybe bound v

  pub uses_kind : Words → Kd → Words
  uses_kind bound (x.kind is m b) = uses_indices bound is ++ uses_base bound b

  pub uses_base : Words → Bs → Words
  uses_base bound x.of_bool = []
  uses_base bound x.of_int = []
  uses_base bound x.of_string = []
  uses_base bound x.of_ann = []
  uses_base bound x.set_of_int = []
  uses_base bound (x.set_of e) = uses bound e
  uses_base bound (x.of_values e) = uses bound e

  pub uses_indices : Words → Indices → Words
  uses_indices bound x.no_indices = []
  uses_indices bound (x.index o is) = uses_maybe bound o ++ uses_indices bound is

abbrev pub uses_generators : Words → Gens × Maybe → Words
uses_generators bound g = uses_gens bound g.0 ++ uses_maybe (bound ++ generated g.0) g.1

-- the names of parameters, and what their kinds use
abbrev pub parameters : Params → Words
parameters ps = map (λ p. p.2) ps

abbrev pub uses_params : Words → Params → Words
uses_params bound [] = []
uses_params bound (p ∷ ps) = uses_kind bound p.1 ++ uses_params bound ps
