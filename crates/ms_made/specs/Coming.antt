-- The declarations come one after the other.
use Rattle.std.specs.Prelude.{ℕ, ◌+◌, List, [], ◌∷◌, length, replicate, set, slice_get, Option, Some, None}
use Rattle.ms_typing.specs.Meaning.{Meaning}
use Rattle.ms_code.specs.declared.item.Declaration.{Declaration}
use Rattle.ms_types.specs.Texts.{names_among}
use Rattle.ms_types.specs.declared.typed.Typed.{Typed}
use Rattle.ms_values.specs.declared.operand.Operand.{Operand}
use Rattle.ms_rules.specs.Calls.{nothing}
use Rattle.ms_given.specs.Givings.{Pair}
use Rattle.ms_given.specs.declared.source.Source.{Source}
use Rattle.ms_declared.specs.Variables.{Declared, declared}
use Rattle.ms_made.specs.Making.{Making, and_next, done, of_name}
use Rattle.ms_made.specs.Giving.{declaration_at, given_by}
use Rattle.ms_made.specs.Standing.{around, operand_by, variables_by}

-- what stands for each name, by its number, what its declaration came to, and how many variables there are
pub record Now : Type 0 where
  pub values : List Operand
  pub declareds : List (Option Declared)
  pub taken : ℕ

-- nothing has come
abbrev pub start : ℕ → Now
start n = record { values = replicate n nothing; declareds = replicate n None; taken = 0 }

abbrev pub with_declared : Now → ℕ → Declared → Now
with_declared now n d = record { values = set now.values n (operand_by d now.taken); declareds = set now.declareds n (Some d); taken = now.taken + variables_by d }

abbrev pub name_in : Option (List ℕ × Meaning) → List ℕ
name_in None = []
name_in (Some g) = g.0

-- the name with this number
abbrev pub name_at : Typed → ℕ → List ℕ
name_at typed n = name_in (slice_get (names_among typed).model n)

abbrev pub source_in : Option (Option Source) → Option Source
source_in None = None
source_in (Some s) = s

abbrev pub source_at : List (Option Source) → ℕ → Option Source
source_at ss n = source_in (slice_get ss n)

abbrev pub come_by : Typed → List Pair → List (Option Source) → Now → ℕ → Option Declaration → Making Now
come_by typed pairs ss now n None = done now
come_by typed pairs ss now n (Some d) =
    and_next (of_name (name_at typed n) (declared (around typed now.values) now.taken d (given_by typed pairs d (source_at ss n)))) (λ x. done (with_declared now n x))

-- one comes
abbrev pub come : Typed → List Pair → List (Option Source) → Now → ℕ → Making Now
come typed pairs ss now n = come_by typed pairs ss now n (declaration_at typed n)

-- in this order
abbrev pub come_all : Typed → List Pair → List (Option Source) → List ℕ → Now → Making Now
come_all typed pairs ss [] now = done now
come_all typed pairs ss (n ∷ ns) now = and_next (come typed pairs ss now n) (λ next. come_all typed pairs ss ns next)
