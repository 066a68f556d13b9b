-- The first node in the order of the text that has no type though each part of it has one, and why.
use Rattle.std.specs.Prelude.{◌≡◌, ℕ, Bool, true, false, not, ◌==◌, List, [], ◌∷◌, length, map}
use Rattle.ms_syntax.specs.declared.token.Place.{Place}
use Rattle.ms_typing.specs.declared.types.ExprType.{ExprType}
use Rattle.ms_typing.specs.declared.types.Shape.{Shape}
use Rattle.ms_typing.specs.declared.types.Shape.TheVariants.{Single, Line, Grid}
use Rattle.ms_typing.specs.declared.types.Cause.{Cause}
use Rattle.ms_typing.specs.declared.types.Cause.TheVariants as cause
use Rattle.ms_built_ins.specs.BuiltIns.{takes}
use Rattle.ms_typing.specs.Conversion.{ConvertAll, as_known, shape_of}
use Rattle.ms_typing.specs.Meaning.{Meaning, Told}
use Rattle.ms_typing.specs.Meaning as m
use Rattle.ms_typing.specs.Term.{Form, Term, Terms, node, no_terms, term}
use Rattle.ms_typing.specs.Term as f
use Rattle.ms_typing.specs.Row.{Row}
use Rattle.ms_typing.specs.HasType.{HasType, HaveTypes}

-- ---- a name that stands for nothing

abbrev pub is_told_unknown : Told → Bool
is_told_unknown m.unknown = true
is_told_unknown (m.means w) = false
is_told_unknown (m.barred w) = false

abbrev pub is_unknown : Form → Bool
is_unknown (f.stands t) = is_told_unknown t
is_unknown (f.calls t) = is_told_unknown t
is_unknown (f.generates t asked one) = is_told_unknown t
is_unknown g = false

-- ---- a number of arguments or indices that no form of the name takes

-- any number, where the name is no function
abbrev pub takes_count : Meaning → ℕ → Bool
takes_count (m.value t) n = true
takes_count (m.function ts t) n = n == length ts
takes_count (m.built_in b) n = takes b n

abbrev pub told_takes : Told → ℕ → Bool
told_takes m.unknown n = true
told_takes (m.means w) n = takes_count w n
told_takes (m.barred w) n = takes_count w n

-- any number, where it is no array
abbrev pub takes_indices : Shape → ℕ → Bool
takes_indices Single n = true
takes_indices Line n = n == 1
takes_indices Grid n = n == 2

-- an array and its indices
abbrev pub wrong_indices : List ExprType → Bool
wrong_indices [] = false
wrong_indices (t ∷ ts) = not (takes_indices (shape_of t) (length ts))

abbrev pub wrong_count : Form → List ExprType → Bool
wrong_count (f.calls t) us = not (told_takes t (length us))
wrong_count (f.generates t asked one) us = not (told_takes t 1)
wrong_count f.access us = wrong_indices us
wrong_count g us = false

-- ---- what is not supported

abbrev pub is_unsupported : Form → Bool
is_unsupported (f.declares supported asked t) = not supported
is_unsupported f.unsupported = true
is_unsupported g = false

-- ---- with its variable parts known the node would have a type

pub record KnownHas (g : Form) (xs : Terms) : Type 0 where
  pub parts : List ExprType
  pub operands : List ExprType
  pub result : ExprType
  pub have : HaveTypes xs parts
  pub convert : ConvertAll (map as_known parts) operands
  pub row : Row g operands result

-- why a node has no type, whose parts have these types: the first cause that there is
pub data Because : Form → Terms → List ExprType → Cause → Type 0 where
  unknown : {g : Form} {xs : Terms} {us : List ExprType} → is_unknown g ≡ true → Because g xs us cause.Unknown
  arity : {g : Form} {xs : Terms} {us : List ExprType} → is_unknown g ≡ false → wrong_count g us ≡ true → Because g xs us cause.Arity
  unsupported : {g : Form} {xs : Terms} {us : List ExprType} → is_unknown g ≡ false → wrong_count g us ≡ false → is_unsupported g ≡ true → Because g xs us cause.Unsupported
  not_known : {g : Form} {xs : Terms} {us : List ExprType} → is_unknown g ≡ false → wrong_count g us ≡ false → is_unsupported g ≡ false → KnownHas g xs → Because g xs us cause.NotKnown
  mismatch : {g : Form} {xs : Terms} {us : List ExprType} → is_unknown g ≡ false → wrong_count g us ≡ false → is_unsupported g ≡ false → (KnownHas g xs → ⊥) → Because g xs us cause.Mismatch

mutual
  pub data FirstFault : Term → Cause → Place → Type 0 where
    below : {p q : Place} {g : Form} {xs : Terms} {c : Cause} → FirstOf xs c q → FirstFault (node p g xs) c q
    here : {p : Place} {g : Form} {xs : Terms} {us : List ExprType} {c : Cause} → HaveTypes xs us → ((t : ExprType) → HasType (node p g xs) t → ⊥) → Because g xs us c → FirstFault (node p g xs) c p

  pub data FirstOf : Terms → Cause → Place → Type 0 where
    first : {x : Term} {xs : Terms} {c : Cause} {q : Place} → FirstFault x c q → FirstOf (term x xs) c q
    later : {x : Term} {xs : Terms} {t : ExprType} {c : Cause} {q : Place} → HasType x t → FirstOf xs c q → FirstOf (term x xs) c q
