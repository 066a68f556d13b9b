-- What a name stands for, by where it stands among the names inside an item.
use Rattle.std.proofs.Common.{◌≡◌, ℕ, suc, ◌+◌, true, false, List, [], ◌∷◌, Option, None, Some, option_map, refl, ap, ◌∙◌, arith, if◌then◌else◌}
use Rattle.std.specs.Str.{bytes_eq}
use Rattle.ms_syntax.specs.declared.token.Place.{Place}
use Rattle.ms_built_ins.specs.BuiltIns.{or_else}
use Rattle.ms_typing.specs.Meaning.{Meaning, Names, World, look, look_outside, value}
use Rattle.ms_code.specs.declared.code.Reference.{Reference}
use Rattle.ms_code.specs.declared.code.Reference.TheVariants.{Local}
use Rattle.ms_code.specs.References.{number_inside, refer, refer_outside}
use Rattle.ms_names.specs.declared.scope.Looked.{Looked}
use Rattle.ms_names.specs.declared.scope.Looked.TheVariants.{Found, Passed}
use Rattle.ms_names.specs.Looked.{looked}

abbrev pub means_looked : Looked → Option Meaning → Option Meaning
means_looked (Found n t) o = Some (value t)
means_looked (Passed n) o = o

pub look_by : (world : World) (p : Place) (k : ℕ) (ns : Names) (w : List ℕ) → look world p ns w ≡ means_looked (looked k ns w) (look_outside world p w)
look_by world p k [] w = refl
look_by world p k (n ∷ ns) w =
    elim (bytes_eq n.0 w) as (λ b. (if b then Some (value n.1) else look world p ns w) ≡ means_looked (if b then Found k n.1 else looked (suc k) ns w) (look_outside world p w))
    [ true ↦ refl | false ↦ look_by world p (suc k) ns w ]

abbrev pub number_looked : Looked → Option ℕ
number_looked (Found n t) = Some n
number_looked (Passed n) = None

later : (k : ℕ) (o : Option ℕ) → option_map (λ n. k + n) (option_map suc o) ≡ option_map (λ n. suc k + n) o
later k None = refl
later k (Some m) = ap Some (omega arith)

number_by : (k : ℕ) (ns : Names) (w : List ℕ) → option_map (λ n. k + n) (number_inside ns w) ≡ number_looked (looked k ns w)
number_by k [] w = refl
number_by k (n ∷ ns) w =
    elim (bytes_eq n.0 w) as (λ b. option_map (λ m. k + m) (if b then Some 0 else option_map suc (number_inside ns w)) ≡ number_looked (if b then Found k n.1 else looked (suc k) ns w))
    [ true ↦ ap Some (omega arith) | false ↦ later k (number_inside ns w) ∙ number_by (suc k) ns w ]

from_zero : (o : Option ℕ) → o ≡ option_map (λ n. 0 + n) o
from_zero None = refl
from_zero (Some m) = ap Some (omega arith)

abbrev pub refers_looked : Looked → Option Reference → Option Reference
refers_looked (Found n t) o = Some (Local n)
refers_looked (Passed n) o = o

refers : (l : Looked) (o : Option Reference) → or_else (option_map Local (number_looked l)) o ≡ refers_looked l o
refers (Found n t) o = refl
refers (Passed n) o = refl

pub refer_by : (world : World) (p : Place) (ns : Names) (w : List ℕ) → refer world p ns w ≡ refers_looked (looked 0 ns w) (refer_outside world p w)
refer_by world p ns w =
    ap (λ o. or_else (option_map Local o) (refer_outside world p w)) (from_zero (number_inside ns w) ∙ number_by 0 ns w)
    ∙ refers (looked 0 ns w) (refer_outside world p w)
