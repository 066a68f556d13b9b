-- Types that a function takes, read as known or not.
use Rattle.std.proofs.Common.{◌≡◌, Bool, true, false, ◌||◌, List, [], ◌∷◌, map, refl, ap, ◌∙◌, if◌then◌else◌}
use Rattle.ms_typing.specs.declared.types.ExprType.{ExprType}
use Rattle.ms_typing.specs.declared.types.ExprType.TheVariants.{Plain, Text, Set, Search}
use Rattle.ms_typing.specs.declared.types.Surroundings.{Surroundings}
use Rattle.ms_typing.specs.Conversion.{as_known}
use Rattle.ms_typing.specs.Meaning.{knows, seen}
use Rattle.ms_rows.specs.Forms.{read}

pub read_plainly : (us : List ExprType) → map (read false) us ≡ us
read_plainly [] = refl
read_plainly (u ∷ us) = ap (λ ts. u ∷ ts) (read_plainly us)

known_twice : (t : ExprType) → as_known (as_known t) ≡ as_known t
known_twice (Plain b s k) = refl
known_twice (Text s) = refl
known_twice Set = refl
known_twice Search = refl

known_seen : (b : Bool) (t : ExprType) → (if b then as_known (as_known t) else as_known t) ≡ as_known t
known_seen true t = known_twice t
known_seen false t = refl

seen_read : (s : Surroundings) (k : Bool) (t : ExprType) → seen s (read k t) ≡ read (k || knows s) t
seen_read s true t = known_seen (knows s) t
seen_read s false t = refl

pub seen_all : (s : Surroundings) (k : Bool) (us : List ExprType) → map (seen s) (map (read k) us) ≡ map (read (k || knows s)) us
seen_all s k [] = refl
seen_all s k (u ∷ us) = ap (λ t. t ∷ map (seen s) (map (read k) us)) (seen_read s k u) ∙ ap (λ ts. read (k || knows s) u ∷ ts) (seen_all s k us)
