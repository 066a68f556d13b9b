-- The least that types convert to.
use Rattle.std.proofs.Common.{◌≡◌, ℕ, zero, suc, Bool, true, false, ◌&&◌, List, [], ◌∷◌, Some, length, replicate, refl}
use Rattle.ms_typing.specs.declared.types.Scalar.{Scalar}
use Rattle.ms_typing.specs.declared.types.Scalar.TheVariants.{Truth, Number, Empty}
use Rattle.ms_typing.specs.declared.types.Shape.{Shape}
use Rattle.ms_typing.specs.declared.types.Shape.TheVariants.{Single}
use Rattle.ms_typing.specs.declared.types.ExprType.{ExprType}
use Rattle.ms_typing.specs.declared.types.ExprType.TheVariants.{Plain, Text, Set, Search}
use Rattle.ms_typing.specs.Conversion.{Converts, ConvertAll, plain, text, empty_text, truth_search, set, search, none, more, scalar_fits, shape_fits, known_fits}
use Rattle.ms_typing.specs.Least.{into, join, join_all, join_scalar, join_some}
use Rattle.ms_typing.proofs.Converting.{along, converts_to, known_same, same, scalar_same, shape_is, shape_same}

pub fits_and : (a b k : Bool) → known_fits a k ≡ true → known_fits b k ≡ true → known_fits (a && b) k ≡ true
fits_and true b k h g = g
fits_and false b k h g = h

scalar_left : (b c : Scalar) → scalar_fits b (join_scalar b c) ≡ true
scalar_left Empty c = refl
scalar_left Truth Number = refl
scalar_left Truth Truth = refl
scalar_left Truth Empty = refl
scalar_left Number c = refl

scalar_right : (b c : Scalar) → scalar_fits c (join_scalar b c) ≡ true
scalar_right Empty c = scalar_same c
scalar_right Truth Number = refl
scalar_right Truth Truth = refl
scalar_right Truth Empty = refl
scalar_right Number Truth = refl
scalar_right Number Number = refl
scalar_right Number Empty = refl

scalar_below : (b c d : Scalar) → scalar_fits b d ≡ true → scalar_fits c d ≡ true → scalar_fits (join_scalar b c) d ≡ true
scalar_below Empty c d h k = k
scalar_below Truth Number d h k = k
scalar_below Truth Truth d h k = h
scalar_below Truth Empty d h k = h
scalar_below Number c d h k = h

shapes_meet : (s q r : Shape) → shape_fits s r ≡ true → shape_fits q r ≡ true → (shape_fits s q ≡ true) × (shape_fits q s ≡ true)
shapes_meet s q r h k = rw (shape_is s r h, shape_is q r k) (shape_same r, shape_same r)

known_left : (k l : Bool) → known_fits k (k && l) ≡ true
known_left true l = refl
known_left false l = refl

known_right : (k l : Bool) → known_fits l (k && l) ≡ true
known_right true l = known_same l
known_right false true = refl
known_right false false = refl

into_at : {t u : ExprType} → Converts t u → into t u ≡ Some u
into_at h = rw (converts_to h) refl

pub record Joins (a b u : ExprType) : Type 0 where
  pub joined : ExprType
  pub given : join a b ≡ Some joined
  pub left : Converts a joined
  pub right : Converts b joined
  pub below : Converts joined u

-- of two types with values, below anything that both scalars, shapes and knowledge fit
module _ {b c : Scalar} {s q : Shape} {k l : Bool} (d : Scalar) (r : Shape) (n : Bool) (x : scalar_fits b d ≡ true) (x' : scalar_fits c d ≡ true) (y : shape_fits s r ≡ true) (y' : shape_fits q r ≡ true)
    (z : known_fits k n ≡ true) (z' : known_fits l n ≡ true) where
  join_plain : (u : ExprType) → (scalar_fits (join_scalar b c) d ≡ true → known_fits (k && l) n ≡ true → Converts (Plain (join_scalar b c) s (k && l)) u) → Joins (Plain b s k) (Plain c q l) u
  join_plain u below =
      let m = shapes_meet s q r y y' in
      record {
        joined = Plain (join_scalar b c) s (k && l);
        given = rw m.0 refl;
        left = plain (scalar_left b c) (shape_same s) (known_left k l);
        right = plain (scalar_right b c) m.1 (known_right k l);
        below = below (scalar_below b c d x x') (fits_and k l n z z');
      }

pub join_least : {a b u : ExprType} → Converts a u → Converts b u → Joins a b u
join_least (plain {c = d} {r = r} {l = n} x y z) (plain x' y' z') = join_plain d r n x x' y y' z z' (Plain d r n) (λ v w. plain v y w)
join_least (empty_text {r = r} x y z) (empty_text x' y' z') = join_plain Empty r true x x' y y' z z' (Text r) (λ v w. empty_text v y w)
join_least (truth_search x y z) (truth_search x' y' z') = join_plain Truth Single true x x' y y' z z' Search (λ v w. truth_search v y w)
join_least (text {s = s} {r = r} y) (text {s = q} y') =
    let m = shapes_meet s q r y y' in
    record { joined = Text s; given = into_at (text m.1); left = same (Text s); right = text m.1; below = text y }
join_least (text {s = s} {r = r} y) (empty_text {s = q} x' y' z') =
    let m = shapes_meet s q r y y' in
    record { joined = Text s; given = into_at (empty_text x' m.1 z'); left = same (Text s); right = empty_text x' m.1 z'; below = text y }
join_least (empty_text {s = s} {r = r} x y z) (text {s = q} y') =
    let m = shapes_meet s q r y y' in
    record { joined = Text q; given = into_at (empty_text x m.0 z); left = empty_text x m.0 z; right = same (Text q); below = text y' }
join_least (truth_search x y z) search = record { joined = Search; given = into_at (truth_search x y z); left = truth_search x y z; right = search; below = search }
join_least search (truth_search x y z) = record { joined = Search; given = into_at (truth_search x y z); left = search; right = truth_search x y z; below = search }
join_least set set = record { joined = Set; given = refl; left = set; right = set; below = set }
join_least search search = record { joined = Search; given = refl; left = search; right = search; below = search }

pub record JoinsAll (t : ExprType) (ts : List ExprType) (u : ExprType) : Type 0 where
  pub joined : ExprType
  pub given : join_all t ts ≡ Some joined
  pub first : Converts t joined
  pub rest : ConvertAll ts (replicate (length ts) joined)
  pub below : Converts joined u

pub join_all_least : {u : ExprType} → (n : ℕ) (ts : List ExprType) {t : ExprType} → Converts t u → ConvertAll ts (replicate n u) → JoinsAll t ts u
join_all_least zero [] {t = t} h none = record { joined = t; given = refl; first = same t; rest = none; below = h }
join_all_least zero (v ∷ vs) h g = elim g [ ]
join_all_least (suc n) [] h g = elim g [ ]
join_all_least (suc n) (v ∷ vs) h (more g gs) =
    let j = join_least h g in
    let a = join_all_least n vs j.below gs in
    record {
      joined = a.joined;
      given = rw j.given a.given;
      first = along j.left a.first;
      rest = more (along j.right a.first) a.rest;
      below = a.below;
    }

pub record JoinsSome (ts : List ExprType) (u : ExprType) : Type 0 where
  pub joined : ExprType
  pub given : join_some ts ≡ Some joined
  pub all : ConvertAll ts (replicate (length ts) joined)
  pub below : Converts joined u

pub join_some_least : {u : ExprType} → (n : ℕ) (ts : List ExprType) → ConvertAll ts (replicate (suc n) u) → JoinsSome ts u
join_some_least n [] h = elim h [ ]
join_some_least n (t ∷ ts) (more h hs) =
    let a = join_all_least n ts h hs in
    record { joined = a.joined; given = a.given; all = more a.first a.rest; below = a.below }
