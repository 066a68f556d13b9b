-- Conversion is an order, decided by its test, and keeps shapes.
use Rattle.std.proofs.Common.{◌≡◌, ◌↔◌, IsTrue, Bool, true, false, ◌&&◌, List, [], ◌∷◌, length, map, refl, ap, suc}
use Rattle.std.proofs.lemmas.Bool.{and_parts}
use Rattle.ms_typing.specs.declared.types.Scalar.{Scalar}
use Rattle.ms_typing.specs.declared.types.Scalar.TheVariants.{Truth, Number, Empty}
use Rattle.ms_typing.specs.declared.types.Shape.{Shape}
use Rattle.ms_typing.specs.declared.types.Shape.TheVariants.{Single, Line, Grid}
use Rattle.ms_typing.specs.declared.types.ExprType.{ExprType}
use Rattle.ms_typing.specs.declared.types.ExprType.TheVariants.{Plain, Text, Set, Search}
use Rattle.ms_typing.specs.Conversion.{Converts, ConvertAll, converts, plain, text, empty_text, truth_search, set, search, none, more, scalar_fits, shape_fits, known_fits, as_known, shape_of}
use Rattle.ms_typing.specs.Least.{convert_all}

pub scalar_same : (b : Scalar) → scalar_fits b b ≡ true
scalar_same Truth = refl
scalar_same Number = refl
scalar_same Empty = refl

pub shape_same : (s : Shape) → shape_fits s s ≡ true
shape_same Single = refl
shape_same Line = refl
shape_same Grid = refl

pub known_same : (k : Bool) → known_fits k k ≡ true
known_same true = refl
known_same false = refl

pub fits_variable : (k : Bool) → known_fits k false ≡ true
fits_variable true = refl
fits_variable false = refl

pub same : (t : ExprType) → Converts t t
same (Plain b s k) = plain (scalar_same b) (shape_same s) (known_same k)
same (Text s) = text (shape_same s)
same Set = set
same Search = search

pub all_same : (ts : List ExprType) → ConvertAll ts ts
all_same [] = none
all_same (t ∷ ts) = more (same t) (all_same ts)

scalar_along : (b c d : Scalar) → scalar_fits b c ≡ true → scalar_fits c d ≡ true → scalar_fits b d ≡ true
scalar_along Empty c d h k = refl
scalar_along Truth Truth d h k = k
scalar_along Truth Number Number h k = refl
scalar_along Truth Number Truth h k = refl
scalar_along Truth Number Empty h k = k
scalar_along Truth Empty d h k = absurd (cc)
scalar_along Number Number d h k = k
scalar_along Number Truth d h k = absurd (cc)
scalar_along Number Empty d h k = absurd (cc)

pub shape_is : (s r : Shape) → shape_fits s r ≡ true → s ≡ r
shape_is Single Single h = refl
shape_is Single Line h = absurd (cc)
shape_is Single Grid h = absurd (cc)
shape_is Line Single h = absurd (cc)
shape_is Line Line h = refl
shape_is Line Grid h = absurd (cc)
shape_is Grid Single h = absurd (cc)
shape_is Grid Line h = absurd (cc)
shape_is Grid Grid h = refl

pub shape_along : (b c d : Shape) → shape_fits b c ≡ true → shape_fits c d ≡ true → shape_fits b d ≡ true
shape_along b c d h k = rw (shape_is b c h) k

known_along : (b c d : Bool) → known_fits b c ≡ true → known_fits c d ≡ true → known_fits b d ≡ true
known_along true c d h k = refl
known_along false false d h k = k
known_along false true d h k = absurd (cc)

pub along : {t u v : ExprType} → Converts t u → Converts u v → Converts t v
along (plain {b = b} {c = c} {s = s} {r = r} {k = k} {l = l} x y z) (plain {c = d} {r = q} {l = n} x' y' z') = plain (scalar_along b c d x x') (shape_along s r q y y') (known_along k l n z z')
along (plain {b = b} {c = c} {s = s} {r = r} {k = k} {l = l} x y z) (empty_text {r = q} x' y' z') = empty_text (scalar_along b c Empty x x') (shape_along s r q y y') (known_along k l true z z')
along (plain {b = b} {c = c} {s = s} {r = r} {k = k} {l = l} x y z) (truth_search x' y' z') = truth_search (scalar_along b c Truth x x') (shape_along s r Single y y') (known_along k l true z z')
along (text {s = s} {r = r} y) (text {r = q} y') = text (shape_along s r q y y')
along (empty_text {s = s} {r = r} x y z) (text {r = q} y') = empty_text x (shape_along s r q y y') z
along (truth_search x y z) search = truth_search x y z
along set set = set
along search search = search

pub converts_from : (t u : ExprType) → converts t u ≡ true → Converts t u
converts_from (Plain b s k) (Plain c r l) h =
    let p = and_parts (scalar_fits b c) (shape_fits s r && known_fits k l) h in
    let q = and_parts (shape_fits s r) (known_fits k l) p.1 in plain p.0 q.0 q.1
converts_from (Plain b s k) (Text r) h =
    let p = and_parts (scalar_fits b Empty) (shape_fits s r && known_fits k true) h in
    let q = and_parts (shape_fits s r) (known_fits k true) p.1 in empty_text p.0 q.0 q.1
converts_from (Plain b s k) Set h = absurd (cc)
converts_from (Plain b s k) Search h =
    let p = and_parts (scalar_fits b Truth) (shape_fits s Single && known_fits k true) h in
    let q = and_parts (shape_fits s Single) (known_fits k true) p.1 in truth_search p.0 q.0 q.1
converts_from (Text s) (Plain c r l) h = absurd (cc)
converts_from (Text s) (Text r) h = text h
converts_from (Text s) Set h = absurd (cc)
converts_from (Text s) Search h = absurd (cc)
converts_from Set (Plain c r l) h = absurd (cc)
converts_from Set (Text r) h = absurd (cc)
converts_from Set Set h = set
converts_from Set Search h = absurd (cc)
converts_from Search (Plain c r l) h = absurd (cc)
converts_from Search (Text r) h = absurd (cc)
converts_from Search Set h = absurd (cc)
converts_from Search Search h = search

pub and_true : (x y : Bool) → x ≡ true → y ≡ true → (x && y) ≡ true
and_true x y h k = rw (h, k) refl

pub converts_to : {t u : ExprType} → Converts t u → converts t u ≡ true
converts_to (plain x y z) = and_true _ _ x (and_true _ _ y z)
converts_to (text y) = y
converts_to (empty_text x y z) = and_true _ _ x (and_true _ _ y z)
converts_to (truth_search x y z) = and_true _ _ x (and_true _ _ y z)
converts_to set = refl
converts_to search = refl

pub all_from : (ts us : List ExprType) → convert_all ts us ≡ true → ConvertAll ts us
all_from [] [] h = none
all_from [] (u ∷ us) h = absurd (cc)
all_from (t ∷ ts) [] h = absurd (cc)
all_from (t ∷ ts) (u ∷ us) h = let p = and_parts (converts t u) (convert_all ts us) h in more (converts_from t u p.0) (all_from ts us p.1)

pub all_to : {ts us : List ExprType} → ConvertAll ts us → convert_all ts us ≡ true
all_to none = refl
all_to (more h hs) = and_true _ _ (converts_to h) (all_to hs)

pub all_along : {ts us vs : List ExprType} → ConvertAll ts us → ConvertAll us vs → ConvertAll ts vs
all_along none none = none
all_along (more h hs) (more k ks) = more (along h k) (all_along hs ks)

pub known_kept : {t u : ExprType} → Converts t u → Converts (as_known t) (as_known u)
known_kept (plain x y z) = plain x y refl
known_kept (text y) = text y
known_kept (empty_text x y z) = empty_text x y refl
known_kept (truth_search x y z) = truth_search x y refl
known_kept set = set
known_kept search = search

pub all_known_kept : {ts us : List ExprType} → ConvertAll ts us → ConvertAll (map as_known ts) (map as_known us)
all_known_kept none = none
all_known_kept (more c cs) = more (known_kept c) (all_known_kept cs)

pub shape_kept : {t u : ExprType} → Converts t u → shape_of t ≡ shape_of u
shape_kept (plain {s = s} {r = r} x y z) = shape_is s r y
shape_kept (text {s = s} {r = r} y) = shape_is s r y
shape_kept (empty_text {s = s} {r = r} x y z) = shape_is s r y
shape_kept (truth_search {s = s} x y z) = shape_is s Single y
shape_kept set = refl
shape_kept search = refl

pub length_kept : {ts us : List ExprType} → ConvertAll ts us → length ts ≡ length us
length_kept none = refl
length_kept (more c cs) = ap suc (length_kept cs)

-- ---- one way

scalar_one_way : (b c : Scalar) → scalar_fits b c ≡ true → scalar_fits c b ≡ true → b ≡ c
scalar_one_way Empty Empty h k = refl
scalar_one_way Empty Truth h k = absurd (cc)
scalar_one_way Empty Number h k = absurd (cc)
scalar_one_way Truth Truth h k = refl
scalar_one_way Truth Number h k = absurd (cc)
scalar_one_way Truth Empty h k = absurd (cc)
scalar_one_way Number Number h k = refl
scalar_one_way Number Truth h k = absurd (cc)
scalar_one_way Number Empty h k = absurd (cc)

known_one_way : (k l : Bool) → known_fits k l ≡ true → known_fits l k ≡ true → k ≡ l
known_one_way true true h g = refl
known_one_way false false h g = refl
known_one_way true false h g = absurd (cc)
known_one_way false true h g = absurd (cc)

pub one_way : {t u : ExprType} → Converts t u → Converts u t → t ≡ u
one_way (plain {b = b} {c = c} {s = s} {r = r} {k = k} {l = l} x y z) (plain x' y' z') = rw (scalar_one_way b c x x', shape_is s r y, known_one_way k l z z') refl
one_way (text {s = s} {r = r} y) (text y') = rw (shape_is s r y) refl
one_way (empty_text x y z) c = elim c [ ]
one_way (truth_search x y z) c = elim c [ ]
one_way set set = refl
one_way search search = refl

pub decided : (t u : ExprType) → IsTrue (converts t u) ↔ Converts t u
decided t u = (converts_from t u, converts_to)
