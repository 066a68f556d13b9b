-- Rows whose operands are known or variable as one give the least result.
use Rattle.std.proofs.Common.{◌≡◌, Bool, true, false, ◌&&◌, List, [], ◌∷◌, Some, map, refl, sym, subst}
use Rattle.ms_typing.specs.declared.types.Scalar.{Scalar}
use Rattle.ms_typing.specs.declared.types.Scalar.TheVariants.{Number}
use Rattle.ms_typing.specs.declared.types.Shape.{Shape}
use Rattle.ms_typing.specs.declared.types.Shape.TheVariants.{Single, Line, Grid}
use Rattle.ms_typing.specs.declared.types.ExprType.{ExprType}
use Rattle.ms_typing.specs.declared.types.ExprType.TheVariants.{Plain}
use Rattle.ms_typing.specs.Conversion.{Converts, ConvertAll, plain, text, empty_text, truth_search, set, search, none, more, known_fits, known_of, is_element, is_grid, is_line, numbers, shape_fits, shaped}
use Rattle.ms_typing.specs.Row.{is_array, is_array_type, is_fixed, is_shown}
use Rattle.ms_typing.specs.Least.{Given, Kind, a_number, are_known, at, extreme, fixed, follows, needs, over_array, tested, uniform}
use Rattle.ms_typing.proofs.Converting.{all_to, along, known_same, same, scalar_same, shape_is, shape_kept, shape_same}
use Rattle.ms_typing.proofs.Joins.{fits_and}

-- what is given is below a type
pub record Least (o : Given) (u : ExprType) : Type 0 where
  pub least : List ExprType × ExprType
  pub given : o ≡ Some least
  pub below : Converts least.1 u

pub needs_at : {ts us : List ExprType} → (t : ExprType) → ConvertAll ts us → needs ts us t ≡ Some (us, t)
needs_at t h = rw (all_to h) refl

pub needs_least : (ts us : List ExprType) (t : ExprType) {u : ExprType} → ConvertAll ts us → Converts t u → Least (needs ts us t) u
needs_least ts us t h c = record { least = (us, t); given = needs_at t h; below = c }

pub least_along : (o : Given) {u v : ExprType} → Least o u → Converts u v → Least o v
least_along o l c = record { least = l.least; given = l.given; below = along l.below c }

pub known_of_fits : {t : ExprType} {b : Scalar} {s : Shape} {k : Bool} → Converts t (Plain b s k) → known_fits (known_of t) k ≡ true
known_of_fits (plain x y z) = z

pub fits_parts : (a b l : Bool) → known_fits (a && b) l ≡ true → (known_fits a l ≡ true) × (known_fits b l ≡ true)
fits_parts true b l h = (refl, h)
fits_parts false true l h = (h, refl)
fits_parts false false l h = (h, h)

fits_all : (xs : List Kind) (k : Bool) (ts : List ExprType) → ConvertAll ts (map (at k) xs) → known_fits (are_known xs ts) k ≡ true
fits_all [] k ts h = refl
fits_all (x ∷ xs) k [] h = elim h [ ]
fits_all (follows c s ∷ xs) k (t ∷ ts) (more h hs) = fits_and (known_of t) (are_known xs ts) k (known_of_fits h) (fits_all xs k ts hs)
fits_all (fixed u ∷ xs) k (t ∷ ts) (more h hs) = fits_all xs k ts hs

pub lower : {t : ExprType} {b : Scalar} {s : Shape} {k : Bool} → (l : Bool) → Converts t (Plain b s k) → known_fits (known_of t) l ≡ true → Converts t (Plain b s l)
lower l (plain x y z) h = plain x y h

lower_all : (xs : List Kind) (k l : Bool) (ts : List ExprType) → ConvertAll ts (map (at k) xs) → known_fits (are_known xs ts) l ≡ true → ConvertAll ts (map (at l) xs)
lower_all [] k l [] none h = none
lower_all [] k l (t ∷ ts) g h = elim g [ ]
lower_all (x ∷ xs) k l [] g h = elim g [ ]
lower_all (follows c s ∷ xs) k l (t ∷ ts) (more g gs) h = let p = fits_parts (known_of t) (are_known xs ts) l h in more (lower l g p.0) (lower_all xs k l ts gs p.1)
lower_all (fixed u ∷ xs) k l (t ∷ ts) (more g gs) h = more g (lower_all xs k l ts gs h)

at_below : (r : Kind) (k l : Bool) → known_fits k l ≡ true → Converts (at k r) (at l r)
at_below (follows c s) k l h = plain (scalar_same c) (shape_same s) h
at_below (fixed u) k l h = same u

pub uniform_least : (xs : List Kind) (r : Kind) (k : Bool) (ts : List ExprType) → ConvertAll ts (map (at k) xs) → Least (uniform xs r ts) (at k r)
uniform_least xs r k ts h =
    let l = are_known xs ts in
    needs_least ts (map (at l) xs) (at l r) (lower_all xs k l ts h (known_same l)) (at_below r l k (fits_all xs k ts h))

pub over_least : (c r : Scalar) (s : Shape) (k : Bool) (ts : List ExprType) → is_array s ≡ true → ConvertAll ts (Plain c s k ∷ []) → Least (over_array c r ts) (Plain r Single k)
over_least c r s k ts a (more {t = t} h none) =
    let e = shape_kept h in rw (e, a) (uniform_least (follows c s ∷ []) (follows r Single) k (t ∷ []) (more h none))

pub extreme_array : (s : Shape) (k : Bool) (ts : List ExprType) → is_array s ≡ true → ConvertAll ts (Plain Number s k ∷ []) → Least (extreme ts) (numbers k)
extreme_array s k ts a (more {t = t} h none) =
    let e = shape_kept h in rw (e, a) (uniform_least (follows Number s ∷ []) (follows Number Single) k (t ∷ []) (more h none))

pub extreme_two : (k : Bool) (ts : List ExprType) → ConvertAll ts (numbers k ∷ numbers k ∷ []) → Least (extreme ts) (numbers k)
extreme_two k ts (more {t = t} h (more {t = u} g none)) =
    let e = shape_kept h in rw e (uniform_least (a_number ∷ a_number ∷ []) a_number k (t ∷ u ∷ []) (more h (more g none)))

-- ---- what passes a test, and what converts to it

pub array_kept : {t u : ExprType} → Converts t u → is_array_type u ≡ true → is_array_type t ≡ true
array_kept (plain {s = s} {r = r} x y z) h = subst (λ q. is_array q ≡ true) (sym (shape_is s r y)) h
array_kept (text {s = s} {r = r} y) h = subst (λ q. is_array q ≡ true) (sym (shape_is s r y)) h
array_kept (empty_text {s = s} {r = r} x y z) h = subst (λ q. is_array q ≡ true) (sym (shape_is s r y)) h
array_kept (truth_search x y z) h = absurd (cc)
array_kept set h = absurd (cc)
array_kept search h = absurd (cc)

pub line_kept : {t u : ExprType} → Converts t u → is_line u ≡ true → is_line t ≡ true
line_kept (plain {s = s} {r = r} x y z) h = subst (λ q. shape_fits q Line ≡ true) (sym (shape_is s r y)) h
line_kept (text {s = s} {r = r} y) h = subst (λ q. shape_fits q Line ≡ true) (sym (shape_is s r y)) h
line_kept (empty_text {s = s} {r = r} x y z) h = subst (λ q. shape_fits q Line ≡ true) (sym (shape_is s r y)) h
line_kept (truth_search x y z) h = absurd (cc)
line_kept set h = absurd (cc)
line_kept search h = absurd (cc)

pub grid_kept : {t u : ExprType} → Converts t u → is_grid u ≡ true → is_grid t ≡ true
grid_kept (plain {s = s} {r = r} x y z) h = subst (λ q. shape_fits q Grid ≡ true) (sym (shape_is s r y)) h
grid_kept (text {s = s} {r = r} y) h = subst (λ q. shape_fits q Grid ≡ true) (sym (shape_is s r y)) h
grid_kept (empty_text {s = s} {r = r} x y z) h = subst (λ q. shape_fits q Grid ≡ true) (sym (shape_is s r y)) h
grid_kept (truth_search x y z) h = absurd (cc)
grid_kept set h = absurd (cc)
grid_kept search h = absurd (cc)

pub element_kept : {t u : ExprType} → Converts t u → is_element u ≡ true → is_element t ≡ true
element_kept (plain {s = s} {r = r} x y z) h = subst (λ q. shape_fits q Single ≡ true) (sym (shape_is s r y)) h
element_kept (text {s = s} {r = r} y) h = subst (λ q. shape_fits q Single ≡ true) (sym (shape_is s r y)) h
element_kept (empty_text {s = s} {r = r} x y z) h = subst (λ q. shape_fits q Single ≡ true) (sym (shape_is s r y)) h
element_kept (truth_search x y z) h = absurd (cc)
element_kept set h = absurd (cc)
element_kept search h = absurd (cc)

pub fits_true : (k l : Bool) → known_fits k l ≡ true → l ≡ true → k ≡ true
fits_true true l h e = refl
fits_true false true h e = absurd (cc)
fits_true false false h e = absurd (cc)

pub shown_kept : {t u : ExprType} → Converts t u → is_shown u ≡ true → is_shown t ≡ true
shown_kept (plain {k = k} {l = l} x y z) h = fits_true k l z h
shown_kept (text y) h = absurd (cc)
shown_kept (empty_text x y z) h = absurd (cc)
shown_kept (truth_search x y z) h = absurd (cc)
shown_kept set h = refl
shown_kept search h = absurd (cc)

pub fixed_kept : {t u : ExprType} → Converts t u → is_fixed u ≡ true → is_fixed t ≡ true
fixed_kept (plain {k = k} {l = l} x y z) h = fits_true k l z h
fixed_kept (text {s = s} {r = r} y) h = subst (λ q. is_array q ≡ true) (sym (shape_is s r y)) h
fixed_kept (empty_text {k = k} x y z) h = fits_true k true z refl
fixed_kept (truth_search x y z) h = absurd (cc)
fixed_kept set h = absurd (cc)
fixed_kept search h = absurd (cc)

-- the same elements in another shape
pub shaped_kept : {t u : ExprType} → (s : Shape) → Converts t u → is_array_type u ≡ true → Converts (shaped s t) (shaped s u)
shaped_kept s (plain x y z) h = plain x (shape_same s) z
shaped_kept s (text y) h = text (shape_same s)
shaped_kept s (empty_text x y z) h = empty_text x (shape_same s) z
shaped_kept s (truth_search x y z) h = absurd (cc)
shaped_kept s set h = absurd (cc)
shaped_kept s search h = absurd (cc)

pub element_shaped : {t u : ExprType} → (s : Shape) → Converts t u → is_element u ≡ true → Converts (shaped s t) (shaped s u)
element_shaped s (plain x y z) h = plain x (shape_same s) z
element_shaped s (text y) h = text (shape_same s)
element_shaped s (empty_text x y z) h = empty_text x (shape_same s) z
element_shaped s (truth_search x y z) h = absurd (cc)
element_shaped s set h = absurd (cc)
element_shaped s search h = absurd (cc)

pub tested_least : (test : ExprType → Bool) (t r : ExprType) {u : ExprType} → test t ≡ true → Converts r u → Least (tested test t r (t ∷ [])) u
tested_least test t r h c = rw h (needs_least (t ∷ []) (t ∷ []) r (more (same t) none) c)
