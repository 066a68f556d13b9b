-- The function on rows gives the least result of the tables.
use Rattle.std.proofs.Common.{◌≡◌, ℕ, zero, suc, Bool, true, false, List, [], ◌∷◌, ◌++◌, Some, length, replicate, refl, subst, option_and_then}
use Rattle.std.proofs.lemmas.Bool.{and_right}
use Rattle.ms_typing.specs.declared.types.Scalar.{Scalar}
use Rattle.ms_typing.specs.declared.types.Scalar.TheVariants.{Truth, Number, Empty}
use Rattle.ms_typing.specs.declared.types.Shape.{Shape}
use Rattle.ms_typing.specs.declared.types.Shape.TheVariants.{Single, Line, Grid}
use Rattle.ms_typing.specs.declared.types.ExprType.{ExprType}
use Rattle.ms_typing.specs.declared.types.ExprType.TheVariants.{Plain, Text, Set, Search}
use Rattle.ms_typing.specs.Conversion.{Converts, ConvertAll, converts, plain, text, empty_text, truth_search, set, search, none, more, is_element, is_line, numbers, scalar_fits, shape_fits, shape_of, shaped, truths}
use Rattle.ms_typing.specs.Meaning.{Meaning}
use Rattle.ms_typing.specs.Term.{Form}
use Rattle.ms_typing.specs.Term as f
use Rattle.ms_typing.specs.Row.{Call, Row, arms, is_array, search_condition}
use Rattle.ms_typing.specs.Row as r
use Rattle.ms_typing.specs.Least.{a_number, a_truth, access_at, compared, concat, connect, element_asked, elements, equate, equate_at, fixed, follows, generate, is_repeat, last_given, last_of, row}
use Rattle.ms_typing.proofs.Calls.{call_least}
use Rattle.ms_typing.proofs.Choices.{choice_known_least, choice_search_least, choice_variable_least}
use Rattle.ms_typing.proofs.Converting.{along, known_same, same, scalar_same, shape_kept}
use Rattle.ms_typing.proofs.Joins.{join_all_least, join_least}
use Rattle.ms_typing.proofs.Sound.{call_sound}
use Rattle.ms_typing.proofs.Uniform.{Least, element_kept, element_shaped, least_along, line_kept, needs_least, uniform_least}

-- ---- `=` and `!=`

fits_compared : (c : Scalar) → scalar_fits c (compared c) ≡ true
fits_compared Empty = refl
fits_compared Truth = refl
fits_compared Number = refl

equated : {a b j u : ExprType} → Converts a j → Converts b j → (c : Scalar) (q : Shape) (l : Bool) → j ≡ Plain c q l → shape_fits q Single ≡ true → Converts (truths l) u
    → Least (equate_at (Plain c q l) (a ∷ b ∷ [])) u
equated {a = a} {b = b} {j = j} g h c q l e y below =
    let c' = compared c in
    let wide : Converts (Plain c q l) (Plain c' Single l) = plain (fits_compared c) y (known_same l) in
    let g' = subst (λ t. Converts a t) e g in
    let h' = subst (λ t. Converts b t) e h in
    needs_least (a ∷ b ∷ []) (Plain c' Single l ∷ Plain c' Single l ∷ []) (truths l) (more (along g' wide) (more (along h' wide) none)) below

equate_plain_at : {a b j : ExprType} {d : Scalar} {k : Bool} → Converts a j → Converts b j → Converts j (Plain d Single k) → Least (equate_at j (a ∷ b ∷ [])) (truths k)
equate_plain_at g h (plain {b = c} {s = q} {k = l} x y z) = equated g h c q l refl y (plain refl refl z)

equate_plain : {d : Scalar} (k : Bool) (ts : List ExprType) → ConvertAll ts (Plain d Single k ∷ Plain d Single k ∷ []) → Least (equate ts) (truths k)
equate_plain k ts (more g (more h none)) = let j = join_least g h in rw j.given (equate_plain_at j.left j.right j.below)

equate_sets : (ts : List ExprType) → ConvertAll ts (Set ∷ Set ∷ []) → Least (equate ts) (truths true)
equate_sets ts (more set (more set none)) = needs_least (Set ∷ Set ∷ []) (Set ∷ Set ∷ []) (truths true) (more set (more set none)) (same (truths true))

equate_texts_at : {a b j : ExprType} → Converts a (Text Single) → Converts b (Text Single) → Converts a j → Converts b j → Converts j (Text Single) → Least (equate_at j (a ∷ b ∷ [])) (truths true)
equate_texts_at {a = a} {b = b} a' b' g h (text y) = needs_least (a ∷ b ∷ []) (Text Single ∷ Text Single ∷ []) (truths true) (more a' (more b' none)) (same (truths true))
equate_texts_at a' b' g h (empty_text {b = c} {s = q} {k = l} x y z) = equated g h c q l refl y (plain refl refl z)

equate_texts : (ts : List ExprType) → ConvertAll ts (Text Single ∷ Text Single ∷ []) → Least (equate ts) (truths true)
equate_texts ts (more g (more h none)) = let j = join_least g h in rw j.given (equate_texts_at g h j.left j.right j.below)

-- ---- `++`

no_line : (t : ExprType) → shape_of t ≡ Single → is_line t ≡ false
no_line (Plain c s k) e = rw e refl
no_line (Text s) e = rw e refl
no_line Set e = refl
no_line Search e = refl

concat_texts_least : (ts : List ExprType) → ConvertAll ts (Text Single ∷ Text Single ∷ []) → Least (concat ts) (Text Single)
concat_texts_least ts (more {t = a} g (more {t = b} h none)) =
    let j = join_least g h in
    rw (j.given, no_line j.joined (shape_kept j.below)) (needs_least (a ∷ b ∷ []) (Text Single ∷ Text Single ∷ []) (Text Single) (more g (more h none)) (same (Text Single)))

concat_arrays_least : (t : ExprType) (ts : List ExprType) → is_line t ≡ true → ConvertAll ts (t ∷ t ∷ []) → Least (concat ts) t
concat_arrays_least t ts e (more {t = a} g (more {t = b} h none)) =
    let j = join_least g h in
    rw (j.given, line_kept j.below e) (needs_least (a ∷ b ∷ []) (j.joined ∷ j.joined ∷ []) j.joined (more j.left (more j.right none)) j.below)

-- ---- `\/` and `/\`

connect_truths : (k : Bool) (ts : List ExprType) → ConvertAll ts (truths k ∷ truths k ∷ []) → Least (connect ts) (truths k)
connect_truths k ts h = let l = uniform_least (a_truth ∷ a_truth ∷ []) a_truth k ts h in record { least = l.least; given = rw l.given refl; below = l.below }

connect_searches : (ts : List ExprType) → ConvertAll ts (Search ∷ Search ∷ []) → Least (connect ts) Search
connect_searches ts (more (truth_search x y z) (more (truth_search x' y' z') none)) =
    least_along (connect ts) (connect_truths true ts (more (plain x y z) (more (plain x' y' z') none))) (truth_search refl refl refl)
connect_searches ts (more search (more {t = b} h none)) = needs_least (Search ∷ b ∷ []) (Search ∷ Search ∷ []) Search (more search (more h none)) search
connect_searches ts (more (truth_search {b = c} {s = s} {k = k} x y z) (more search none)) =
    let t = Plain c s k in
    rw (and_right (converts t _) false refl) (needs_least (t ∷ Search ∷ []) (Search ∷ Search ∷ []) Search (more (truth_search x y z) (more search none)) search)

-- ---- accesses

line_access : {t i : ExprType} {c : Scalar} {k : Bool} → Converts t (Plain c Line k) → Converts i (numbers k) → Least (access_at t (t ∷ i ∷ [])) (Plain c Single k)
line_access {i = i} {k = k} (plain {b = d} {s = Line} {k = l} x y z) h =
    least_along _ (uniform_least (follows d Line ∷ a_number ∷ []) (follows d Single) k (Plain d Line l ∷ i ∷ []) (more (plain (scalar_same d) refl z) (more h none))) (plain x refl (known_same k))
line_access (plain {s = Single} x y z) h = absurd (cc)
line_access (plain {s = Grid} x y z) h = absurd (cc)

grid_access : {t i j : ExprType} {c : Scalar} {k : Bool} → Converts t (Plain c Grid k) → Converts i (numbers k) → Converts j (numbers k) → Least (access_at t (t ∷ i ∷ j ∷ [])) (Plain c Single k)
grid_access {i = i} {j = j} {k = k} (plain {b = d} {s = Grid} {k = l} x y z) h g =
    least_along _ (uniform_least (follows d Grid ∷ a_number ∷ a_number ∷ []) (follows d Single) k (Plain d Grid l ∷ i ∷ j ∷ []) (more (plain (scalar_same d) refl z) (more h (more g none)))) (plain x refl (known_same k))
grid_access (plain {s = Single} x y z) h g = absurd (cc)
grid_access (plain {s = Line} x y z) h g = absurd (cc)

text_line_access : {t i : ExprType} → Converts t (Text Line) → Converts i (numbers true) → Least (access_at t (t ∷ i ∷ [])) (Text Single)
text_line_access {i = i} (text {s = Line} y) h = needs_least (Text Line ∷ i ∷ []) (Text Line ∷ numbers true ∷ []) (Text Single) (more (text refl) (more h none)) (text refl)
text_line_access (text {s = Single} y) h = absurd (cc)
text_line_access (text {s = Grid} y) h = absurd (cc)
text_line_access (empty_text {b = d} {s = Line} {k = l} x y z) h =
    least_along _ (line_access {c = d} {k = true} (plain {s = Line} (scalar_same d) refl z) h) (empty_text x refl refl)
text_line_access (empty_text {s = Single} x y z) h = absurd (cc)
text_line_access (empty_text {s = Grid} x y z) h = absurd (cc)

text_grid_access : {t i j : ExprType} → Converts t (Text Grid) → Converts i (numbers true) → Converts j (numbers true) → Least (access_at t (t ∷ i ∷ j ∷ [])) (Text Single)
text_grid_access {i = i} {j = j} (text {s = Grid} y) h g = needs_least (Text Grid ∷ i ∷ j ∷ []) (Text Grid ∷ numbers true ∷ numbers true ∷ []) (Text Single) (more (text refl) (more h (more g none))) (text refl)
text_grid_access (text {s = Single} y) h g = absurd (cc)
text_grid_access (text {s = Line} y) h g = absurd (cc)
text_grid_access (empty_text {b = d} {s = Grid} {k = l} x y z) h g =
    least_along _ (grid_access {c = d} {k = true} (plain {s = Grid} (scalar_same d) refl z) h g) (empty_text x refl refl)
text_grid_access (empty_text {s = Single} x y z) h g = absurd (cc)
text_grid_access (empty_text {s = Line} x y z) h g = absurd (cc)

-- ---- literals and comprehensions

empty_below : (t : ExprType) → is_element t ≡ true → Converts (Plain Empty Single true) t
empty_below (Plain c Single k) h = plain refl refl refl
empty_below (Plain c Line k) h = absurd (cc)
empty_below (Plain c Grid k) h = absurd (cc)
empty_below (Text Single) h = empty_text refl refl refl
empty_below (Text Line) h = absurd (cc)
empty_below (Text Grid) h = absurd (cc)
empty_below Set h = absurd (cc)
empty_below Search h = absurd (cc)

elements_least : (s : Shape) (n : ℕ) (t : ExprType) (ts : List ExprType) → is_element t ≡ true → ConvertAll ts (replicate n t) → Least (elements s ts) (shaped s t)
elements_least s n t ts e h =
    let j = join_all_least n ts (empty_below t e) h in
    rw (j.given, element_kept j.below e) (needs_least ts (replicate (length ts) j.joined) (shaped s j.joined) j.rest (element_shaped s j.below e))

all_numbers : (n : ℕ) (x : ExprType) (ts : List ExprType) → ConvertAll ts (replicate n x) → ConvertAll ts (replicate (length ts) x)
all_numbers zero x [] none = none
all_numbers zero x (t ∷ ts) h = elim h [ ]
all_numbers (suc n) x [] h = elim h [ ]
all_numbers (suc n) x (t ∷ ts) (more h hs) = more h (all_numbers n x ts hs)

-- ---- forms whose last part is of any type

pub record Last (asked : List ExprType) (ts : List ExprType) (t : ExprType) : Type 0 where
  pub last : ExprType
  pub given : last_of ts ≡ Some last
  pub below : Converts last t
  pub again : (v : ExprType) → Converts last v → ConvertAll ts (asked ++ (v ∷ []))

last_more : (t : ExprType) (ts : List ExprType) (e : ExprType) → last_of ts ≡ Some e → last_of (t ∷ ts) ≡ Some e
last_more t [] e h = absurd (cc)
last_more t (u ∷ us) e h = h

last_part : (asked : List ExprType) (ts : List ExprType) (t : ExprType) → ConvertAll ts (asked ++ (t ∷ [])) → Last asked ts t
last_part [] ts t (more {t = e} h none) = record { last = e; given = refl; below = h; again = λ v c. more c none }
last_part (a ∷ asked) ts t (more {t = c} {ts = us} h hs) =
    let r = last_part asked us t hs in
    record { last = r.last; given = last_more c us r.last r.given; below = r.below; again = λ v c'. more h (r.again v c') }

lets_least : (declared ts : List ExprType) (t : ExprType) → ConvertAll ts (declared ++ (t ∷ [])) → Least (option_and_then (last_given declared ts) (last_of ts)) t
lets_least declared ts t h =
    let l = last_part declared ts t h in
    rw l.given (needs_least ts (declared ++ (l.last ∷ [])) l.last (l.again l.last (same l.last)) l.below)

-- ---- `f(gens)(e)`

-- no form of `repeat` takes an array
no_repeat : {w : Meaning} {us : List ExprType} {t : ExprType} (u : ExprType) → Call w us t → us ≡ (shaped Line u ∷ []) → is_element u ≡ true → is_repeat w ≡ false
no_repeat (Plain c s k) r.repeat e h = absurd (cc)
no_repeat (Text s) r.repeat e h = absurd (cc)
no_repeat Set r.repeat e h = absurd (cc)
no_repeat Search r.repeat e h = absurd (cc)
no_repeat u other e h = refl

-- what an element is asked for, where an array of it is asked for more
element_along : (t : ExprType) {v : ExprType} → is_element t ≡ true → Converts (shaped Line t) v → Converts t (shaped Single v)
element_along (Plain c Single k) h (plain x y z) = plain x refl z
element_along (Plain c Line k) h d = absurd (cc)
element_along (Plain c Grid k) h d = absurd (cc)
element_along (Plain c Single k) h (empty_text x y z) = empty_text x refl z
element_along (Plain c Single k) h (truth_search x y z) = absurd (cc)
element_along (Text Single) h (text y) = text refl
element_along (Text Line) h d = absurd (cc)
element_along (Text Grid) h d = absurd (cc)
element_along Set h d = absurd (cc)
element_along Search h d = absurd (cc)

pub element_is_asked : (t : ExprType) {us : List ExprType} → is_element t ≡ true → ConvertAll (shaped Line t ∷ []) us → Converts t (element_asked us)
element_is_asked t h (more c none) = element_along t h c

generates_least : (w : Meaning) (asked ts : List ExprType) (one : Bool) (u t : ExprType) → is_element u ≡ true → Call w (shaped Line u ∷ []) t → ConvertAll ts (asked ++ (u ∷ [])) → Least (generate w asked one ts) t
generates_least w asked ts one u t e k h =
    let l = last_part asked ts u h in
    let q = element_kept l.below e in
    let c = call_least (shaped Line l.last ∷ []) k (more (element_shaped Line l.below e) none) in
    let s = call_sound w (shaped Line l.last ∷ []) c.least c.given in
    let v = element_asked c.least.0 in
    rw (no_repeat u k refl e, l.given, q, c.given) (needs_least ts (asked ++ (v ∷ [])) c.least.1 (l.again v (element_is_asked l.last q s.convert)) c.below)

outputs_least : (s : Shape) (ts : List ExprType) → is_array s ≡ true → ConvertAll ts (Text s ∷ []) → Least (row f.outputs ts) (Text s)
outputs_least s ts a (more {t = e} h none) = rw (shape_kept h, a) (needs_least (e ∷ []) (Text s ∷ []) (Text s) (more h none) (same (Text s)))

-- ---- all forms

pub row_least : {g : Form} {us : List ExprType} {u : ExprType} → (ts : List ExprType) → Row g us u → ConvertAll ts us → Least (row g ts) u
row_least ts r.number h = needs_least ts [] (numbers true) h (same (numbers true))
row_least ts r.text h = needs_least ts [] (Text Single) h (same (Text Single))
row_least ts r.truth h = needs_least ts [] (truths true) h (same (truths true))
row_least ts (r.stands {t = t}) h = needs_least ts [] t h (same t)
row_least ts r.break_stands h = needs_least ts [] Search h search
row_least ts r.fail_stands h = needs_least ts [] Search h search
row_least ts r.skip_stands h = needs_least ts [] Search h search
row_least ts (r.calls k) h = call_least ts k h
row_least ts (r.generates {w = w} {asked = asked} {one = one} {t = t} u e k) h = generates_least w asked ts one u t e k h
row_least ts (r.repeat_each {asked = asked}) h = needs_least ts (asked ++ (Search ∷ [])) Search h search
row_least ts (r.equivalent {k = k}) h = uniform_least (a_truth ∷ a_truth ∷ []) a_truth k ts h
row_least ts (r.implies {k = k}) h = uniform_least (a_truth ∷ a_truth ∷ []) a_truth k ts h
row_least ts (r.implied_by {k = k}) h = uniform_least (a_truth ∷ a_truth ∷ []) a_truth k ts h
row_least ts (r.exclusive_or {k = k}) h = uniform_least (a_truth ∷ a_truth ∷ []) a_truth k ts h
row_least ts (r.or {k = k}) h = connect_truths k ts h
row_least ts (r.and {k = k}) h = connect_truths k ts h
row_least ts r.search_or h = connect_searches ts h
row_least ts r.search_and h = connect_searches ts h
row_least ts (r.equal_numbers {k = k}) h = equate_plain k ts h
row_least ts (r.equal_truths {k = k}) h = equate_plain k ts h
row_least ts r.equal_sets h = equate_sets ts h
row_least ts r.equal_texts h = equate_texts ts h
row_least ts (r.unequal_numbers {k = k}) h = equate_plain k ts h
row_least ts (r.unequal_truths {k = k}) h = equate_plain k ts h
row_least ts r.unequal_sets h = equate_sets ts h
row_least ts r.unequal_texts h = equate_texts ts h
row_least ts (r.less {k = k}) h = uniform_least (a_number ∷ a_number ∷ []) a_truth k ts h
row_least ts (r.at_most {k = k}) h = uniform_least (a_number ∷ a_number ∷ []) a_truth k ts h
row_least ts (r.greater {k = k}) h = uniform_least (a_number ∷ a_number ∷ []) a_truth k ts h
row_least ts (r.at_least {k = k}) h = uniform_least (a_number ∷ a_number ∷ []) a_truth k ts h
row_least ts (r.member {k = k}) h = uniform_least (a_number ∷ fixed Set ∷ []) a_truth k ts h
row_least ts r.range h = needs_least ts (numbers true ∷ numbers true ∷ []) Set h set
row_least ts (r.plus {k = k}) h = uniform_least (a_number ∷ a_number ∷ []) a_number k ts h
row_least ts (r.minus {k = k}) h = uniform_least (a_number ∷ a_number ∷ []) a_number k ts h
row_least ts (r.times {k = k}) h = uniform_least (a_number ∷ a_number ∷ []) a_number k ts h
row_least ts (r.quotient {k = k}) h = uniform_least (a_number ∷ a_number ∷ []) a_number k ts h
row_least ts (r.remainder {k = k}) h = uniform_least (a_number ∷ a_number ∷ []) a_number k ts h
row_least ts r.concat_texts h = concat_texts_least ts h
row_least ts (r.concat_arrays {t = t} e) h = concat_arrays_least t ts e h
row_least ts (r.negated {k = k}) h = uniform_least (a_truth ∷ []) a_truth k ts h
row_least ts (r.negative {k = k}) h = uniform_least (a_number ∷ []) a_number k ts h
row_least ts r.parenthesis (more {t = t} h none) = needs_least (t ∷ []) (t ∷ []) t (more (same t) none) h
row_least ts r.access_line (more h (more g none)) = line_access h g
row_least ts r.access_grid (more h (more g (more i none))) = grid_access h g i
row_least ts r.access_text_line (more h (more g none)) = text_line_access h g
row_least ts r.access_text_grid (more h (more g (more i none))) = text_grid_access h g i
row_least ts (r.array n t e) h = elements_least Line n t ts e h
row_least ts (r.grid n t e) h = elements_least Grid n t ts e h
row_least ts (r.set n) h = needs_least ts (replicate (length ts) (numbers true)) Set (all_numbers n (numbers true) ts h) set
row_least ts (r.comprehension {asked = asked} e) (more {t = t} {ts = us} h hs) =
    rw (element_kept h e) (needs_least (t ∷ us) (t ∷ asked) (shaped Line t) (more (same t) hs) (element_shaped Line h e))
row_least ts (r.choice_known {t = t} n) h = choice_known_least n ts t h
row_least ts (r.choice_variable {c = c} ks) h = choice_variable_least ks ts c h
row_least ts (r.choice_search ks) h = choice_search_least ks ts h
row_least ts (r.lets {declared = declared} {t = t}) h = lets_least declared ts t h
row_least ts (r.declares {asked = asked} {t = t}) h = needs_least ts asked t h (same t)
row_least ts (r.assigns {t = t}) h = needs_least ts (t ∷ []) t h (same t)
row_least ts r.gives (more {t = t} h none) = needs_least (t ∷ []) (t ∷ []) t (more (same t) none) h
row_least ts r.constrains h = needs_least ts (truths false ∷ []) (truths false) h (same (truths false))
row_least ts r.satisfies h = needs_least ts [] (truths true) h (same (truths true))
row_least ts r.optimizes h = needs_least ts (numbers false ∷ []) (numbers false) h (same (numbers false))
row_least ts r.searches h = needs_least ts (Search ∷ []) Search h search
row_least ts (r.outputs {s = s} a) h = outputs_least s ts a h
