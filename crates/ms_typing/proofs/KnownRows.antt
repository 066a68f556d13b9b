-- Each row holds with its variable operands known, and then its result is known.
use Rattle.std.proofs.Common.{◌≡◌, ℕ, zero, suc, Bool, true, false, List, [], ◌∷◌, ◌++◌, map, replicate, refl, subst, ap}
use Rattle.ms_typing.specs.declared.types.Scalar.{Scalar}
use Rattle.ms_typing.specs.declared.types.Scalar.TheVariants.{Truth, Number}
use Rattle.ms_typing.specs.declared.types.Shape.{Shape}
use Rattle.ms_typing.specs.declared.types.Shape.TheVariants.{Single, Line, Grid}
use Rattle.ms_typing.specs.declared.types.ExprType.{ExprType}
use Rattle.ms_typing.specs.declared.types.ExprType.TheVariants.{Plain, Text, Set, Search}
use Rattle.ms_typing.specs.Conversion.{Converts, ConvertAll, as_known, is_element, is_grid, is_line, more, none, numbers, plain, shaped, truths}
use Rattle.ms_typing.specs.Meaning.{Meaning, Told}
use Rattle.ms_typing.specs.Meaning as m
use Rattle.ms_typing.specs.Term.{Form}
use Rattle.ms_typing.specs.Term as f
use Rattle.ms_typing.specs.Row.{Call, Row, arms, is_array, is_array_type, is_fixed, is_shown, search_condition}
use Rattle.ms_typing.specs.Row as r
use Rattle.ms_typing.specs.Least.{element_asked}
use Rattle.ms_typing.proofs.Converting.{all_same, same, scalar_same, shape_same}
use Rattle.ms_typing.proofs.Leasts.{element_is_asked}
use Rattle.ms_typing.proofs.Sound.{asked_is_line}

-- a meaning, and a form, where everything is known
abbrev pub known_meaning : Meaning → Meaning
known_meaning (m.value t) = m.value (as_known t)
known_meaning (m.function ts t) = m.function (map as_known ts) (as_known t)
known_meaning (m.built_in x) = m.built_in x

abbrev pub known_told : Told → Told
known_told m.unknown = m.unknown
known_told (m.means w) = m.means (known_meaning w)
known_told (m.barred w) = m.barred w

-- an item asks for what is variable; none stands in an expression
abbrev pub known_form : Form → Form
known_form f.number = f.number
known_form f.text = f.text
known_form f.truth = f.truth
known_form (f.stands w) = f.stands (known_told w)
known_form (f.calls w) = f.calls (known_told w)
known_form (f.generates w asked one) = f.generates (known_told w) (map as_known asked) one
known_form (f.operation op) = f.operation op
known_form (f.prefix s) = f.prefix s
known_form f.parenthesis = f.parenthesis
known_form f.access = f.access
known_form f.array = f.array
known_form (f.grid b) = f.grid b
known_form f.set = f.set
known_form (f.comprehension asked) = f.comprehension (map as_known asked)
known_form f.choice = f.choice
known_form (f.lets declared) = f.lets (map as_known declared)
known_form (f.declares b asked t) = f.declares b (map as_known asked) (as_known t)
known_form (f.assigns t) = f.assigns (as_known t)
known_form f.gives = f.gives
known_form f.constrains = f.gives
known_form f.satisfies = f.satisfies
known_form f.optimizes = f.gives
known_form f.searches = f.searches
known_form f.outputs = f.outputs
known_form f.unsupported = f.unsupported
known_form f.misplaced = f.misplaced

pub record Knows (P : List ExprType → ExprType → Type 0) (us : List ExprType) (t : ExprType) : Type 0 where
  pub operands : List ExprType
  pub result : ExprType
  pub convert : ConvertAll (map as_known us) operands
  pub is_row : P operands result
  pub below : Converts result (as_known t)

-- with all of it known as it stands
as_it_is : {P : List ExprType → ExprType → Type 0} (us : List ExprType) (t : ExprType) → P (map as_known us) (as_known t) → Knows P us t
as_it_is us t p = record { operands = map as_known us; result = as_known t; convert = all_same (map as_known us); is_row = p; below = same (as_known t) }

known_array : (t : ExprType) → is_array_type (as_known t) ≡ is_array_type t
known_array (Plain c s k) = refl
known_array (Text s) = refl
known_array Set = refl
known_array Search = refl

known_line : (t : ExprType) → is_line (as_known t) ≡ is_line t
known_line (Plain c s k) = refl
known_line (Text s) = refl
known_line Set = refl
known_line Search = refl

known_grid : (t : ExprType) → is_grid (as_known t) ≡ is_grid t
known_grid (Plain c s k) = refl
known_grid (Text s) = refl
known_grid Set = refl
known_grid Search = refl

known_element : (t : ExprType) → is_element (as_known t) ≡ is_element t
known_element (Plain c s k) = refl
known_element (Text s) = refl
known_element Set = refl
known_element Search = refl

known_shown : (t : ExprType) → is_shown t ≡ true → is_shown (as_known t) ≡ true
known_shown (Plain c s k) h = refl
known_shown (Text s) h = h
known_shown Set h = h
known_shown Search h = h

known_fixed : (t : ExprType) → is_fixed t ≡ true → is_fixed (as_known t) ≡ true
known_fixed (Plain c s k) h = refl
known_fixed (Text s) h = h
known_fixed Set h = h
known_fixed Search h = h

known_shaped : (s : Shape) (t : ExprType) → as_known (shaped s t) ≡ shaped s (as_known t)
known_shaped s (Plain c q k) = refl
known_shaped s (Text q) = refl
known_shaped s Set = refl
known_shaped s Search = refl

to_variable : (c : Scalar) (s : Shape) → ConvertAll (Plain c s true ∷ []) (Plain c s false ∷ [])
to_variable c s = more (plain (scalar_same c) (shape_same s) refl) none

pub known_call : {w : Meaning} {us : List ExprType} {t : ExprType} → Call w us t → Knows (Call (known_meaning w)) us t
known_call (r.function {ts = us} {t = t}) = as_it_is us t r.function
known_call (r.for_all a) = as_it_is _ _ (r.for_all a)
known_call (r.exists_one a) = as_it_is _ _ (r.exists_one a)
known_call (r.sum_of a) = as_it_is _ _ (r.sum_of a)
known_call (r.min_of a) = as_it_is _ _ (r.min_of a)
known_call r.min_two = as_it_is _ _ r.min_two
known_call (r.max_of a) = as_it_is _ _ (r.max_of a)
known_call r.max_two = as_it_is _ _ r.max_two
known_call r.absolute = as_it_is _ _ r.absolute
known_call r.bool_to_int = as_it_is _ _ r.bool_to_int
known_call r.count = as_it_is _ _ r.count
known_call (r.all_different a) = as_it_is _ _ (r.all_different a)
known_call r.table = as_it_is _ _ r.table
known_call (r.length_of {t = t} a) = as_it_is (t ∷ []) _ (r.length_of (rw (known_array t) a))
known_call (r.index_set {t = t} a) = as_it_is (t ∷ []) _ (r.index_set (rw (known_line t) a))
known_call (r.row_index_set {t = t} a) = as_it_is (t ∷ []) _ (r.row_index_set (rw (known_grid t) a))
known_call (r.column_index_set {t = t} a) = as_it_is (t ∷ []) _ (r.column_index_set (rw (known_grid t) a))
known_call r.card = as_it_is _ _ r.card
known_call (r.array_line {t = t} a) = as_it_is (Set ∷ t ∷ []) (shaped Line t) (rw (known_shaped Line t) (r.array_line {t = as_known t} (rw (known_array t) a)))
known_call (r.array_grid {t = t} a) = as_it_is (Set ∷ Set ∷ t ∷ []) (shaped Grid t) (rw (known_shaped Grid t) (r.array_grid {t = as_known t} (rw (known_array t) a)))
known_call (r.show {t = t} a) = as_it_is (t ∷ []) _ (r.show (known_shown t a))
known_call (r.fixed {t = t} a) = as_it_is (t ∷ []) t (r.fixed (known_fixed t a))
known_call (r.sol {c = c}) = record { operands = Plain c Single false ∷ []; result = Plain c Single true; convert = to_variable c Single; is_row = r.sol; below = same (Plain c Single true) }
known_call r.has_sol = as_it_is _ _ r.has_sol
known_call r.uniform = as_it_is _ _ r.uniform
known_call r.next = as_it_is _ _ r.next
known_call r.post = record { operands = truths false ∷ []; result = Search; convert = to_variable Truth Single; is_row = r.post; below = same Search }
known_call r.commit = as_it_is _ _ r.commit
known_call r.print_solution = as_it_is _ _ r.print_solution
known_call r.print_text = as_it_is _ _ r.print_text
known_call r.scope = as_it_is _ _ r.scope
known_call r.repeat = as_it_is _ _ r.repeat
known_call r.time_limit = as_it_is _ _ r.time_limit
known_call r.keep = record { operands = Plain Number Line false ∷ []; result = Search; convert = to_variable Number Line; is_row = r.keep; below = same Search }
known_call r.clear_front = as_it_is _ _ r.clear_front
known_call r.print_front = as_it_is _ _ r.print_front

-- ---- lists

known_last : (asked : List ExprType) (t : ExprType) → map as_known (asked ++ (t ∷ [])) ≡ (map as_known asked ++ (as_known t ∷ []))
known_last [] t = refl
known_last (a ∷ asked) t = ap (λ (us : List ExprType). as_known a ∷ us) (known_last asked t)

known_replicate : (n : ℕ) (t : ExprType) → map as_known (replicate n t) ≡ replicate n (as_known t)
known_replicate zero t = refl
known_replicate (suc n) t = ap (λ (us : List ExprType). as_known t ∷ us) (known_replicate n t)

known_arms : (n : ℕ) (t : ExprType) → map as_known (arms (replicate n (truths true)) t) ≡ arms (replicate n (truths true)) (as_known t)
known_arms zero t = refl
known_arms (suc n) t = ap (λ (us : List ExprType). truths true ∷ as_known t ∷ us) (known_arms n t)

all_of : List Bool → ℕ
all_of [] = zero
all_of (k ∷ ks) = suc (all_of ks)

known_variables : (ks : List Bool) (t : ExprType) → map as_known (arms (map truths ks) t) ≡ arms (replicate (all_of ks) (truths true)) (as_known t)
unfolding all_of
known_variables [] t = refl
known_variables (k ∷ ks) t = ap (λ (us : List ExprType). truths true ∷ as_known t ∷ us) (known_variables ks t)

known_condition : (k : Bool) → as_known (search_condition k) ≡ search_condition k
known_condition true = refl
known_condition false = refl

known_searches : (ks : List Bool) → map as_known (arms (map search_condition ks) Search) ≡ arms (map search_condition ks) Search
known_searches [] = refl
known_searches (k ∷ ks) = rw (known_condition k, known_searches ks) refl

-- ---- forms

generates_known : (w : Meaning) (asked : List ExprType) (one : Bool) (u t : ExprType) → is_element u ≡ true → Knows (Call (known_meaning w)) (shaped Line u ∷ []) t → Knows (Row (known_form (f.generates (m.means w) asked one))) (asked ++ (u ∷ [])) t
generates_known w asked one u t e k =
    let e' : is_element (as_known u) ≡ true = rw (known_element u) e in
    let c : ConvertAll (shaped Line (as_known u) ∷ []) k.operands = subst (λ v. ConvertAll (v ∷ []) k.operands) (known_shaped Line u) k.convert in
    let l = asked_is_line (as_known u) e' c in
    let v = element_asked k.operands in
    let i : Call (known_meaning w) (shaped Line v ∷ []) k.result = subst (λ us. Call (known_meaning w) us k.result) l.0 k.is_row in
    record {
      operands = map as_known asked ++ (v ∷ []);
      result = k.result;
      convert = rw (known_last asked u) (all_but asked (as_known u) v (element_is_asked (as_known u) e' c));
      is_row = r.generates v l.1 i;
      below = k.below;
    }
  where
    all_but : (us : List ExprType) (t v : ExprType) → Converts t v → ConvertAll (map as_known us ++ (t ∷ [])) (map as_known us ++ (v ∷ []))
    all_but [] t v c = more c none
    all_but (u ∷ us) t v c = more (same (as_known u)) (all_but us t v c)

-- by an equation of the operands
as_listed : {P : List ExprType → ExprType → Type 0} (us vs : List ExprType) (t : ExprType) → map as_known us ≡ vs → P vs (as_known t) → Knows P us t
as_listed us vs t e p = record { operands = vs; result = as_known t; convert = subst (λ ws. ConvertAll (map as_known us) ws) e (all_same (map as_known us)); is_row = p; below = same (as_known t) }

pub known_row : {g : Form} {us : List ExprType} {t : ExprType} → Row g us t → Knows (Row (known_form g)) us t
known_row r.number = as_it_is _ _ r.number
known_row r.text = as_it_is _ _ r.text
known_row r.truth = as_it_is _ _ r.truth
known_row (r.stands {t = t}) = as_it_is [] t r.stands
known_row r.break_stands = as_it_is _ _ r.break_stands
known_row r.fail_stands = as_it_is _ _ r.fail_stands
known_row r.skip_stands = as_it_is _ _ r.skip_stands
known_row (r.calls c) = let k = known_call c in record { operands = k.operands; result = k.result; convert = k.convert; is_row = r.calls k.is_row; below = k.below }
known_row (r.generates {w = w} {asked = asked} {one = one} {t = t} u e c) = generates_known w asked one u t e (known_call c)
known_row (r.repeat_each {asked = asked}) = as_listed (asked ++ (Search ∷ [])) (map as_known asked ++ (Search ∷ [])) Search (known_last asked Search) r.repeat_each
known_row r.equivalent = as_it_is _ _ r.equivalent
known_row r.implies = as_it_is _ _ r.implies
known_row r.implied_by = as_it_is _ _ r.implied_by
known_row r.exclusive_or = as_it_is _ _ r.exclusive_or
known_row r.or = as_it_is _ _ r.or
known_row r.and = as_it_is _ _ r.and
known_row r.search_or = as_it_is _ _ r.search_or
known_row r.search_and = as_it_is _ _ r.search_and
known_row r.equal_numbers = as_it_is _ _ r.equal_numbers
known_row r.equal_truths = as_it_is _ _ r.equal_truths
known_row r.equal_sets = as_it_is _ _ r.equal_sets
known_row r.equal_texts = as_it_is _ _ r.equal_texts
known_row r.unequal_numbers = as_it_is _ _ r.unequal_numbers
known_row r.unequal_truths = as_it_is _ _ r.unequal_truths
known_row r.unequal_sets = as_it_is _ _ r.unequal_sets
known_row r.unequal_texts = as_it_is _ _ r.unequal_texts
known_row r.less = as_it_is _ _ r.less
known_row r.at_most = as_it_is _ _ r.at_most
known_row r.greater = as_it_is _ _ r.greater
known_row r.at_least = as_it_is _ _ r.at_least
known_row r.member = as_it_is _ _ r.member
known_row r.range = as_it_is _ _ r.range
known_row r.plus = as_it_is _ _ r.plus
known_row r.minus = as_it_is _ _ r.minus
known_row r.times = as_it_is _ _ r.times
known_row r.quotient = as_it_is _ _ r.quotient
known_row r.remainder = as_it_is _ _ r.remainder
known_row r.concat_texts = as_it_is _ _ r.concat_texts
known_row (r.concat_arrays {t = t} e) = as_it_is (t ∷ t ∷ []) t (r.concat_arrays (rw (known_line t) e))
known_row r.negated = as_it_is _ _ r.negated
known_row r.negative = as_it_is _ _ r.negative
known_row (r.parenthesis {t = t}) = as_it_is (t ∷ []) t r.parenthesis
known_row r.access_line = as_it_is _ _ r.access_line
known_row r.access_grid = as_it_is _ _ r.access_grid
known_row r.access_text_line = as_it_is _ _ r.access_text_line
known_row r.access_text_grid = as_it_is _ _ r.access_text_grid
known_row (r.array n t e) = as_listed (replicate n t) (replicate n (as_known t)) (shaped Line t) (known_replicate n t) (rw (known_shaped Line t) (r.array n (as_known t) (rw (known_element t) e)))
known_row (r.grid n t e) = as_listed (replicate n t) (replicate n (as_known t)) (shaped Grid t) (known_replicate n t) (rw (known_shaped Grid t) (r.grid n (as_known t) (rw (known_element t) e)))
known_row (r.set n) = as_listed (replicate n (numbers true)) (replicate n (numbers true)) Set (known_replicate n (numbers true)) (r.set n)
known_row (r.comprehension {asked = asked} {t = t} e) = as_it_is (t ∷ asked) (shaped Line t) (rw (known_shaped Line t) (r.comprehension {t = as_known t} (rw (known_element t) e)))
known_row (r.choice_known {t = t} n) = as_listed (arms (replicate n (truths true)) t) (arms (replicate n (truths true)) (as_known t)) t (known_arms n t) (r.choice_known n)
known_row (r.choice_variable {c = c} ks) =
    as_listed (arms (map truths ks) (Plain c Single false)) (arms (replicate (all_of ks) (truths true)) (Plain c Single true)) (Plain c Single false) (known_variables ks (Plain c Single false)) (r.choice_known (all_of ks))
known_row (r.choice_search ks) = as_listed (arms (map search_condition ks) Search) (arms (map search_condition ks) Search) Search (known_searches ks) (r.choice_search ks)
known_row (r.lets {declared = declared} {t = t}) = as_listed (declared ++ (t ∷ [])) (map as_known declared ++ (as_known t ∷ [])) t (known_last declared t) r.lets
known_row (r.declares {asked = asked} {t = t}) = as_it_is asked t r.declares
known_row (r.assigns {t = t}) = as_it_is (t ∷ []) t r.assigns
known_row (r.gives {t = t}) = as_it_is (t ∷ []) t r.gives
known_row r.constrains = as_it_is _ _ r.gives
known_row r.satisfies = as_it_is _ _ r.satisfies
known_row r.optimizes = as_it_is _ _ r.gives
known_row r.searches = as_it_is _ _ r.searches
known_row (r.outputs a) = as_it_is _ _ (r.outputs a)
