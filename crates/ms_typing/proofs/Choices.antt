-- The least type of an `if`.
use Rattle.std.proofs.Common.{◌≡◌, ℕ, zero, suc, Bool, true, false, ◌&&◌, List, [], ◌∷◌, length, map, replicate, refl}
use Rattle.std.specs.Prelude.{◌||◌, not}
use Rattle.ms_typing.specs.declared.types.Scalar.{Scalar}
use Rattle.ms_typing.specs.declared.types.Shape.TheVariants.{Single}
use Rattle.ms_typing.specs.declared.types.ExprType.{ExprType}
use Rattle.ms_typing.specs.declared.types.ExprType.TheVariants.{Plain, Search}
use Rattle.ms_typing.specs.Conversion.{Converts, ConvertAll, plain, truth_search, search, none, more, known_of, truths}
use Rattle.ms_typing.specs.Meaning.{is_search}
use Rattle.ms_typing.specs.Row.{arms, search_condition}
use Rattle.ms_typing.specs.Least.{all_known, branches, choose_among, choose_variable, conditions, search_conditions, some_search, variable_conditions}
use Rattle.ms_typing.proofs.Converting.{along, fits_variable, known_same, scalar_same}
use Rattle.ms_typing.proofs.Joins.{join_some_least}
use Rattle.ms_typing.proofs.Uniform.{Least, fits_true, known_of_fits, lower, needs_least}

-- ---- conditions and branches

split_conditions : (cs ts : List ExprType) (t : ExprType) → ConvertAll ts (arms cs t) → ConvertAll (conditions ts) cs
split_conditions [] ts t (more h none) = none
split_conditions (c ∷ cs) ts t (more h (more {ts = us} g hs)) = more h (split_conditions cs us t hs)

split_branches : (cs ts : List ExprType) (t : ExprType) → ConvertAll ts (arms cs t) → ConvertAll (branches ts) (replicate (suc (length cs)) t)
split_branches [] ts t (more h none) = more h none
split_branches (c ∷ cs) ts t (more h (more {ts = us} g hs)) = more g (split_branches cs us t hs)

-- the same with other conditions and branches
arms_again : (cs : List ExprType) {ds : List ExprType} (ts : List ExprType) (t u : ExprType) → ConvertAll ts (arms cs t) → ConvertAll (conditions ts) ds → ConvertAll (branches ts) (replicate (length (branches ts)) u) → ConvertAll ts (arms ds u)
arms_again [] ts t u (more h none) none (more g none) = more g none
arms_again (c ∷ cs) ts t u (more h (more {ts = us} g hs)) (more i is) (more j js) = more i (more j (arms_again cs us t u hs is js))

same_length : (x : ExprType) (n : ℕ) (cs : List ExprType) → ConvertAll cs (replicate n x) → ConvertAll cs (replicate (length cs) x)
same_length x zero [] none = none
same_length x zero (c ∷ cs) h = elim h [ ]
same_length x (suc n) [] h = elim h [ ]
same_length x (suc n) (c ∷ cs) (more h hs) = more h (same_length x n cs hs)

-- ---- what kinds of conditions there are

no_search : {c : ExprType} {s : Scalar} {k : Bool} → Converts c (Plain s Single k) → is_search c ≡ false
no_search (plain x y z) = refl

truths_known : (n : ℕ) (cs : List ExprType) → ConvertAll cs (replicate n (truths true)) → (some_search cs ≡ false) × (all_known cs ≡ true)
truths_known zero [] none = (refl, refl)
truths_known zero (c ∷ cs) h = elim h [ ]
truths_known (suc n) [] h = elim h [ ]
truths_known (suc n) (c ∷ cs) (more h hs) =
    let r = truths_known n cs hs in
    let k = fits_true (known_of c) true (known_of_fits h) refl in
    let q = no_search h in (rw (q, r.0) refl, rw (k, r.1) refl)

truths_no_search : (ks : List Bool) (cs : List ExprType) → ConvertAll cs (map truths ks) → some_search cs ≡ false
truths_no_search [] [] none = refl
truths_no_search [] (c ∷ cs) h = elim h [ ]
truths_no_search (k ∷ ks) [] h = elim h [ ]
truths_no_search (k ∷ ks) (c ∷ cs) (more h hs) = let q = no_search h in rw (q, truths_no_search ks cs hs) refl

and_parts : (a b : Bool) → (a && b) ≡ true → (a ≡ true) × (b ≡ true)
and_parts true b h = (refl, h)
and_parts false b h = absurd (cc)

or_parts : (a b : Bool) → (a || b) ≡ false → (a ≡ false) × (b ≡ false)
or_parts true b h = absurd (cc)
or_parts false b h = (refl, h)

sharpen : (ks : List Bool) (cs : List ExprType) → ConvertAll cs (map truths ks) → all_known cs ≡ true → ConvertAll cs (replicate (length cs) (truths true))
sharpen [] [] none h = none
sharpen [] (c ∷ cs) g h = elim g [ ]
sharpen (k ∷ ks) [] g h = elim g [ ]
sharpen (k ∷ ks) (c ∷ cs) (more g gs) h =
    let p = and_parts (known_of c) (all_known cs) h in
    more (lower true g (rw p.0 refl)) (sharpen ks cs gs p.1)

own_truths : (ks : List Bool) (cs : List ExprType) → ConvertAll cs (map truths ks) → ConvertAll cs (variable_conditions cs)
own_truths [] [] none = none
own_truths [] (c ∷ cs) h = elim h [ ]
own_truths (k ∷ ks) [] h = elim h [ ]
own_truths (k ∷ ks) (c ∷ cs) (more h hs) = more (lower (known_of c) h (known_same (known_of c))) (own_truths ks cs hs)

own_condition : (k : Bool) (c : ExprType) → Converts c (search_condition k) → Converts c (search_condition (not (is_search c)))
own_condition true c (plain x y z) = plain x y z
own_condition false c (truth_search x y z) = plain x y z
own_condition false c search = search

own_searches : (ks : List Bool) (cs : List ExprType) → ConvertAll cs (map search_condition ks) → ConvertAll cs (search_conditions cs)
own_searches [] [] none = none
own_searches [] (c ∷ cs) h = elim h [ ]
own_searches (k ∷ ks) [] h = elim h [ ]
own_searches (k ∷ ks) (c ∷ cs) (more h hs) = more (own_condition k c h) (own_searches ks cs hs)

known_condition : (k : Bool) (c : ExprType) → Converts c (search_condition k) → is_search c ≡ false → Converts c (truths true)
known_condition true c h q = h
known_condition false c (truth_search x y z) q = plain x y z
known_condition false c search q = absurd (cc)

known_searches : (ks : List Bool) (cs : List ExprType) → ConvertAll cs (map search_condition ks) → some_search cs ≡ false → ConvertAll cs (replicate (length cs) (truths true))
known_searches [] [] none q = none
known_searches [] (c ∷ cs) h q = elim h [ ]
known_searches (k ∷ ks) [] h q = elim h [ ]
known_searches (k ∷ ks) (c ∷ cs) (more h hs) q =
    let p = or_parts (is_search c) (some_search cs) q in more (known_condition k c h p.0) (known_searches ks cs hs p.1)

-- ---- the rows

known_least : (cs ts : List ExprType) (t : ExprType) → ConvertAll ts (arms cs t) → ConvertAll (conditions ts) (replicate (length (conditions ts)) (truths true)) → Least (choose_among (conditions ts) ts) t
known_least cs ts t h g =
    let j = join_some_least (length cs) (branches ts) (split_branches cs ts t h) in
    let k = truths_known (length (conditions ts)) (conditions ts) g in
    rw (k.0, k.1, j.given) (needs_least ts (arms (replicate (length (conditions ts)) (truths true)) j.joined) j.joined (arms_again cs ts t j.joined h g j.all) j.below)

all_widened : {j u : ExprType} (n : ℕ) (ts : List ExprType) → Converts j u → ConvertAll ts (replicate n j) → ConvertAll ts (replicate n u)
all_widened zero [] c none = none
all_widened zero (t ∷ ts) c h = elim h [ ]
all_widened (suc n) [] c h = elim h [ ]
all_widened (suc n) (t ∷ ts) c (more h hs) = more (along h c) (all_widened n ts c hs)

variable_at : (cs ts : List ExprType) (c : Scalar) (j : ExprType) → ConvertAll ts (arms cs (Plain c Single false)) → ConvertAll (conditions ts) (variable_conditions (conditions ts))
    → ConvertAll (branches ts) (replicate (length (branches ts)) j) → Converts j (Plain c Single false) → Least (choose_variable (conditions ts) ts j) (Plain c Single false)
variable_at cs ts c j h g i (plain {b = d} {s = s} {k = k} x y z) =
    let all = all_widened (length (branches ts)) (branches ts) (plain (scalar_same d) y (fits_variable k)) i in
    needs_least ts (arms (variable_conditions (conditions ts)) (Plain d Single false)) (Plain d Single false) (arms_again cs ts (Plain c Single false) (Plain d Single false) h g all) (plain x refl refl)

variable_least : (ks : List Bool) (ts : List ExprType) (c : Scalar) (k : Bool) → all_known (conditions ts) ≡ k → ConvertAll ts (arms (map truths ks) (Plain c Single false)) → Least (choose_among (conditions ts) ts) (Plain c Single false)
variable_least ks ts c true e h =
    let g = split_conditions (map truths ks) ts (Plain c Single false) h in
    known_least (map truths ks) ts (Plain c Single false) h (sharpen ks (conditions ts) g e)
variable_least ks ts c false e h =
    let g = split_conditions (map truths ks) ts (Plain c Single false) h in
    let j = join_some_least (length (map truths ks)) (branches ts) (split_branches (map truths ks) ts (Plain c Single false) h) in
    rw (truths_no_search ks (conditions ts) g, e, j.given) (variable_at (map truths ks) ts c j.joined h (own_truths ks (conditions ts) g) j.all j.below)

search_least : (ks : List Bool) (ts : List ExprType) (k : Bool) → some_search (conditions ts) ≡ k → ConvertAll ts (arms (map search_condition ks) Search) → Least (choose_among (conditions ts) ts) Search
search_least ks ts true e h =
    let g = split_conditions (map search_condition ks) ts Search h in
    let j = same_length Search (suc (length (map search_condition ks))) (branches ts) (split_branches (map search_condition ks) ts Search h) in
    rw e (needs_least ts (arms (search_conditions (conditions ts)) Search) Search (arms_again (map search_condition ks) ts Search Search h (own_searches ks (conditions ts) g) j) search)
search_least ks ts false e h =
    let g = split_conditions (map search_condition ks) ts Search h in
    known_least (map search_condition ks) ts Search h (known_searches ks (conditions ts) g e)

pub choice_known_least : (n : ℕ) (ts : List ExprType) (t : ExprType) → ConvertAll ts (arms (replicate n (truths true)) t) → Least (choose_among (conditions ts) ts) t
choice_known_least n ts t h = known_least (replicate n (truths true)) ts t h (same_length (truths true) n (conditions ts) (split_conditions (replicate n (truths true)) ts t h))

pub choice_variable_least : (ks : List Bool) (ts : List ExprType) (c : Scalar) → ConvertAll ts (arms (map truths ks) (Plain c Single false)) → Least (choose_among (conditions ts) ts) (Plain c Single false)
choice_variable_least ks ts c h = variable_least ks ts c (all_known (conditions ts)) refl h

pub choice_search_least : (ks : List Bool) (ts : List ExprType) → ConvertAll ts (arms (map search_condition ks) Search) → Least (choose_among (conditions ts) ts) Search
choice_search_least ks ts h = search_least ks ts (some_search (conditions ts)) refl h
