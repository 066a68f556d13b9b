-- Known numbers and sets within the limits.
use Rattle.std.proofs.Common.{◌≡◌, ℕ, zero, suc, ◌+◌, ◌-◌, ◌%◌, ◌^◌, ◌<◌, Bool, true, false, ◌&&◌, List, [], ◌∷◌, Option, Some, None, option_map, refl, sym, subst, arith}
use Rattle.std.specs.Prelude.{ℤ, pos, negsuc, ◌+ℤ◌, ◌-ℤ◌, ◌≤ℤ◌, int_le, int_lt, unsigned_abs, nat_le, if◌then◌else◌}
use Rattle.std.specs.Int.{int_min, int_max}
use Rattle.std.proofs.lemmas.Int.{ints, int_max_is, int_min_is}
use Rattle.std.specs.List.{AllByRecursion}
use Rattle.ms_num.specs.Span.{Span, IsInterval, IsWithin, if_within, is_within, point}
use Rattle.ms_trees.specs.Value.{bit, value}
use Rattle.ms_trees.specs.WellFormed.{is_numeric, is_well_formed}
use Rattle.ms_trees.specs.Enclosure.{points}
use Rattle.ms_trees.specs.declared.tree.Ground.{Ground}
use Rattle.ms_trees.proofs.Bools.{and_left, and_right, le_of}
use Rattle.ms_trees.proofs.Fits.{value_within}
use Rattle.ms_values.specs.Numbers.{from, numbers_in, numbers_of}
use Rattle.ms_values.specs.declared.operand.Operand.{Operand}
use Rattle.ms_values.specs.declared.operand.Operand.TheVariants as o
use Rattle.ms_rules.specs.Operands.{known_number, number_of, set_of}
use Rattle.ms_rules.specs.Sets as s
use Rattle.ms_rules.specs.Calls as c
use Rattle.ms_rules.specs.Arrays as a
use Rattle.ms_rules_laws.specs.Fit.{AreIntervals, AreIntervalsIfAny, IsFit, IsFitIfAny, IsWithinIfAny}
use Rattle.ms_rules_laws.proofs.Parts as l

-- ---- numbers

pub within_of : (z : ℤ) → is_within z ≡ true → IsWithin z
within_of z h = record { low = le_of _ _ (and_left (int_le (negsuc (2 ^ 50 - 1)) z) (int_le z (pos (2 ^ 50))) h); high = le_of _ _ (and_right (int_le (negsuc (2 ^ 50 - 1)) z) (int_le z (pos (2 ^ 50))) h) }

pub zero_within : IsWithin (pos 0)
zero_within = within_of (pos 0) refl

pub one_within : IsWithin (pos 1)
one_within = within_of (pos 1) refl

pub bit_within : (b : Bool) → IsWithin (bit b)
bit_within true = one_within
bit_within false = zero_within

-- one that is tested
tested : (z : ℤ) (b : Bool) → is_within z ≡ b → IsWithinIfAny (if b then Some z else None)
tested z true h = within_of z h
tested z false h = tt

pub if_within_keeps : (z : ℤ) → IsWithinIfAny (if_within z)
if_within_keeps z = tested z (is_within z) refl

known_by : (sets : List Span) (z : ℤ) (b : Bool) → is_within z ≡ b → IsFitIfAny sets (known_number (Some z))
known_by sets z true h = rw h (within_of z h)
known_by sets z false h = rw h tt

pub known : (sets : List Span) (m : Option ℤ) → IsFitIfAny sets (known_number m)
known sets None = tt
known sets (Some z) = known_by sets z (is_within z) refl

-- the number of a known operand
pub number_read : (sets : List Span) (x : Operand) → IsFit sets x → IsWithinIfAny (number_of x)
number_read sets (o.Number m) h = h
number_read sets (o.Truth b) h = bit_within b
number_read sets (o.Set s) h = tt
number_read sets (o.Text t) h = tt
number_read sets (o.Integer x) h = tt
number_read sets (o.Condition x) h = tt
number_read sets (o.Array a) h = tt
number_read sets (o.NoArray kind) h = tt

pub set_read : (sets : List Span) (x : Operand) → IsFit sets x → AreIntervalsIfAny (set_of x)
set_read sets (o.Number m) h = tt
set_read sets (o.Truth b) h = tt
set_read sets (o.Set s) h = h
set_read sets (o.Text t) h = tt
set_read sets (o.Integer x) h = tt
set_read sets (o.Condition x) h = tt
set_read sets (o.Array a) h = tt
set_read sets (o.NoArray kind) h = tt

-- ---- sets

interval : (low high : ℤ) → low ≤ℤ high → IsWithin low → IsWithin high → IsInterval (record { lo = low; hi = high })
interval low high e h i = record { ordered = e; low = h.low; high = i.high }

point_interval : (z : ℤ) → IsWithin z → IsInterval (point z)
point_interval z h = interval z z (omega (arith, ints)) h h

low_end : (s : Span) → IsInterval s → IsWithin s.lo
low_end s h = let a = h.ordered in let b = h.low in let c = h.high in record { low = b; high = omega (arith, ints, a, c) }

between_by : (low high : ℤ) → IsWithin low → IsWithin high → (b : Bool) → int_le low high ≡ b → AreIntervals (if b then record { lo = low; hi = high } ∷ [] else [])
between_by low high h i true e = (interval low high (le_of low high e) h i, tt)
between_by low high h i false e = tt

pub between : (m n : Option ℤ) → IsWithinIfAny m → IsWithinIfAny n → AreIntervalsIfAny (s.between m n)
between (Some low) (Some high) h i = between_by low high h i (int_le low high) refl
between (Some low) None h i = tt
between None n h i = tt

-- a range that is joined with one that follows it
joined : (p q : Span) → IsInterval p → IsInterval q → IsInterval (record { lo = p.lo; hi = int_max p.hi q.hi })
joined p q h i =
    let a = h.ordered in let b = h.high in let c = i.high in let e = int_max_is p.hi q.hi in
    record { ordered = omega (arith, ints, a, e); low = h.low; high = omega (arith, ints, b, c, e) }

with_range_by : (p q : Span) (ss : List Span) → IsInterval p → AreIntervals (q ∷ ss) → (b : Bool)
    → AreIntervals (if b then record { lo = p.lo; hi = int_max p.hi q.hi } ∷ ss else p ∷ q ∷ ss)
with_range_by p q ss h i true = (joined p q h i.0, i.1)
with_range_by p q ss h i false = (h, i)

with_range : (p : Span) (ss : List Span) → IsInterval p → AreIntervals ss → AreIntervals (s.with_range p ss)
with_range p [] h i = (h, tt)
with_range p (q ∷ ss) h i = with_range_by p q ss h i (int_le q.lo (p.hi +ℤ pos 1))

-- a range with one number more
widened : (p : Span) (z : ℤ) → IsInterval p → IsWithin z → IsInterval (record { lo = int_min p.lo z; hi = int_max p.hi z })
widened p z h i =
    let a = h.ordered in let b = h.low in let c = h.high in let d = i.low in let e = i.high in let f = int_max_is p.hi z in let g = int_min_is p.lo z in
    record { ordered = omega (arith, ints, a, f, g); low = omega (arith, ints, b, d, g); high = omega (arith, ints, c, e, f) }

with_number_by : (z : ℤ) (p : Span) (ss : List Span) → IsWithin z → IsInterval p → AreIntervals ss → AreIntervals (s.with_number z ss) → (a b : Bool)
    → AreIntervals (if a then point z ∷ p ∷ ss else (if b then s.with_range (record { lo = int_min p.lo z; hi = int_max p.hi z }) ss else p ∷ s.with_number z ss))
with_number_by z p ss h i j more true b = (point_interval z h, (i, j))
with_number_by z p ss h i j more false true = with_range (record { lo = int_min p.lo z; hi = int_max p.hi z }) ss (widened p z i h) j
with_number_by z p ss h i j more false false = (i, more)

with_number : (z : ℤ) (ss : List Span) → IsWithin z → AreIntervals ss → AreIntervals (s.with_number z ss)
with_number z [] h i = (point_interval z h, tt)
with_number z (p ∷ ss) h i = with_number_by z p ss h i.0 i.1 (with_number z ss h i.1) (int_lt (z +ℤ pos 1) p.lo) (int_le z (p.hi +ℤ pos 1))

with_number_if_any : (z : ℤ) (m : Option (List Span)) → IsWithin z → AreIntervalsIfAny m → AreIntervalsIfAny (option_map (s.with_number z) m)
with_number_if_any z None h i = tt
with_number_if_any z (Some ss) h i = with_number z ss h i

pub ranges_of : (ns : List (Option ℤ)) → AllByRecursion IsWithinIfAny ns → AreIntervalsIfAny (s.ranges_of ns)
ranges_of [] h = tt
ranges_of (None ∷ ns) h = tt
ranges_of (Some z ∷ ns) h = with_number_if_any z (s.ranges_of ns) h.0 (ranges_of ns h.1)

-- ---- the numbers of a set

counted : (z : ℤ) (k : ℕ) → negsuc (2 ^ 50 - 1) ≤ℤ z → (z +ℤ pos k) ≤ℤ pos (2 ^ 50 + 1) → AllByRecursion IsWithin (from z k)
counted z zero h i = tt
counted z (suc k) h i = (record { low = h; high = omega (arith, ints, i) }, counted (z +ℤ pos 1) k (omega (arith, ints, h)) (omega (arith, ints, i)))

width_of : (low high : ℤ) → low ≤ℤ high → (low +ℤ pos (unsigned_abs (high -ℤ low))) ≡ high
width_of low high h = omega (arith, ints, h)

numbers_in_range : (p : Span) → IsInterval p → AllByRecursion IsWithin (numbers_in p)
numbers_in_range p h =
    let a = h.low in let b = h.high in let e = width_of p.lo p.hi h.ordered in
    (low_end p h, counted (p.lo +ℤ pos 1) (unsigned_abs (p.hi -ℤ p.lo)) (omega (arith, ints, a)) (omega (arith, ints, b, e)))

pub numbers_of_set : (rs : List Span) → AreIntervals rs → AllByRecursion IsWithin (numbers_of rs)
numbers_of_set [] h = tt
numbers_of_set (p ∷ rs) h = l.appended IsWithin (numbers_in p) (numbers_of rs) (numbers_in_range p h.0) (numbers_of_set rs h.1)

-- ---- the numbers of indices

indices_by : (sets : List Span) (low high : ℤ) → IsWithin low → low ≤ℤ high → (b : Bool) → is_within high ≡ b
    → IsFitIfAny sets (option_map (λ z. o.Set (Some (record { lo = low; hi = z } ∷ []))) (if b then Some high else None))
indices_by sets low high h e true i = (interval low high e h (within_of high i), tt)
indices_by sets low high h e false i = tt

pub indices_from : (sets : List Span) (low : ℤ) (k : ℕ) → IsWithin low → IsFitIfAny sets (a.indices_from low k)
indices_from sets low zero h = tt
indices_from sets low (suc k) h = indices_by sets low (low +ℤ pos k) h (omega (arith, ints)) (is_within (low +ℤ pos k)) refl

-- the lowest index of a set that is a range
abbrev pub IsLowIfAny : Option (ℤ × ℕ) → Type 0
IsLowIfAny None = Unit {0}
IsLowIfAny (Some r) = IsWithin r.0

pub as_range : (m : Option (List Span)) → AreIntervalsIfAny m → IsLowIfAny (a.as_range m)
as_range None h = tt
as_range (Some []) h = one_within
as_range (Some (p ∷ [])) h = low_end p h.0
as_range (Some (p ∷ q ∷ ss)) h = tt

-- ---- draws

drawn_by : (word : ℕ) (low high : ℤ) → IsWithin low → IsWithin high → (b : Bool) → (int_le low high && nat_le (unsigned_abs (high -ℤ low)) (2 ^ 32 - 1)) ≡ b
    → IsWithinIfAny (if b then Some (low +ℤ pos (word % (unsigned_abs (high -ℤ low) + 1))) else None)
drawn_by word low high h i true e = in_range (unsigned_abs (high -ℤ low)) (width_of low high (le_of low high (and_left (int_le low high) (nat_le (unsigned_abs (high -ℤ low)) (2 ^ 32 - 1)) e)))
  where
    in_range : (width : ℕ) → (low +ℤ pos width) ≡ high → IsWithin (low +ℤ pos (word % (width + 1)))
    in_range width e =
        let a = h.low in let b = i.high in let m : word % (width + 1) < width + 1 = omega arith in
        record { low = omega (arith, ints, a); high = omega (arith, ints, b, e, m) }
drawn_by word low high h i false e = tt

pub drawn : (word : ℕ) (m n : Option ℤ) → IsWithinIfAny m → IsWithinIfAny n → IsWithinIfAny (c.drawn word m n)
drawn word (Some low) (Some high) h i = drawn_by word low high h i (int_le low high && nat_le (unsigned_abs (high -ℤ low)) (2 ^ 32 - 1)) refl
drawn word (Some low) None h i = tt
drawn word None n h i = tt

-- ---- on the incumbent

number_within : (m k : Option ℤ) → m ≡ k → ((z : ℤ) → k ≡ Some z → IsWithin z) → IsWithinIfAny m
number_within m k e h = subst IsWithinIfAny (sym e) (of_cases k h)
  where
    of_cases : (k : Option ℤ) → ((z : ℤ) → k ≡ Some z → IsWithin z) → IsWithinIfAny k
    of_cases None h = tt
    of_cases (Some z) h = h z refl

pub value_on : (p : List ℤ) (t : Ground) → is_numeric t ≡ true → (b : Bool) → is_well_formed (points p) t ≡ b → IsWithinIfAny (if b then (value p t).number else None)
value_on p t n true h = number_within (value p t).number (value p t).number refl (λ z e. value_within p t z h n e)
value_on p t n false h = tt
