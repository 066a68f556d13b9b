-- Walks over parts that are to be distinct, on a box.
use Rattle.std.proofs.Common.{◌≡◌, ℕ, ◌+◌, ◌<◌, ◌≤◌, List, [], ◌∷◌, Bool, true, false, not, ◌&&◌, ◌||◌, Option, Some, None, map, length, drop, get_or, suc, refl, sym, ap, ◌∙◌, arith}
use Rattle.std.proofs.lemmas.Int.{ints}
use Rattle.std.proofs.Math.ListN.{length-map}
use Rattle.std.specs.Prelude.{ℤ, pos, ◌+ℤ◌, ◌-ℤ◌, ◌≤ℤ◌, int_le, int_lt, is_some, if◌then◌else◌}
use Rattle.std.specs.List.{list_any, list_all}
use Rattle.ms_num.specs.Span.{Span, has}
use Rattle.ms_trees.specs.Value.{how_many}
use Rattle.ms_trees.specs.Enclosure as r
use Rattle.ms_trees.specs.Enclosure.{enclosure}
use Rattle.ms_ground.specs.Room.{between, has_many, first_meets}
use Rattle.ms_trees.specs.declared.tree.Enclosure.{Enclosure}
use Rattle.ms_trees.specs.declared.tree.Ground.{Ground}
use Rattle.ms_trees.proofs.Bools.{ap2, or_left, or_right, le_of, of_le, of_lt, not_le, lt_not, twice_not}
use Rattle.ms_trees.proofs.Distinct.{place}

-- ---- on a box

-- one turn over parts and their intervals
pub record SpansOver (b : List Span) (ys rest : List Ground) (q : Enclosure) : Type 0 where
  pub all : (p : Option Span → Bool) (t : Bool) → t ≡ p q.interval → list_all (λ (x : Enclosure). p x.interval) (map (enclosure b) ys) ≡ (t && list_all (λ (x : Enclosure). p x.interval) (map (enclosure b) rest))
  pub any : (p : Option Span → Bool) (t : Bool) → t ≡ p q.interval → list_any (λ (x : Enclosure). p x.interval) (map (enclosure b) ys) ≡ (t || list_any (λ (x : Enclosure). p x.interval) (map (enclosure b) rest))
  pub many : (p : Option Span → Bool) → how_many (λ (x : Enclosure). p x.interval) (map (enclosure b) ys) ≡ (if p q.interval then suc (how_many (λ (x : Enclosure). p x.interval) (map (enclosure b) rest)) else how_many (λ (x : Enclosure). p x.interval) (map (enclosure b) rest))
  pub row : (z : ℤ) (zs more : List ℤ) (t : Bool) → zs ≡ z ∷ more → t ≡ r.test_interval (λ s. has s z) q.interval → r.may_be_row (map (enclosure b) ys) zs ≡ (t && r.may_be_row (map (enclosure b) rest) more)
  pub first : first_meets (map (enclosure b) ys) ≡ (q.may_be_undefined || list_any (λ (x : Enclosure). r.compare_intervals r.meets q.interval x.interval) (map (enclosure b) rest))
  pub unsure : (r.any_may_be_undefined (map (enclosure b) ys) || r.some_several (map (enclosure b) ys))
      ≡ ((q.may_be_undefined || r.test_interval (λ s. int_lt s.lo s.hi) q.interval) || (r.any_may_be_undefined (map (enclosure b) rest) || r.some_several (map (enclosure b) rest)))

exchange : (u a l s : Bool) → ((u || a) || (l || s)) ≡ ((u || l) || (a || s))
exchange true a l s = refl
exchange false true true s = refl
exchange false true false s = refl
exchange false false l s = refl

pub spans_over : (b : List Span) (ys rest : List Ground) (x : Ground) (q : Enclosure) → ys ≡ x ∷ rest → q ≡ r.numeric_enclosure (enclosure b x).interval (enclosure b x).may_be_undefined → SpansOver b ys rest q
spans_over b ys rest x q e is = record {
  all = λ p t k. ap (λ zs. list_all (λ (x : Enclosure). p x.interval) (map (enclosure b) zs)) e ∙ ap (λ (s : Enclosure). p s.interval && list_all (λ (x : Enclosure). p x.interval) (map (enclosure b) rest)) (sym is) ∙ ap (λ u. u && list_all (λ (x : Enclosure). p x.interval) (map (enclosure b) rest)) (sym k);
  any = λ p t k. ap (λ zs. list_any (λ (x : Enclosure). p x.interval) (map (enclosure b) zs)) e ∙ ap (λ (s : Enclosure). p s.interval || list_any (λ (x : Enclosure). p x.interval) (map (enclosure b) rest)) (sym is) ∙ ap (λ u. u || list_any (λ (x : Enclosure). p x.interval) (map (enclosure b) rest)) (sym k);
  many = λ p. ap (λ zs. how_many (λ (x : Enclosure). p x.interval) (map (enclosure b) zs)) e ∙ ap (λ (s : Enclosure). if p s.interval then suc (how_many (λ (x : Enclosure). p x.interval) (map (enclosure b) rest)) else how_many (λ (x : Enclosure). p x.interval) (map (enclosure b) rest)) (sym is);
  row = λ z zs more t f k. ap2 (λ us ws. r.may_be_row (map (enclosure b) us) ws) e f ∙ ap (λ (u : Enclosure). r.test_interval (λ s. has s z) u.interval && r.may_be_row (map (enclosure b) rest) more) (sym is) ∙ ap (λ w. w && r.may_be_row (map (enclosure b) rest) more) (sym k);
  first = ap (λ zs. first_meets (map (enclosure b) zs)) e ∙ ap (λ (s : Enclosure). s.may_be_undefined || list_any (λ (x : Enclosure). r.compare_intervals r.meets s.interval x.interval) (map (enclosure b) rest)) (sym is);
  unsure = ap (λ zs. r.any_may_be_undefined (map (enclosure b) zs) || r.some_several (map (enclosure b) zs)) e
      ∙ exchange (enclosure b x).may_be_undefined (r.any_may_be_undefined (map (enclosure b) rest)) (r.test_interval (λ s. int_lt s.lo s.hi) (enclosure b x).interval) (r.some_several (map (enclosure b) rest))
      ∙ ap (λ (s : Enclosure). (s.may_be_undefined || r.test_interval (λ s. int_lt s.lo s.hi) s.interval) || (r.any_may_be_undefined (map (enclosure b) rest) || r.some_several (map (enclosure b) rest))) (sym is);
}

-- one turn over the places
pub record MeetsOn (b : List Span) (xs : List Ground) (k : ℕ) : Type 0 where
  pub turn : (r.any_may_be_undefined (map (enclosure b) (drop k xs)) || r.some_meet (map (enclosure b) (drop k xs)))
      ≡ (first_meets (map (enclosure b) (drop k xs)) || (r.any_may_be_undefined (map (enclosure b) (drop (k + 1) xs)) || r.some_meet (map (enclosure b) (drop (k + 1) xs))))

pub meets_on : (b : List Span) (xs : List Ground) (k : ℕ) → k < length xs → MeetsOn b xs k
meets_on b xs k lt =
    let p = place xs k lt in
    let rest = map (enclosure b) (drop (k + 1) xs) in
    record {
      turn = ap (λ zs. r.any_may_be_undefined (map (enclosure b) zs) || r.some_meet (map (enclosure b) zs)) p.here
          ∙ exchange (enclosure b p.item).may_be_undefined (r.any_may_be_undefined rest) (list_any (λ q. r.compare_intervals r.meets (enclosure b p.item).interval q.interval) rest) (r.some_meet rest)
          ∙ sym (ap (λ zs. first_meets (map (enclosure b) zs) || (r.any_may_be_undefined rest || r.some_meet rest)) p.here);
    }

-- ---- room

pub between_room : (rs : List Enclosure) (s : Span) (o : Option Span) → not (r.test_interval (λ t. not (r.has_room t.lo t.hi rs)) (between s o)) ≡ not (r.compare_intervals (λ s t. not (r.has_room s.lo t.hi rs)) (Some s) o)
between_room rs s None = refl
between_room rs s (Some t) = turn (int_le s.lo t.hi) refl
  where
    turn : (b : Bool) → int_le s.lo t.hi ≡ b → not (r.test_interval (λ t. not (r.has_room t.lo t.hi rs)) (if b then Some (record { lo = s.lo; hi = t.hi }) else None)) ≡ not (not (r.has_room s.lo t.hi rs))
    turn true e = refl
    turn false e = sym (ap (λ b. not (not b)) (or_left (int_lt t.hi s.lo) (has_many (record { lo = s.lo; hi = t.hi }) (r.held s.lo t.hi rs)) (of_lt t.hi s.lo (not_le s.lo t.hi e))))

-- the count decides whether there is room
pub counted_room : (s : Span) (rs : List Enclosure) (k : ℕ) → s.lo ≤ℤ s.hi → k ≡ r.held s.lo s.hi rs → has_many s k ≡ not (not (r.has_room s.lo s.hi rs))
counted_room s rs k o e = ap (has_many s) e ∙ ap (λ b. b || has_many s (r.held s.lo s.hi rs)) (sym (lt_not s.hi s.lo o)) ∙ twice_not (r.has_room s.lo s.hi rs)

held_few : (lo hi : ℤ) (rs : List Enclosure) → r.held lo hi rs ≤ length rs
held_few lo hi [] = omega arith
held_few lo hi (q ∷ rs) = one (r.test_interval (λ s. int_le lo s.lo && int_le s.hi hi) q.interval) (held_few lo hi rs)
  where
    one : (b : Bool) → r.held lo hi rs ≤ length rs → (if b then suc (r.held lo hi rs) else r.held lo hi rs) ≤ suc (length rs)
    one true h = omega arith
    one false h = omega arith

-- a range with as many numbers as there are parts has room
pub wide_room : (s : Span) (b : List Span) (xs : List Ground) → has_many s (length xs) ≡ true → true ≡ not (not (r.has_room s.lo s.hi (map (enclosure b) xs)))
wide_room s b xs e = sym (sym (twice_not (r.has_room s.lo s.hi (map (enclosure b) xs))) ∙ or_right (int_lt s.hi s.lo) (has_many s (r.held s.lo s.hi (map (enclosure b) xs))) (of_le _ _ few))
  where
    few : pos (r.held s.lo s.hi (map (enclosure b) xs)) ≤ℤ (s.hi -ℤ s.lo +ℤ pos 1)
    few =
        let w = le_of (pos (length xs)) (s.hi -ℤ s.lo +ℤ pos 1) e in
        let h = held_few s.lo s.hi (map (enclosure b) xs) in
        let l = length-map xs (enclosure b) in
        omega (arith, ints, w, h, l)
