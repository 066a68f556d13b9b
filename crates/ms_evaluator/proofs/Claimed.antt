-- Claims that rise: no two meet, and so the parts have room.
use Rattle.std.proofs.Common.{◌≡◌, ℕ, ◌+◌, ◌-◌, ◌<◌, ◌≤◌, ◌⊎◌, inl, inr, List, [], ◌∷◌, map, length, Option, Some, None, true, false, ◌&&◌, ◌||◌, refl, sym, ap, ◌∙◌, subst, arith, suc, zero}
use Rattle.std.specs.Prelude.{pos, ◌+ℤ◌, ◌≤ℤ◌, int_le}
use Rattle.std.specs.List.{list_any}
use Rattle.std.proofs.lemmas.Int.{ints}
use Rattle.std.proofs.lemmas.List.{length-map, get_or-map}
use Rattle.std.proofs.lemmas.Bool.{false≢true}
use Rattle.ms_num.specs.Span.{Span}
use Rattle.ms_trees.specs.Enclosure as r
use Rattle.ms_trees.specs.declared.tree.Enclosure.{Enclosure}
use Rattle.ms_trees.proofs.Bools.{and_left, and_right, or_split, is_false, le_of}
use Rattle.ms_trees.specs.Laws.{IsCoveredBy, MeansFewerNumbers, MeansFewerTruths}
use Rattle.ms_trees.proofs.Lists.{AllLess}
use Rattle.ms_trees.proofs.Apart.{distinct_less}
use Rattle.ms_evaluator.specs.declared.claims.Slot.{Slot}
use Rattle.ms_evaluator.specs.Claims.{slot_at, part_at, span_of, IsClaim, IsSlot, AreSlots, AreWhole}

-- what holds below a place, and there, holds below the next
pub more : (P : ℕ → Type 0) (k : ℕ) → ((j : ℕ) → j < k → P j) → P k → (j : ℕ) → j < k + 1 → P j
more P k f h j l = at (last j k (omega (arith, l)))
  where
    last : (j k : ℕ) → j ≤ k → (j < k) ⊎ (j ≡ k)
    last j k l = grind arith

    at : (j < k) ⊎ (j ≡ k) → P j
    at (inl b) = f j b
    at (inr e) = subst P (sym e) h

-- ---- lists by their places

none_meets : (p : Option Span) (ps : List Enclosure) → ((k : ℕ) → k < length ps → r.compare_intervals r.meets p (part_at ps k).interval ≡ false) → list_any (λ q. r.compare_intervals r.meets p q.interval) ps ≡ false
none_meets p [] f = refl
none_meets p (q ∷ ps) f = is_false _ (λ e. or_split (r.compare_intervals r.meets p q.interval) (list_any (λ q. r.compare_intervals r.meets p q.interval) ps) e (λ h. false≢true (sym (f 0 (omega arith)) ∙ h)) (λ h. false≢true (sym (none_meets p ps (λ k b. f (suc k) (omega (arith, b)))) ∙ h)))

-- no two meet where none of a lesser place meets one of a greater
pub apart : (ps : List Enclosure) → ((j k : ℕ) → j < k → k < length ps → r.compare_intervals r.meets (part_at ps j).interval (part_at ps k).interval ≡ false) → r.some_meet ps ≡ false
apart [] f = refl
apart (q ∷ ps) f = is_false _ (λ e. or_split (list_any (λ x. r.compare_intervals r.meets q.interval x.interval) ps) (r.some_meet ps) e
    (λ h. false≢true (sym (none_meets q.interval ps (λ k b. f 0 (suc k) (omega arith) (omega (arith, b)))) ∙ h))
    (λ h. false≢true (sym (apart ps (λ j k l b. f (suc j) (suc k) (omega (arith, l)) (omega (arith, b)))) ∙ h)))

-- ---- the claims in the order of the parts

abbrev claim : List Slot → ℕ → Span
claim rs k = span_of (slot_at rs (slot_at rs k).place)

abbrev claim_of : List Slot → Slot → Enclosure
claim_of rs w = r.numeric_enclosure (Some (span_of (slot_at rs w.place))) false

abbrev claims : List Slot → List Enclosure
claims rs = map (claim_of rs) rs

claims-length : (rs : List Slot) → length (claims rs) ≡ length rs
claims-length rs = length-map rs (claim_of rs)

claims-at : (rs : List Slot) (k : ℕ) → k < length rs → part_at (claims rs) k ≡ r.numeric_enclosure (Some (claim rs k)) false
claims-at rs k b = get_or-map (claim_of rs) rs k (record { lo = pos 0; hi = pos 0; owner = 0; place = 0; first = 0 }) (r.numeric_enclosure None false) b

all_defined : (rs ws : List Slot) → r.any_may_be_undefined (map (claim_of rs) ws) ≡ false
all_defined rs [] = refl
all_defined rs (w ∷ ws) = all_defined rs ws

-- ---- the claims rise with the places

rise : (ps : List Enclosure) (rs : List Slot) (d q : ℕ) → AreSlots ps rs → q + d + 1 < length ps → ((slot_at rs q).hi +ℤ pos 1) ≤ℤ (slot_at rs (q + d + 1)).lo
rise ps rs zero q m b = subst (λ (n : ℕ). ((slot_at rs q).hi +ℤ pos 1) ≤ℤ (slot_at rs n).lo) (next q) ((m q (omega (arith, b))).rises (omega (arith, b)))
  where
    next : (q : ℕ) → q + 1 ≡ q + 0 + 1
    next q = omega arith
rise ps rs (suc d) q m b =
    let h : ((slot_at rs q).hi +ℤ pos 1) ≤ℤ (slot_at rs (q + d + 1)).lo = rise ps rs d q m (omega (arith, b)) in
    let o : (slot_at rs (q + d + 1)).lo ≤ℤ (slot_at rs (q + d + 1)).hi = (m (q + d + 1) (omega (arith, b))).proper in
    let k : ((slot_at rs (q + d + 1)).hi +ℤ pos 1) ≤ℤ (slot_at rs ((q + d + 1) + 1)).lo = (m (q + d + 1) (omega (arith, b))).rises (omega (arith, b)) in
    subst (λ (n : ℕ). ((slot_at rs q).hi +ℤ pos 1) ≤ℤ (slot_at rs n).lo) (next q d) (omega (arith, ints, h, o, k))
  where
    next : (q d : ℕ) → (q + d + 1) + 1 ≡ q + suc d + 1
    next q d = omega arith

rises : (ps : List Enclosure) (rs : List Slot) (q p : ℕ) → AreSlots ps rs → q < p → p < length ps → ((slot_at rs q).hi +ℤ pos 1) ≤ℤ (slot_at rs p).lo
rises ps rs q p m l b = at (gap q p l)
  where
    gap : (q p : ℕ) → q < p → (d : ℕ) × (p ≡ q + d + 1)
    gap q p l = (p - q - 1, omega (arith, l))

    at : ((d : ℕ) × (p ≡ q + d + 1)) → ((slot_at rs q).hi +ℤ pos 1) ≤ℤ (slot_at rs p).lo
    at w = subst (λ (n : ℕ). ((slot_at rs q).hi +ℤ pos 1) ≤ℤ (slot_at rs n).lo) (sym w.1) (rise ps rs w.0 q m (omega (arith, b, w.1)))

-- an interval before another does not meet it
before : (s t : Span) → (s.hi +ℤ pos 1) ≤ℤ t.lo → r.meets s t ≡ false
before s t h = is_false (r.meets s t) (λ e. let k = le_of t.lo s.hi (and_right (int_le s.lo t.hi) (int_le t.lo s.hi) e) in absurd (omega (arith, ints, h, k)))

behind : (s t : Span) → (t.hi +ℤ pos 1) ≤ℤ s.lo → r.meets s t ≡ false
behind s t h = is_false (r.meets s t) (λ e. let k = le_of s.lo t.hi (and_left (int_le s.lo t.hi) (int_le t.lo s.hi) e) in absurd (omega (arith, ints, h, k)))

order : (a b : ℕ) → (a < b) ⊎ ((a ≡ b) ⊎ (b < a))
order a b = grind arith

claims_apart : (ps : List Enclosure) (rs : List Slot) → AreSlots ps rs → (j k : ℕ) → j < k → k < length ps → r.meets (claim rs j) (claim rs k) ≡ false
claims_apart ps rs m j k l b = at (order (slot_at rs j).place (slot_at rs k).place)
  where
    mj : IsSlot ps rs j
    mj = m j (omega (arith, l, b))

    mk : IsSlot ps rs k
    mk = m k b

    at : ((slot_at rs j).place < (slot_at rs k).place) ⊎ (((slot_at rs j).place ≡ (slot_at rs k).place) ⊎ ((slot_at rs k).place < (slot_at rs j).place)) → r.meets (claim rs j) (claim rs k) ≡ false
    at (inl e) = before (claim rs j) (claim rs k) (rises ps rs (slot_at rs j).place (slot_at rs k).place m e mk.there)
    at (inr (inl e)) = absurd (let t : j ≡ k = sym mj.owned ∙ ap (λ n. (slot_at rs n).owner) e ∙ mk.owned in omega (arith, l, t))
    at (inr (inr e)) = behind (claim rs j) (claim rs k) (rises ps rs (slot_at rs k).place (slot_at rs j).place m e mj.there)

-- ---- what follows

all_less : (ss ps : List Enclosure) → length ss ≡ length ps → ((k : ℕ) → k < length ps → MeansFewerNumbers (part_at ss k) (part_at ps k)) → AllLess ss ps
all_less [] [] e f = tt
all_less [] (p ∷ ps) e f = absurd (omega (arith, e))
all_less (s ∷ ss) [] e f = absurd (omega (arith, e))
all_less (s ∷ ss) (p ∷ ps) e f = (f 0 (omega arith), all_less ss ps (omega (arith, e)) (λ k b. f (suc k) (omega (arith, b))))

claim_less : (c : Slot) (p : Enclosure) → c.lo ≤ℤ c.hi → IsClaim p.interval c → MeansFewerNumbers (r.numeric_enclosure (Some (span_of c)) false) p
claim_less c p o h = record { some = refl; interval = one p.interval h; may_be_undefined = λ e. absurd (false≢true e) }
  where
    one : (q : Option Span) → IsClaim q c → IsCoveredBy (Some (span_of c)) q
    one None h = absurd h
    one (Some s) h = record { lo = h.0; proper = o; hi = h.1 }

-- where each part claims numbers of its interval that no other claims, the parts have room
pub claims_room : (ps : List Enclosure) (rs : List Slot) → length rs ≡ length ps → AreSlots ps rs → (r.all_some ps && r.have_room ps) ≡ true
claims_room ps rs e m = less.may_be_true yes
  where
    less : MeansFewerTruths (r.distinct (claims rs)) (r.distinct ps)
    less = distinct_less (claims rs) ps (all_less (claims rs) ps (claims-length rs ∙ e) (λ k b. inside k b))
      where
        inside : (k : ℕ) → k < length ps → MeansFewerNumbers (part_at (claims rs) k) (part_at ps k)
        inside k b = subst (λ (q : Enclosure). MeansFewerNumbers q (part_at ps k)) (sym (claims-at rs k (omega (arith, b, e)))) (claim_less (slot_at rs (slot_at rs k).place) (part_at ps k) ((m _ (m k b).there).proper) (m k b).inside)

    none : (r.any_may_be_undefined (claims rs) || r.some_meet (claims rs)) ≡ false
    none = ap (λ b. b || r.some_meet (claims rs)) (all_defined rs rs) ∙ apart (claims rs) (λ j k l b. at j k l (omega (arith, b, claims-length rs, e)))
      where
        at : (j k : ℕ) → j < k → k < length ps → r.compare_intervals r.meets (part_at (claims rs) j).interval (part_at (claims rs) k).interval ≡ false
        at j k l b =
            ap (λ (q : Enclosure). r.compare_intervals r.meets q.interval (part_at (claims rs) k).interval) (claims-at rs j (omega (arith, l, b, e)))
            ∙ ap (λ (q : Enclosure). r.compare_intervals r.meets (Some (claim rs j)) q.interval) (claims-at rs k (omega (arith, b, e)))
            ∙ claims_apart ps rs m j k l b

    yes : (r.all_some (claims rs) && r.have_room (claims rs)) ≡ true
    yes = or_split (r.all_some (claims rs) && r.have_room (claims rs)) (r.any_may_be_undefined (claims rs) || r.some_meet (claims rs)) less.some (λ h. h) (λ h. absurd (false≢true (sym none ∙ h)))

-- where each part claims its whole interval, no two meet
pub whole_apart : (ps : List Enclosure) (rs : List Slot) → AreSlots ps rs → AreWhole ps rs → r.some_meet ps ≡ false
whole_apart ps rs m w = apart ps at
  where
    at : (j k : ℕ) → j < k → k < length ps → r.compare_intervals r.meets (part_at ps j).interval (part_at ps k).interval ≡ false
    at j k l b =
        ap (λ o. r.compare_intervals r.meets o (part_at ps k).interval) (w j (omega (arith, l, b)))
        ∙ ap (λ o. r.compare_intervals r.meets (Some (claim rs j)) o) (w k b)
        ∙ claims_apart ps rs m j k l b
