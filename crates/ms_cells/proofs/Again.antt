-- Writes that are noted, which bring an earlier list back.
use Rattle.std.proofs.Common.{◌≡◌, ℕ, ◌+◌, ◌<◌, ◌≤◌, List, [], ◌∷◌, ◌++◌, length, take, drop, get_or, refl, sym, ap, ◌∙◌, subst, suc, zero, arith, All, set}
use Rattle.std.proofs.lemmas.List.{take_all, take-append-le, drop-append-le, length-take, get_or-take, length-set, take_more, take-take, drop_all}
use Rattle.std.proofs.lemmas.List.Elements.{All-map}
use Rattle.ms_cells.proofs.SharedLists.{map_same}
use Rattle.ms_cells.specs.Cells.{IsKnown, IsTrail, IsReach, Continues, undone, saved_at}
use Rattle.ms_cells.proofs.Undone.{undone-append, undone_write, length-undone, undone_step, undone_past}

-- each saved list has as many elements as the current one
pub saved_lengths : {T : Type 0} (now : List T) (old : List (ℕ × T)) (marks : List ℕ) → All (λ (s : List T). length s ≡ length now) (saved_at now old marks)
saved_lengths now old marks = All-map (λ s. length s ≡ length now) (λ m. undone now (drop m old)) marks (λ k d c. length-undone now (drop (get_or marks k d) old))

longer : {T : Type 0} (n : ℕ) (old new : List T) → n ≡ length old → take n new ≡ old → n ≤ length new
longer n old new e f = omega (arith, e, ap length f, length-take n new)

pub continues_longer : {T : Type 0} (now : List T) (old : List (ℕ × T)) (next : List T) (new : List (ℕ × T)) → Continues now old next new → length old ≤ length new
continues_longer now old next new c = longer (length old) old new refl c.front

pub continues_here : {T : Type 0} (now : List T) (old : List (ℕ × T)) → Continues now old now old
continues_here now old = record { count = refl; front = take_all (length old) old (omega arith); same = λ m l. refl; known = λ r h. h }

-- one more write, of a place that an old value had
pub continues_more : {T : Type 0} (now : List T) (old : List (ℕ × T)) (next : List T) (new : List (ℕ × T)) (i : ℕ) (x v : T) → Continues now old next new → v ≡ get_or next i v → i < length next → ((r : ℕ) → All (IsKnown r) old → r ≤ i → i ≡ 4294967295) → length now < 4294967296 → Continues now old (set next i x) (new ++ (i, v) ∷ [])
continues_more now old next new i x v c e b h f = record {
  count = length-set next i x ∙ c.count;
  front = take-append-le (length old) new ((i, v) ∷ []) (continues_longer now old next new c) ∙ c.front;
  same = λ m l. let w = continues_longer now old next new c in
      ap (undone (set next i x)) (drop-append-le m new ((i, v) ∷ []) (omega (arith, l, w))) ∙ undone-append (set next i x) (drop m new) ((i, v) ∷ []) ∙ ap (λ s. undone s (drop m new)) (undone_write next i x v v e) ∙ c.same m l;
  known = λ r k. pushed r k;
}
  where
    pushed : (r : ℕ) → All (IsKnown r) old → All (IsKnown r) (new ++ (i, v) ∷ [])
    pushed r k = known_end r new (i, v) (h r k) (c.known r k)
      where
        known_end : {T : Type 0} (r : ℕ) (old : List (ℕ × T)) (e : ℕ × T) → IsKnown r e → All (IsKnown r) old → All (IsKnown r) (old ++ e ∷ [])
        known_end r [] e l h zero d b c = l c
        known_end r [] e l h (suc k) d b c = absurd (omega (arith, b))
        known_end r (x ∷ xs) e l h zero d b c = h zero d (omega arith) c
        known_end r (x ∷ xs) e l h (suc k) d b c = known_end r xs e l (λ j f a. h (suc j) f (omega (arith, a))) k d (omega (arith, b)) c

-- an old value that is read where the list was not continued yet
pub read_front : {T : Type 0} (old new : List T) (i : ℕ) (e : T) → take (length old) new ≡ old → i < length old → e ≡ get_or new i e → e ≡ get_or old i e
read_front old new i e f b r = r ∙ sym (get_or-take (length old) new i e b) ∙ ap (λ s. get_or s i e) f

-- one step of the way back, from `left + 1` to `left`
pub back_step : {T : Type 0} (next : List T) (old : List (ℕ × T)) (keep left before : ℕ) (e : ℕ × T) → e ≡ get_or old left e → left + 1 ≡ before → left < length old → keep ≤ left → undone (set next e.0 e.1) (drop keep (take left old)) ≡ undone next (drop keep (take before old))
back_step next old keep left before e r s b k =
    let whole : take before old ≡ take left old ++ e ∷ [] = ap (λ n. take n old) (sym s) ∙ take_more old left e b ∙ ap (λ x. take left old ++ x ∷ []) (sym r) in
    undone_step next (take before old) (take left old) e keep whole (omega (arith, s, b, k, length-take before old))

pub back_past : {T : Type 0} (next : List T) (old : List (ℕ × T)) (keep left before : ℕ) (e : ℕ × T) → e ≡ get_or old left e → left + 1 ≡ before → left < length old → keep ≤ left → length next ≤ e.0 → undone next (drop keep (take left old)) ≡ undone next (drop keep (take before old))
back_past next old keep left before e r s b k p =
    let whole : take before old ≡ take left old ++ e ∷ [] = ap (λ n. take n old) (sym s) ∙ take_more old left e b ∙ ap (λ x. take left old ++ x ∷ []) (sym r) in
    undone_past next (take before old) (take left old) e keep whole (omega (arith, s, b, k, length-take before old)) p

-- one step of the loop, from `before` to `left`, where the place is there
pub again_step : {T : Type 0} (now : List T) (old : List (ℕ × T)) (next : List T) (new new2 : List (ℕ × T)) (keep left before place : ℕ) (e : ℕ × T) (v : T) → Continues now old next new → new2 ≡ new ++ (e.0, v) ∷ [] → place ≡ e.0 → v ≡ get_or next place v → place < length next → e ≡ get_or new left e → left + 1 ≡ before → left < length old → keep ≤ left → length now < 4294967296 → undone next (drop keep (take before old)) ≡ undone now (drop keep old) → Continues now old (set next place e.1) new2 × (undone (set next place e.1) (drop keep (take left old)) ≡ undone now (drop keep old))
again_step {T} now old next new new2 keep left before place e v c n p r b f s l k few same =
    let q : e ≡ get_or old left e = read_front old new left e c.front l f in
    let b2 : e.0 < length next = omega (arith, p, b) in
    let r2 : v ≡ get_or next e.0 v = r ∙ ap (λ i. get_or next i v) p in
    let known : (r : ℕ) → All (IsKnown r) old → r ≤ e.0 → e.0 ≡ 4294967295 = λ r h m. taken_known r h m q in
    let d = continues_more now old next new e.0 e.1 v c r2 b2 known few in
    let d2 = subst (λ (xs : List (ℕ × T)). Continues now old (set next e.0 e.1) xs) (sym n) d in
    let d3 = subst (λ i. Continues now old (set next i e.1) new2) (sym p) d2 in
    (d3, ap (λ i. undone (set next i e.1) (drop keep (take left old))) p ∙ back_step next old keep left before e q s l k ∙ same)
  where
    taken_known : (r : ℕ) → All (IsKnown r) old → r ≤ e.0 → e ≡ get_or old left e → e.0 ≡ 4294967295
    taken_known r h m q = let w = h left e l in let i = ap (λ (x : ℕ × T). x.0) q in i ∙ w (omega (arith, m, i))

-- and where it is not
pub again_past : {T : Type 0} (now : List T) (old : List (ℕ × T)) (next : List T) (new : List (ℕ × T)) (keep left before place : ℕ) (e : ℕ × T) → Continues now old next new → place ≡ e.0 → length next ≤ place → e ≡ get_or new left e → left + 1 ≡ before → left < length old → keep ≤ left → undone next (drop keep (take before old)) ≡ undone now (drop keep old) → undone next (drop keep (take left old)) ≡ undone now (drop keep old)
again_past now old next new keep left before place e c p b f s l k same =
    let q : e ≡ get_or old left e = read_front old new left e c.front l f in
    back_past next old keep left before e q s l k (omega (arith, p, b)) ∙ same

-- at the end all is written
pub again_end : {T : Type 0} (now : List T) (old : List (ℕ × T)) (next : List T) (keep left : ℕ) → left ≤ keep → keep ≤ length old → undone next (drop keep (take left old)) ≡ undone now (drop keep old) → next ≡ undone now (drop keep old)
again_end now old next keep left l k same = sym (ap (undone next) (drop_all keep (take left old) (omega (arith, l, length-take left old)))) ∙ same

-- what holds of a trail holds of one that continues it
pub trail_continues : {T : Type 0} (now next : List T) (old new : List (ℕ × T)) (marks : List ℕ) → Continues now old next new → IsTrail now old marks → IsTrail next new marks
trail_continues now next old new marks c h = record {
  within = λ k b. let w = h.within k b in let l = continues_longer now old next new c in omega (arith, w, l);
  rising = h.rising;
  known = subst (λ n. All (IsKnown n) new) (sym c.count) (c.known (length now) h.known);
  few = subst (λ n. n < 4294967296) (sym c.count) h.few;
}

pub reach_continues : {T : Type 0} (now next : List T) (old new : List (ℕ × T)) (marks reaches : List ℕ) (r : ℕ) → Continues now old next new → IsTrail now old marks → IsReach old marks reaches r → IsReach new marks reaches r
reach_continues {T} now next old new marks reaches r c t h = record {
  known = c.known r h.known;
  count = h.count;
  before = λ k b. subst (λ (xs : List (ℕ × T)). All (IsKnown (get_or reaches k 0)) xs) (front (get_or marks k 0) (t.within k b)) (h.before k b);
}
  where
    front : (m : ℕ) → m ≤ length old → take m old ≡ take m new
    front m l = ap (take m) (sym c.front) ∙ take-take m (length old) new l

pub saved_continues : {T : Type 0} (now next : List T) (old new : List (ℕ × T)) (marks : List ℕ) → Continues now old next new → IsTrail now old marks → saved_at next new marks ≡ saved_at now old marks
saved_continues now next old new marks c t = map_same _ _ 0 marks (λ k b. c.same (get_or marks k 0) (t.within k b))
