-- Cells with rows that come and go, and the way back that leaves the marks.
use Rattle.std.proofs.Common.{◌≡◌, ℕ, zero, suc, ◌+◌, ◌-◌, ◌<◌, ◌≤◌, List, [], ◌∷◌, ◌++◌, length, take, drop, map, get_or, replicate, refl, sym, ap, ◌∙◌, subst, arith, All, Some, slice_get, sum, ◌⊎◌, inl, inr, min}
use Rattle.std.proofs.lemmas.List.{length-map, length-take, length-drop, length-append, length-replicate, drop-append-le, take-append-le, take-map, map-append, take-take, drop-take, get_or-map, length-take-le, take_all, take_at, length_push, drop-replicate, take-replicate, get_or_append_left, get_or-append_right, get_or-take, append-nil, append_assoc}
use Rattle.std.proofs.lemmas.List.Elements.{All-map, All-take}
use Rattle.std.proofs.lemmas.List.Sums.{sum_by-cons}
use Rattle.ms_cells.specs.Cells.{Lists, grown, shrunk, seen}
use Rattle.ms_cells.specs.Rows.{pairs, row_at, rows_at, saved_rows, with_rows, place_of, places_from, IsLayout, IsRowed, full_rows}
use Rattle.ms_cells.specs.declared.rows.Place.{Place}
use Rattle.ms_cells.proofs.SharedLists.{map_same}
use Rattle.ms_cells.proofs.Rowed.{pairs-append, take-pairs, saved_get, undo_rowed, length-pairs}

pub same_rowed : {T : Type 0} (places : List Place) (vs next : Lists T) (ws more : Lists ℕ) → IsRowed places vs ws → next ≡ vs → more ≡ ws → IsRowed places next more
same_rowed {T} places vs next ws more h e f = subst (λ (v : Lists T). IsRowed places v more) (sym e) (subst (λ w. IsRowed places vs w) (sym f) h)

-- ---- the way back that leaves the marks

pub record Restores {T : Type 0} (places : List Place) (vs next : Lists T) (ws more : Lists ℕ) (n : ℕ) : Type 0 where
  pub rowed : IsRowed places next more
  pub now : slice_get (saved_rows places vs.saved ws.saved) n ≡ Some (pairs next.current (rows_at places more.current))
  pub saved : saved_rows places next.saved more.saved ≡ saved_rows places vs.saved ws.saved

front : {A : Type 0} (xs : List A) (x y : A) (n : ℕ) → slice_get (xs ++ x ∷ []) n ≡ Some y → n < length xs → slice_get xs n ≡ Some y
front [] x y n e b = absurd (omega (arith, b))
front (z ∷ zs) x y zero e b = e
front (z ∷ zs) x y (suc n) e b = front zs x y n e (omega (arith, b))

forgot : {A : Type 0} (saved xs : List A) (x : A) → saved ≡ xs ++ x ∷ [] → take (length saved - 1) saved ≡ xs
forgot saved xs x e = ap (λ s. take (length s - 1) s) e ∙ take_at xs (x ∷ []) (length (xs ++ x ∷ []) - 1) (omega (arith, length_push xs x))

pub restored : {T : Type 0} (places : List Place) (vs marked mid next : Lists T) (ws more : Lists ℕ) (n : ℕ) → IsRowed places vs ws → marked ≡ record vs { saved = vs.saved ++ vs.current ∷ [] } → slice_get marked.saved n ≡ Some mid.current → mid.saved ≡ marked.saved → next ≡ record mid { saved = take (length mid.saved - 1) mid.saved } → slice_get ws.saved n ≡ Some more.current → more.saved ≡ ws.saved → n < length vs.saved → Restores places vs next ws more n
restored places vs marked mid next ws more n h e g s f w t b =
    let saved : next.saved ≡ vs.saved = ap (λ l. l.saved) f ∙ forgot mid.saved vs.saved vs.current (s ∙ ap (λ l. l.saved) e) in
    let now : slice_get vs.saved n ≡ Some next.current = front vs.saved vs.current mid.current n (sym (ap (λ l. slice_get l.saved n) e) ∙ g) b ∙ ap (λ l. Some l.current) (sym f) in record {
      rowed = undo_rowed places vs next ws more n h now w b (inr (saved, t));
      now = saved_get places vs.saved ws.saved n next.current more.current now w;
      saved = ap (λ x. saved_rows places x more.saved) saved ∙ ap (saved_rows places vs.saved) t;
    }

-- ---- new words behind the others

row_more : (words more : List ℕ) (p : Place) → p.start + p.len ≤ length words → row_at (words ++ more) p ≡ row_at words p
row_more words more p b = ap (take p.len) (drop-append-le p.start words more (omega (arith, b))) ∙ take-append-le p.len (drop p.start words) more (omega (arith, b, length-drop p.start words))

rows_more : (places : List Place) (words more : List ℕ) → IsLayout places (length words) → rows_at places (words ++ more) ≡ rows_at places words
rows_more places words more h = map_same _ _ (record { start = 0; len = 0 }) places (λ k b. row_more words more (place_of places k) (h.within k b))

drop_past : (words more : List ℕ) (n : ℕ) → length words ≤ n → drop n (words ++ more) ≡ drop (n - length words) more
drop_past [] more n b = ap (λ k. drop k more) (omega arith)
drop_past (x ∷ xs) more zero b = absurd (omega (arith, b))
drop_past (x ∷ xs) more (suc n) b = drop_past xs more n (omega (arith, b)) ∙ ap (λ k. drop k more) (omega arith)

rows_new : (words : List ℕ) (lengths : List ℕ) (start m : ℕ) → length words ≤ start → start + sum lengths ≤ length words + m → rows_at (places_from start lengths) (words ++ replicate m 18446744073709551615) ≡ full_rows lengths
rows_new words [] start m a b = refl
rows_new words (n ∷ ns) start m a b =
    let total = sum_by-cons (λ x. x) n ns in
    let c : start + n + sum ns ≤ length words + m = omega (arith, b, total) in
    ap (λ r. r ∷ rows_at (places_from (start + n) ns) (words ++ replicate m 18446744073709551615)) (ap (take n) (drop_past words (replicate m 18446744073709551615) start a ∙ drop-replicate (start - length words) m 18446744073709551615) ∙ take-replicate n (m - (start - length words)) 18446744073709551615 (omega (arith, a, c)))
    ∙ ap (λ r. replicate n 18446744073709551615 ∷ r) (rows_new words ns (start + n) m (omega (arith, a)) c)

rows_grown : (places : List Place) (words lengths : List ℕ) (m : ℕ) → IsLayout places (length words) → sum lengths ≤ m → rows_at (places ++ places_from (length words) lengths) (words ++ replicate m 18446744073709551615) ≡ rows_at places words ++ full_rows lengths
rows_grown places words lengths m h b =
    map-append (row_at (words ++ replicate m 18446744073709551615)) places (places_from (length words) lengths)
    ∙ ap (λ r. r ++ rows_at (places_from (length words) lengths) (words ++ replicate m 18446744073709551615)) (rows_more places words (replicate m 18446744073709551615) h)
    ∙ ap (λ r. rows_at places words ++ r) (rows_new words lengths (length words) m (omega arith) (omega (arith, b)))

-- the new places lie behind each other
record AreBehind (start : ℕ) (lengths : List ℕ) : Type 0 where
  from : (k : ℕ) → k < length lengths → start ≤ (place_of (places_from start lengths) k).start
  to : (k : ℕ) → k < length lengths → (place_of (places_from start lengths) k).start + (place_of (places_from start lengths) k).len ≤ start + sum lengths
  apart : (j k : ℕ) → j < k → k < length lengths → (place_of (places_from start lengths) j).start + (place_of (places_from start lengths) j).len ≤ (place_of (places_from start lengths) k).start

behind_more : (start n : ℕ) (ns : List ℕ) → AreBehind (start + n) ns → AreBehind start (n ∷ ns)
behind_more start n ns rest = record { from = from; to = to; apart = apart }
  where
    from : (k : ℕ) → k < length (n ∷ ns) → start ≤ (place_of (places_from start (n ∷ ns)) k).start
    from zero b = omega arith
    from (suc k) b = let f = rest.from k (omega (arith, b)) in omega (arith, f)

    to : (k : ℕ) → k < length (n ∷ ns) → (place_of (places_from start (n ∷ ns)) k).start + (place_of (places_from start (n ∷ ns)) k).len ≤ start + sum (n ∷ ns)
    to zero b = let s = sum_by-cons (λ x. x) n ns in omega (arith, s)
    to (suc k) b = let f = rest.to k (omega (arith, b)) in let s = sum_by-cons (λ x. x) n ns in omega (arith, f, s)

    apart : (j k : ℕ) → j < k → k < length (n ∷ ns) → (place_of (places_from start (n ∷ ns)) j).start + (place_of (places_from start (n ∷ ns)) j).len ≤ (place_of (places_from start (n ∷ ns)) k).start
    apart j zero i b = absurd (omega (arith, i))
    apart zero (suc k) i b = rest.from k (omega (arith, b))
    apart (suc j) (suc k) i b = rest.apart j k (omega (arith, i)) (omega (arith, b))

are_behind : (start : ℕ) (lengths : List ℕ) → AreBehind start lengths
are_behind start [] = record { from = λ k b. absurd (omega (arith, b)); to = λ k b. absurd (omega (arith, b)); apart = λ j k i b. absurd (omega (arith, b)) }
are_behind start (n ∷ ns) = behind_more start n ns (are_behind (start + n) ns)

length-places_from : (start : ℕ) (lengths : List ℕ) → length (places_from start lengths) ≡ length lengths
length-places_from start [] = refl
length-places_from start (n ∷ ns) = ap suc (length-places_from (start + n) ns)

layout_grown : (places : List Place) (lengths : List ℕ) (total m : ℕ) → IsLayout places total → sum lengths ≤ m → IsLayout (places ++ places_from total lengths) (total + m)
layout_grown places lengths total m h b = record { within = λ v c. within v c (split v); apart = λ u v i c. apart u v i c (split u) (split v) }
  where
    news : AreBehind total lengths
    news = are_behind total lengths

    split : (v : ℕ) → (v < length places) ⊎ (length places ≤ v)
    split v = grind arith

    old : (v : ℕ) → v < length places → place_of (places ++ places_from total lengths) v ≡ place_of places v
    old v l = get_or_append_left places (places_from total lengths) (record { start = 0; len = 0 }) v l

    new : (v : ℕ) → length places ≤ v → place_of (places ++ places_from total lengths) v ≡ place_of (places_from total lengths) (v - length places)
    new v l = get_or-append_right places (places_from total lengths) (length places) v (record { start = 0; len = 0 }) refl l

    below : (v : ℕ) → v < length (places ++ places_from total lengths) → length places ≤ v → v - length places < length lengths
    below v c l = omega (arith, c, l, length-append places (places_from total lengths), length-places_from total lengths)

    within : (v : ℕ) → v < length (places ++ places_from total lengths) → (v < length places) ⊎ (length places ≤ v) → (place_of (places ++ places_from total lengths) v).start + (place_of (places ++ places_from total lengths) v).len ≤ total + m
    within v c (inl l) = subst (λ (p : Place). p.start + p.len ≤ total + m) (sym (old v l)) (let w = h.within v l in omega (arith, w))
    within v c (inr l) = subst (λ (p : Place). p.start + p.len ≤ total + m) (sym (new v l)) (let w = news.to (v - length places) (below v c l) in omega (arith, w, b))

    apart : (u v : ℕ) → u < v → v < length (places ++ places_from total lengths) → (u < length places) ⊎ (length places ≤ u) → (v < length places) ⊎ (length places ≤ v) → (place_of (places ++ places_from total lengths) u).start + (place_of (places ++ places_from total lengths) u).len ≤ (place_of (places ++ places_from total lengths) v).start
    apart u v i c (inl k) (inl l) = subst (λ (p : Place). (place_of (places ++ places_from total lengths) u).start + (place_of (places ++ places_from total lengths) u).len ≤ p.start) (sym (old v l)) (subst (λ (p : Place). p.start + p.len ≤ (place_of places v).start) (sym (old u k)) (h.apart u v i l))
    apart u v i c (inl k) (inr l) = subst (λ (p : Place). (place_of (places ++ places_from total lengths) u).start + (place_of (places ++ places_from total lengths) u).len ≤ p.start) (sym (new v l)) (subst (λ (p : Place). p.start + p.len ≤ (place_of (places_from total lengths) (v - length places)).start) (sym (old u k)) (let w = h.within u k in let f = news.from (v - length places) (below v c l) in omega (arith, w, f)))
    apart u v i c (inr k) (inl l) = absurd (omega (arith, i, k, l))
    apart u v i c (inr k) (inr l) = subst (λ (p : Place). (place_of (places ++ places_from total lengths) u).start + (place_of (places ++ places_from total lengths) u).len ≤ p.start) (sym (new v l)) (subst (λ (p : Place). p.start + p.len ≤ (place_of (places_from total lengths) (v - length places)).start) (sym (new u k)) (news.apart (u - length places) (v - length places) (omega (arith, i, k)) (below v c l)))

layout_wider : (places : List Place) (total more : ℕ) → total ≤ more → IsLayout places total → IsLayout places more
layout_wider places total more b h = record { within = λ v c. let w = h.within v c in omega (arith, w, b); apart = h.apart }

saved_grown : {T : Type 0} (places : List Place) (lengths : List ℕ) (total m : ℕ) (values : List T) (vs : List (List T)) (ws : List (List ℕ)) → IsLayout places total → sum lengths ≤ m → All (λ (v : List T). length v ≡ length places) vs → All (λ (w : List ℕ). length w ≡ total) ws → saved_rows (places ++ places_from total lengths) (map (λ v. v ++ values) vs) (map (λ w. w ++ replicate m 18446744073709551615) ws) ≡ map (λ s. s ++ pairs values (full_rows lengths)) (saved_rows places vs ws)
saved_grown places lengths total m values [] ws h b hv hw = refl
saved_grown places lengths total m values (v ∷ vs) [] h b hv hw = refl
saved_grown {T} places lengths total m values (v ∷ vs) (w ∷ ws) h b hv hw =
    let lv : length v ≡ length places = hv 0 v (omega arith) in
    let lw : length w ≡ total = hw 0 w (omega arith) in
    let rows : rows_at (places ++ places_from total lengths) (w ++ replicate m 18446744073709551615) ≡ rows_at places w ++ full_rows lengths = ap (λ t. rows_at (places ++ places_from t lengths) (w ++ replicate m 18446744073709551615)) (sym lw) ∙ rows_grown places w lengths m (subst (λ t. IsLayout places t) (sym lw) h) b in
    ap (λ r. pairs (v ++ values) r ∷ saved_rows (places ++ places_from total lengths) (map (λ x. x ++ values) vs) (map (λ y. y ++ replicate m 18446744073709551615) ws)) rows
    ∙ ap (λ p. p ∷ saved_rows (places ++ places_from total lengths) (map (λ x. x ++ values) vs) (map (λ y. y ++ replicate m 18446744073709551615) ws)) (pairs-append v values (rows_at places w) (full_rows lengths) (lv ∙ sym (length-map places (row_at w))))
    ∙ ap (λ s. (pairs v (rows_at places w) ++ pairs values (full_rows lengths)) ∷ s) (saved_grown places lengths total m values vs ws h b (λ k d c. hv (suc k) d (omega (arith, c))) (λ k d c. hw (suc k) d (omega (arith, c))))

pub grown_is : {T : Type 0} (places : List Place) (vs : Lists T) (ws : Lists ℕ) (values : List T) (lengths : List ℕ) (m : ℕ) → IsRowed places vs ws → sum lengths ≤ m → with_rows (places ++ places_from (length ws.current) lengths) (grown vs values) (grown ws (replicate m 18446744073709551615)) ≡ grown (with_rows places vs ws) (pairs values (full_rows lengths))
grown_is places vs ws values lengths m h b =
    ap (λ r. seen (pairs (vs.current ++ values) r) (saved_rows (places ++ places_from (length ws.current) lengths) (grown vs values).saved (grown ws (replicate m 18446744073709551615)).saved)) (rows_grown places ws.current lengths m h.layout b)
    ∙ ap (λ p. seen p (saved_rows (places ++ places_from (length ws.current) lengths) (grown vs values).saved (grown ws (replicate m 18446744073709551615)).saved)) (pairs-append vs.current values (rows_at places ws.current) (full_rows lengths) (h.count ∙ sym (length-map places (row_at ws.current))))
    ∙ ap (λ s. seen (pairs vs.current (rows_at places ws.current) ++ pairs values (full_rows lengths)) s) (saved_grown places lengths (length ws.current) m values vs.saved ws.saved h.layout b h.lists h.rows)

pub grown_rowed : {T : Type 0} (places : List Place) (vs : Lists T) (ws : Lists ℕ) (values : List T) (lengths : List ℕ) (m : ℕ) → IsRowed places vs ws → sum lengths ≤ m → length values ≡ length lengths → IsRowed (places ++ places_from (length ws.current) lengths) (grown vs values) (grown ws (replicate m 18446744073709551615))
grown_rowed places vs ws values lengths m h b e =
    let all : length (places ++ places_from (length ws.current) lengths) ≡ length places + length lengths = length-append places (places_from (length ws.current) lengths) ∙ ap (λ n. length places + n) (length-places_from (length ws.current) lengths) in record {
      count = length-append vs.current values ∙ ap (λ n. n + length values) h.count ∙ ap (λ n. length places + n) e ∙ sym all;
      lists = All-map (λ v. length v ≡ length (places ++ places_from (length ws.current) lengths)) (λ v. v ++ values) vs.saved (λ k d c. length-append (get_or vs.saved k d) values ∙ ap (λ n. n + length values) (h.lists k d c) ∙ ap (λ n. length places + n) e ∙ sym all);
      rows = All-map (λ w. length w ≡ length (ws.current ++ replicate m 18446744073709551615)) (λ w. w ++ replicate m 18446744073709551615) ws.saved (λ k d c. length-append (get_or ws.saved k d) (replicate m 18446744073709551615) ∙ ap (λ n. n + length {A = ℕ} (replicate m 18446744073709551615)) (h.rows k d c) ∙ sym (length-append ws.current (replicate m 18446744073709551615)));
      marks = length-map vs.saved (λ s. s ++ values) ∙ h.marks ∙ sym (length-map ws.saved (λ s. s ++ replicate m 18446744073709551615));
      layout = subst (λ n. IsLayout (places ++ places_from (length ws.current) lengths) n) (sym (length-append ws.current (replicate m 18446744073709551615) ∙ ap (λ n. length ws.current + n) (length-replicate m 18446744073709551615))) (layout_grown places lengths (length ws.current) m h.layout b);
    }

-- new words alone change nothing that is seen
saved_wider : {T : Type 0} (places : List Place) (total : ℕ) (more : List ℕ) (vs : List (List T)) (ws : List (List ℕ)) → IsLayout places total → All (λ (w : List ℕ). length w ≡ total) ws → saved_rows places vs (map (λ w. w ++ more) ws) ≡ saved_rows places vs ws
saved_wider places total more [] ws h hw = refl
saved_wider places total more (v ∷ vs) [] h hw = refl
saved_wider places total more (v ∷ vs) (w ∷ ws) h hw =
    let lw : length w ≡ total = hw 0 w (omega arith) in
    ap (λ r. pairs v r ∷ saved_rows places vs (map (λ x. x ++ more) ws)) (rows_more places w more (subst (λ t. IsLayout places t) (sym lw) h)) ∙ ap (λ s. pairs v (rows_at places w) ∷ s) (saved_wider places total more vs ws h (λ k d c. hw (suc k) d (omega (arith, c))))

pub wider_is : {T : Type 0} (places : List Place) (vs : Lists T) (ws : Lists ℕ) (more : List ℕ) → IsRowed places vs ws → with_rows places vs (grown ws more) ≡ with_rows places vs ws
wider_is places vs ws more h =
    ap (λ r. seen (pairs vs.current r) (saved_rows places vs.saved (grown ws more).saved)) (rows_more places ws.current more h.layout)
    ∙ ap (λ s. seen (pairs vs.current (rows_at places ws.current)) s) (saved_wider places (length ws.current) more vs.saved ws.saved h.layout h.rows)

pub wider_rowed : {T : Type 0} (places : List Place) (vs : Lists T) (ws : Lists ℕ) (more : List ℕ) → IsRowed places vs ws → IsRowed places vs (grown ws more)
wider_rowed places vs ws more h = record {
  count = h.count;
  lists = h.lists;
  rows = All-map (λ w. length w ≡ length (ws.current ++ more)) (λ w. w ++ more) ws.saved (λ k d c. length-append (get_or ws.saved k d) more ∙ ap (λ n. n + length more) (h.rows k d c) ∙ sym (length-append ws.current more));
  marks = h.marks ∙ sym (length-map ws.saved (λ s. s ++ more));
  layout = layout_wider places (length ws.current) (length (ws.current ++ more)) (omega (arith, length-append ws.current more)) h.layout;
}

-- ---- fewer cells

rows_fewer : (places : List Place) (n s : ℕ) (words : List ℕ) → IsLayout places (length words) → n < length places → s ≡ (place_of places n).start → rows_at (take n places) (take s words) ≡ take n (rows_at places words)
rows_fewer places n s words h b e = map_same (row_at (take s words)) (row_at words) (record { start = 0; len = 0 }) (take n places) (λ k c. same k (omega (arith, c, length-take n places))) ∙ sym (take-map (row_at words) n places)
  where
    inside : (k : ℕ) → k < n → (place_of places k).start + (place_of places k).len ≤ s
    inside k c = let a = h.apart k n c b in omega (arith, a, e)

    cut : (p : Place) (s : ℕ) → p.start + p.len ≤ s → row_at (take s words) p ≡ row_at words p
    cut p s l = ap (λ m. take p.len (drop p.start (take m words))) (parts p.start s (omega (arith, l))) ∙ ap (take p.len) (drop-take p.start (s - p.start) words) ∙ take-take p.len (s - p.start) (drop p.start words) (omega (arith, l))
      where
        parts : (a s : ℕ) → a ≤ s → s ≡ a + (s - a)
        parts a s l = omega (arith, l)

    same : (k : ℕ) → k < n → row_at (take s words) (place_of (take n places) k) ≡ row_at words (place_of (take n places) k)
    same k c = ap (row_at (take s words)) (get_or-take n places k (record { start = 0; len = 0 }) c) ∙ cut (place_of places k) s (inside k c) ∙ sym (ap (row_at words) (get_or-take n places k (record { start = 0; len = 0 }) c))

saved_fewer : {T : Type 0} (places : List Place) (n s total : ℕ) (vs : List (List T)) (ws : List (List ℕ)) → IsLayout places total → n < length places → s ≡ (place_of places n).start → All (λ (w : List ℕ). length w ≡ total) ws → saved_rows (take n places) (map (λ v. take n v) vs) (map (λ w. take s w) ws) ≡ map (λ x. take n x) (saved_rows places vs ws)
saved_fewer places n s total [] ws h b e hw = refl
saved_fewer places n s total (v ∷ vs) [] h b e hw = refl
saved_fewer places n s total (v ∷ vs) (w ∷ ws) h b e hw =
    let lw : length w ≡ total = hw 0 w (omega arith) in
    ap (λ r. pairs (take n v) r ∷ saved_rows (take n places) (map (λ x. take n x) vs) (map (λ x. take s x) ws)) (rows_fewer places n s w (subst (λ t. IsLayout places t) (sym lw) h) b e)
    ∙ ap (λ p. p ∷ saved_rows (take n places) (map (λ x. take n x) vs) (map (λ x. take s x) ws)) (sym (take-pairs n v (rows_at places w)))
    ∙ ap (λ q. take n (pairs v (rows_at places w)) ∷ q) (saved_fewer places n s total vs ws h b e (λ k d c. hw (suc k) d (omega (arith, c))))

pub fewer_is : {T : Type 0} (places : List Place) (vs : Lists T) (ws : Lists ℕ) (n s : ℕ) → IsRowed places vs ws → n < length places → s ≡ (place_of places n).start → with_rows (take n places) (shrunk vs n) (shrunk ws s) ≡ shrunk (with_rows places vs ws) n
fewer_is places vs ws n s h b e =
    ap (λ r. seen (pairs (take n vs.current) r) (saved_rows (take n places) (shrunk vs n).saved (shrunk ws s).saved)) (rows_fewer places n s ws.current h.layout b e)
    ∙ ap (λ p. seen p (saved_rows (take n places) (shrunk vs n).saved (shrunk ws s).saved)) (sym (take-pairs n vs.current (rows_at places ws.current)))
    ∙ ap (λ q. seen (take n (pairs vs.current (rows_at places ws.current))) q) (saved_fewer places n s (length ws.current) vs.saved ws.saved h.layout b e h.rows)

pub fewer_rowed : {T : Type 0} (places : List Place) (vs : Lists T) (ws : Lists ℕ) (n s : ℕ) → IsRowed places vs ws → n < length places → s ≡ (place_of places n).start → IsRowed (take n places) (shrunk vs n) (shrunk ws s)
fewer_rowed places vs ws n s h b e =
    let c = h.count in
    let l : length (take n places) ≡ n = length-take-le n places (omega (arith, b)) in
    let t : s ≤ length ws.current = (let w = h.layout.within n b in omega (arith, w, e)) in record {
      count = length-take-le n vs.current (omega (arith, b, c)) ∙ sym l;
      lists = All-map (λ v. length v ≡ length (take n places)) (λ v. take n v) vs.saved (λ k d a. let q = h.lists k d a in length-take-le n (get_or vs.saved k d) (omega (arith, b, q)) ∙ sym l);
      rows = All-map (λ w. length w ≡ length (take s ws.current)) (λ w. take s w) ws.saved (λ k d a. let q = h.rows k d a in length-take-le s (get_or ws.saved k d) (omega (arith, t, q)) ∙ sym (length-take-le s ws.current t));
      marks = length-map vs.saved (λ v. take n v) ∙ h.marks ∙ sym (length-map ws.saved (λ w. take s w));
      layout = subst (λ m. IsLayout (take n places) m) (sym (length-take-le s ws.current t)) (record {
        within = λ v a. let i : v < n = omega (arith, a, l) in subst (λ (p : Place). p.start + p.len ≤ s) (sym (get_or-take n places v (record { start = 0; len = 0 }) i)) (let q = h.layout.apart v n i b in omega (arith, q, e));
        apart = λ u v i a. let j : v < n = omega (arith, a, l) in let k : u < n = omega (arith, i, j) in subst (λ (p : Place). (place_of (take n places) u).start + (place_of (take n places) u).len ≤ p.start) (sym (get_or-take n places v (record { start = 0; len = 0 }) j)) (subst (λ (p : Place). p.start + p.len ≤ (place_of places v).start) (sym (get_or-take n places u (record { start = 0; len = 0 }) k)) (h.layout.apart u v i (omega (arith, j, b))));
      });
    }

pub shrunk_all : {A : Type 0} (l : Lists A) (n : ℕ) → length l.current ≤ n → All (λ (s : List A). length s ≡ length l.current) l.saved → l ≡ shrunk l n
shrunk_all {A} l n b h = sym (ap (λ s. seen s (map (λ x. take n x) l.saved)) (take_all n l.current b) ∙ ap (λ s. seen l.current s) (each l.saved (λ k d c. let q = h k d c in omega (arith, q, b))))
  where
    each : (xs : List (List A)) → ((k : ℕ) (d : List A) → k < length xs → length (get_or xs k d) ≤ n) → map (λ x. take n x) xs ≡ xs
    each [] f = refl
    each (x ∷ xs) f = ap (λ y. y ∷ map (λ x. take n x) xs) (take_all n x (f 0 x (omega arith))) ∙ ap (λ ys. x ∷ ys) (each xs (λ k d c. f (suc k) d (omega (arith, c))))

-- ---- the same, as the calls leave the parts

pub record Grows {T : Type 0} (places made : List Place) (vs : Lists T) (ws : Lists ℕ) (values : List T) (lengths more : List ℕ) (start end : ℕ) : Type 0 where
  pub rowed : IsRowed places vs ws
  pub made_is : made ≡ places_from start lengths
  pub start_is : start ≡ length ws.current
  pub end_is : end ≡ start + sum lengths
  pub more_is : more ≡ replicate (end - start) 18446744073709551615
  pub same : length values ≡ length lengths

grow_places : {T : Type 0} (places made : List Place) (vs : Lists T) (ws : Lists ℕ) (values : List T) (lengths more : List ℕ) (start end : ℕ) → Grows places made vs ws values lengths more start end → made ≡ places_from (length ws.current) lengths
grow_places places made vs ws values lengths more start end g = g.made_is ∙ ap (λ s. places_from s lengths) g.start_is

pub grow_rowed : {T : Type 0} (places made places2 : List Place) (vs vs2 : Lists T) (ws ws2 : Lists ℕ) (values : List T) (lengths more : List ℕ) (start end : ℕ) → Grows places made vs ws values lengths more start end → places2 ≡ places ++ made → vs2 ≡ grown vs values → ws2 ≡ grown ws more → IsRowed places2 vs2 ws2
grow_rowed {T} places made places2 vs vs2 ws ws2 values lengths more start end g a b c =
    let e = g.end_is in
    let w : ws2 ≡ grown ws (replicate (end - start) 18446744073709551615) = c ∙ ap (grown ws) g.more_is in
    let p : places2 ≡ places ++ places_from (length ws.current) lengths = a ∙ ap (λ m. places ++ m) (grow_places places made vs ws values lengths more start end g) in
    let r = grown_rowed places vs ws values lengths (end - start) g.rowed (omega (arith, e)) g.same in
    subst (λ (q : List Place). IsRowed q vs2 ws2) (sym p) (same_rowed (places ++ places_from (length ws.current) lengths) (grown vs values) vs2 (grown ws (replicate (end - start) 18446744073709551615)) ws2 r b w)

pub grow_is : {T : Type 0} (places made places2 : List Place) (vs vs2 : Lists T) (ws ws2 : Lists ℕ) (values : List T) (lengths more : List ℕ) (start end : ℕ) → Grows places made vs ws values lengths more start end → places2 ≡ places ++ made → vs2 ≡ grown vs values → ws2 ≡ grown ws more → with_rows places2 vs2 ws2 ≡ grown (with_rows places vs ws) (pairs values (full_rows lengths))
grow_is places made places2 vs vs2 ws ws2 values lengths more start end g a b c =
    let e = g.end_is in
    let w : ws2 ≡ grown ws (replicate (end - start) 18446744073709551615) = c ∙ ap (grown ws) g.more_is in
    let p : places2 ≡ places ++ places_from (length ws.current) lengths = a ∙ ap (λ m. places ++ m) (grow_places places made vs ws values lengths more start end g) in
    ap (λ q. with_rows q vs2 ws2) p ∙ ap (λ v. with_rows (places ++ places_from (length ws.current) lengths) v ws2) b ∙ ap (with_rows (places ++ places_from (length ws.current) lengths) (grown vs values)) w
    ∙ grown_is places vs ws values lengths (end - start) g.rowed (omega (arith, e))

kept_places : (places made places2 places3 : List Place) (n : ℕ) → places2 ≡ places ++ made → places3 ≡ take n places2 → n ≡ length places → places3 ≡ places
kept_places places made places2 places3 n a b c = b ∙ ap (take n) a ∙ take_at places made n (sym c)

pub failed_rowed : {T : Type 0} (places made places2 places3 : List Place) (vs vs2 : Lists T) (ws ws2 : Lists ℕ) (more : List ℕ) (n : ℕ) → IsRowed places vs ws → places2 ≡ places ++ made → places3 ≡ take n places2 → n ≡ length places → vs2 ≡ vs → ws2 ≡ grown ws more → IsRowed places3 vs2 ws2
failed_rowed places made places2 places3 vs vs2 ws ws2 more n h a b c d e =
    subst (λ (q : List Place). IsRowed q vs2 ws2) (sym (kept_places places made places2 places3 n a b c)) (same_rowed places vs vs2 (grown ws more) ws2 (wider_rowed places vs ws more h) d e)

pub failed_is : {T : Type 0} (places made places2 places3 : List Place) (vs vs2 : Lists T) (ws ws2 : Lists ℕ) (more : List ℕ) (n : ℕ) → IsRowed places vs ws → places2 ≡ places ++ made → places3 ≡ take n places2 → n ≡ length places → vs2 ≡ vs → ws2 ≡ grown ws more → with_rows places3 vs2 ws2 ≡ with_rows places vs ws
failed_is places made places2 places3 vs vs2 ws ws2 more n h a b c d e =
    ap (λ q. with_rows q vs2 ws2) (kept_places places made places2 places3 n a b c) ∙ ap (λ v. with_rows places v ws2) d ∙ ap (with_rows places vs) e ∙ wider_is places vs ws more h

pub less_rowed : {T : Type 0} (places places2 : List Place) (vs vs2 : Lists T) (ws ws2 : Lists ℕ) (n : ℕ) (p : Place) → IsRowed places vs ws → n < length places → p ≡ place_of places n → places2 ≡ take n places → vs2 ≡ shrunk vs n → ws2 ≡ shrunk ws p.start → IsRowed places2 vs2 ws2
less_rowed places places2 vs vs2 ws ws2 n p h b e a c d =
    subst (λ (q : List Place). IsRowed q vs2 ws2) (sym a) (same_rowed (take n places) (shrunk vs n) vs2 (shrunk ws p.start) ws2 (fewer_rowed places vs ws n p.start h b (ap (λ (x : Place). x.start) e)) c d)

pub less_is : {T : Type 0} (places places2 : List Place) (vs vs2 : Lists T) (ws ws2 : Lists ℕ) (n : ℕ) (p : Place) → IsRowed places vs ws → n < length places → p ≡ place_of places n → places2 ≡ take n places → vs2 ≡ shrunk vs n → ws2 ≡ shrunk ws p.start → with_rows places2 vs2 ws2 ≡ shrunk (with_rows places vs ws) n
less_is places places2 vs vs2 ws ws2 n p h b e a c d =
    ap (λ q. with_rows q vs2 ws2) a ∙ ap (λ v. with_rows (take n places) v ws2) c ∙ ap (with_rows (take n places) (shrunk vs n)) d ∙ fewer_is places vs ws n p.start h b (ap (λ (x : Place). x.start) e)
