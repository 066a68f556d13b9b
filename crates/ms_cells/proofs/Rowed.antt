-- Values with their rows, list by list.
use Rattle.std.proofs.Common.{◌≡◌, ℕ, zero, suc, ◌+◌, ◌-◌, ◌<◌, ◌≤◌, List, [], ◌∷◌, ◌++◌, length, take, drop, map, get_or, set, replicate, refl, sym, ap, ◌∙◌, subst, arith, All, Some, slice_get, ◌⊎◌, inl, inr, min}
use Rattle.std.proofs.lemmas.List.{length-map, length-take, length-drop, length-append, length-set, length-replicate, drop-set-add, drop-set-lt, take-set-le, drop-append-le, take-append-le, take-map, map-append, take-take, drop-take, get_or-map, length-take-le, take_all, drop_at, take_at, get_or_append_left, get_or-take, same_lists, get_or-set_same, get_or-set_other, set-get_or, length_push, get_or_read}
use Rattle.std.proofs.lemmas.List.Elements.{All-map, All-take, All-push}
use Rattle.ms_cells.specs.Cells.{Lists, grown, shrunk, seen}
use Rattle.ms_cells.specs.Rows.{pairs, row_at, rows_at, saved_rows, with_rows, place_of, IsLayout, IsRowed, full_rows}
use Rattle.ms_cells.specs.declared.rows.Place.{Place}

-- ---- pairs

pub length-pairs : {A B : Type 0} (us : List A) (vs : List B) → length us ≡ length vs → length (pairs us vs) ≡ length us
length-pairs [] vs e = refl
length-pairs (a ∷ us) [] e = absurd (omega (arith, e))
length-pairs (a ∷ us) (b ∷ vs) e = ap suc (length-pairs us vs (omega (arith, e)))

pub get_or-pairs : {A B : Type 0} (us : List A) (vs : List B) (v : ℕ) (d : A × B) → length us ≡ length vs → v < length us → get_or (pairs us vs) v d ≡ (get_or us v d.0, get_or vs v d.1)
get_or-pairs [] vs v d e l = absurd (omega (arith, l))
get_or-pairs (a ∷ us) [] v d e l = absurd (omega (arith, e))
get_or-pairs (a ∷ us) (b ∷ vs) zero d e l = refl
get_or-pairs (a ∷ us) (b ∷ vs) (suc v) d e l = get_or-pairs us vs v d (omega (arith, e)) (omega (arith, l))

pub pairs-set : {A B : Type 0} (us : List A) (vs : List B) (v : ℕ) (a : A) (b : B) → length us ≡ length vs → v < length us → pairs (set us v a) (set vs v b) ≡ set (pairs us vs) v (a, b)
pairs-set [] vs v a b e l = absurd (omega (arith, l))
pairs-set (x ∷ us) [] v a b e l = absurd (omega (arith, e))
pairs-set (x ∷ us) (y ∷ vs) zero a b e l = refl
pairs-set (x ∷ us) (y ∷ vs) (suc v) a b e l = ap (λ ps. (x, y) ∷ ps) (pairs-set us vs v a b (omega (arith, e)) (omega (arith, l)))

pub pairs-append : {A B : Type 0} (us ws : List A) (vs zs : List B) → length us ≡ length vs → pairs (us ++ ws) (vs ++ zs) ≡ pairs us vs ++ pairs ws zs
pairs-append [] ws [] zs e = refl
pairs-append [] ws (b ∷ vs) zs e = absurd (omega (arith, e))
pairs-append (a ∷ us) ws [] zs e = absurd (omega (arith, e))
pairs-append (a ∷ us) ws (b ∷ vs) zs e = ap (λ ps. (a, b) ∷ ps) (pairs-append us ws vs zs (omega (arith, e)))

pub take-pairs : {A B : Type 0} (n : ℕ) (us : List A) (vs : List B) → take n (pairs us vs) ≡ pairs (take n us) (take n vs)
take-pairs zero us vs = refl
take-pairs (suc n) [] vs = refl
take-pairs (suc n) (a ∷ us) [] = refl
take-pairs (suc n) (a ∷ us) (b ∷ vs) = ap (λ ps. (a, b) ∷ ps) (take-pairs n us vs)

-- ---- rows

take_set : {T : Type 0} (n : ℕ) (xs : List T) (i : ℕ) (x : T) → take n (set xs i x) ≡ set (take n xs) i x
take_set zero xs i x = refl
take_set (suc n) [] i x = refl
take_set (suc n) (y ∷ ys) zero x = refl
take_set (suc n) (y ∷ ys) (suc i) x = ap (λ s. y ∷ s) (take_set n ys i x)

row_set : (words : List ℕ) (p : Place) (i w : ℕ) → row_at (set words (p.start + i) w) p ≡ set (row_at words p) i w
row_set words p i w = ap (take p.len) (drop-set-add p.start words i w) ∙ take_set p.len (drop p.start words) i w

row_other : (words : List ℕ) (p : Place) (j w : ℕ) → (j < p.start) ⊎ (p.start + p.len ≤ j) → row_at (set words j w) p ≡ row_at words p
row_other words p j w (inl l) = ap (take p.len) (drop-set-lt p.start words j w l)
row_other words p j w (inr l) =
    ap (λ k. take p.len (drop p.start (set words k w))) (parts j p.start p.len l) ∙ ap (take p.len) (drop-set-add p.start words (j - p.start) w) ∙ take-set-le p.len (drop p.start words) (j - p.start) w (omega (arith, l))
  where
    parts : (j s n : ℕ) → s + n ≤ j → j ≡ s + (j - s)
    parts j s n l = omega (arith, l)

-- the row that a write changes, and the others, which it does not
pub rows_set : (places : List Place) (words : List ℕ) (v i w : ℕ) → IsLayout places (length words) → v < length places → i < (place_of places v).len → rows_at places (set words ((place_of places v).start + i) w) ≡ set (rows_at places words) v (set (row_at words (place_of places v)) i w)
rows_set places words v i w h b c = same_lists _ _ (length-map places _ ∙ sym (length-set (rows_at places words) v _ ∙ length-map places _)) (λ k d l. at k d (omega (arith, l, length-map places (row_at (set words ((place_of places v).start + i) w)))) (order k v))
  where
    order : (k v : ℕ) → (k ≡ v) ⊎ ((k < v) ⊎ (v < k))
    order k v = grind arith

    read : (k : ℕ) (d : List ℕ) → k < length places → get_or (rows_at places (set words ((place_of places v).start + i) w)) k d ≡ row_at (set words ((place_of places v).start + i) w) (place_of places k)
    read k d l = get_or-map (row_at (set words ((place_of places v).start + i) w)) places k (record { start = 0; len = 0 }) d l

    other : (k : ℕ) (d : List ℕ) → k < length places → (k ≡ v → ⊥) → ((place_of places v).start + i < (place_of places k).start) ⊎ ((place_of places k).start + (place_of places k).len ≤ (place_of places v).start + i) → get_or (rows_at places (set words ((place_of places v).start + i) w)) k d ≡ get_or (set (rows_at places words) v (set (row_at words (place_of places v)) i w)) k d
    other k d l n a = read k d l ∙ row_other words (place_of places k) ((place_of places v).start + i) w a ∙ sym (get_or-set_other (rows_at places words) v k (set (row_at words (place_of places v)) i w) d n ∙ get_or-map (row_at words) places k (record { start = 0; len = 0 }) d l)

    at : (k : ℕ) (d : List ℕ) → k < length places → (k ≡ v) ⊎ ((k < v) ⊎ (v < k)) → get_or (rows_at places (set words ((place_of places v).start + i) w)) k d ≡ get_or (set (rows_at places words) v (set (row_at words (place_of places v)) i w)) k d
    at k d l (inl e) = read k d l ∙ ap (λ n. row_at (set words ((place_of places v).start + i) w) (place_of places n)) e ∙ row_set words (place_of places v) i w ∙ sym (ap (λ n. get_or (set (rows_at places words) v (set (row_at words (place_of places v)) i w)) n d) e ∙ get_or-set_same (rows_at places words) v (set (row_at words (place_of places v)) i w) d (omega (arith, b, length-map places (row_at words))))
    at k d l (inr (inl a)) = other k d l (λ e. omega (arith, e, a)) (inr (let f = h.apart k v a b in omega (arith, f)))
    at k d l (inr (inr a)) = other k d l (λ e. omega (arith, e, a)) (inl (let f = h.apart v k a l in omega (arith, f, c)))

-- ---- what is seen of the two sides

an_element : {A : Type 0} (xs : List A) (v : ℕ) → v < length xs → A
an_element [] v b = absurd (omega (arith, b))
an_element (x ∷ xs) v b = x

-- what is known of the place that is read, and of a word of its row
pub record IsWord (places : List Place) (total v i : ℕ) (p : Place) : Type 0 where
  pub is : p ≡ place_of places v
  pub inside : i < (place_of places v).len
  pub within : p.start + i < total

module _ {T : Type 0} (places : List Place) (vs : Lists T) (ws : Lists ℕ) (h : IsRowed places vs ws) where
  rows_length : (w : List ℕ) → length (rows_at places w) ≡ length places
  rows_length w = length-map places (row_at w)

  same_length : (w : List ℕ) → length vs.current ≡ length (rows_at places w)
  same_length w = h.count ∙ sym (rows_length w)

  pub seen_length : length (with_rows places vs ws).current ≡ length vs.current
  seen_length = length-pairs vs.current (rows_at places ws.current) (same_length ws.current)

  pub below : (v : ℕ) → v < length (with_rows places vs ws).current → v < length vs.current
  below v b = omega (arith, b, seen_length)

  pub below_place : (v : ℕ) → v < length (with_rows places vs ws).current → v < length places
  below_place v b = omega (arith, b, seen_length, h.count)

  pub got_value : (v : ℕ) (x : T) → v < length (with_rows places vs ws).current → slice_get vs.current v ≡ Some x → (d : T × List ℕ) → (get_or (with_rows places vs ws).current v d).0 ≡ x
  got_value v x b e d = ap (λ p. p.0) (get_or-pairs vs.current (rows_at places ws.current) v d (same_length ws.current) (below v b)) ∙ some_get vs.current v x d.0 e
    where
      some_get : {A : Type 0} (xs : List A) (v : ℕ) (x d : A) → slice_get xs v ≡ Some x → get_or xs v d ≡ x
      some_get [] v x d e = absurd (cc)
      some_get (y ∷ ys) zero x d e = cc
      some_get (y ∷ ys) (suc v) x d e = some_get ys v x d e

  pub got_row : (v : ℕ) → v < length (with_rows places vs ws).current → (d : T × List ℕ) → (get_or (with_rows places vs ws).current v d).1 ≡ row_at ws.current (place_of places v)
  got_row v b d = ap (λ p. p.1) (get_or-pairs vs.current (rows_at places ws.current) v d (same_length ws.current) (below v b)) ∙ get_or-map (row_at ws.current) places v (record { start = 0; len = 0 }) d.1 (below_place v b)

  pub set_is : (next : Lists T) (v : ℕ) (x : T) → next ≡ record vs { current = set vs.current v x } → v < length (with_rows places vs ws).current → (d : T × List ℕ) → with_rows places next ws ≡ record (with_rows places vs ws) { current = set (with_rows places vs ws).current v (x, (get_or (with_rows places vs ws).current v d).1) }
  set_is next v x e b d =
      ap (λ n. with_rows places n ws) e
      ∙ ap (λ s. seen s (with_rows places vs ws).saved) (ap (pairs (set vs.current v x)) (sym (set-get_or (rows_at places ws.current) v d.1)) ∙ pairs-set vs.current (rows_at places ws.current) v x (get_or (rows_at places ws.current) v d.1) (same_length ws.current) (below v b))
      ∙ ap (λ r. record (with_rows places vs ws) { current = set (with_rows places vs ws).current v (x, r) }) (sym (ap (λ p. p.1) (get_or-pairs vs.current (rows_at places ws.current) v d (same_length ws.current) (below v b))))

  pub set_rowed : (next : Lists T) (v : ℕ) (x : T) → next ≡ record vs { current = set vs.current v x } → IsRowed places next ws
  set_rowed next v x e = subst (λ n. IsRowed places n ws) (sym e) (record { count = length-set vs.current v x ∙ h.count; lists = h.lists; rows = h.rows; marks = h.marks; layout = h.layout })

  pub word_is : (next : Lists ℕ) (v i w : ℕ) → next ≡ record ws { current = set ws.current ((place_of places v).start + i) w } → v < length (with_rows places vs ws).current → i < (place_of places v).len → (d : T × List ℕ) → with_rows places vs next ≡ record (with_rows places vs ws) { current = set (with_rows places vs ws).current v ((get_or (with_rows places vs ws).current v d).0, set (get_or (with_rows places vs ws).current v d).1 i w) }
  word_is next v i w e b c d =
      ap (λ n. with_rows places vs n) e
      ∙ ap (λ s. seen s (with_rows places vs ws).saved) (ap (pairs vs.current) (rows_set places ws.current v i w h.layout (below_place v b) c) ∙ ap (λ xs. pairs xs (set (rows_at places ws.current) v (set (row_at ws.current (place_of places v)) i w))) (sym (set-get_or vs.current v d.0)) ∙ pairs-set vs.current (rows_at places ws.current) v (get_or vs.current v d.0) (set (row_at ws.current (place_of places v)) i w) (same_length ws.current) (below v b))
      ∙ ap (λ x. record (with_rows places vs ws) { current = set (with_rows places vs ws).current v (x, set (row_at ws.current (place_of places v)) i w) }) (sym (ap (λ p. p.0) (get_or-pairs vs.current (rows_at places ws.current) v d (same_length ws.current) (below v b))))
      ∙ ap (λ r. record (with_rows places vs ws) { current = set (with_rows places vs ws).current v ((get_or (with_rows places vs ws).current v d).0, set r i w) }) (sym (got_row v b d))

  pub word_rowed : (next : Lists ℕ) (j w : ℕ) → next ≡ record ws { current = set ws.current j w } → IsRowed places vs next
  word_rowed next j w e = subst (λ n. IsRowed places vs n) (sym e) (record {
    count = h.count;
    lists = h.lists;
    rows = λ k d b. h.rows k d b ∙ sym (length-set ws.current j w);
    marks = h.marks;
    layout = subst (λ n. IsLayout places n) (sym (length-set ws.current j w)) h.layout;
  })

  pub word_place : (v i : ℕ) (p : Place) → v < length (with_rows places vs ws).current → p ≡ get_or places v p → ((d : T × List ℕ) → i < length (get_or (with_rows places vs ws).current v d).1) → IsWord places (length ws.current) v i p
  word_place v i p b r c =
      let d : T × List ℕ = (an_element vs.current v (below v b), []) in
      let l = c d in
      let is = get_or_read places v p (below_place v b) r (record { start = 0; len = 0 }) in
      let q : i < (place_of places v).len = omega (arith, l, ap length (got_row v b d), length-take (place_of places v).len (drop (place_of places v).start ws.current)) in
      let w = h.layout.within v (below_place v b) in
      record { is = is; inside = q; within = subst (λ (x : Place). x.start + i < length ws.current) (sym is) (omega (arith, q, w)) }

-- ---- the saved lists

pub saved_length : {T : Type 0} (places : List Place) (vs : List (List T)) (ws : List (List ℕ)) → length vs ≡ length ws → length (saved_rows places vs ws) ≡ length vs
saved_length places [] ws e = refl
saved_length places (v ∷ vs) [] e = absurd (omega (arith, e))
saved_length places (v ∷ vs) (w ∷ ws) e = ap suc (saved_length places vs ws (omega (arith, e)))

pub saved_push : {T : Type 0} (places : List Place) (vs : List (List T)) (ws : List (List ℕ)) (v : List T) (w : List ℕ) → length vs ≡ length ws → saved_rows places (vs ++ v ∷ []) (ws ++ w ∷ []) ≡ saved_rows places vs ws ++ pairs v (rows_at places w) ∷ []
saved_push places [] [] v w e = refl
saved_push places [] (y ∷ ws) v w e = absurd (omega (arith, e))
saved_push places (x ∷ vs) [] v w e = absurd (omega (arith, e))
saved_push places (x ∷ vs) (y ∷ ws) v w e = ap (λ s. pairs x (rows_at places y) ∷ s) (saved_push places vs ws v w (omega (arith, e)))

pub saved_take : {T : Type 0} (places : List Place) (n : ℕ) (vs : List (List T)) (ws : List (List ℕ)) → take n (saved_rows places vs ws) ≡ saved_rows places (take n vs) (take n ws)
saved_take places zero vs ws = refl
saved_take places (suc n) [] ws = refl
saved_take places (suc n) (v ∷ vs) [] = refl
saved_take places (suc n) (v ∷ vs) (w ∷ ws) = ap (λ s. pairs v (rows_at places w) ∷ s) (saved_take places n vs ws)

pub saved_get : {T : Type 0} (places : List Place) (vs : List (List T)) (ws : List (List ℕ)) (n : ℕ) (v : List T) (w : List ℕ) → slice_get vs n ≡ Some v → slice_get ws n ≡ Some w → slice_get (saved_rows places vs ws) n ≡ Some (pairs v (rows_at places w))
saved_get places [] ws n v w e f = absurd (cc)
saved_get places (x ∷ vs) [] n v w e f = absurd (cc)
saved_get places (x ∷ vs) (y ∷ ws) zero v w e f = ap (λ q. Some (pairs x (rows_at places q))) (some y w f) ∙ ap (λ q. Some (pairs q (rows_at places w))) (some x v e)
  where
    some : {A : Type 0} (a b : A) → Some a ≡ Some b → a ≡ b
    some a b e = cc
saved_get places (x ∷ vs) (y ∷ ws) (suc n) v w e f = saved_get places vs ws n v w e f

pub saved_each : {T : Type 0} (places : List Place) (n : ℕ) (vs : List (List T)) (ws : List (List ℕ)) → n ≡ length places → All (λ (v : List T). length v ≡ length places) vs → All (λ (s : List (T × List ℕ)). length s ≡ n) (saved_rows places vs ws)
saved_each places n [] ws e h k d b = absurd (omega (arith, b))
saved_each places n (v ∷ vs) [] e h k d b = absurd (omega (arith, b))
saved_each places n (v ∷ vs) (w ∷ ws) e h zero d b = let l = h zero v (omega arith) in length-pairs v (rows_at places w) (l ∙ sym (length-map places (row_at w))) ∙ l ∙ sym e
saved_each places n (v ∷ vs) (w ∷ ws) e h (suc k) d b = saved_each places n vs ws e (λ j f c. h (suc j) f (omega (arith, c))) k d (omega (arith, b))

-- a mark and the way back from it
pub back_from_mark : {T : Type 0} (vs : Lists T) (saved rest : List (List T)) (now : List T) (n : ℕ) → saved ≡ vs.saved ++ vs.current ∷ [] → slice_get saved n ≡ Some now → rest ≡ take n saved → n ≡ length vs.saved → seen now rest ≡ vs
back_from_mark {T} vs saved rest now n e g r l =
    ap (λ s. seen s rest) (last vs.saved vs.current now n (sym (ap (λ xs. slice_get xs n) e) ∙ g) l) ∙ ap (λ s. seen vs.current s) (r ∙ ap (take n) e ∙ take_at vs.saved (vs.current ∷ []) n (sym l))
  where
    last : {A : Type 0} (xs : List A) (x y : A) (n : ℕ) → slice_get (xs ++ x ∷ []) n ≡ Some y → n ≡ length xs → y ≡ x
    last [] x y zero e l = cc
    last [] x y (suc n) e l = absurd (omega (arith, l))
    last (z ∷ zs) x y zero e l = absurd (omega (arith, l))
    last (z ∷ zs) x y (suc n) e l = last zs x y n e (omega (arith, l))

pub mark_rowed : {T : Type 0} (places : List Place) (vs next : Lists T) (ws more : Lists ℕ) → IsRowed places vs ws → next ≡ record vs { saved = vs.saved ++ vs.current ∷ [] } → more ≡ record ws { saved = ws.saved ++ ws.current ∷ [] } → IsRowed places next more
mark_rowed {T} places vs next ws more h e f = subst (λ (n : Lists T). IsRowed places n more) (sym e) (subst (λ m. IsRowed places (record vs { saved = vs.saved ++ vs.current ∷ [] }) m) (sym f) (record {
  count = h.count;
  lists = All-push (λ v. length v ≡ length places) vs.saved vs.current h.lists h.count;
  rows = All-push (λ w. length w ≡ length ws.current) ws.saved ws.current h.rows refl;
  marks = length_push vs.saved vs.current ∙ ap (λ n. n + 1) h.marks ∙ sym (length_push ws.saved ws.current);
  layout = h.layout;
}))

pub mark_is : {T : Type 0} (places : List Place) (vs next : Lists T) (ws more : Lists ℕ) → IsRowed places vs ws → next ≡ record vs { saved = vs.saved ++ vs.current ∷ [] } → more ≡ record ws { saved = ws.saved ++ ws.current ∷ [] } → with_rows places next more ≡ record (with_rows places vs ws) { saved = (with_rows places vs ws).saved ++ (with_rows places vs ws).current ∷ [] }
mark_is places vs next ws more h e f = ap (λ n. with_rows places n more) e ∙ ap (λ m. with_rows places (record vs { saved = vs.saved ++ vs.current ∷ [] }) m) f ∙ ap (λ s. seen (with_rows places vs ws).current s) (saved_push places vs.saved ws.saved vs.current ws.current h.marks)

-- the lists of a mark in the place of the current ones
pub undo_rowed : {T : Type 0} (places : List Place) (vs next : Lists T) (ws more : Lists ℕ) (n : ℕ) → IsRowed places vs ws → slice_get vs.saved n ≡ Some next.current → slice_get ws.saved n ≡ Some more.current → n < length vs.saved → (next.saved ≡ take n vs.saved) × (more.saved ≡ take n ws.saved) ⊎ (next.saved ≡ vs.saved) × (more.saved ≡ ws.saved) → IsRowed places next more
undo_rowed {T} places vs next ws more n h e f b s = record {
  count = value;
  lists = side s;
  rows = words s;
  marks = marks s;
  layout = subst (λ m. IsLayout places m) (sym word) h.layout;
}
  where
    of_some : {A : Type 0} (P : A → Type 0) (xs : List A) (n : ℕ) (x : A) → All P xs → slice_get xs n ≡ Some x → P x
    of_some P [] n x h e = absurd (cc)
    of_some P (y ∷ ys) zero x h e = subst P (some y x e) (h zero y (omega arith))
      where
        some : {A : Type 0} (a b : A) → Some a ≡ Some b → a ≡ b
        some a b e = cc
    of_some P (y ∷ ys) (suc n) x h e = of_some P ys n x (λ k d b. h (suc k) d (omega (arith, b))) e

    value : length next.current ≡ length places
    value = of_some (λ v. length v ≡ length places) vs.saved n next.current h.lists e

    word : length more.current ≡ length ws.current
    word = of_some (λ w. length w ≡ length ws.current) ws.saved n more.current h.rows f

    side : (next.saved ≡ take n vs.saved) × (more.saved ≡ take n ws.saved) ⊎ (next.saved ≡ vs.saved) × (more.saved ≡ ws.saved) → All (λ v. length v ≡ length places) next.saved
    side (inl p) = subst (λ (xs : List (List T)). All (λ v. length v ≡ length places) xs) (sym p.0) (All-take (λ v. length v ≡ length places) n vs.saved h.lists)
    side (inr p) = subst (λ (xs : List (List T)). All (λ v. length v ≡ length places) xs) (sym p.0) h.lists

    words : (next.saved ≡ take n vs.saved) × (more.saved ≡ take n ws.saved) ⊎ (next.saved ≡ vs.saved) × (more.saved ≡ ws.saved) → All (λ w. length w ≡ length more.current) more.saved
    words (inl p) = subst (λ m. All (λ w. length w ≡ m) more.saved) (sym word) (subst (λ (xs : List (List ℕ)). All (λ w. length w ≡ length ws.current) xs) (sym p.1) (All-take (λ w. length w ≡ length ws.current) n ws.saved h.rows))
    words (inr p) = subst (λ m. All (λ w. length w ≡ m) more.saved) (sym word) (subst (λ (xs : List (List ℕ)). All (λ w. length w ≡ length ws.current) xs) (sym p.1) h.rows)

    marks : (next.saved ≡ take n vs.saved) × (more.saved ≡ take n ws.saved) ⊎ (next.saved ≡ vs.saved) × (more.saved ≡ ws.saved) → length next.saved ≡ length more.saved
    marks (inl p) = ap length p.0 ∙ length-take n vs.saved ∙ ap (min n) h.marks ∙ sym (ap length p.1 ∙ length-take n ws.saved)
    marks (inr p) = ap length p.0 ∙ h.marks ∙ sym (ap length p.1)
