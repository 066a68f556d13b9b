-- The store that copies.
use Rattle.std.proofs.Common.{◌≡◌, ℕ, ◌+◌, ◌<◌, ◌≤◌, List, [], ◌∷◌, ◌++◌, length, take, drop, map, get_or, refl, sym, ap, ◌∙◌, subst, arith, All, Bool, true, false, ◌&&◌, Some, slice_get, suc, zero}
use Rattle.std.specs.Prelude.{ℤ, slice_set, slice_index_or, ◌≢◌, ◌^◌}
use Rattle.std.proofs.lemmas.List.{map-set, length-set, length-take-le, length-append, length-map, get_or-map, take-map, map-append, get_or_default, take_at, take-take, get_or-take, get_or_push, drop_all, take_all, append-nil}
use Rattle.std.proofs.lemmas.List.Elements.{All-map, All-set, All-take, All-append, All-get_or, All-push}
use Rattle.std.proofs.lemmas.Simd.{map-map}
use Rattle.ms_num.specs.Span.{Span}
use Rattle.ms_num.specs.Ranges.{IsRanges, is_member}
use Rattle.ms_num.specs.Sets.{Set, IsSet, IsCut, set_of, set_size}
use Rattle.ms_num.proofs.SharedCounts.{size_among, cut_among}
use Rattle.ms_num.specs.Laws.{CutsAreOne, CutIsCut}
use Rattle.ms_cells.proofs.SharedLists.{map_step}
use Rattle.ms_cells.specs.Cells.{Lists, seen, grown, shrunk}
use Rattle.ms_store.specs.Stored.{set_at, lists_of, IsFilled, AllStay, NoneStays, Cuts}
use Rattle.ms_store.specs.Copied.{IsCopied}
use Rattle.ms_store.proofs.ListsOf.{set_at-lists, written_of}
use Rattle.ms_store.proofs.SharedCuts.{all_stay, smaller, cuts_written}

-- the numbers of a set, and what a cut keeps of them
abbrev pub KeptOf : (ℤ → Bool) → List Span → List Span → Type 0
KeptOf keep ss ts = (z : ℤ) → is_member ts z ≡ (is_member ss z && keep z)

is_cut : (keep : ℤ → Bool) (ss ts : List Span) → KeptOf keep ss ts → IsSet (set_of ts) → IsCut keep (set_of ss) (set_of ts)
is_cut keep ss ts h i = record { members = h; proper = i }

pub none_stays : (keep : ℤ → Bool) (ss ts : List Span) → KeptOf keep ss ts → (ts ≢ [] → 1 ≤ set_size (set_of ts)) → set_size (set_of ts) ≡ 0 → NoneStays keep (set_of ss)
none_stays keep ss [] h some e z m = dropped (is_member ss z) (keep z) m (sym (h z))
  where
    dropped : (a b : Bool) → a ≡ true → (a && b) ≡ false → b ≡ false
    dropped true b e f = f
    dropped false b e f = absurd (cc)
none_stays keep ss (t ∷ ts) h some e z m = absurd (let l = some (λ q. cc) in omega (arith, l, e))

empty_size : set_size (set_of []) ≡ 0
empty_size = refl

some_of_size : (ts : List Span) (n : ℕ) → n ≡ set_size (set_of ts) → (n ≡ 0 → ⊥) → ts ≢ []
some_of_size ts n e more f = more (e ∙ ap (λ xs. set_size (set_of xs)) f)

-- what is read of a list of sets
pub record IsRead (sets : List (List Span)) (v : ℕ) (x : List Span) : Type 0 where
  pub there : v < length sets
  pub value : x ≡ get_or sets v x
  pub filled : All IsFilled sets
  pub proper : x ≢ [] → IsSet (set_of x)

abbrev both_lists : List (List Span) → List (List (List Span)) → Lists Set
both_lists sets saved = lists_of set_of (record { current = sets; saved = saved })

read_default : (sets : List (List Span)) (v : ℕ) (x : List Span) → IsRead sets v x → get_or sets v [] ≡ x
read_default sets v x r = get_or_default sets v [] x r.there ∙ sym r.value

read_some : (sets : List (List Span)) (v : ℕ) (x : List Span) → IsRead sets v x → x ≢ []
read_some sets v x r e = r.filled v x r.there (sym r.value ∙ e)

kept_of : (keep : ℤ → Bool) (sets : List (List Span)) (v : ℕ) (x kept : List Span) → IsRead sets v x → KeptOf keep (slice_index_or sets v []) kept → KeptOf keep x kept
kept_of keep sets v x kept r h = subst (λ (ss : List Span). KeptOf keep ss kept) (read_default sets v x r) h

pub put_kept : CutIsCut → (keep : ℤ → Bool) (sets : List (List Span)) (saved : List (List (List Span))) (v : ℕ) (x kept : List Span) (before after : ℕ) → IsRead sets v x → before ≡ set_size (set_of x) → after ≡ set_size (set_of kept) → (after ≡ 0 → ⊥) → after ≡ before → (kept ≢ [] → IsSet (set_of kept)) → KeptOf keep (slice_index_or sets v []) kept → AllStay keep (set_at (both_lists sets saved) v)
put_kept law keep sets saved v x kept before after r eb ea more same proper h =
    let at = set_at-lists set_of (record { current = sets; saved = saved }) v x r.there r.value in
    let i = r.proper (read_some sets v x r) in
    let c = is_cut keep x kept (kept_of keep sets v x kept r h) (proper (some_of_size kept after ea more)) in
    subst (λ (s : Set). AllStay keep s) (sym at) (all_stay law keep (set_of x) (set_of kept) i c (sym ea ∙ same ∙ eb))

pub put_changed : CutsAreOne → CutIsCut → (keep : ℤ → Bool) (sets : List (List Span)) (saved : List (List (List Span))) (v : ℕ) (x kept : List Span) (before after : ℕ) → IsRead sets v x → before ≡ set_size (set_of x) → after ≡ set_size (set_of kept) → (after ≡ 0 → ⊥) → (after ≡ before → ⊥) → (kept ≢ [] → IsSet (set_of kept)) → KeptOf keep (slice_index_or sets v []) kept → Cuts keep v (both_lists sets saved) (both_lists (slice_set sets v kept) saved)
put_changed one law keep sets saved v x kept before after r eb ea more other proper h =
    let l : Lists (List Span) = record { current = sets; saved = saved } in
    let at = set_at-lists set_of l v x r.there r.value in
    let i = r.proper (read_some sets v x r) in
    let c = is_cut keep x kept (kept_of keep sets v x kept r h) (proper (some_of_size kept after ea more)) in
    let least = size_among (set_of x) (set_of kept) i c.proper (cut_among keep (set_of x) (set_of kept) c) in
    let less : set_size (set_of kept) < set_size (set_of x) = strictly _ _ least (λ e. other (ea ∙ e ∙ sym eb)) in
    cuts_written one law keep v (lists_of set_of l) (both_lists (slice_set sets v kept) saved) (set_of x) (set_of kept) at i c less (written_of set_of l (record { current = slice_set sets v kept; saved = saved }) v kept refl)
  where
    strictly : (a b : ℕ) → a ≤ b → (a ≡ b → ⊥) → a < b
    strictly a b l n = grind (arith, l, n)

-- ---- the invariant

pub copied_write : (l : Lists (List Span)) (v : ℕ) (x : List Span) → IsFilled x → IsCopied l → IsCopied (record l { current = slice_set l.current v x })
copied_write l v x f h = record {
  few = subst (λ n. n < 2 ^ 32) (sym (length-set l.current v x)) h.few;
  lengths = λ k d b. h.lengths k d b ∙ sym (length-set l.current v x);
  filled = All-set IsFilled l.current v x f h.filled;
  saved = h.saved;
}

pub copied_put : (l : Lists (List Span)) (sets : List (List Span)) → length sets ≡ length l.current → All IsFilled sets → IsCopied l → IsCopied (record l { current = sets })
copied_put l sets e f h = record {
  few = subst (λ n. n < 2 ^ 32) (sym e) h.few;
  lengths = λ k d b. h.lengths k d b ∙ sym e;
  filled = f;
  saved = h.saved;
}

pub copied_shrunk : (l : Lists (List Span)) (n : ℕ) → n ≤ length l.current → IsCopied l → IsCopied (shrunk l n)
copied_shrunk l n b h = record {
  few = let f = h.few in omega (arith, f, length-take-le n l.current b);
  lengths = All-map (λ s. length s ≡ length (take n l.current)) (λ s. take n s) l.saved (λ k d c. let e = h.lengths k d c in length-take-le n (get_or l.saved k d) (omega (arith, b, e)) ∙ sym (length-take-le n l.current b));
  filled = All-take IsFilled n l.current h.filled;
  saved = All-map (λ s. All IsFilled s) (λ s. take n s) l.saved (λ k d c. All-take IsFilled n (get_or l.saved k d) (h.saved k d c));
}

pub copied_grown : (l : Lists (List Span)) (xs : List (List Span)) → length l.current + length xs < 2 ^ 32 → All IsFilled xs → IsCopied l → IsCopied (grown l xs)
copied_grown l xs b f h = record {
  few = omega (arith, b, length-append l.current xs);
  lengths = All-map (λ s. length s ≡ length (l.current ++ xs)) (λ s. s ++ xs) l.saved (λ k d c. length-append (get_or l.saved k d) xs ∙ ap (λ n. n + length xs) (h.lengths k d c) ∙ sym (length-append l.current xs));
  filled = All-append IsFilled l.current xs h.filled f;
  saved = All-map (λ s. All IsFilled s) (λ s. s ++ xs) l.saved (λ k d c. All-append IsFilled (get_or l.saved k d) xs (h.saved k d c) f);
}

pub copied_marked : (l : Lists (List Span)) → IsCopied l → IsCopied (record l { saved = l.saved ++ l.current ∷ [] })
copied_marked l h = record {
  few = h.few;
  lengths = All-push (λ s. length s ≡ length l.current) l.saved l.current h.lengths refl;
  filled = h.filled;
  saved = All-push (λ s. All IsFilled s) l.saved l.current h.saved h.filled;
}

-- one of the saved lists in the place of the current one
pub copied_undone : (l : Lists (List Span)) (sets : List (List Span)) (rest : List (List (List Span))) (n : ℕ) → take (n + 1) l.saved ≡ rest ++ sets ∷ [] → n < length l.saved → IsCopied l → IsCopied (record { current = sets; saved = rest })
copied_undone l sets rest n e b h =
    let kept : All (λ s. length s ≡ length l.current) (rest ++ sets ∷ []) = subst (λ (xs : List (List (List Span))). All (λ s. length s ≡ length l.current) xs) e (All-take (λ s. length s ≡ length l.current) (n + 1) l.saved h.lengths) in
    let some : All (λ s. All IsFilled s) (rest ++ sets ∷ []) = subst (λ (xs : List (List (List Span))). All (λ s. All IsFilled s) xs) e (All-take (λ s. All IsFilled s) (n + 1) l.saved h.saved) in
    let same : length sets ≡ length l.current = last (λ s. length s ≡ length l.current) rest sets kept in record {
      few = subst (λ m. m < 2 ^ 32) (sym same) h.few;
      lengths = λ k d c. front (λ s. length s ≡ length l.current) rest sets kept k d c ∙ sym same;
      filled = last (λ s. All IsFilled s) rest sets some;
      saved = front (λ s. All IsFilled s) rest sets some;
    }
  where
    last : {A : Type 0} (P : A → Type 0) (xs : List A) (x : A) → All P (xs ++ x ∷ []) → P x
    last P [] x h = h 0 x (omega arith)
    last P (y ∷ ys) x h = last P ys x (λ k d b. h (suc k) d (omega (arith, b)))

    front : {A : Type 0} (P : A → Type 0) (xs : List A) (x : A) → All P (xs ++ x ∷ []) → All P xs
    front P [] x h k d b = absurd (omega (arith, b))
    front P (y ∷ ys) x h zero d b = h zero d (omega arith)
    front P (y ∷ ys) x h (suc k) d b = front P ys x (λ j e c. h (suc j) e (omega (arith, c))) k d (omega (arith, b))

-- the saved list that a list without the later ones ends with
pub last_of_saved : {A : Type 0} (saved rest : List A) (x : A) (n : ℕ) → take (n + 1) saved ≡ rest ++ x ∷ [] → n < length saved → (slice_get saved n ≡ Some x) × (rest ≡ take n saved)
last_of_saved saved rest x n e b = (get_some saved n x (omega (arith, b)) got, kept)
  where
    get_some : {A : Type 0} (xs : List A) (n : ℕ) (x : A) → n < length xs → get_or xs n x ≡ x → slice_get xs n ≡ Some x
    get_some [] n x b e = absurd (omega (arith, b))
    get_some (y ∷ ys) zero x b e = ap Some e
    get_some (y ∷ ys) (suc n) x b e = get_some ys n x (omega (arith, b)) e

    len : length rest ≡ n
    len = omega (arith, ap length e, length-take-le (n + 1) saved (omega (arith, b)), length-append rest (x ∷ []))

    kept : rest ≡ take n saved
    kept = sym (take_at rest (x ∷ []) n len) ∙ ap (take n) (sym e) ∙ take-take n (n + 1) saved (omega arith)

    got : get_or saved n x ≡ x
    got = sym (get_or-take (n + 1) saved n x (omega arith)) ∙ ap (λ xs. get_or xs n x) e ∙ get_or_push rest x x n len

-- the same of what is seen of some lists
pub seen_last : {A B : Type 0} (f : A → B) (all rest : List A) (x : A) (n : ℕ) → take n all ≡ rest ++ x ∷ [] → take n (map f all) ≡ map f rest ++ f x ∷ []
seen_last f all rest x n e = take-map f n all ∙ ap (map f) e ∙ map-append f rest (x ∷ [])

pub grown_parts : {V A : Type 0} (f : V → List A) (now : List A) (vs ws : List V) (before xs : List A) → now ≡ before ++ xs → map f ws ≡ map (λ v. f v ++ xs) vs → seen now (map f ws) ≡ grown (seen before (map f vs)) xs
grown_parts f now vs ws before xs e g = ap (λ s. seen s (map f ws)) e ∙ ap (λ s. seen (before ++ xs) s) (g ∙ sym (map-map _ _ vs))

-- a loop over lists that each lose their end: one step, and the end
pub shorten_step : {V A : Type 0} (f : V → List A) (count : ℕ) (all items : List V) (i : ℕ) (x y : V) → i < length items → f y ≡ take count (f (get_or items i x)) → map f items ≡ map (λ s. take count s) (take i (map f all)) ++ drop i (map f all) → map f (slice_set items i y) ≡ map (λ s. take count s) (take (i + 1) (map f all)) ++ drop (i + 1) (map f all)
shorten_step f count all items i x y b e h =
    map-set f items i y ∙ map_step (λ s. take count s) (map f all) (map f items) i (f y) (f x) (omega (arith, b, length-map items f)) h (e ∙ ap (λ s. take count s) (sym (get_or-map f items i x (f x) b)))

pub shorten_end : {V A : Type 0} (f : V → List A) (count len i : ℕ) (all items : List V) → length items ≡ length all → length all ≤ len → length all ≤ i → map f items ≡ map (λ s. take count s) (take i (map f all)) ++ drop i (map f all) → map f (take len (items ++ drop (length items) all)) ≡ map (λ v. take count (f v)) all
shorten_end f count len i all items e l b h =
    ap (λ xs. map f (take len (items ++ xs))) (drop_all (length items) all (omega (arith, e))) ∙ ap (λ xs. map f (take len xs)) (append-nil items) ∙ ap (map f) (take_all len items (omega (arith, e, l)))
    ∙ h ∙ ap (λ xs. map (λ s. take count s) xs ++ drop i (map f all)) (take_all i (map f all) (omega (arith, b, length-map all f)))
    ∙ ap (λ xs. map (λ s. take count s) (map f all) ++ xs) (drop_all i (map f all) (omega (arith, b, length-map all f))) ∙ append-nil _ ∙ map-map _ _ all

pub shrunk_parts : {V A : Type 0} (f : V → List A) (now : List A) (vs ws : List V) (before : List A) (n : ℕ) → now ≡ take n before → map f ws ≡ map (λ v. take n (f v)) vs → seen now (map f ws) ≡ shrunk (seen before (map f vs)) n
shrunk_parts f now vs ws before n e g = ap (λ s. seen s (map f ws)) e ∙ ap (λ s. seen (take n before) s) (g ∙ sym (map-map _ _ vs))
