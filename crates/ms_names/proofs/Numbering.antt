-- Numbers of names in a list of names.
use Rattle.std.proofs.Common.{◌≡◌, ℕ, suc, ◌<◌, Bool, true, false, cond, List, [], ◌∷◌, ◌++◌, length, slice_get, get_or, take, ◌+◌, Option, None, Some, is_some, option_map, refl, ap, sym, ◌∙◌, subst, true≢false, arith, if◌then◌else◌}
use Rattle.std.proofs.lemmas.Slice.Eq.{bytes_eq-Decides}
use Rattle.std.proofs.lemmas.List.{map-append, take_more, length-take, length-map}
use Rattle.std.proofs.lemmas.Option.{slice_get-map}
use Rattle.std.specs.Str.{bytes_eq}
use Rattle.ms_built_ins.specs.BuiltIns.{or_else}
use Rattle.ms_typing.specs.Meaning.{Globals, Meaning, declared}
use Rattle.ms_code.specs.References.{number_among}
use Rattle.ms_names.specs.declared.declared.Declared.{Declared}
use Rattle.ms_names.specs.Globals.{declared_of, globals_view, stored_of}

-- ---- a name more

or_none : (o : Option ℕ) → or_else o None ≡ o
or_none None = refl
or_none (Some n) = refl

some_or : (o p : Option ℕ) → is_some o ≡ true → o ≡ or_else o p
some_or (Some n) p h = refl
some_or None p h = absurd (true≢false (sym h))

none_or : (o p : Option ℕ) → is_some o ≡ false → p ≡ or_else o p
none_or None p h = refl
none_or (Some n) p h = absurd (true≢false h)

same : (k w : List ℕ) → bytes_eq k w ≡ true → k ≡ w
same k w h = (bytes_eq-Decides k w).0 h

-- a name that has a number keeps it
pub kept : (f : List ℕ → Option ℕ) (k : List ℕ) (n : ℕ) → is_some (f k) ≡ true → (w : List ℕ) → f w ≡ or_else (f w) (if bytes_eq k w then Some n else None)
kept f k n h w = by (bytes_eq k w) refl
  where
    by : (b : Bool) → bytes_eq k w ≡ b → f w ≡ or_else (f w) (if b then Some n else None)
    by true e = some_or (f w) (Some n) (subst (λ u. is_some (f u) ≡ true) (same k w e) h)
    by false e = sym (or_none (f w))

-- and one that has none is given it
pub added : (f : List ℕ → Option ℕ) (k : List ℕ) (n : ℕ) → is_some (f k) ≡ false → (w : List ℕ) → cond (bytes_eq k w) (Some n) (f w) ≡ or_else (f w) (if bytes_eq k w then Some n else None)
added f k n h w = by (bytes_eq k w) refl
  where
    by : (b : Bool) → bytes_eq k w ≡ b → cond b (Some n) (f w) ≡ or_else (f w) (if b then Some n else None)
    by true e = none_or (f w) (Some n) (subst (λ u. is_some (f u) ≡ false) (same k w e) h)
    by false e = sym (or_none (f w))

one_number : (b : Bool) → (if b then Some 0 else option_map suc None) ≡ or_else None (if b then Some 0 else None)
one_number true = refl
one_number false = refl

numbered_later : (b : Bool) (n : ℕ) (o : Option ℕ) → option_map suc (or_else o (if b then Some n else None)) ≡ or_else (option_map suc o) (if b then Some (suc n) else None)
numbered_later b n (Some m) = refl
numbered_later true n None = refl
numbered_later false n None = refl

-- the last one counts where no other one is declared so
pub number_last : (gs : Globals) (g : List ℕ × Meaning) (w : List ℕ) → number_among (gs ++ (g ∷ [])) w ≡ or_else (number_among gs w) (if bytes_eq g.0 w then Some (length gs) else None)
number_last [] g w = one_number (bytes_eq g.0 w)
number_last (x ∷ gs) g w =
    elim (bytes_eq x.0 w) as (λ b. (if b then Some 0 else option_map suc (number_among (gs ++ (g ∷ [])) w)) ≡ or_else (if b then Some 0 else option_map suc (number_among gs w)) (if bytes_eq g.0 w then Some (suc (length gs)) else None))
    [ true ↦ refl | false ↦ ap (option_map suc) (number_last gs g w) ∙ numbered_later (bytes_eq g.0 w) (length gs) (number_among gs w) ]

-- ---- what is declared under a number

pub number_missing : (gs : Globals) (w : List ℕ) → number_among gs w ≡ None → declared gs w ≡ None
number_missing [] w h = refl
number_missing (g ∷ gs) w h = by (bytes_eq g.0 w) (number_among gs w) h (number_missing gs w)
  where
    by : (b : Bool) (o : Option ℕ) → (if b then Some 0 else option_map suc o) ≡ None → (o ≡ None → declared gs w ≡ None) → (if b then Some g.1 else declared gs w) ≡ None
    by true o h k = absurd (let wrong : Some 0 ≡ None = h in cc)
    by false None h k = k refl
    by false (Some n) h k = absurd (let wrong : Some (suc n) ≡ None = h in cc)

pub number_within : (gs : Globals) (w : List ℕ) (n : ℕ) → number_among gs w ≡ Some n → n < length gs
number_within [] w n h = absurd (let wrong : None ≡ Some n = h in cc)
number_within (g ∷ gs) w n h = by (bytes_eq g.0 w) (number_among gs w) h (λ m. number_within gs w m)
  where
    by : (b : Bool) (o : Option ℕ) → (if b then Some 0 else option_map suc o) ≡ Some n → ((m : ℕ) → o ≡ Some m → m < length gs) → n < suc (length gs)
    by true o h k = let zero_is : Some 0 ≡ Some n = h in let i : 0 ≡ n = cc in omega arith
    by false None h k = absurd (let wrong : None ≡ Some n = h in cc)
    by false (Some m) h k = let later : Some (suc m) ≡ Some n = h in let i : suc m ≡ n = cc in let l = k m refl in omega arith

pub number_found : (gs : Globals) (w : List ℕ) (n : ℕ) → number_among gs w ≡ Some n → declared gs w ≡ option_map (λ g. g.1) (slice_get gs n)
number_found [] w n h = absurd (let wrong : None ≡ Some n = h in cc)
number_found (g ∷ gs) w n h = by (bytes_eq g.0 w) (number_among gs w) h (λ m. number_found gs w m)
  where
    by : (b : Bool) (o : Option ℕ) → (if b then Some 0 else option_map suc o) ≡ Some n → ((m : ℕ) → o ≡ Some m → declared gs w ≡ option_map (λ x. x.1) (slice_get gs m))
        → (if b then Some g.1 else declared gs w) ≡ option_map (λ x. x.1) (slice_get (g ∷ gs) n)
    by true o h k = let zero_is : Some 0 ≡ Some n = h in let i : 0 ≡ n = cc in subst (λ m. Some g.1 ≡ option_map (λ x. x.1) (slice_get (g ∷ gs) m)) i refl
    by false None h k = absurd (let wrong : None ≡ Some n = h in cc)
    by false (Some m) h k = let later : Some (suc m) ≡ Some n = h in let i : suc m ≡ n = cc in subst (λ j. declared gs w ≡ option_map (λ x. x.1) (slice_get (g ∷ gs) j)) i (k m refl)

-- ---- as the code keeps them

pub numbers_more : (list : List Declared) (n : ℕ) (d : Declared) (f h : List ℕ → Option ℕ) → n < length list → d ≡ get_or list n d
    → ((w : List ℕ) → f w ≡ number_among (globals_view (take n list)) w) → ((w : List ℕ) → h w ≡ or_else (f w) (if bytes_eq d.name w then Some n else None))
    → (w : List ℕ) → h w ≡ number_among (globals_view (take (n + 1) list)) w
numbers_more list n d f h l e before step w =
    let last : Option ℕ = if bytes_eq d.name w then Some n else None in
    let long : length (globals_view (take n list)) ≡ n = omega (arith, length-map (take n list) declared_of, length-take n list) in
    let more : globals_view (take (n + 1) list) ≡ globals_view (take n list) ++ (declared_of d ∷ []) =
    ap globals_view (take_more list n d l ∙ ap (λ x. take n list ++ (x ∷ [])) (sym e)) ∙ map-append declared_of (take n list) (d ∷ []) in
    step w ∙ ap (λ o. or_else o last) (before w)
    ∙ sym (ap (λ gs. number_among gs w) more ∙ number_last (globals_view (take n list)) (declared_of d) w
    ∙ ap (λ k. or_else (number_among (globals_view (take n list)) w) (if bytes_eq d.name w then Some k else None)) long)

pub declared_number : (list : List Declared) (w : List ℕ) (n : ℕ) (d : Declared) → number_among (globals_view list) w ≡ Some n → slice_get list n ≡ Some d
    → Some (stored_of d.meaning) ≡ declared (globals_view list) w
declared_number list w n d h e =
    sym (number_found (globals_view list) w n h ∙ ap (option_map (λ g. g.1)) (slice_get-map declared_of list n ∙ ap (option_map declared_of) e))

pub declared_within : (list : List Declared) (w : List ℕ) (n : ℕ) → number_among (globals_view list) w ≡ Some n → n < length list
declared_within list w n h = let l = number_within (globals_view list) w n h in omega (arith, length-map list declared_of)
