-- Values by their names, one more after the other.
use Rattle.std.proofs.Common.{◌≡◌, ℕ, ◌<◌, Bool, true, false, List, [], ◌∷◌, ◌++◌, length, get_or, take, drop, ◌+◌, Option, None, Some, is_some, refl, ap, sym, subst, ◌∙◌, true≢false, if◌then◌else◌}
use Rattle.std.proofs.lemmas.Slice.Eq.{bytes_eq-Decides}
use Rattle.std.proofs.lemmas.List.{map-append, take_more, drop_more}
use Rattle.std.specs.Str.{bytes_eq}
use Rattle.ms_given.specs.declared.giving.Giving as code_giving
use Rattle.ms_given.specs.declared.source.Source.{Source}
use Rattle.ms_given.specs.Givings.{Giving, has_value, repeated, source_among}
use Rattle.ms_given.specs.Views.{giving_of, givings_of}

same : (k w : List ℕ) → bytes_eq k w ≡ true → k ≡ w
same k w h = (bytes_eq-Decides k w).0 h

-- one value more, for a name that has none
pub source_last : (gs : List Giving) (g : Giving) (w : List ℕ) → has_value gs g.name ≡ false
    → source_among (gs ++ (g ∷ [])) w ≡ (if bytes_eq g.name w then Some g.source else source_among gs w)
source_last [] g w h = refl
source_last (x ∷ gs) g w h = by (bytes_eq x.name w) refl (bytes_eq x.name g.name) refl h (source_last gs g w)
  where
    by : (b : Bool) → bytes_eq x.name w ≡ b → (c : Bool) → bytes_eq x.name g.name ≡ c → is_some (if c then Some x.source else source_among gs g.name) ≡ false
        → (has_value gs g.name ≡ false → source_among (gs ++ (g ∷ [])) w ≡ (if bytes_eq g.name w then Some g.source else source_among gs w))
        → (if b then Some x.source else source_among (gs ++ (g ∷ [])) w) ≡ (if bytes_eq g.name w then Some g.source else (if b then Some x.source else source_among gs w))
    by b e true d h k = absurd (true≢false h)
    by false e false d h k = k h
    by true e false d h k = taken (bytes_eq g.name w) refl
      where
        taken : (a : Bool) → bytes_eq g.name w ≡ a → Some x.source ≡ (if a then Some g.source else Some x.source)
        taken false i = refl
        taken true i = absurd (true≢false (sym ((bytes_eq-Decides x.name g.name).1 (same x.name w e ∙ sym (same g.name w i))) ∙ d))

pub repeated_later : (before : List Giving) (g : Giving) (more : List Giving) → has_value before g.name ≡ false
    → repeated before (g ∷ more) ≡ repeated (before ++ (g ∷ [])) more
repeated_later before g more h = ap (λ b. if b then Some g else repeated (before ++ (g ∷ [])) more) h

-- ---- as the code keeps them

pub maps_more : (list : List code_giving.Giving) (n : ℕ) (d : code_giving.Giving) (f h : List ℕ → Option Source) → n < length list → d ≡ get_or list n d
    → is_some (f d.name.now) ≡ false
    → (repeated [] (givings_of list) ≡ repeated (givings_of (take n list)) (givings_of (drop n list))) × ((w : List ℕ) → f w ≡ source_among (givings_of (take n list)) w)
    → ((w : List ℕ) → h w ≡ (if bytes_eq d.name.now w then Some d.source else f w))
    → (repeated [] (givings_of list) ≡ repeated (givings_of (take (n + 1) list)) (givings_of (drop (n + 1) list)))
    × ((w : List ℕ) → h w ≡ source_among (givings_of (take (n + 1) list)) w)
maps_more list n d f h l e new before step =
    let none : has_value (givings_of (take n list)) d.name.now ≡ false = ap is_some (sym (before.1 d.name.now)) ∙ new in
    let taken : givings_of (take (n + 1) list) ≡ givings_of (take n list) ++ (giving_of d ∷ []) =
    ap givings_of (take_more list n d l ∙ ap (λ x. take n list ++ (x ∷ [])) (sym e)) ∙ map-append giving_of (take n list) (d ∷ []) in
    let left : givings_of (drop n list) ≡ giving_of d ∷ givings_of (drop (n + 1) list) =
    ap givings_of (drop_more list n d l ∙ ap (λ x. x ∷ drop (n + 1) list) (sym e)) in (
      before.0 ∙ ap (repeated (givings_of (take n list))) left ∙ repeated_later (givings_of (take n list)) (giving_of d) (givings_of (drop (n + 1) list)) none
          ∙ ap (λ gs. repeated gs (givings_of (drop (n + 1) list))) (sym taken),
      λ w. step w ∙ ap (λ o. if bytes_eq d.name.now w then Some d.source else o) (before.1 w)
          ∙ sym (source_last (givings_of (take n list)) (giving_of d) w none) ∙ ap (λ gs. source_among gs w) (sym taken),
    )
