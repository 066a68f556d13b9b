-- Laws of names and their numbers.
use Rattle.std.proofs.Common.{◌≡◌, ℕ, zero, suc, ◌+◌, ◌<◌, List, [], ◌∷◌, ◌++◌, length, map, get_or, Bool, true, false, cond, Option, Some, None, refl, sym, ap, subst, ◌∙◌, arith}
use Rattle.std.specs.Prelude.{option_map, is_some, ◌||◌, if◌then◌else◌}
use Rattle.std.specs.Str.{bytes_eq}
use Rattle.std.proofs.lemmas.List.{map-append, length-map}
use Rattle.std.proofs.lemmas.Slice.Eq.{bytes_eq-Decides}
use Rattle.ms_syntax.specs.declared.token.Place.{Place}
use Rattle.ms_syntax.specs.declared.tree.Binder.{Binder}
use Rattle.ms_syntax.specs.Tree.{Names, names_view}
use Rattle.ms_declarations.specs.Numbering.{number_of}
use Rattle.ms_declarations.specs.Declaring.{place_of}

-- a test and what it tells
pub data Test (u w : List ℕ) : Bool → Type 0 where
  same : u ≡ w → Test u w true
  other : (u ≡ w → ⊥) → Test u w false

pub test : (u w : List ℕ) → Test u w (bytes_eq u w)
test u w = go (bytes_eq u w) refl where
  go : (b : Bool) → bytes_eq u w ≡ b → Test u w b
  go true e = same ((bytes_eq-Decides u w).0 e)
  go false e = other (λ p. let wrong : true ≡ false = sym ((bytes_eq-Decides u w).1 p) ∙ e in cc)

if_some : (b : Bool) (n : ℕ) (o : Option ℕ) → (if b then Some n else o) ≡ None → (b ≡ false) × (o ≡ None)
if_some true n o e = absurd (let wrong : Some n ≡ None = e in cc)
if_some false n o e = (refl, e)

none_before : (o : Option ℕ) → option_map (λ k. suc k) o ≡ None → o ≡ None
none_before None e = refl
none_before (Some k) e = absurd (let wrong : Some (suc k) ≡ None = e in cc)

pub number_push : (ns : Names) (n : Place × List ℕ) → number_of ns n.1 ≡ None → (w : List ℕ)
    → number_of (ns ++ n ∷ []) w ≡ (if bytes_eq n.1 w then Some (length ns) else number_of ns w)
number_push [] n e w = refl
number_push (m ∷ ns) n e w =
    let first = if_some (bytes_eq m.1 n.1) 0 (option_map (λ k. suc k) (number_of ns n.1)) e in
    let rest = number_push ns n (none_before (number_of ns n.1) first.1) w in
    ap (λ o. if bytes_eq m.1 w then Some 0 else option_map (λ k. suc k) o) rest ∙ go (bytes_eq m.1 w) (bytes_eq n.1 w) (test m.1 w) (test n.1 w) first.0 where
      go : (a b : Bool) → Test m.1 w a → Test n.1 w b → bytes_eq m.1 n.1 ≡ false
          → (if a then Some 0 else option_map (λ k. suc k) (if b then Some (length ns) else number_of ns w)) ≡ (if b then Some (suc (length ns)) else (if a then Some 0 else option_map (λ k. suc k) (number_of ns w)))
      go true true (same p) (same q) apart = absurd (let wrong : true ≡ false = sym ((bytes_eq-Decides m.1 n.1).1 (p ∙ sym q)) ∙ apart in cc)
      go true false t u apart = refl
      go false true t u apart = refl
      go false false t u apart = refl

pub number_none : (ns : Names) (w : List ℕ) → number_of ns w ≡ None → place_of ns w ≡ None
number_none [] w e = refl
number_none (n ∷ ns) w e = go (λ r. number_none ns w r) (bytes_eq n.1 w) e where
  go : (number_of ns w ≡ None → place_of ns w ≡ None) → (b : Bool) → (if b then Some 0 else option_map (λ k. suc k) (number_of ns w)) ≡ None → (if b then Some n.0 else place_of ns w) ≡ None
  go rest true e = absurd (let wrong : Some 0 ≡ None = e in cc)
  go rest false e = rest (none_before (number_of ns w) e)

pub place_none : (ns : Names) (w : List ℕ) → place_of ns w ≡ None → number_of ns w ≡ None
place_none [] w e = refl
place_none (n ∷ ns) w e = go (λ r. place_none ns w r) (bytes_eq n.1 w) e where
  go : (place_of ns w ≡ None → number_of ns w ≡ None) → (b : Bool) → (if b then Some n.0 else place_of ns w) ≡ None → (if b then Some 0 else option_map (λ k. suc k) (number_of ns w)) ≡ None
  go rest true e = absurd (let wrong : Some n.0 ≡ None = e in cc)
  go rest false e = ap (option_map (λ k. suc k)) (rest e)

number_some : (o : Option ℕ) (k : ℕ) → option_map (λ j. suc j) o ≡ Some k → (j : ℕ) × (o ≡ Some j) × (k ≡ suc j)
number_some None k e = absurd (let wrong : None ≡ Some k = e in cc)
number_some (Some j) k e = (j, refl, (let both : Some (suc j) ≡ Some k = e in cc))

-- the number leads to the name and its place
pub number_place : (bs : List Binder) (w : List ℕ) (k : ℕ) → number_of (names_view bs) w ≡ Some k
    → (k < length bs) × ((d : Binder) → place_of (names_view bs) w ≡ Some (get_or bs k d).place)
number_place [] w k e = absurd (let wrong : None ≡ Some k = e in cc)
number_place (b ∷ bs) w k e = go (λ j r. number_place bs w j r) (bytes_eq b.name w) e where
  go : ((j : ℕ) → number_of (names_view bs) w ≡ Some j → (j < length bs) × ((d : Binder) → place_of (names_view bs) w ≡ Some (get_or bs j d).place))
      → (t : Bool) → (if t then Some 0 else option_map (λ j. suc j) (number_of (names_view bs) w)) ≡ Some k
      → (k < suc (length bs)) × ((d : Binder) → (if t then Some b.place else place_of (names_view bs) w) ≡ Some (get_or (b ∷ bs) k d).place)
  go rest true e = (
    let is : 0 ≡ k = (let both : Some 0 ≡ Some k = e in cc) in omega arith,
    λ d. subst (λ j. Some b.place ≡ Some (get_or (b ∷ bs) j d).place) (let is : 0 ≡ k = (let both : Some 0 ≡ Some k = e in cc) in is) refl,
  )
  go below false e =
      let s = number_some (number_of (names_view bs) w) k e in
      let rest = below s.0 s.1 in (
        let k_is : k ≡ suc s.0 = s.2 in omega (arith, rest.0),
        λ d. subst (λ j. place_of (names_view bs) w ≡ Some (get_or (b ∷ bs) j d).place) (sym s.2) (rest.1 d),
      )

-- one more binder has the next number
pub added_number : (bs : List Binder) (b : Binder) (n : ℕ) → n ≡ length bs → number_of (names_view bs) b.name ≡ None → (w : List ℕ)
    → number_of (names_view (bs ++ b ∷ [])) w ≡ cond (bytes_eq b.name w) (Some n) (number_of (names_view bs) w)
added_number bs b n e none w =
    ap (λ ns. number_of ns w) (map-append (λ (x : Binder). (x.place, x.name)) bs (b ∷ []))
    ∙ number_push (names_view bs) (b.place, b.name) none w
    ∙ ap (λ k. cond (bytes_eq b.name w) (Some k) (number_of (names_view bs) w)) (length-map bs (λ (x : Binder). (x.place, x.name)) ∙ sym e)

-- which names there are, with one more
pub once : (ns : Names) (n : Place × List ℕ) → number_of ns n.1 ≡ None → (w : List ℕ)
    → is_some (number_of (ns ++ n ∷ []) w) ≡ (is_some (number_of ns w) || bytes_eq n.1 w)
once ns n none w = ap is_some (number_push ns n none w) ∙ go (bytes_eq n.1 w) (number_of ns w) where
  go : (b : Bool) (o : Option ℕ) → is_some (if b then Some (length ns) else o) ≡ (is_some o || b)
  go true None = refl
  go true (Some k) = refl
  go false None = refl
  go false (Some k) = refl
