-- A list of files, each a name with its bytes, as the map that it stands for.
use Rattle.std.proofs.Common.{◌≡◌, ℕ, suc, ◌+◌, ◌<◌, Bool, true, false, cond, not, List, [], ◌∷◌, ◌++◌, Option, None, Some, length, refl, sym, ap, subst, ◌∙◌, arith, ◌≤◌, get_or, unwrap_or}
use Rattle.std.proofs.Math.ListN.{set}
use Rattle.std.specs.Str.{bytes_eq}
use Rattle.std.specs.List.{position, position_or_len}
use Rattle.std.specs.Ordering.{nat_cmp}
use Rattle.std.specs.Cmp.{IsTotalOrder}
use Rattle.std.specs.Cmp.Lexicographic.{slice_cmp}
use Rattle.std.specs.FinMap as map
use Rattle.std.specs.FinMap.{nat_cmp-IsAntisymmetric, slice_cmp-IsAntisymmetric, same_map, get-insert, get-from_entries, from_entries_push}
use Rattle.std.specs.FinMap.Entries as entries
use Rattle.std.proofs.lemmas.Cmp.{nat_list_cmp_total}
use Rattle.std.proofs.lemmas.Bool.{ltb-true, ltb-false}
use Rattle.std.proofs.lemmas.Slice.Eq.{bytes_eq-Decides}
use Rattle.std.proofs.lemmas.Map.Text.{is_eq-slice_cmp}

abbrev Entries : Type 0
Entries = List (List ℕ × List ℕ)

-- whether this is the entry of the name
abbrev pub is_at : List ℕ → List ℕ × List ℕ → Bool
is_at name file = bytes_eq name file.0

abbrev find : List ℕ → Entries → Option (List ℕ)
find = entries.find (slice_cmp nat_cmp)

-- the bytes of the first entry of the name
abbrev first_of : List ℕ → Entries → Option (List ℕ)
first_of name [] = None
first_of name (e ∷ es) = cond (is_at name e) (Some e.1) (first_of name es)

find-first_of : (name : List ℕ) (es : Entries) → find name es ≡ first_of name es
find-first_of name [] = refl
find-first_of name (e ∷ es) = λ i. cond (is_eq-slice_cmp name e.0 i) (Some e.1) (find-first_of name es i)

one_more : (n : ℕ) → suc n ≡ 1 + n
one_more n = omega arith

-- by the place of the first entry of the name
pub first_of-placed : (name : List ℕ) (es : Entries) (d : List ℕ × List ℕ) → position_or_len (is_at name) es < length es →
    first_of name es ≡ Some (get_or es (position_or_len (is_at name) es) d).1
first_of-placed name [] d short = absurd (omega arith)
first_of-placed name (e ∷ es) d short =
    elim (is_at name e) as (λ b. cond (not b) (1 + position_or_len (is_at name) es) 0 < length (e ∷ es) →
    cond b (Some e.1) (first_of name es) ≡ Some (get_or (e ∷ es) (cond (not b) (1 + position_or_len (is_at name) es) 0) d).1) [
      | true ↦ λ _. refl
      | false ↦ λ more.
          subst (λ k. first_of name es ≡ Some (get_or (e ∷ es) k d).1) (one_more (position_or_len (is_at name) es)) (first_of-placed name es d (omega arith))
    ] short

pub first_of-unplaced : (name : List ℕ) (es : Entries) → length es ≤ position_or_len (is_at name) es → first_of name es ≡ None
first_of-unplaced name [] far = refl
first_of-unplaced name (e ∷ es) far =
    elim (is_at name e) as (λ b. length (e ∷ es) ≤ cond (not b) (1 + position_or_len (is_at name) es) 0 →
    cond b (Some e.1) (first_of name es) ≡ None) [
      | true ↦ λ more. absurd (omega arith)
      | false ↦ λ more. first_of-unplaced name es (omega arith)
    ] far

shadowed : {A : Type 0} (b : Bool) (x y z : A) → cond b x z ≡ cond b x (cond b y z)
shadowed true x y z = refl
shadowed false x y z = refl

swapped : {A : Type 0} (a b : Bool) (x y z : A) → (a ≡ true → b ≡ true → ⊥) → cond a x (cond b y z) ≡ cond b y (cond a x z)
swapped true true x y z apart = absurd (apart refl refl)
swapped true false x y z apart = refl
swapped false b x y z apart = refl

apart : (q name key : List ℕ) → bytes_eq q name ≡ true → bytes_eq q key ≡ true → bytes_eq name key ≡ false → ⊥
apart q name key one two other =
    let same : name ≡ key = sym ((bytes_eq-Decides q name).0 one) ∙ (bytes_eq-Decides q key).0 two in
    let is : bytes_eq name key ≡ true = (bytes_eq-Decides name key).1 same in
    cc

-- a write over the first entry of the name
first_of-set : (q name bytes : List ℕ) (es : Entries) → position_or_len (is_at name) es < length es →
    first_of q (set es (position_or_len (is_at name) es) (name, bytes)) ≡ cond (bytes_eq q name) (Some bytes) (first_of q es)
first_of-set q name bytes [] short = absurd (omega arith)
first_of-set q name bytes (e ∷ es) short =
    elim (is_at name e) as (λ b. is_at name e ≡ b → cond (not b) (1 + position_or_len (is_at name) es) 0 < length (e ∷ es) →
    first_of q (set (e ∷ es) (cond (not b) (1 + position_or_len (is_at name) es) 0) (name, bytes)) ≡ cond (bytes_eq q name) (Some bytes) (first_of q (e ∷ es))) [
      | true ↦ λ here _.
          subst (λ key. cond (bytes_eq q name) (Some bytes) (first_of q es) ≡ cond (bytes_eq q name) (Some bytes) (cond (bytes_eq q key) (Some e.1) (first_of q es)))
          ((bytes_eq-Decides name e.0).0 here) (shadowed (bytes_eq q name) (Some bytes) (Some e.1) (first_of q es))
      | false ↦ λ other more.
          subst (λ k. first_of q (set (e ∷ es) k (name, bytes)) ≡ cond (bytes_eq q name) (Some bytes) (first_of q (e ∷ es)))
          (one_more (position_or_len (is_at name) es))
          (ap (cond (bytes_eq q e.0) (Some e.1)) (first_of-set q name bytes es (omega arith))
          ∙ swapped (bytes_eq q e.0) (bytes_eq q name) (Some e.1) (Some bytes) (first_of q es)
          (λ one two. apart q name e.0 two one other))
    ] refl short

abbrev total : IsTotalOrder (slice_cmp nat_cmp)
total = nat_list_cmp_total

abbrev tells_apart : map.IsAntisymmetric (slice_cmp nat_cmp)
tells_apart = slice_cmp-IsAntisymmetric nat_cmp-IsAntisymmetric

-- the map has the bytes of the first entry of each name
pub get-from_files : (es : Entries) (name : List ℕ) → map.get (map.from_entries {R = slice_cmp nat_cmp} es) name ≡ first_of name es
get-from_files es name = get-from_entries total es name ∙ find-first_of name es

-- a write over the first entry of the name puts it into the map
pub from_files-set : (es : Entries) (name bytes : List ℕ) → position_or_len (is_at name) es < length es →
    map.from_entries {R = slice_cmp nat_cmp} (set es (position_or_len (is_at name) es) (name, bytes)) ≡ map.insert (map.from_entries es) name bytes
from_files-set es name bytes short =
    same_map total tells_apart _ _
    (λ q. get-from_files _ q ∙ first_of-set q name bytes es short
    ∙ sym (get-insert total (map.from_entries es) name bytes q
    ∙ (λ i. cond (is_eq-slice_cmp q name i) (Some bytes) (get-from_files es q i))))

-- an entry of a new name at the end puts it into the map
pub from_files-push : (es : Entries) (name bytes : List ℕ) → first_of name es ≡ None →
    map.from_entries {R = slice_cmp nat_cmp} (es ++ (name, bytes) ∷ []) ≡ map.insert (map.from_entries es) name bytes
from_files-push es name bytes new = from_entries_push total tells_apart es name bytes (find-first_of name es ∙ new)

chosen : (b : Bool) (n i : ℕ) → cond b (Some n) None ≡ Some i → (b ≡ true) × (i ≡ n)
chosen true n i is = (refl, ap (λ o. unwrap_or o i) (sym is))
chosen false n i is = cc

unchosen : (b : Bool) (n : ℕ) → ◌≡◌ {A = Option ℕ} (cond b (Some n) None) None → b ≡ false
unchosen true n is = cc
unchosen false n is = refl

pub position-found : (name : List ℕ) (es : Entries) (i : ℕ) → position (is_at name) es ≡ Some i →
    (position_or_len (is_at name) es < length es) × (i ≡ position_or_len (is_at name) es)
position-found name es i is =
    let it = chosen _ _ _ is in
    (ltb-true _ _ it.0, it.1)

pub position-missed : (name : List ℕ) (es : Entries) → ◌≡◌ {A = Option ℕ} (position (is_at name) es) None →
    length es ≤ position_or_len (is_at name) es
position-missed name es is = ltb-false _ _ (unchosen _ _ is)

-- what the map has, by the place that was found
pub get-found : (name : List ℕ) (es : Entries) (i : ℕ) (d : List ℕ × List ℕ) → position (is_at name) es ≡ Some i →
    map.get (map.from_entries {R = slice_cmp nat_cmp} es) name ≡ Some (get_or es i d).1
get-found name es i d is =
    let it = position-found name es i is in
    get-from_files es name ∙ first_of-placed name es d it.0 ∙ ap (λ k. Some (get_or es k d).1) (sym it.1)

pub get-missed : (name : List ℕ) (es : Entries) → ◌≡◌ {A = Option ℕ} (position (is_at name) es) None →
    map.get (map.from_entries {R = slice_cmp nat_cmp} es) name ≡ None
get-missed name es is = get-from_files es name ∙ first_of-unplaced name es (position-missed name es is)

-- the map after the bytes are written over the entry that was found, or pushed where none was
pub files-found : (es : Entries) (name bytes : List ℕ) (i : ℕ) → position (is_at name) es ≡ Some i →
    map.from_entries {R = slice_cmp nat_cmp} (set es i (name, bytes)) ≡ map.insert (map.from_entries es) name bytes
files-found es name bytes i is =
    let it = position-found name es i is in
    subst (λ k. map.from_entries {R = slice_cmp nat_cmp} (set es k (name, bytes)) ≡ map.insert (map.from_entries es) name bytes)
    (sym it.1) (from_files-set es name bytes it.0)

pub files-missed : (es : Entries) (name bytes : List ℕ) → ◌≡◌ {A = Option ℕ} (position (is_at name) es) None →
    map.from_entries {R = slice_cmp nat_cmp} (es ++ (name, bytes) ∷ []) ≡ map.insert (map.from_entries es) name bytes
files-missed es name bytes is = from_files-push es name bytes (first_of-unplaced name es (position-missed name es is))
