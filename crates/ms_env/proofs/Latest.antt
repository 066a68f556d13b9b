-- Lists with the latest first.
use Rattle.std.proofs.Common.{◌≡◌, ℕ, zero, suc, ◌+◌, ◌-◌, ◌<◌, refl, ap, sym, ◌∙◌, List, [], ◌∷◌, ◌++◌, length, take, drop, get_or, Bool, true, ◌&&◌, add-one, arith}
use Rattle.std.proofs.lemmas.List.{map-append}
use Rattle.std.specs.Prelude.{reverse}
use Rattle.std.specs.List.{list_all}
use Rattle.std.proofs.Math.Seq.{take-suc}
use Rattle.std.proofs.lemmas.List.{reverse-append, length-reverse, length-drop, take-append-drop, drop_at}
use Rattle.std.proofs.lemmas.List.Folds.{list_all-append}
use Rattle.ms_syntax.specs.Tree.{Kd, Params, kind_view, params_view, parameter_view}
use Rattle.ms_syntax.specs.declared.token.Place.{Place}
use Rattle.ms_syntax.specs.declared.tree.Parameter.{Parameter}
use Rattle.ms_typing.specs.Items.{with_params}
use Rattle.ms_typing.specs.Kinds.{type_of_kind}
use Rattle.ms_typing.specs.Meaning.{Names}
use Rattle.ms_trees.proofs.Bools.{and_left, and_right, and_true}

-- the first items are those below the later ones
pub reverse_kept : {X : Type 0} (n : ℕ) (xs : List X) → reverse (take n xs) ≡ drop (length (reverse xs) - n) (reverse xs)
reverse_kept n xs =
    let whole : reverse xs ≡ reverse (drop n xs) ++ reverse (take n xs) = ap reverse (sym (take-append-drop n xs)) ∙ reverse-append (take n xs) (drop n xs) in
    let long : length (reverse (drop n xs)) ≡ length (reverse xs) - n = length-reverse (drop n xs) ∙ length-drop n xs ∙ ap (λ k. k - n) (sym (length-reverse xs)) in
    sym (ap (drop (length (reverse xs) - n)) whole ∙ drop_at (reverse (drop n xs)) (reverse (take n xs)) (length (reverse xs) - n) long)

pub takes : {A : Type 0} → (xs : List A) (i : ℕ) (x : A) → i < length xs → x ≡ get_or xs i x → take (i + 1) xs ≡ take i xs ++ (x ∷ [])
takes xs i x h e = ap (λ (k : ℕ). take k xs) (add-one i) ∙ take-suc xs i x h ∙ ap (λ y. take i xs ++ (y ∷ [])) (sym e)

-- one more comes first
pub latest_more : {A : Type 0} → (xs : List A) (i : ℕ) (x : A) → i < length xs → x ≡ get_or xs i x → reverse (take (i + 1) xs) ≡ x ∷ reverse (take i xs)
latest_more xs i x h e = ap reverse (takes xs i x h e) ∙ reverse-append (take i xs) (x ∷ [])

pub all_reversed : {X : Type 0} (p : X → Bool) (xs : List X) → list_all p (reverse xs) ≡ true → list_all p xs ≡ true
all_reversed p [] h = refl
all_reversed p (x ∷ xs) h =
    let k : (list_all p (reverse xs) && (p x && true)) ≡ true = sym (ap (list_all p) (reverse-append (x ∷ []) xs) ∙ list_all-append p (reverse xs) (x ∷ [])) ∙ h in
    and_true (p x) (list_all p xs) (and_left (p x) true (and_right (list_all p (reverse xs)) (p x && true) k)) (all_reversed p xs (and_left (list_all p (reverse xs)) (p x && true) k))

pub all_at : {X : Type 0} (p : X → Bool) (xs : List X) (k : ℕ) (d : X) → k < length xs → list_all p xs ≡ true → p (get_or xs k d) ≡ true
all_at p [] k d b h = absurd (omega (arith, b))
all_at p (x ∷ xs) zero d b h = and_left (p x) (list_all p xs) h
all_at p (x ∷ xs) (suc k) d b h = all_at p xs k d (omega (arith, b)) (and_right (p x) (list_all p xs) h)

-- the last parameter is the latest name
with_last : (qs : Params) (q : Place × Kd × List ℕ) (ns : Names) → with_params (qs ++ q ∷ []) ns ≡ (q.2, type_of_kind q.1) ∷ with_params qs ns
with_last [] q ns = refl
with_last (p ∷ qs) q ns = with_last qs q ((p.2, type_of_kind p.1) ∷ ns)

pub names_more : (ps : List Parameter) (p : Parameter) → with_params (params_view (ps ++ p ∷ [])) [] ≡ (p.name, type_of_kind (kind_view p.kind)) ∷ with_params (params_view ps) []
names_more ps p = ap (λ qs. with_params qs []) (map-append parameter_view ps (p ∷ [])) ∙ with_last (params_view ps) (parameter_view p) []
