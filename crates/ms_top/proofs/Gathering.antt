-- What is found of a list of parts, one more at a time.
use Rattle.std.proofs.Common.{◌≡◌, ℕ, ◌+◌, ◌-◌, ◌<◌, ◌≤◌, arith, List, [], ◌∷◌, ◌++◌, length, length-append, map, take, drop, get_or, Option, Some, None, refl, sym, ap, ◌∙◌, append_assoc}
use Rattle.std.specs.List.{slice_get}
use Rattle.std.specs.Prelude.{if◌then◌else◌}
use Rattle.std.proofs.lemmas.List.{append-nil, drop_more, drop-map, length-drop, map-append}
use Rattle.std.proofs.Math.Seq.{take-length}
use Rattle.std.proofs.Math.ListN.{drop_of_length-le}
use Rattle.ms_syntax.specs.declared.tree.Item.{Item}
use Rattle.ms_syntax.specs.Tree.{It, item_view}
use Rattle.ms_top.specs.declared.form.Unread.{Unread}
use Rattle.ms_top.specs.declared.form.Unread.TheVariants.{NotPlain, Memory}
use Rattle.ms_top.specs.declared.plain.Comparison.{Comparison}
use Rattle.ms_top.specs.declared.plain.PlainDeclaration.{PlainDeclaration}
use Rattle.ms_top.specs.Plain.{before, behind, beside, all_of, comparison_of, constraints_of, is_end, is_satisfy}
use Rattle.ms_top.specs.Reading.{Fails}

-- what was found, before what is found of the others
abbrev pub grown : {A : Type 0} → List A → Option (List A) → Option (List A)
grown found None = None
grown found (Some more) = Some (found ++ more)

pub grown_none : {A : Type 0} (o : Option (List A)) → grown [] o ≡ o
grown_none None = refl
grown_none (Some more) = refl

grown_one : {A : Type 0} (found : List A) (x : A) (o : Option (List A)) → grown found (before (Some x) o) ≡ grown (found ++ x ∷ []) o
grown_one found x None = refl
grown_one found x (Some more) = ap (λ v. Some v) (sym (append_assoc found (x ∷ []) more))

grown_nothing : {A : Type 0} (found : List A) (o : Option (List A)) → grown found (before None o) ≡ None
grown_nothing found None = refl
grown_nothing found (Some more) = refl

all_found : {A : Type 0} (found : List A) → grown found (Some []) ≡ Some found
all_found found = ap (λ v. Some v) (append-nil found)

-- the part at a place, and those behind it
pub here : {A : Type 0} (xs : List A) (i : ℕ) (x : A) → i < length xs → x ≡ get_or xs i x → drop i xs ≡ x ∷ drop (i + 1) xs
here xs i x h e = drop_more xs i x h ∙ ap (λ y. y ∷ drop (i + 1) xs) (sym e)

-- a list f of parts of which the first is read by g of it, and the others by f
module _ {X A : Type 0} (f : List X → Option (List A)) (found : List A) (xs : List X) (i : ℕ) (x : X) (o : Option A)
    (so_far : grown found (f (drop i xs)) ≡ f xs) (h : i < length xs) (e : x ≡ get_or xs i x) (goes : f (x ∷ drop (i + 1) xs) ≡ before o (f (drop (i + 1) xs))) where
  at_part : grown found (before o (f (drop (i + 1) xs))) ≡ f xs
  at_part = ap (grown found) (sym goes ∙ ap f (sym (here xs i x h e))) ∙ so_far

  pub one_more : (a : A) (found2 : List A) → o ≡ Some a → found2 ≡ found ++ a ∷ [] → grown found2 (f (drop (i + 1) xs)) ≡ f xs
  one_more a found2 read grew =
      ap (λ v. grown v (f (drop (i + 1) xs))) grew ∙ sym (grown_one found a (f (drop (i + 1) xs))) ∙ ap (λ v. grown found (before v (f (drop (i + 1) xs)))) (sym read) ∙ at_part

  pub no_more : (fault : Unread) → Fails o fault → Fails (f xs) fault
  no_more Memory g = tt
  no_more NotPlain g = sym at_part ∙ ap (λ v. grown found (before v (f (drop (i + 1) xs)))) g ∙ grown_nothing found (f (drop (i + 1) xs))

pub whole : {X A : Type 0} (f : List X → Option (List A)) (found : List A) (xs : List X) (i : ℕ) → f [] ≡ Some [] → grown found (f (drop i xs)) ≡ f xs → length xs ≤ i → f xs ≡ Some found
whole f found xs i none so_far h = sym so_far ∙ ap (λ v. grown found (f v)) (drop_of_length-le xs h) ∙ ap (grown found) none ∙ all_found found

-- ---- declarations, and then the others

abbrev Parts : Type 0
Parts = List PlainDeclaration × List Comparison

abbrev pub declared : List PlainDeclaration → Option (List PlainDeclaration × List Comparison) → Option (List PlainDeclaration × List Comparison)
declared found None = None
declared found (Some r) = Some (found ++ r.0, r.1)

pub declared_none : (o : Option (List PlainDeclaration × List Comparison)) → declared [] o ≡ o
declared_none None = refl
declared_none (Some r) = refl

pub declared_one : (found : List PlainDeclaration) (d : PlainDeclaration) (o : Option (List PlainDeclaration × List Comparison)) → declared found (behind (Some d) o) ≡ declared (found ++ d ∷ []) o
declared_one found d None = refl
declared_one found d (Some r) = let make : List PlainDeclaration → Option Parts = λ v. Some (v, r.1) in ap make (sym (append_assoc found (d ∷ []) r.0))

pub declared_nothing : (found : List PlainDeclaration) (o : Option (List PlainDeclaration × List Comparison)) → declared found (behind None o) ≡ None
declared_nothing found None = refl
declared_nothing found (Some r) = refl

pub declared_others : (found : List PlainDeclaration) (o : Option (List Comparison)) → declared found (beside [] o) ≡ beside found o
declared_others found None = refl
declared_others found (Some cs) = let make : List PlainDeclaration → Option Parts = λ v. Some (v, cs) in ap make (append-nil found)

pub beside_fails : (ds : List PlainDeclaration) (o : Option (List Comparison)) (fault : Unread) → Fails o fault → Fails (beside ds o) fault
beside_fails ds o Memory h = tt
beside_fails ds o NotPlain h = ap (beside ds) h

-- ---- the last item

got : (xs : List It) (x : It) → slice_get (xs ++ x ∷ []) (length xs) ≡ Some x
got [] x = refl
got (y ∷ xs) x = got xs x

taken : (xs ys : List It) → take (length xs) (xs ++ ys) ≡ xs
taken [] ys = refl
taken (x ∷ xs) ys = ap (λ v. x ∷ v) (taken xs ys)

one_less : (xs : List It) (x : It) → length (xs ++ x ∷ []) - 1 ≡ length xs
one_less xs x = omega (arith, length-append xs (x ∷ []))

ends_so : (xs : List It) (x : It) → constraints_of (xs ++ x ∷ []) ≡ (if is_satisfy x then all_of comparison_of xs else None)
ends_so xs x =
    ap (λ n. if◌then◌else◌ {A = Option (List Comparison)} (is_end (slice_get (xs ++ x ∷ []) n)) (all_of comparison_of (take n (xs ++ x ∷ []))) None) (one_less xs x)
    ∙ ap (λ o. if◌then◌else◌ {A = Option (List Comparison)} (is_end o) (all_of comparison_of (take (length xs) (xs ++ x ∷ []))) None) (got xs x)
    ∙ ap (λ v. if◌then◌else◌ {A = Option (List Comparison)} (is_satisfy x) (all_of comparison_of v) None) (taken xs (x ∷ []))

pub at_end : (items others : List Item) (last : Item) → items ≡ others ++ last ∷ []
    → constraints_of (map item_view items) ≡ (if is_satisfy (item_view last) then all_of comparison_of (map item_view others) else None)
at_end items others last h =
    ap (λ v. constraints_of (map item_view v)) h ∙ ap constraints_of (map-append item_view others (last ∷ [])) ∙ ends_so (map item_view others) (item_view last)

pub none_at_all : (items : List Item) → length items ≡ 0 → constraints_of (map item_view items) ≡ None
none_at_all [] h = refl
none_at_all (i ∷ items) h = absurd (omega arith)

-- the items behind as many as there are declarations
pub behind_them : (items : List Item) (ds : List PlainDeclaration) (n : ℕ) → n ≡ length ds
    → constraints_of (map item_view (take (length items - n) (drop n items))) ≡ constraints_of (drop (length ds) (map item_view items))
behind_them items ds n h =
    ap (λ v. constraints_of (map item_view v)) (ap (λ k. take k (drop n items)) (sym (length-drop n items)) ∙ take-length (drop n items))
    ∙ ap constraints_of (sym (drop-map item_view n items)) ∙ ap (λ k. constraints_of (drop k (map item_view items))) h
