-- The function gives the least type of a term, or its first fault.
use Rattle.std.proofs.Common.{◌≡◌, Bool, true, false, List, [], ◌∷◌, Some, None, map, refl, sym, ap, ◌∙◌, subst, ◌⊎◌, inl, inr}
use Rattle.std.specs.Prelude.{is_some, not}
use Rattle.ms_syntax.specs.declared.token.Place.{Place}
use Rattle.ms_typing.specs.declared.types.ExprType.{ExprType}
use Rattle.ms_typing.specs.declared.types.Cause.{Cause}
use Rattle.ms_typing.specs.declared.types.Cause.TheVariants as cause
use Rattle.ms_typing.specs.Conversion.{Converts, ConvertAll, none, more, as_known}
use Rattle.ms_syntax.specs.Tree.{It}
use Rattle.ms_typing.specs.Items.{model_terms}
use Rattle.ms_typing.specs.Term.{Form, Term, Terms, node, no_terms, term}
use Rattle.ms_typing.specs.Term as g
use Rattle.ms_typing.specs.HasType.{HasType, HaveTypes}
use Rattle.ms_typing.specs.HasType as h
use Rattle.ms_typing.specs.Fault.{Because, FirstFault, FirstOf, KnownHas, is_unknown, is_unsupported, takes_indices, told_takes, wrong_count, wrong_indices}
use Rattle.ms_typing.specs.Fault as u
use Rattle.ms_typing.specs.Least.{Given, Typing, and_then, fault, has, otherwise, row, settle, typing, typings, why}
use Rattle.ms_typing.specs.Judged.{AreLeast, AsksByTables, Excludes, ExcludesAll, FaultFound, FaultOfAllFound, GivesLeast, HasLeast, IsLeast, IsWellTyped, HasFirstFault, Judged, JudgedAll, Judges, JudgesAll, NotBoth, OneFault, OneFaultOfAll, OneFirstFault, WellTypedOrFaulty}
use Rattle.ms_typing.proofs.Converting.{all_along, all_known_kept, along, length_kept, shape_kept}
use Rattle.ms_typing.proofs.Leasts.{row_least}
use Rattle.ms_typing.proofs.Sound.{row_sound}

-- ---- rows

pub asks_by_tables : AsksByTables
asks_by_tables f ts us t e = let s = row_sound f ts (us, t) e in (s.convert, s.is_row)

pub gives_least : GivesLeast
gives_least f ts us u c r = let l = row_least ts r c in (l.least.0, l.least.1, l.given, l.below)

-- ---- types

settled_at : (p : Place) (f : Form) (ts : List ExprType) (x : List ExprType × ExprType) (o : Given) → o ≡ Some x → settle p f ts o ≡ has x.1
settled_at p f ts x o e = rw e refl

mutual
  pub typed : {x : Term} {u : ExprType} → HasType x u → (t : ExprType) × (typing x ≡ has t) × Converts t u
  typed (h.row {p = p} {f = f} {us = us} hs r) =
      let a = types hs in
      let l = row_least a.0 r a.2 in
      (l.least.1, rw (a.1, l.given) refl, l.below)
  typed (h.converts k c) = let a = typed k in (a.0, a.1, along a.2 c)

  pub types : {xs : Terms} {us : List ExprType} → HaveTypes xs us → (ts : List ExprType) × (typings xs ≡ has ts) × ConvertAll ts us
  types h.none = ([], refl, none)
  types (h.more k ks) = let a = typed k in let b = types ks in (a.0 ∷ b.0, rw (a.1, b.1) refl, more a.2 b.2)

has_then : {A B : Type 0} (r : Typing A) (k : A → Typing B) (b : B) → and_then r k ≡ has b → (a : A) × (r ≡ has a) × (k a ≡ has b)
has_then (has a) k b e = (a, refl, e)
has_then (fault c p) k b e = absurd (cc)

settled : (p : Place) (f : Form) (ts : List ExprType) (o : Given) (t : ExprType) → settle p f ts o ≡ has t → (us : List ExprType) × (o ≡ Some (us, t))
settled p f ts (Some x) t e = let q : x.1 ≡ t = cc in (x.0, ap (λ (s : ExprType). Some (x.0, s)) q)
settled p f ts None t e = absurd (cc)

pub have_along : {xs : Terms} {ts us : List ExprType} → HaveTypes xs ts → ConvertAll ts us → HaveTypes xs us
have_along h.none none = h.none
have_along (h.more k ks) (more c cs) = h.more (h.converts k c) (have_along ks cs)

mutual
  pub sound : (x : Term) (t : ExprType) → typing x ≡ has t → HasType x t
  sound (node p f xs) t e =
      let a = has_then (typings xs) (λ ts. settle p f ts (row f ts)) t e in
      let o = settled p f a.0 (row f a.0) t a.2 in
      let s = row_sound f a.0 (o.0, t) o.1 in
      h.row (have_along (sounds xs a.0 a.1) s.convert) s.is_row

  pub sounds : (xs : Terms) (ts : List ExprType) → typings xs ≡ has ts → HaveTypes xs ts
  sounds no_terms ts e = let q : [] ≡ ts = cc in subst (λ us. HaveTypes no_terms us) q h.none
  sounds (term x xs) ts e =
      let a = has_then (typing x) (λ t. and_then (typings xs) (λ us. has (t ∷ us))) ts e in
      let b = has_then (typings xs) (λ us. has (a.0 ∷ us)) ts a.2 in
      let q : (a.0 ∷ b.0) ≡ ts = cc in
      subst (λ us. HaveTypes (term x xs) us) q (h.more (sound x a.0 a.1) (sounds xs b.0 b.1))

-- ---- the cause

indices_kept : {ts us : List ExprType} → ConvertAll ts us → wrong_indices ts ≡ wrong_indices us
indices_kept none = refl
indices_kept (more c cs) = rw (shape_kept c, length_kept cs) refl

-- it does not hang on which of their types the parts are taken to have
count_kept : (f : Form) {ts us : List ExprType} → ConvertAll ts us → wrong_count f ts ≡ wrong_count f us
count_kept (g.calls t) c = ap (λ n. not (told_takes t n)) (length_kept c)
count_kept g.access c = indices_kept c
count_kept other c = refl

some_of : (o : Given) → is_some o ≡ true → (x : List ExprType × ExprType) × (o ≡ Some x)
some_of (Some x) e = (x, refl)
some_of None e = absurd (cc)

would : (f : Form) (xs : Terms) (ts : List ExprType) → typings xs ≡ has ts → is_some (row f (map as_known ts)) ≡ true → KnownHas f xs
would f xs ts e k =
    let o = some_of (row f (map as_known ts)) k in
    let s = row_sound f (map as_known ts) o.0 o.1 in
    record { parts = ts; operands = o.0.0; result = o.0.1; have = sounds xs ts e; convert = s.convert; row = s.is_row }

would_be : (f : Form) (xs : Terms) (ts : List ExprType) → typings xs ≡ has ts → KnownHas f xs → is_some (row f (map as_known ts)) ≡ true
would_be f xs ts e k =
    let a = types (k.have) in
    let q : a.0 ≡ ts = cc in
    let c : ConvertAll ts k.parts = subst (λ us. ConvertAll us k.parts) q a.2 in
    let l = row_least (map as_known ts) (k.row) (all_along (all_known_kept c) (k.convert)) in
    rw l.given refl

module _ (f : Form) (xs : Terms) (ts us : List ExprType) (e : typings xs ≡ has ts) (c : ConvertAll ts us) where
  because_known : (b : Bool) → is_some (row f (map as_known ts)) ≡ b → is_unknown f ≡ false → wrong_count f ts ≡ false → is_unsupported f ≡ false → Because f xs us (otherwise f ts)
  because_known true k x y z = rw k (u.not_known x (sym (count_kept f c) ∙ y) z (would f xs ts e k))
  because_known false k x y z = rw k (u.mismatch x (sym (count_kept f c) ∙ y) z (λ w. let v = would_be f xs ts e w in absurd (cc)))

  because_supported : (b : Bool) → is_unsupported f ≡ b → is_unknown f ≡ false → wrong_count f ts ≡ false → Because f xs us (why f ts)
  because_supported true k x y = rw (x, y, k) (u.unsupported x (sym (count_kept f c) ∙ y) k)
  because_supported false k x y = rw (x, y, k) (because_known (is_some (row f (map as_known ts))) refl x y k)

  because_count : (b : Bool) → wrong_count f ts ≡ b → is_unknown f ≡ false → Because f xs us (why f ts)
  because_count true k x = rw (x, k) (u.arity x (sym (count_kept f c) ∙ k))
  because_count false k x = because_supported (is_unsupported f) refl x k

  because_of : (b : Bool) → is_unknown f ≡ b → Because f xs us (why f ts)
  because_of true k = rw k (u.unknown k)
  because_of false k = because_count (wrong_count f ts) refl k

  why_is : {d : Cause} → Because f xs us d → why f ts ≡ d
  why_is (u.unknown x) = rw x refl
  why_is (u.arity x y) = let v = count_kept f c ∙ y in rw (x, v) refl
  why_is (u.unsupported x y z) = let v = count_kept f c ∙ y in rw (x, v, z) refl
  why_is (u.not_known x y z k) = let v = count_kept f c ∙ y in rw (x, v, z, would_be f xs ts e k) refl
  why_is (u.mismatch x y z k) = let v = count_kept f c ∙ y in rw (x, v, z) (not_would (is_some (row f (map as_known ts))) refl k)
    where
      not_would : (b : Bool) → is_some (row f (map as_known ts)) ≡ b → (KnownHas f xs → ⊥) → otherwise f ts ≡ cause.Mismatch
      not_would true q k = absurd (k (would f xs ts e q))
      not_would false q k = rw q refl

-- ---- the first fault

fault_then : {A B : Type 0} (r : Typing A) (k : A → Typing B) (c : Cause) (p : Place) → and_then r k ≡ fault c p
    → (r ≡ fault c p) ⊎ ((a : A) × (r ≡ has a) × (k a ≡ fault c p))
fault_then (has a) k c p e = inr (a, refl, e)
fault_then (fault d q) k c p e = inl (cc)

unsettled : (p : Place) (f : Form) (ts : List ExprType) (o : Given) (c : Cause) (q : Place) → settle p f ts o ≡ fault c q → (o ≡ None) × (why f ts ≡ c) × (p ≡ q)
unsettled p f ts (Some x) c q e = absurd (cc)
unsettled p f ts None c q e = (refl, cc, cc)

all_same_of : (xs : Terms) (ts : List ExprType) → typings xs ≡ has ts → ConvertAll ts ts
all_same_of xs ts e = let a = types (sounds xs ts e) in let q : a.0 ≡ ts = cc in subst (λ us. ConvertAll us ts) q a.2

faulty_at : (p : Place) (f : Form) (xs : Terms) (c : Cause) (q : Place) → typing (node p f xs) ≡ fault c q → (typings xs ≡ fault c q → FirstOf xs c q)
    → (typings xs ≡ fault c q) ⊎ ((ts : List ExprType) × (typings xs ≡ has ts) × (settle p f ts (row f ts) ≡ fault c q)) → FirstFault (node p f xs) c q
faulty_at p f xs c q e inner (inl k) = u.below (inner k)
faulty_at p f xs c q e inner (inr (ts, k, l)) =
    let s = unsettled p f ts (row f ts) c q l in
    let no : (t : ExprType) → HasType (node p f xs) t → ⊥ = λ t w. (let z = typed w in absurd (cc)) in
    let b = because_of f xs ts ts k (all_same_of xs ts k) (is_unknown f) refl in
    subst (λ (r : Place). FirstFault (node p f xs) c r) s.2 (u.here (sounds xs ts k) no (subst (λ (d : Cause). Because f xs ts d) s.1 b))

tail_fault : (r : Typing (List ExprType)) (t : ExprType) (c : Cause) (q : Place) → and_then r (λ us. has (t ∷ us)) ≡ fault c q → r ≡ fault c q
tail_fault (has us) t c q e = absurd (cc)
tail_fault (fault d r) t c q e = cc

faulties_at : (x : Term) (xs : Terms) (c : Cause) (q : Place) → (typing x ≡ fault c q → FirstFault x c q) → (typings xs ≡ fault c q → FirstOf xs c q)
    → (typing x ≡ fault c q) ⊎ ((t : ExprType) × (typing x ≡ has t) × (and_then (typings xs) (λ us. has (t ∷ us)) ≡ fault c q)) → FirstOf (term x xs) c q
faulties_at x xs c q one rest (inl k) = u.first (one k)
faulties_at x xs c q one rest (inr (t, k, l)) = u.later (sound x t k) (rest (tail_fault (typings xs) t c q l))

mutual
  pub faulty : (x : Term) (c : Cause) (q : Place) → typing x ≡ fault c q → FirstFault x c q
  faulty (node p f xs) c q e = faulty_at p f xs c q e (faulties xs c q) (fault_then (typings xs) (λ ts. settle p f ts (row f ts)) c q e)

  pub faulties : (xs : Terms) (c : Cause) (q : Place) → typings xs ≡ fault c q → FirstOf xs c q
  faulties no_terms c q e = absurd (cc)
  faulties (term x xs) c q e = faulties_at x xs c q (faulty x c q) (faulties xs c q) (fault_then (typing x) (λ t. and_then (typings xs) (λ us. has (t ∷ us))) c q e)

faulted_at : (p : Place) (f : Form) (xs : Terms) (c : Cause) (ts us : List ExprType) → typings xs ≡ has ts → ConvertAll ts us → ((t : ExprType) → HasType (node p f xs) t → ⊥) → Because f xs us c
    → (o : Given) → row f ts ≡ o → settle p f ts (row f ts) ≡ fault c p
faulted_at p f xs c ts us e a never b (Some x) q = absurd (never x.1 (sound (node p f xs) x.1 (rw (e, q) refl)))
faulted_at p f xs c ts us e a never b None q = rw q (ap (λ d. fault d p) (why_is f xs ts us e a b))

mutual
  pub faulted : {x : Term} {c : Cause} {q : Place} → FirstFault x c q → typing x ≡ fault c q
  faulted (u.below k) = rw (faulteds k) refl
  faulted (u.here {p = p} {g = f} {xs = xs} {us = us} {c = c} hs never b) =
      let a = types hs in
      rw a.1 (faulted_at p f xs c a.0 us a.1 a.2 never b (row f a.0) refl)

  pub faulteds : {xs : Terms} {c : Cause} {q : Place} → FirstOf xs c q → typings xs ≡ fault c q
  faulteds (u.first k) = rw (faulted k) refl
  faulteds (u.later t k) = let a = typed t in rw (a.1, faulteds k) refl

-- ---- the laws

pub least_of : (x : Term) (t : ExprType) → typing x ≡ has t → IsLeast x t
least_of x t e = record { has_it = sound x t e; least = λ w k. (let a = typed k in let q : a.0 ≡ t = cc in subst (λ (s : ExprType). Converts s w) q a.2) }

pub least_of_all : (xs : Terms) (ts : List ExprType) → typings xs ≡ has ts → AreLeast xs ts
least_of_all xs ts e = record { have_them = sounds xs ts e; least = λ ws k. (let a = types k in let q : a.0 ≡ ts = cc in subst (λ (ss : List ExprType). ConvertAll ss ws) q a.2) }

pub judges : (x : Term) (r : Typing ExprType) → typing x ≡ r → Judges x r
judges x (has t) e = least_of x t e
judges x (fault c p) e = faulty x c p e

pub judges_all : (xs : Terms) (r : Typing (List ExprType)) → typings xs ≡ r → JudgesAll xs r
judges_all xs (has ts) e = least_of_all xs ts e
judges_all xs (fault c p) e = faulties xs c p e

pub judged : Judged
judged x = judges x (typing x) refl

pub judged_all : JudgedAll
judged_all xs = judges_all xs (typings xs) refl

pub has_least : HasLeast
has_least x w k = let a = typed k in (a.0, a.1, least_of x a.0 a.1)

pub fault_found : FaultFound
fault_found x c p k = faulted k

pub fault_of_all_found : FaultOfAllFound
fault_of_all_found xs c p k = faulteds k

pub excludes : Excludes
excludes x t c p k l = let a = typed k in let b = faulted l in absurd (cc)

pub excludes_all : ExcludesAll
excludes_all xs ts c p k l = let a = types k in let b = faulteds l in absurd (cc)

fault_is : {A : Type 0} {c d : Cause} {p q : Place} → ◌≡◌ {A = Typing A} (fault c p) (fault d q) → (c ≡ d) × (p ≡ q)
fault_is e = (cc, cc)

pub one_fault : OneFault
one_fault x c d p q k l = fault_is (sym (faulted k) ∙ faulted l)

pub one_fault_of_all : OneFaultOfAll
one_fault_of_all xs c d p q k l = fault_is (sym (faulteds k) ∙ faulteds l)

-- ---- models

well_typed_or : (model library : List It) (r : Typing (List ExprType)) → typings (model_terms model library) ≡ r → IsWellTyped model library ⊎ ((c : Cause) × (p : Place) × HasFirstFault model library c p)
well_typed_or model library (has ts) e = inl (record { results = ts; have_types = sounds (model_terms model library) ts e })
well_typed_or model library (fault c p) e = inr (c, p, faulties (model_terms model library) c p e)

pub well_typed_or_faulty : WellTypedOrFaulty
well_typed_or_faulty model library = well_typed_or model library (typings (model_terms model library)) refl

pub not_both : NotBoth
not_both model library c p w l = excludes_all (model_terms model library) (w.results) c p (w.have_types) l

pub one_first_fault : OneFirstFault
one_first_fault model library c d p q k l = one_fault_of_all (model_terms model library) c d p q k l
