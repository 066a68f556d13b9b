-- Laws of names and their numbers.
use Rattle.std.proofs.Common.{◌≡◌, ℕ, suc, ◌<◌, List, [], ◌∷◌, ◌++◌, length, map, Bool, true, false, cond, Option, Some, None, ◌⊎◌, inl, inr, refl, sym, ap, ◌∙◌, arith}
use Rattle.std.specs.Prelude.{option_map, is_some, if◌then◌else◌}
use Rattle.std.specs.Str.{bytes_eq}
use Rattle.std.proofs.lemmas.List.{map-append}
use Rattle.std.proofs.lemmas.Slice.Eq.{bytes_eq-Decides}
use Rattle.ms_syntax.specs.Tree.{It, Names}
use Rattle.ms_typing.specs.Items.{globals, globals_of, list_names}
use Rattle.ms_free_names.specs.Uses.{Words, names_alone}
use Rattle.ms_declarations.specs.Depends.{In}
use Rattle.ms_order.specs.Order.{declared, number_in}
use Rattle.ms_order.specs.Drawing.{words_by}

-- a test and what it tells
pub data Test (u w : List ℕ) : Bool → Type 0 where
  same : u ≡ w → Test u w true
  other : (u ≡ w → ⊥) → Test u w false

pub test : (u w : List ℕ) → Test u w (bytes_eq u w)
test u w = go (bytes_eq u w) refl where
  go : (b : Bool) → bytes_eq u w ≡ b → Test u w b
  go true e = same ((bytes_eq-Decides u w).0 e)
  go false e = other (λ p. let wrong : true ≡ false = sym ((bytes_eq-Decides u w).1 p) ∙ e in cc)

pub declared_rest : (i : It) (is : List It) → declared (i ∷ is) ≡ words_by i ++ declared is
declared_rest i is = map-append (λ g. g.0) (globals_of i) (globals is)

pub same_some : {A : Type 0} {a b : A} → Some a ≡ Some b → a ≡ b
same_some e = cc

some_suc : (o : Option ℕ) (k : ℕ) → option_map (λ j. suc j) o ≡ Some k → (j : ℕ) × (o ≡ Some j) × (k ≡ suc j)
some_suc None k e = absurd (let wrong : None ≡ Some k = e in cc)
some_suc (Some j) k e = (j, refl, sym (same_some e))

none_before : (o : Option ℕ) → option_map (λ k. suc k) o ≡ None → o ≡ None
none_before None e = refl
none_before (Some k) e = absurd (let wrong : Some (suc k) ≡ None = e in cc)

-- one more name, which is new
pub number_push : (ns : Words) (v : List ℕ) → number_in ns v ≡ None → (w : List ℕ)
    → number_in (ns ++ v ∷ []) w ≡ cond (bytes_eq v w) (Some (length ns)) (number_in ns w)
number_push [] v e w = refl
number_push (m ∷ ns) v e w = go (bytes_eq m v) (bytes_eq m w) (bytes_eq v w) (test m v) (test m w) (test v w) e (λ h. number_push ns v h w) where
  go : (a b d : Bool) → Test m v a → Test m w b → Test v w d → (if a then Some 0 else option_map (λ k. suc k) (number_in ns v)) ≡ None
      → (number_in ns v ≡ None → number_in (ns ++ v ∷ []) w ≡ cond d (Some (length ns)) (number_in ns w))
      → (if b then Some 0 else option_map (λ k. suc k) (number_in (ns ++ v ∷ []) w)) ≡ cond d (Some (suc (length ns))) (if b then Some 0 else option_map (λ k. suc k) (number_in ns w))
  go true b d p q r e h = absurd (let wrong : Some 0 ≡ None = e in cc)
  go false true true (other apart) (same q) (same r) e h = absurd (apart (q ∙ sym r))
  go false true false p q r e h = refl
  go false false true p q r e h = ap (option_map (λ k. suc k)) (h (none_before (number_in ns v) e))
  go false false false p q r e h = ap (option_map (λ k. suc k)) (h (none_before (number_in ns v) e))

-- one more name, which is there already
pub number_again : (ns : Words) (v : List ℕ) → is_some (number_in ns v) ≡ true → (w : List ℕ) → number_in (ns ++ v ∷ []) w ≡ number_in ns w
number_again [] v e w = absurd (let wrong : false ≡ true = e in cc)
number_again (m ∷ ns) v e w = go (bytes_eq m v) (bytes_eq m w) (test m v) (test m w) e (λ h. number_again ns v h w) where
  some_before : (o : Option ℕ) → is_some (option_map (λ k. suc k) o) ≡ true → is_some o ≡ true
  some_before None e = e
  some_before (Some k) e = refl

  last : (xs : Words) → (w ≡ v → ⊥) → number_in (xs ++ v ∷ []) w ≡ number_in xs w
  last [] apart = step (bytes_eq v w) (test v w) where
    step : (b : Bool) → Test v w b → (if b then Some 0 else option_map (λ k. suc k) None) ≡ None
    step true (same p) = absurd (apart (sym p))
    step false p = refl
  last (x ∷ xs) apart = ap (λ o. if bytes_eq x w then Some 0 else option_map (λ k. suc k) o) (last xs apart)

  go : (a b : Bool) → Test m v a → Test m w b → is_some (if a then Some 0 else option_map (λ k. suc k) (number_in ns v)) ≡ true
      → (is_some (number_in ns v) ≡ true → number_in (ns ++ v ∷ []) w ≡ number_in ns w)
      → (if b then Some 0 else option_map (λ k. suc k) (number_in (ns ++ v ∷ []) w)) ≡ (if b then Some 0 else option_map (λ k. suc k) (number_in ns w))
  go a true p q e h = refl
  go true false (same p) (other apart) e h = ap (option_map (λ k. suc k)) (last ns (λ r. apart (p ∙ sym r)))
  go false false p q e h = ap (option_map (λ k. suc k)) (h (some_before (number_in ns v) e))

pub number_within : (ns : Words) (w : List ℕ) (k : ℕ) → number_in ns w ≡ Some k → k < length ns
number_within [] w k e = absurd (let wrong : None ≡ Some k = e in cc)
number_within (n ∷ ns) w k e = go (λ j h. number_within ns w j h) (bytes_eq n w) e where
  go : ((j : ℕ) → number_in ns w ≡ Some j → j < length ns) → (b : Bool) → (if b then Some 0 else option_map (λ j. suc j) (number_in ns w)) ≡ Some k → k < suc (length ns)
  go rest true e = let is : 0 ≡ k = same_some e in omega arith
  go rest false e = let s = some_suc (number_in ns w) k e in let r : s.0 < length ns = rest s.0 s.1 in omega (arith, s.2)

-- names of one number are one
pub one_name : (ns : Words) (w v : List ℕ) (k : ℕ) → number_in ns w ≡ Some k → number_in ns v ≡ Some k → w ≡ v
one_name [] w v k e f = absurd (let wrong : None ≡ Some k = e in cc)
one_name (n ∷ ns) w v k e f = go (λ j g h. one_name ns w v j g h) (bytes_eq n w) (bytes_eq n v) (test n w) (test n v) e f where
  go : ((j : ℕ) → number_in ns w ≡ Some j → number_in ns v ≡ Some j → w ≡ v) → (a b : Bool) → Test n w a → Test n v b
      → (if a then Some 0 else option_map (λ j. suc j) (number_in ns w)) ≡ Some k → (if b then Some 0 else option_map (λ j. suc j) (number_in ns v)) ≡ Some k → w ≡ v
  go rest true true (same p) (same q) e f = sym p ∙ q
  go rest true false t u e f = let s = some_suc (number_in ns v) k f in let is : 0 ≡ k = same_some e in absurd (omega (arith, s.2))
  go rest false true t u e f = let s = some_suc (number_in ns w) k e in let is : 0 ≡ k = same_some f in absurd (omega (arith, s.2))
  go rest false false t u e f =
      let s = some_suc (number_in ns w) k e in let r = some_suc (number_in ns v) k f in
      let j : s.0 ≡ r.0 = omega (arith, s.2, r.2) in
      rest s.0 s.1 (r.1 ∙ ap (λ i. Some i) (sym j))

-- each of the names has a number
pub numbered : (ns : Words) (w : List ℕ) → In w ns → (k : ℕ) × (number_in ns w ≡ Some k)
numbered [] w m = absurd m
numbered (v ∷ ns) w m = go (bytes_eq v w) (test v w) (elim m [ inl e ↦ inl e | inr r ↦ inr (numbered ns w r) ]) where
  go : (b : Bool) → Test v w b → (w ≡ v) ⊎ ((k : ℕ) × (number_in ns w ≡ Some k)) → (k : ℕ) × ((if b then Some 0 else option_map (λ j. suc j) (number_in ns w)) ≡ Some k)
  go true t h = (0, refl)
  go false (other apart) h = elim h [ inl e ↦ absurd (apart (sym e)) | inr r ↦ (suc r.0, ap (option_map (λ j. suc j)) r.1) ]

pub listed_words : (ns : Names) → map (λ g. g.0) (list_names ns) ≡ names_alone ns
listed_words [] = refl
listed_words (n ∷ ns) = ap (λ ws. n.1 ∷ ws) (listed_words ns)
