-- What one fault of tokens excludes.
use Rattle.std.proofs.Common.{◌≡◌, ℕ, ◌<◌, ◌≤◌, [], ◌∷◌, ◌++◌, length, Option, Some, None, refl, sym, ap, ◌∙◌, subst, append_assoc, length-append, arith, ◌⊎◌, inl, inr}
use Rattle.std.specs.Prelude.{option_and_then, IsSome}
use Rattle.std.proofs.lemmas.List.{append-nil}
use Rattle.ms_syntax.specs.declared.token.Spanned.{Spanned}
use Rattle.ms_syntax.specs.Grammar.{Tokens, left, left_after, max_nesting, IsShallow, Begins, CannotGoOn, SyntaxAt, DeepAt}
use Rattle.ms_syntax.specs.OneAnswer.{OneAnswer}

-- ---- two fronts of the same tokens

-- the longer one has the next token of the shorter
record Longer (u v longer : Tokens) : Type 0 where
  token : Spanned
  more : Tokens
  behind : Tokens
  front : longer ≡ u ++ token ∷ more
  next : v ≡ token ∷ behind

tail_is : (x y : Spanned) (u v : Tokens) → x ∷ u ≡ y ∷ v → u ≡ v
tail_is x y u v h = cc

head_is : (x y : Spanned) (u v : Tokens) → x ∷ u ≡ y ∷ v → x ≡ y
head_is x y u v h = cc

longer : (u v w z : Tokens) → u ++ v ≡ w ++ z → length u < length w → Longer u v w
longer [] v [] z h lt = absurd (omega arith)
longer [] v (y ∷ w) z h lt = record { token = y; more = w; behind = w ++ z; front = refl; next = h }
longer (x ∷ u) v [] z h lt = absurd (omega arith)
longer (x ∷ u) v (y ∷ w) z h lt =
    let l = longer u v w z (tail_is x y (u ++ v) (w ++ z) h) (omega arith) in
    record { token = l.token; more = l.more; behind = l.behind; front = ap (λ a. a ∷ w) (sym (head_is x y (u ++ v) (w ++ z) h)) ∙ ap (λ q. x ∷ q) l.front; next = l.next }

same_front : (u v w z : Tokens) → u ++ v ≡ w ++ z → length u ≡ length w → u ≡ w
same_front [] v [] z h e = refl
same_front [] v (y ∷ w) z h e = absurd (omega arith)
same_front (x ∷ u) v [] z h e = absurd (omega arith)
same_front (x ∷ u) v (y ∷ w) z h e =
    ap (λ a. a ∷ u) (head_is x y (u ++ v) (w ++ z) h) ∙ ap (λ q. y ∷ q) (same_front u v w z (tail_is x y (u ++ v) (w ++ z) h) (omega arith))

same_rest : (u v z : Tokens) → u ++ v ≡ u ++ z → v ≡ z
same_rest [] v z h = h
same_rest (x ∷ u) v z h = same_rest u v z (tail_is x x (u ++ v) (u ++ z) h)

-- ---- nesting

none_then : (o : Option ℕ) (w : Tokens) → o ≡ None → option_and_then (λ m. left m w) o ≡ None
none_then o w h = ap (option_and_then (λ m. left m w)) h

-- where brackets pass what may, they do so whatever follows
still_none : (n : ℕ) (u v : Tokens) → left n u ≡ None → left n (u ++ v) ≡ None
still_none n [] v h = absurd (let e : Some n ≡ None = h in cc)
still_none n (y ∷ u) v h = by (left_after n y.token) (λ m. still_none m u v) h
  where
    by : (o : Option ℕ) → ((m : ℕ) → left m u ≡ None → left m (u ++ v) ≡ None) → option_and_then (λ m. left m u) o ≡ None → option_and_then (λ m. left m (u ++ v)) o ≡ None
    by None go e = refl
    by (Some m) go e = go m e

not_shallow : (u v : Tokens) → left max_nesting u ≡ None → IsShallow (u ++ v) → ⊥
not_shallow u v h s = nothing (subst (λ (o : Option ℕ). IsSome o) (still_none max_nesting u v h) s)
  where
    nothing : IsSome {T = ℕ} None → ⊥
    nothing e = cc

-- ---- languages

module _ {A : Type 0} (writes : A → Tokens → Type 0) where
  shorter : (u : Tokens) (y : Spanned) (more : Tokens) → Begins writes (u ++ y ∷ more) → Begins writes (u ++ y ∷ [])
  shorter u y more (x, rest, g) =
      (x, more ++ rest, subst (writes x) (append_assoc u (y ∷ more) rest ∙ sym (append_assoc u (y ∷ []) (more ++ rest))) g)

  -- no list begins with a front and what cannot follow it
  past : (u v longer_one : Tokens) → CannotGoOn writes u v → Longer u v longer_one → Begins writes longer_one → ⊥
  past u v w c l b =
      let stuck : Begins writes (u ++ l.token ∷ []) → ⊥ = subst (CannotGoOn writes u) l.next c in
      stuck (shorter u l.token l.more (subst (Begins writes) l.front b))

  earlier : (ts : Tokens) (j k : ℕ) → SyntaxAt writes ts j → SyntaxAt writes ts k → j < k → ⊥
  earlier ts j k a b lt =
      past a.front a.rest b.front a.next (longer a.front a.rest b.front b.rest (sym a.whole ∙ b.whole) (omega (arith, a.count, b.count))) b.begins

  one_syntax : (ts : Tokens) (j k : ℕ) → SyntaxAt writes ts j → SyntaxAt writes ts k → j ≡ k
  one_syntax ts j k a b = by (order j k)
    where
      order : (j k : ℕ) → (j ≡ k) ⊎ ((j < k) ⊎ (k < j))
      order j k = grind arith

      by : (j ≡ k) ⊎ ((j < k) ⊎ (k < j)) → j ≡ k
      by (inl e) = e
      by (inr (inl lt)) = absurd (earlier ts j k a b lt)
      by (inr (inr lt)) = absurd (earlier ts k j b a lt)

  -- a front that is shallow has no token that nests too deep
  deeper : (front rest : Tokens) (ts : Tokens) (k : ℕ) → ts ≡ front ++ rest → IsShallow front → DeepAt writes ts k → k < length front → ⊥
  deeper front rest ts k h s d lt =
      let l = longer d.front (d.opening ∷ d.rest) front rest (sym d.whole ∙ h) (omega (arith, d.count)) in
      let same : d.opening ≡ l.token = head_is d.opening l.token d.rest l.behind l.next in
      let whole : front ≡ (d.front ++ d.opening ∷ []) ++ l.more = l.front ∙ ap (λ y. d.front ++ y ∷ l.more) (sym same) ∙ sym (append_assoc d.front (d.opening ∷ []) l.more) in
      not_shallow (d.front ++ d.opening ∷ []) l.more d.passes (subst IsShallow whole s)

  one_deep : (ts : Tokens) (j k : ℕ) → DeepAt writes ts j → DeepAt writes ts k → j ≡ k
  one_deep ts j k a b = by (order j k)
    where
      order : (j k : ℕ) → (j ≡ k) ⊎ ((j < k) ⊎ (k < j))
      order j k = grind arith

      by : (j ≡ k) ⊎ ((j < k) ⊎ (k < j)) → j ≡ k
      by (inl e) = e
      by (inr (inl lt)) = absurd (deeper b.front (b.opening ∷ b.rest) ts j b.whole b.shallow a (omega (arith, b.count)))
      by (inr (inr lt)) = absurd (deeper a.front (a.opening ∷ a.rest) ts k a.whole a.shallow b (omega (arith, a.count)))

  not_both : (ts : Tokens) (j k : ℕ) → SyntaxAt writes ts j → DeepAt writes ts k → ⊥
  not_both ts j k a d = by (order j k)
    where
      order : (j k : ℕ) → (j ≤ k) ⊎ (k < j)
      order j k = grind arith

      by : (j ≤ k) ⊎ (k < j) → ⊥
      by (inl le) =
          let whole : ts ≡ (d.front ++ d.opening ∷ []) ++ d.rest = d.whole ∙ sym (append_assoc d.front (d.opening ∷ []) d.rest) in
          past a.front a.rest (d.front ++ d.opening ∷ []) a.next
          (longer a.front a.rest (d.front ++ d.opening ∷ []) d.rest (sym a.whole ∙ whole) (omega (arith, a.count, d.count, length-append d.front (d.opening ∷ [])))) d.begins
      by (inr lt) = deeper a.front a.rest ts k a.whole a.shallow d (omega (arith, a.count))

  not_syntax : (ts : Tokens) (x : A) (k : ℕ) → writes x ts → SyntaxAt writes ts k → ⊥
  not_syntax ts x k g a = by a.rest a.whole a.next
    where
      by : (rest : Tokens) → ts ≡ a.front ++ rest → CannotGoOn writes a.front rest → ⊥
      by [] h c = c x (subst (writes x) (h ∙ append-nil a.front) g)
      by (y ∷ r) h c = c (x, r, subst (writes x) (h ∙ sym (append_assoc a.front (y ∷ []) r)) g)

  not_deep : (ts : Tokens) (k : ℕ) → IsShallow ts → DeepAt writes ts k → ⊥
  not_deep ts k s d =
      not_shallow (d.front ++ d.opening ∷ []) d.rest d.passes (subst IsShallow (d.whole ∙ sym (append_assoc d.front (d.opening ∷ []) d.rest)) s)

  pub one_answer : OneAnswer writes
  one_answer = record { one_syntax = one_syntax; one_deep = one_deep; not_both = not_both; not_syntax = not_syntax; not_deep = not_deep }
