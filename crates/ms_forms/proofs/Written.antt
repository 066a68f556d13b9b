-- The spelling that each token is written in.
use Rattle.std.proofs.Common.{◌≡◌, ◌≢◌, ℕ, ◌+◌, ◌*◌, ◌-◌, ◌≤◌, ◌<◌, ◌^◌, List, [], ◌∷◌, ◌++◌, length, take, drop, map, Some, None, Bool, true, false, refl, sym, ap, subst, arith, inl}
use Rattle.std.specs.Prelude.{◌==◌, fold, unwrap_or, if◌then◌else◌, All}
use Rattle.std.specs.List.{list_all}
use Rattle.std.specs.Fmt.{decimal}
use Rattle.std.proofs.lemmas.Bool.Decides.{nat_tests}
use Rattle.std.proofs.lemmas.Fmt.{decimal_nonempty, digits_decimal, digits_value-decimal}
use Rattle.std.proofs.lemmas.List.Elements.{All-head, All-tail, All-cons, All-nil}
use Rattle.std.proofs.lemmas.Str.Parse.{IsDigitsTest, FoldsDigits, IsNumeralModel, numerals_by_fold}
use Rattle.ms_syntax.specs.declared.token.Token.{Token}
use Rattle.ms_syntax.specs.declared.token.Token.TheVariants as t
use Rattle.ms_syntax.specs.declared.token.Spanned.{Spanned}
use Rattle.ms_syntax.specs.Form.{Form, blank, token, fault, is_digit, is_plain, escape, max_number}
use Rattle.ms_syntax.specs.Cut.{Cuts, spanned, HasTokens}
use Rattle.ms_forms.specs.Spelling.{Spells, AllSpell, spaced, Means, nothing, itself, escaped, IsWellFormed, written, quoted, may_be_meant}
use Rattle.ms_forms.proofs.Runs.{both, and_left, and_right, same_eqb, digit_range}
use Rattle.ms_forms.proofs.Spelled.{spelled}
use Rattle.ms_forms.proofs.Exists.{spaced_tokens}

-- ---- numbers

range_digit : (c : ℕ) → 48 ≤ c → c ≤ 57 → is_digit c ≡ true
range_digit c h i = grind (arith, nat_tests)

digits_test : IsDigitsTest (λ ds. list_all is_digit ds ≡ true)
digits_test = record {
  empty = refl;
  parts = λ c cs e. (digit_range c (and_left (is_digit c) (list_all is_digit cs) e), and_right (is_digit c) (list_all is_digit cs) e);
  more = λ c cs k e. both (is_digit c) (list_all is_digit cs) (range_digit c k.0 k.1) e;
}

after : ℕ → List ℕ → ℕ
after n ds = fold (λ m d. 10 * m + (d - 48)) n ds

digits_fold : FoldsDigits after
unfolding after
digits_fold = record { empty = λ n. refl; more = λ n c cs k. ap (λ m. fold (λ m d. 10 * m + (d - 48)) (m + (c - 48)) cs) (omega arith) }

numerals : IsNumeralModel (λ ds. list_all is_digit ds ≡ true) (after 0)
numerals = numerals_by_fold (λ ds. list_all is_digit ds ≡ true) digits_test after digits_fold

number_written : (n : ℕ) → n ≤ max_number → Spells (t.Number n) (decimal n)
unfolding after
number_written n h =
    let small : n < 2 ^ 64 = omega arith in
    let long = decimal_nonempty n small in
    let some : decimal n ≢ [] = λ e. (let none : length (decimal n) ≡ 0 = ap length e in omega arith) in
    ((some, digits_decimal numerals n small), digits_value-decimal numerals n small, h)

-- ---- texts

meant_plain : (b : ℕ) → may_be_meant b ≡ true → (b == 10) ≡ false → (b == 34) ≡ false → (b == 92) ≡ false → is_plain b ≡ true
meant_plain b h i j k = grind (arith, nat_tests)

quotes : (w : List ℕ) → list_all may_be_meant w ≡ true → Means (quoted w) w
quotes [] h = nothing
quotes (b ∷ w) h = one (b == 10) (b == 34) (b == 92) refl refl refl (quotes w (and_right (may_be_meant b) (list_all may_be_meant w) h))
  where
    one : (x y z : Bool) → (b == 10) ≡ x → (b == 34) ≡ y → (b == 92) ≡ z → Means (quoted w) w
        → Means ((if x then 92 ∷ 110 ∷ [] else (if y then 92 ∷ 34 ∷ [] else (if z then 92 ∷ 92 ∷ [] else b ∷ []))) ++ quoted w) (b ∷ w)
    one true y z i j k m = subst (λ (c : ℕ). Means (92 ∷ 110 ∷ quoted w) (c ∷ w)) (sym (same_eqb b 10 i)) (escaped 110 10 (quoted w) w refl m)
    one false true z i j k m = subst (λ (c : ℕ). Means (92 ∷ 34 ∷ quoted w) (c ∷ w)) (sym (same_eqb b 34 j)) (escaped 34 34 (quoted w) w refl m)
    one false false true i j k m = subst (λ (c : ℕ). Means (92 ∷ 92 ∷ quoted w) (c ∷ w)) (sym (same_eqb b 92 k)) (escaped 92 92 (quoted w) w refl m)
    one false false false i j k m = itself b (quoted w) w (meant_plain b (and_left (may_be_meant b) (list_all may_be_meant w) h) i j k) m

-- ---- all together

pub written_spells : (x : Token) → IsWellFormed x → Spells x (written x)
written_spells (t.Name w) h = (refl, h)
written_spells (t.Text w) h = (quoted w, refl, quotes w h)
written_spells (t.Number n) h = number_written n h
written_spells (t.Keyword k) h = refl
written_spells (t.Symbol s) h = inl refl

all_written : (ts : List Token) → All IsWellFormed ts → AllSpell ts (map written ts)
all_written [] h = tt
all_written (x ∷ ts) h = (written_spells x (All-head IsWellFormed x ts h), all_written ts (All-tail IsWellFormed x ts h))

pub written_tokens : (file : ℕ) (ts : List Token) → All IsWellFormed ts → (us : List Spanned) × HasTokens file (spaced (map written ts)) us × (map (λ (y : Spanned). y.token) us ≡ ts)
written_tokens file ts h = spaced_tokens file ts (map written ts) (all_written ts h)

-- ---- what is spelled is well formed

plain_meant : (b : ℕ) → is_plain b ≡ true → may_be_meant b ≡ true
plain_meant b h = grind (arith, nat_tests)

some_same : (a b : ℕ) → Some a ≡ Some b → a ≡ b
some_same a b h = ap (λ o. unwrap_or o 0) h

escape_meant : (e c : ℕ) → escape e ≡ Some c → may_be_meant c ≡ true
escape_meant e c h = cases (e == 110) (e == 116) (e == 34) (e == 92) h
  where
    at : (a : ℕ) → may_be_meant a ≡ true → Some a ≡ Some c → may_be_meant c ≡ true
    at a m i = subst (λ (z : ℕ). may_be_meant z ≡ true) (some_same a c i) m

    cases : (p q r s : Bool) → (if p then Some 10 else (if q then Some 9 else (if r then Some 34 else (if s then Some 92 else None)))) ≡ Some c → may_be_meant c ≡ true
    cases true q r s i = at 10 refl i
    cases false true r s i = at 9 refl i
    cases false false true s i = at 34 refl i
    cases false false false true i = at 92 refl i
    cases false false false false i = absurd (let wrong : None ≡ Some c = i in cc)

all_meant : (inner w : List ℕ) → Means inner w → list_all may_be_meant w ≡ true
all_meant inner w nothing = refl
all_meant inner w (itself b bs v p m) = both (may_be_meant b) (list_all may_be_meant v) (plain_meant b p) (all_meant bs v m)
all_meant inner w (escaped e c bs v p m) = both (may_be_meant c) (list_all may_be_meant v) (escape_meant e c p) (all_meant bs v m)

spelled_well : (x : Token) (bytes : List ℕ) → Spells x bytes → IsWellFormed x
spelled_well (t.Name w) bytes h = h.1
spelled_well (t.Text w) bytes (inner, e, m) = all_meant inner w m
spelled_well (t.Number n) bytes h = h.2
spelled_well (t.Keyword k) bytes h = tt
spelled_well (t.Symbol s) bytes h = tt

cut_well : (file start : ℕ) (all bytes : List ℕ) (fs : List Form) → Cuts bytes fs [] → All (λ (y : Spanned). IsWellFormed y.token) (spanned file all start fs)
cut_well file start all bytes [] c = All-nil (λ (y : Spanned). IsWellFormed y.token)
cut_well file start all bytes (blank n ∷ fs) c = cut_well file (start + n) all (drop n bytes) fs c.3
cut_well file start all bytes (token u n ∷ fs) c =
    All-cons (λ (y : Spanned). IsWellFormed y.token) _ (spanned file all (start + n) fs) (spelled_well u (take n bytes) (spelled bytes u n c.1).0) (cut_well file (start + n) all (drop n bytes) fs c.3)
cut_well file start all bytes (fault kind n ∷ fs) c = absurd c.2

pub tokens_well : (file : ℕ) (bytes : List ℕ) (ts : List Spanned) → HasTokens file bytes ts → All (λ (y : Spanned). IsWellFormed y.token) ts
tokens_well file bytes ts (fs, c, e) = subst (All (λ (y : Spanned). IsWellFormed y.token)) (sym e) (cut_well file 0 bytes bytes fs c)
