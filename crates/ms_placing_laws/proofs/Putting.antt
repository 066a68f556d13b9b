-- A value that is put in for a local.
use Rattle.std.proofs.Common.{◌≡◌, ℕ, zero, suc, ◌<◌, ◌≤◌, ◌-◌, Bool, true, false, [], ◌∷◌, ◌++◌, length, Some, refl, sym, ◌∙◌, arith, eqb-true, length-append}
use Rattle.std.specs.Prelude.{nat_lt, nat_eq, slice_get, if◌then◌else◌}
use Rattle.std.proofs.lemmas.Bool.Decides.{nat_tests}
use Rattle.ms_code.specs.declared.code.Code.{Code}
use Rattle.ms_code.specs.declared.code.Reference.{Reference}
use Rattle.ms_code.specs.declared.code.Reference.TheVariants as r
use Rattle.ms_values.specs.declared.operand.Operand.{Operand}
use Rattle.ms_placing.specs.Outside.{Outside}
use Rattle.ms_placing.specs.Steps.{Rest}
use Rattle.ms_placing.specs.Placing.{Caller, Names, local, named, run}
use Rattle.ms_placing_laws.specs.Renaming.{IsFresh, avoid, put_reference}
use Rattle.ms_placing_laws.specs.Laws.{DeclaredStand, FreshNamesServe, StandsFor, ValuesArePut, with_value}
use Rattle.ms_placing_laws.proofs.Renamed.{names_become}

pub within : (k n : ℕ) → nat_lt k n ≡ true → k < n
within k n h = grind (arith, nat_tests)

past : (k n : ℕ) → nat_lt k n ≡ false → nat_eq k n ≡ false → n < k
past k n h e = grind (arith, nat_tests)

-- what stands in front is found with anything behind
pub front : (before after after' : Names) (k : ℕ) → k < length before → (y : Operand) × (slice_get (before ++ after) k ≡ Some y) × (slice_get (before ++ after') k ≡ Some y)
front [] after after' k h = absurd (omega arith)
front (x ∷ before) after after' zero h = (x, refl, refl)
front (x ∷ before) after after' (suc k) h = front before after after' k (omega arith)

here : (before : Names) (x : Operand) (env : Names) → slice_get (before ++ x ∷ env) (length before) ≡ Some x
here [] x env = refl
here (y ∷ before) x env = here before x env

behind : (before : Names) (x : Operand) (env : Names) (k : ℕ) → length before ≤ k → slice_get (before ++ x ∷ env) (suc k) ≡ slice_get (before ++ env) k
behind [] x env k h = refl
behind (y ∷ before) x env zero h = absurd (omega arith)
behind (y ∷ before) x env (suc k) h = behind before x env k (omega arith)

one_less : (before : Names) (x : Operand) (env : Names) (k : ℕ) → suc k - length (before ++ x ∷ env) ≡ k - length (before ++ env)
one_less before x env k = omega (arith, length-append before (x ∷ env), length-append before env)

module _ (out : Outside) (name : Reference) (x : Operand) (stands : StandsFor out name x) (env before : Names) where
  abbrev Found : ℕ → Type 0
  Found k = named out (before ++ x ∷ env) (r.Local k) ≡ named out (before ++ env) (put_reference name (length before) (r.Local k))

  in_front : (k : ℕ) → nat_lt k (length before) ≡ true → Found k
  in_front k h =
      let y = front before (x ∷ env) env k (within k (length before) h) in
      (λ i. local out (k - length (before ++ x ∷ env)) (y.1 i)) ∙ sym (λ i. local out (k - length (before ++ env)) (y.2 i))
      ∙ sym (λ i. named out (before ++ env) (if h i then r.Local k else (if nat_eq k (length before) then name else r.Local (k - 1))))

  at_it : (k : ℕ) → nat_lt k (length before) ≡ false → nat_eq k (length before) ≡ true → Found k
  at_it k h e =
      (λ i. local out (k - length (before ++ x ∷ env)) (slice_get (before ++ x ∷ env) (eqb-true k (length before) e i)))
      ∙ (λ i. local out (k - length (before ++ x ∷ env)) (here before x env i))
      ∙ sym (stands (before ++ env))
      ∙ sym (λ i. named out (before ++ env) (if h i then r.Local k else (if e i then name else r.Local (k - 1))))

  further : (k : ℕ) → length before < k → nat_lt k (length before) ≡ false → nat_eq k (length before) ≡ false → Found k
  further zero far h e = absurd (omega arith)
  further (suc k) far h e =
      let less : suc k - 1 ≡ k = omega arith in
      (λ i. local out (one_less before x env k i) (behind before x env k (omega arith) i))
      ∙ sym (λ i. named out (before ++ env) (r.Local (less i)))
      ∙ sym (λ i. named out (before ++ env) (if h i then r.Local (suc k) else (if e i then name else r.Local (suc k - 1))))

  found_by : (k : ℕ) (b c : Bool) → nat_lt k (length before) ≡ b → nat_eq k (length before) ≡ c → Found k
  found_by k true c h e = in_front k h
  found_by k false true h e = at_it k h e
  found_by k false false h e = further k (past k (length before) h e) h e

  becomes : (other : Reference) → named out (before ++ x ∷ env) other ≡ named out (before ++ env) (put_reference name (length before) other)
  becomes (r.Local k) = found_by k (nat_lt k (length before)) (nat_eq k (length before)) refl refl
  becomes (r.Model k) = refl
  becomes (r.Library k) = refl
  becomes (r.BuiltIn b) = refl

pub values_are_put : ValuesArePut
values_are_put out name x stands call e before env k =
    names_become (put_reference name) out out (x ∷ env) env (λ inner other. becomes out name x stands env inner other) call e before k

pub declared_stand : DeclaredStand
declared_stand out n = (λ env. refl, λ env. refl)

-- ---- a name that the tree does not have

same : (n : ℕ) → nat_eq n n ≡ true
same n = grind (arith, nat_tests)

next : (n : ℕ) → nat_eq (suc n) n ≡ false
next n = grind (arith, nat_tests)

-- the name has the value of the next one
abbrev between : Outside → ℕ → Outside
between out n = with_value out n (out.value (r.Model (suc n)))

module _ (out : Outside) (n : ℕ) (env : Names) where
  avoids_by : (k : ℕ) (b : Bool) → nat_eq k n ≡ b → named (between out n) env (r.Model k) ≡ named out env (avoid n 0 (r.Model k))
  avoids_by k true e =
      (λ i. if e i then out.value (r.Model (suc n)) else out.value (r.Model k)) ∙ sym (λ i. named out env (if e i then r.Model (suc n) else r.Model k))
  avoids_by k false e =
      (λ i. if e i then out.value (r.Model (suc n)) else out.value (r.Model k)) ∙ sym (λ i. named out env (if e i then r.Model (suc n) else r.Model k))

  avoids : (d : ℕ) (name : Reference) → named (between out n) env name ≡ named out env (avoid n d name)
  avoids d (r.Local k) = refl
  avoids d (r.Model k) = avoids_by k (nat_eq k n) refl
  avoids d (r.Library k) = refl
  avoids d (r.BuiltIn b) = refl

  avoids_value_by : (x : Operand) (k : ℕ) (b : Bool) → nat_eq k n ≡ b → named (between out n) env (r.Model k) ≡ named (with_value out n x) env (avoid n 0 (r.Model k))
  avoids_value_by x k true e =
      (λ i. if e i then out.value (r.Model (suc n)) else out.value (r.Model k)) ∙ sym (λ i. if next n i then x else out.value (r.Model (suc n)))
      ∙ sym (λ i. named (with_value out n x) env (if e i then r.Model (suc n) else r.Model k))
  avoids_value_by x k false e =
      (λ i. if e i then out.value (r.Model (suc n)) else out.value (r.Model k)) ∙ sym (λ i. if e i then x else out.value (r.Model k))
      ∙ sym (λ i. named (with_value out n x) env (if e i then r.Model (suc n) else r.Model k))

  avoids_value : (x : Operand) (d : ℕ) (name : Reference) → named (between out n) env name ≡ named (with_value out n x) env (avoid n d name)
  avoids_value x d (r.Local k) = refl
  avoids_value x d (r.Model k) = avoids_value_by x k (nat_eq k n) refl
  avoids_value x d (r.Library k) = refl
  avoids_value x d (r.BuiltIn b) = refl

-- what value a name has that a tree does not have does not matter
fresh_is_free : (out : Outside) (n : ℕ) (x : Operand) (e : Code) → IsFresh n e → (call : Caller) (env : Names) (k : Rest) → run out call e env k ≡ run (with_value out n x) call e env k
fresh_is_free out n x e fresh call env k =
    sym (λ i. run out call (fresh i) env k)
    ∙ sym (names_become (avoid n) (between out n) out env env (λ inner name. avoids out n (inner ++ env) (length inner) name) call e [] k)
    ∙ names_become (avoid n) (between out n) (with_value out n x) env env (λ inner name. avoids_value out n (inner ++ env) x (length inner) name) call e [] k
    ∙ (λ i. run (with_value out n x) call (fresh i) env k)

pub fresh_names_serve : FreshNamesServe
fresh_names_serve out n x e fresh call before env k =
    fresh_is_free out n x e fresh call (before ++ x ∷ env) k
    ∙ values_are_put (with_value out n x) (r.Model n) x (λ inner. λ i. if same n i then x else out.value (r.Model n)) call e before env k
