-- A call is a `let` of its arguments.
use Rattle.std.proofs.Common.{◌≡◌, ℕ, zero, suc, ◌+◌, ◌<◌, ◌≤◌, ◌-◌, Bool, true, false, List, [], ◌∷◌, ◌++◌, length, map, Some, refl, sym, ap, ◌∙◌, subst, arith, length-append, append_assoc}
use Rattle.std.specs.Prelude.{nat_lt, slice_get, if◌then◌else◌}
use Rattle.std.proofs.lemmas.Bool.Decides.{nat_tests}
use Rattle.std.proofs.lemmas.List.{append-nil}
use Rattle.std.proofs.lemmas.Option.{slice_get_past}
use Rattle.ms_syntax.specs.declared.token.Place.{Place}
use Rattle.ms_code.specs.declared.code.Reference.{Reference}
use Rattle.ms_code.specs.declared.code.Reference.TheVariants as r
use Rattle.ms_code.specs.declared.code.Code.{Code, fold-roll-Code}
use Rattle.ms_code.specs.declared.code.Code.TheOpen.{Code-F}
use Rattle.ms_code.specs.declared.code.Code.TheVariants as c
use Rattle.ms_code.specs.declared.code.Code.TheVariants.{rolls-Call}
use Rattle.ms_values.specs.declared.operand.Operand.{Operand}
use Rattle.ms_placing.specs.Outside.{Outside}
use Rattle.ms_placing.specs.Steps as s
use Rattle.ms_placing.specs.Steps.{Rest, Step}
use Rattle.ms_placing.specs.Placing as p
use Rattle.ms_placing.specs.Placing.{Caller, Names, arm_step, caller, generator_step, generators_step, link_step, local, named, opener, row_step, run, run_step, subscript_step}
use Rattle.ms_placing_laws.specs.Renaming.{HasLocals, keep, lift, lifted, renamed}
use Rattle.ms_placing_laws.specs.Laws.{BodiesStandAlone, CallsAreLets, is_declared, let_below}
use Rattle.ms_placing_laws.proofs.Putting.{front, within}
use Rattle.ms_placing_laws.proofs.Renamed.{names_become}

not_within : (k n : ℕ) → nat_lt k n ≡ false → n ≤ k
not_within k n h = grind (arith, nat_tests)

-- ---- more names around

-- what stands behind is found behind more
lower : (before more env : Names) (k : ℕ) → length before ≤ k → slice_get (before ++ (more ++ env)) (k + length more) ≡ slice_get (before ++ env) k
lower [] [] env k h = ap (slice_get env) (omega arith)
lower [] (x ∷ more) env k h =
    let e : k + length (x ∷ more) ≡ suc (k + length more) = omega arith in
    (λ i. slice_get (x ∷ (more ++ env)) (e i)) ∙ lower [] more env k h
lower (x ∷ before) more env zero h = absurd (omega arith)
lower (x ∷ before) more env (suc k) h =
    let e : suc k + length more ≡ suc (k + length more) = omega arith in
    (λ i. slice_get (x ∷ (before ++ (more ++ env))) (e i)) ∙ lower before more env k (omega arith)

same_beyond : (before more env : Names) (k : ℕ) → (k + length more) - length (before ++ (more ++ env)) ≡ k - length (before ++ env)
same_beyond before more env k = omega (arith, length-append before (more ++ env), length-append more env, length-append before env)

module _ (out : Outside) (more env before : Names) where
  lifts_by : (k : ℕ) (b : Bool) → nat_lt k (length before) ≡ b → named out (before ++ env) (r.Local k) ≡ named out (before ++ (more ++ env)) (lift (length more) (length before) (r.Local k))
  lifts_by k true h =
      let y = front before env (more ++ env) k (within k (length before) h) in
      (λ i. local out (k - length (before ++ env)) (y.1 i)) ∙ sym (λ i. local out (k - length (before ++ (more ++ env))) (y.2 i))
      ∙ sym (λ i. named out (before ++ (more ++ env)) (if h i then r.Local k else r.Local (k + length more)))
  lifts_by k false h =
      sym (λ i. local out (same_beyond before more env k i) (lower before more env k (not_within k (length before) h) i))
      ∙ sym (λ i. named out (before ++ (more ++ env)) (if h i then r.Local k else r.Local (k + length more)))

  lifts : (name : Reference) → named out (before ++ env) name ≡ named out (before ++ (more ++ env)) (lift (length more) (length before) name)
  lifts (r.Local k) = lifts_by k (nat_lt k (length before)) refl
  lifts (r.Model k) = refl
  lifts (r.Library k) = refl
  lifts (r.BuiltIn b) = refl

-- ---- a body under its parameters alone

-- every local of outside has the value of a declared name
abbrev value_beyond : Outside → Reference → Operand
value_beyond out (r.Local k) = out.value (r.Model 0)
value_beyond out (r.Model k) = out.value (r.Model k)
value_beyond out (r.Library k) = out.value (r.Library k)
value_beyond out (r.BuiltIn b) = out.value (r.BuiltIn b)

abbrev beyond : Outside → Outside
beyond out = record { value = value_beyond out; body = out.body; point = out.point; word_of = out.word_of; after = out.after }

module _ (out : Outside) (xs env before : Names) where
  keeps_by : (k : ℕ) (b : Bool) → nat_lt k (length before + length xs) ≡ b
      → named (beyond out) (before ++ xs) (r.Local k) ≡ named out (before ++ (xs ++ env)) (keep (length xs) (length before) (r.Local k))
  keeps_by k true h =
      let l : k < length (before ++ xs) = omega (arith, within k (length before + length xs) h, length-append before xs) in
      let y = front (before ++ xs) [] env k l in
      sym (λ i. local (beyond out) (k - length (before ++ xs)) (slice_get (append-nil (before ++ xs) i) k)) ∙ (λ i. local (beyond out) (k - length (before ++ xs)) (y.1 i))
      ∙ sym (λ i. local out (k - length (before ++ (xs ++ env))) (y.2 i)) ∙ (λ i. local out (k - length (before ++ (xs ++ env))) (slice_get (append_assoc before xs env i) k))
      ∙ sym (λ i. named out (before ++ (xs ++ env)) (if h i then r.Local k else r.Model 0))
  keeps_by k false h =
      let l : length (before ++ xs) ≤ k = omega (arith, not_within k (length before + length xs) h, length-append before xs) in
      (λ i. local (beyond out) (k - length (before ++ xs)) (slice_get_past (before ++ xs) k l i))
      ∙ sym (λ i. named out (before ++ (xs ++ env)) (if h i then r.Local k else r.Model 0))

  keeps : (name : Reference) → named (beyond out) (before ++ xs) name ≡ named out (before ++ (xs ++ env)) (keep (length xs) (length before) name)
  keeps (r.Local k) = keeps_by k (nat_lt k (length before + length xs)) refl
  keeps (r.Model k) = refl
  keeps (r.Library k) = refl
  keeps (r.BuiltIn b) = refl

alone_under : (body : Code) (xs : Names) → HasLocals (length xs) body → (out : Outside) (call : Caller) (env : Names) (k : Rest)
    → run (beyond out) call body xs k ≡ run out call body (xs ++ env) k
alone_under body xs h out call env k =
    names_become (keep (length xs)) (beyond out) out xs (xs ++ env) (λ before name. keeps out xs env before name) call body [] k
    ∙ (λ i. run out call (h i) (xs ++ env) k)

pub bodies_stand_alone : BodiesStandAlone
bodies_stand_alone body xs h out call env k =
    sym (alone_under body xs h out call env k) ∙ alone_under body xs h out call [] k ∙ (λ i. run out call body (append-nil xs i) k)

-- ---- arguments as the values of a `let`

module _ (out : Outside) (call : Caller) (env : Names) (k : List Operand → Step) (k' : Names → Step) (n : ℕ) (goes : (xs : List Operand) → length xs ≡ n → k xs ≡ k' (xs ++ env)) where
  arguments_bound : (es : List Code) (xs : List Operand) → length xs + length es ≡ n
      → p.gathered (map (run out call) es) env xs k ≡ p.bound (map (run out call) (lifted (length xs) es)) (xs ++ env) k'
  arguments_bound [] xs h = goes xs (omega arith)
  arguments_bound (e ∷ es) xs h =
      names_become (lift (length xs)) out out env (xs ++ env) (λ before name. lifts out xs env before name) call e [] (λ q x. p.gathered (map (run out call) es) env (x ∷ xs) k)
      ∙ (λ i. run out call (renamed (lift (length xs)) 0 e) (xs ++ env) (λ q x. arguments_bound es (x ∷ xs) (omega arith) i))

-- ---- calls

module _ (out : Outside) (d : ℕ) (q : Place) (body : Code) (xs : List Operand) (k : Rest) where
  opens : p.opened (opener out (suc d)) q (Some body) xs k ≡ run out (caller out (opener out d)) body xs (λ u x. s.visit q (Some x) k)
  unfolding opener
  opens = refl

  opens_declared : (name : Reference) → is_declared name ≡ true → out.body name ≡ Some body
      → caller out (opener out (suc d)) q name xs k ≡ run out (caller out (opener out d)) body xs (λ u x. s.visit q (Some x) k)
  opens_declared (r.Local n) h e = absurd (cc)
  opens_declared (r.Model n) h e = (λ i. p.opened (opener out (suc d)) q (e i) xs k) ∙ opens
  opens_declared (r.Library n) h e = (λ i. p.opened (opener out (suc d)) q (e i) xs k) ∙ opens
  opens_declared (r.BuiltIn b) h e = absurd (cc)

call_at : (out : Outside) (call : Caller) (q : Place) (name : Reference) (es : List Code) (env : Names) (k : Rest)
    → run out call (c.Call q name es) env k ≡ p.gathered (map (run out call) es) env [] (λ xs. call q name xs k)
unfolding run_step
call_at out call q name es env k =
    sym (λ i. run out call (rolls-Call q name es i) env k)
    ∙ (λ i. fold-roll-Code _ _ _ _ _ _ _ (run_step out call) arm_step generator_step generators_step link_step row_step subscript_step (Code-F.Call q name es) i env k)

let_at : (out : Outside) (d : ℕ) (q : Place) (es : List Code) (body : Code) (env : Names) (k : Rest)
    → p.bound (map (run out (caller out (opener out (suc d)))) es) env (λ inner. run out (caller out (opener out d)) body inner (λ u x. s.visit q (Some x) k)) ≡ let_below out d q es body env k
unfolding run_step
let_at out d q es body env k = refl

pub calls_are_lets : CallsAreLets
calls_are_lets out d q name es body declared is closed env k =
    call_at out (caller out (opener out (suc d))) q name es env k
    ∙ arguments_bound out (caller out (opener out (suc d))) env (λ xs. caller out (opener out (suc d)) q name xs k)
    (λ inner. run out (caller out (opener out d)) body inner (λ u x. s.visit q (Some x) k)) (length es)
    (λ xs h. opens_declared out d q body xs k name declared is
    ∙ sym (bodies_stand_alone body xs (subst (λ (n : ℕ). HasLocals n body) (sym h) closed) out (caller out (opener out d)) env (λ u x. s.visit q (Some x) k)))
    es [] (omega arith)
    ∙ let_at out d q (lifted 0 es) body env k
