-- The laws of placing.
use Rattle.std.specs.Prelude.{◌≡◌, ℕ, suc, nat_eq, Bool, true, false, List, ◌∷◌, ◌++◌, length, map, Some, if◌then◌else◌}
use Rattle.ms_base.specs.declared.limits.TheConstants.{CALL_NESTING_LIMIT}
use Rattle.ms_syntax.specs.declared.token.Place.{Place}
use Rattle.ms_code.specs.declared.code.Code.{Code}
use Rattle.ms_code.specs.declared.code.Code.TheOpen.{Code-F}
use Rattle.ms_code.specs.declared.code.Code.TheVariants as c
use Rattle.ms_code.specs.declared.code.Reference.{Reference}
use Rattle.ms_code.specs.declared.code.Reference.TheVariants as r
use Rattle.ms_values.specs.declared.operand.Operand.{Operand}
use Rattle.ms_placing.specs.Outside.{Outside}
use Rattle.ms_placing.specs.Placing.{Caller, Names, Part, Places, caller, named, opener, run, run_step}
use Rattle.ms_placing.specs.Steps.{Out, Rest, Step, bad, ok}
use Rattle.ms_placing_laws.specs.Direct.{Answer, Located, fault, made, placed}
use Rattle.ms_placing_laws.specs.Renaming.{HasLocals, IsFresh, Renaming, lifted, put, renamed}

-- ---- placing goes in steps

-- what comes of an outcome with what is done after it
abbrev pub after : Out → Rest → Out
after (ok q x n ws) k = k q x n ws
after (bad e n ws) k = bad e n ws

-- what is done with the operand is done last, with what the steps before leave
abbrev pub GoesOn : (Rest → Step) → Type 0
GoesOn s = (k : Rest) (n : ℕ) (ws : List ℕ) → s k n ws ≡ after (s ok n ws) k

abbrev pub CallsGoOn : Caller → Type 0
CallsGoOn call = (p : Place) (r : Reference) (xs : List Operand) → GoesOn (call p r xs)

abbrev pub PlacingGoesOn : Type 0
PlacingGoesOn = (out : Outside) (call : Caller) → CallsGoOn call → (e : Code) (env : Names) → GoesOn (run out call e env)

-- where so many bodies may yet be opened
abbrev pub FunctionsGoOn : Type 0
FunctionsGoOn = (out : Outside) (d : ℕ) → CallsGoOn (caller out (opener out d))

-- what is done with the operand of an expression is done with what it comes to
abbrev pub PlacesGoesOn : Type 0
PlacesGoesOn = (out : Outside) (env : Names) (e : Code) (k : Rest) (n : ℕ) (ws : List ℕ)
    → run out (caller out (opener out CALL_NESTING_LIMIT)) e env k n ws ≡ after (Places out env e n ws) k

-- the outcome of an answer
abbrev pub outcome : Answer Located → Out
outcome (made x n ws) = ok x.0 x.1 n ws
outcome (fault e n ws) = bad e n ws

-- placing is the direct definition
abbrev pub PlacesDirectly : Type 0
PlacesDirectly = (out : Outside) (env : Names) (e : Code) (n : ℕ) (ws : List ℕ) → Places out env e n ws ≡ outcome (placed out env e n ws)

-- ---- names

-- what names become has the values that they have, however many names were declared inside
abbrev pub Becomes : Renaming → Outside → Outside → Names → Names → Type 0
Becomes f out out' env env' = (before : Names) (name : Reference) → named out (before ++ env) name ≡ named out' (before ++ env') (f (length before) name)

-- a tree is placed as the tree that it becomes
abbrev pub NamesBecome : Type 0
NamesBecome = (f : Renaming) (out out' : Outside) (env env' : Names) → Becomes f out out' env env' → (call : Caller) (e : Code) (before : Names) (k : Rest)
    → run out call e (before ++ env) k ≡ run out' call (renamed f (length before) e) (before ++ env') k

-- a name has this value, whatever names are around
abbrev pub StandsFor : Outside → Reference → Operand → Type 0
StandsFor out name x = (env : Names) → named out env name ≡ x

abbrev pub DeclaredStand : Type 0
DeclaredStand = (out : Outside) (n : ℕ) → StandsFor out (r.Model n) (out.value (r.Model n)) × StandsFor out (r.Library n) (out.value (r.Library n))

-- a local of a value is placed as a name that stands for the value
abbrev pub ValuesArePut : Type 0
ValuesArePut = (out : Outside) (name : Reference) (x : Operand) → StandsFor out name x → (call : Caller) (e : Code) (before env : Names) (k : Rest)
    → run out call e (before ++ x ∷ env) k ≡ run out call (put name (length before) e) (before ++ env) k

-- the same outside, but that a name of the model has this value
abbrev pub value_with : Outside → ℕ → Operand → Reference → Operand
value_with out n x (r.Local k) = out.value (r.Local k)
value_with out n x (r.Model k) = if nat_eq k n then x else out.value (r.Model k)
value_with out n x (r.Library k) = out.value (r.Library k)
value_with out n x (r.BuiltIn b) = out.value (r.BuiltIn b)

abbrev pub with_value : Outside → ℕ → Operand → Outside
with_value out n x = record { value = value_with out n x; body = out.body; point = out.point; word_of = out.word_of; after = out.after }

-- a local of any value is placed as a name that the tree does not have, given this value
abbrev pub FreshNamesServe : Type 0
FreshNamesServe = (out : Outside) (n : ℕ) (x : Operand) (e : Code) → IsFresh n e → (call : Caller) (before env : Names) (k : Rest)
    → run out call e (before ++ x ∷ env) k ≡ run (with_value out n x) call (put (r.Model n) (length before) e) (before ++ env) k

-- ---- calls

-- a body has no locals of outside but its parameters, and then it does not matter which names are around them
abbrev pub BodiesStandAlone : Type 0
BodiesStandAlone = (body : Code) (xs : List Operand) → HasLocals (length xs) body → (out : Outside) (call : Caller) (env : Names) (k : Rest)
    → run out call body (xs ++ env) k ≡ run out call body xs k

abbrev pub is_declared : Reference → Bool
is_declared (r.Local n) = false
is_declared (r.Model n) = true
is_declared (r.Library n) = true
is_declared (r.BuiltIn b) = false

-- a `let` of which the values are placed where so many bodies may yet be opened, and its body where one less may be
abbrev pub let_below : Outside → ℕ → Place → List Code → Code → Part
let_below out d p es body =
    run_step out (caller out (opener out d)) (Code-F.Let p (map (run out (caller out (opener out (suc d)))) es) (run out (caller out (opener out d)) body))

-- a call of a function is placed as a `let` whose values are the arguments and whose body is that of the function
abbrev pub CallsAreLets : Type 0
CallsAreLets = (out : Outside) (d : ℕ) (p : Place) (name : Reference) (es : List Code) (body : Code)
    → is_declared name ≡ true → out.body name ≡ Some body → HasLocals (length es) body → (env : Names) (k : Rest)
    → run out (caller out (opener out (suc d))) (c.Call p name es) env k ≡ let_below out d p (lifted 0 es) body env k
