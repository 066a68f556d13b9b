-- What forms in code stand for, and what answers in code say.
use Rattle.std.specs.Prelude.{◌≡◌, Bool, map, Option, option_map, Result, Ok, Err, if◌then◌else◌}
use Rattle.ms_typing.specs.declared.types.ExprType.{ExprType}
use Rattle.ms_typing.specs.declared.types.Cause.TheVariants as cause
use Rattle.ms_typing.specs.Conversion.{as_known}
use Rattle.ms_typing.specs.Meaning as m
use Rattle.ms_typing.specs.Term as f
use Rattle.ms_typing.specs.Least.{Given, Kind, Typing, has, fault, follows, fixed, operand}
use Rattle.ms_rows.specs.declared.operands.Kind as code_kind
use Rattle.ms_rows.specs.declared.operands.Kind.TheVariants as k
use Rattle.ms_rows.specs.declared.arguments.Asked.{Asked}
use Rattle.ms_rows.specs.declared.form.Meaning as code_meaning
use Rattle.ms_rows.specs.declared.form.Meaning.TheVariants as c
use Rattle.ms_rows.specs.declared.form.Told as code_told
use Rattle.ms_rows.specs.declared.form.Told.TheVariants as t
use Rattle.ms_rows.specs.declared.form.Form as code_form
use Rattle.ms_rows.specs.declared.form.Form.TheVariants as v
use Rattle.ms_rows.specs.declared.fault.TypeFault.{TypeFault}
use Rattle.ms_rows.specs.declared.fault.TypeFault.TheVariants as e

-- ---- what decides a row

-- a type, read as known where this is said
abbrev pub read : Bool → ExprType → ExprType
read known u = if known then as_known u else u

abbrev pub meaning_of : code_meaning.Meaning → m.Meaning
meaning_of (c.Value u) = m.value u
meaning_of (c.Function us known u) = m.function (map (read known) us.now) u
meaning_of (c.BuiltIn b) = m.built_in b

abbrev pub told_of : code_told.Told → m.Told
told_of t.Unknown = m.unknown
told_of (t.Means w) = m.means (meaning_of w)
told_of (t.Barred w) = m.barred (meaning_of w)

abbrev pub form_of : code_form.Form → f.Form
form_of v.Number = f.number
form_of v.Text = f.text
form_of v.Truth = f.truth
form_of (v.Stands w) = f.stands (told_of w)
form_of (v.Calls w) = f.calls (told_of w)
form_of (v.Generates w asked one) = f.generates (told_of w) asked.now one
form_of (v.Operation o) = f.operation o
form_of (v.Prefix s) = f.prefix s
form_of v.Parenthesis = f.parenthesis
form_of v.Access = f.access
form_of v.Array = f.array
form_of (v.Grid even) = f.grid even
form_of v.Set = f.set
form_of (v.Comprehension asked) = f.comprehension asked.now
form_of v.Choice = f.choice
form_of (v.Lets us) = f.lets us.now
form_of (v.Declares supported asked u) = f.declares supported asked.now u
form_of (v.Assigns u) = f.assigns u
form_of v.Gives = f.gives
form_of v.Constrains = f.constrains
form_of v.Satisfies = f.satisfies
form_of v.Optimizes = f.optimizes
form_of v.Searches = f.searches
form_of v.Outputs = f.outputs
form_of v.Unsupported = f.unsupported
form_of v.Misplaced = f.misplaced

-- ---- what a row gives

abbrev pub kind_of : code_kind.Kind → Kind
kind_of (k.Follows b s) = follows b s
kind_of (k.Fixed u) = fixed u

abbrev pub result_of : Given → Option ExprType
result_of = option_map (λ g. g.1)

-- with what is asked of the first argument
abbrev pub asked_of : Given → Option Asked
asked_of = option_map (λ g. record { first = operand 0 g.0; result = g.1 })

-- ---- answers

-- a typing, as the code answers it where memory suffices
abbrev pub Tells : {A : Type 0} → Typing A → Result A TypeFault → Type 0
Tells r (Ok a) = r ≡ has a
Tells r (Err (e.Include p)) = ⊥
Tells r (Err (e.Twice p q)) = ⊥
Tells r (Err e.NoSolve) = ⊥
Tells r (Err (e.Cycle p)) = ⊥
Tells r (Err (e.Unknown p)) = r ≡ fault cause.Unknown p
Tells r (Err (e.Arity p)) = r ≡ fault cause.Arity p
Tells r (Err (e.NotKnown p)) = r ≡ fault cause.NotKnown p
Tells r (Err (e.Unsupported p)) = r ≡ fault cause.Unsupported p
Tells r (Err (e.Mismatch p)) = r ≡ fault cause.Mismatch p
Tells r (Err e.Memory) = Unit {0}
