-- Placing in steps: the parts of each form one after the other, in the order of the text, and then its node.
use Rattle.std.specs.Prelude.{ℕ, zero, suc, ℤ, pos, nat_le, Bool, true, false, ◌&&◌, List, [], ◌∷◌, length, reverse, Option, Some, None, if◌then◌else◌}
use Rattle.ms_base.specs.declared.run.Count.TheVariants as count
use Rattle.ms_base.specs.declared.limits.TheConstants.{CALL_NESTING_LIMIT, ELEMENT_LIMIT, TREE_NESTING_LIMIT}
use Rattle.ms_syntax.specs.declared.token.Place.{Place}
use Rattle.ms_syntax.specs.declared.tree.Operator.{Operator}
use Rattle.ms_syntax.specs.declared.tree.Operator.TheVariants as op
use Rattle.ms_num.specs.Span.{Span}
use Rattle.ms_built_ins.specs.declared.names.BuiltIn.{BuiltIn}
use Rattle.ms_code.specs.declared.code.Condition.{Condition}
use Rattle.ms_code.specs.declared.code.Condition.TheVariants as c
use Rattle.ms_code.specs.declared.code.Reference.{Reference}
use Rattle.ms_code.specs.declared.code.Reference.TheVariants as r
use Rattle.ms_code.specs.declared.code.Code.{Code, fold-Code}
use Rattle.ms_code.specs.declared.code.Code.TheOpen.{Code-F}
use Rattle.ms_code.specs.declared.code.Arm.{Arm-F}
use Rattle.ms_code.specs.declared.code.Generator.{Generator-F}
use Rattle.ms_code.specs.declared.code.Generators.{Generators-F}
use Rattle.ms_code.specs.declared.code.Link.{Link-F}
use Rattle.ms_code.specs.declared.code.Row.{Row-F}
use Rattle.ms_code.specs.declared.code.Subscript.{Subscript-F}
use Rattle.ms_tree_nodes.specs.Nodes.{all, some}
use Rattle.ms_values.specs.Numbers.{numbers_of as numbers_in}
use Rattle.ms_values.specs.declared.operand.Placed.{Placed}
use Rattle.ms_values.specs.declared.operand.Kind.{Kind}
use Rattle.ms_values.specs.declared.operand.Cells.{Cells}
use Rattle.ms_values.specs.declared.operand.Cells.TheVariants as cells
use Rattle.ms_values.specs.declared.operand.Operand.{Operand}
use Rattle.ms_values.specs.declared.operand.Operand.TheVariants as o
use Rattle.ms_rules.specs.Operands.{elements_of, known_number, nesting_of, set_of, truth_of}
use Rattle.ms_rules.specs.Cells.{empty, grown, line_from_one, numbers_of}
use Rattle.ms_rules.specs.Sets.{ranges_of}
use Rattle.ms_rules.specs.Operators.{Operands, both_true, choice, either_true, join, over_operands, signed, with_operand}
use Rattle.ms_rules.specs.Access.{access}
use Rattle.ms_rules.specs.Calls.{call, draws, nothing}
use Rattle.ms_rules.specs.Conversions.{conversion_nesting, convert, kind_of_type}
use Rattle.ms_placing.specs.Outside.{Outside}
use Rattle.ms_placing.specs.Placing.{Made, Names, array_of, broken, gained, grid_from_one, grouping_by, named, no_operands, numbered, words_after}
use Rattle.ms_placing.specs.declared.fault.PlaceFault.{PlaceFault}
use Rattle.ms_placing.specs.declared.fault.PlaceFault.TheVariants as f
use Rattle.ms_placing.specs.declared.grouping.Grouping.{Grouping}
use Rattle.ms_placing.specs.declared.grouping.Grouping.TheVariants as g

-- ---- steps

-- what comes of steps, or the first fault, with the evaluation steps and the state of the random words that are left
pub data Answer (A : Type 0) : Type 0 where
  made : A → ℕ → List ℕ → Answer A
  fault : PlaceFault → ℕ → List ℕ → Answer A

-- from the evaluation steps and the words that are left
abbrev pub Steps : Type 0 → Type 0
Steps A = ℕ → List ℕ → Answer A

abbrev pub and_then : {A B : Type 0} → Answer A → (A → Steps B) → Answer B
and_then (made x n ws) k = k x n ws
and_then (fault e n ws) k = fault e n ws

-- one after the other, up to the first fault
infixl 5 ◌>>=◌
abbrev pub ◌>>=◌ : {A B : Type 0} → Steps A → (A → Steps B) → Steps B
m >>= k = λ n ws. and_then (m n ws) k

infixl 5 ◌>>◌
abbrev pub ◌>>◌ : {B : Type 0} → Steps (Unit {0}) → Steps B → Steps B
m >> k = m >>= λ _. k

abbrev pub pure : {A : Type 0} → A → Steps A
pure x = λ n ws. made x n ws

abbrev pub fail : {A : Type 0} → PlaceFault → Steps A
fail e = λ n ws. fault e n ws

-- an operand with the place of its node
abbrev pub Located : Type 0
Located = Place × Operand

-- one evaluation step
abbrev pub tick : Place → Steps (Unit {0})
tick p zero ws = fault (f.Big count.Steps p) zero ws
tick p (suc n) ws = made tt n ws

-- no more than a limit
abbrev pub limited : Bool → PlaceFault → Steps (Unit {0})
limited fits e = if fits then pure tt else fail e

abbrev pub shallow : Place → ℕ → Steps (Unit {0})
shallow p nesting = limited (nat_le nesting TREE_NESTING_LIMIT) (f.Big count.Nesting p)

-- an operand within the limits
abbrev pub settle : Place → Option Operand → Steps Located
settle p None = fail (f.Wide p)
settle p (Some x) = do
  limited (nat_le (elements_of x) ELEMENT_LIMIT) (f.Big count.Elements p)
  shallow p (nesting_of x)
  pure (p, x)

-- a node is visited: a step, and then its operand, unless it leaves the limits
abbrev pub visit : Place → Option Operand → Steps Located
visit p x = do
  tick p
  settle p x

-- ---- the parts

-- an expression, under names
abbrev pub Part : Type 0
Part = Names → Steps Located

-- a call: its place, what is called, and the arguments, the last first
abbrev pub Caller : Type 0
Caller = Place → Reference → List Operand → Steps Located

pub record LinkPart : Type 0 where
  pub operator : Operator
  pub place : Place
  pub operand : Part

pub record SubscriptPart : Type 0 where
  pub first : Part
  pub second : Option Part

pub record ArmPart : Type 0 where
  pub kind : Condition
  pub condition : Part
  pub branch : Part

pub record GeneratorPart : Type 0 where
  pub place : Place
  pub names : ℕ
  pub set : Part

pub record GeneratorsPart : Type 0 where
  pub list : List GeneratorPart
  pub condition : Option Part

-- ---- lists of parts

abbrev pub gathered : List Part → Names → List Operand → Steps (List Operand)
gathered [] env xs = pure xs
gathered (e ∷ es) env xs = do
  (q, x) ← e env
  gathered es env (x ∷ xs)

-- the elements one after the other, behind those so far
abbrev pub filled : List Part → Names → Cells → Steps Cells
filled [] env cs = pure cs
filled (e ∷ es) env cs = do
  (q, x) ← e env
  filled es env (grown cs x)

abbrev pub filled_rows : List (List Part) → Names → Cells → Steps Cells
filled_rows [] env cs = pure cs
filled_rows (es ∷ rows) env cs = do
  more ← filled es env cs
  filled_rows rows env more

abbrev pub width_of : List (List Part) → ℕ
width_of [] = 0
width_of (es ∷ rows) = length es

-- each value under the names so far, and then one of them
abbrev pub bound : List Part → Names → Steps Names
bound [] env = pure env
bound (e ∷ es) env = do
  (q, x) ← e env
  bound es (x ∷ env)

-- ---- chains

abbrev pub is_or : Operator → Bool
is_or op.Or = true
is_or other = false

abbrev pub are_or : List LinkPart → Bool
are_or [] = true
are_or (l ∷ ls) = is_or l.operator && are_or ls

abbrev pub grouping : List LinkPart → Grouping
grouping [] = g.Left
grouping (l ∷ ls) = grouping_by l.operator (are_or ls)

-- from the operand so far, with the place of its node
abbrev pub paired : List LinkPart → Names → Located → Steps Located
paired [] env x = pure x
paired (l ∷ ls) env x = do
  y ← l.operand env
  z ← visit l.place (join l.operator x.1 y.1)
  paired ls env z

-- at each operator the node over the operands so far is visited
abbrev pub connected : (Bool → Bool → Bool) → (List Placed → Placed) → List LinkPart → Names → Place → Operands → Steps Located
connected f node [] env q xs = pure (q, over_operands node xs)
connected f node (l ∷ ls) env q xs = do
  y ← l.operand env
  z ← visit l.place (Some (over_operands node (with_operand f xs y.1)))
  connected f node ls env z.0 (with_operand f xs y.1)

-- the operands to the left of the one that is placed, the last first, each with the operator behind it
abbrev pub unwound : List (Place × Operand) → Located → Steps Located
unwound [] y = pure y
unwound (l ∷ ls) y = do
  z ← visit l.0 (join op.Concat l.1 y.1)
  unwound ls z

abbrev pub concatenated : List LinkPart → Names → List (Place × Operand) → Located → Steps Located
concatenated [] env before x = unwound before x
concatenated (l ∷ ls) env before x = do
  y ← l.operand env
  concatenated ls env ((l.place, x.1) ∷ before) y

abbrev pub linked : Grouping → List LinkPart → Names → Located → Steps Located
linked g.Left ls env x = paired ls env x
linked g.Right ls env x = concatenated ls env [] x
linked g.Conjunction ls env x = connected both_true all ls env x.0 (with_operand both_true (no_operands true) x.1)
linked g.Disjunction ls env x = connected either_true some ls env x.0 (with_operand either_true (no_operands false) x.1)

-- ---- accesses

abbrev pub accessed_by : Option Part → Place → Names → Operand → Operand → Steps Located
accessed_by None p env x y = visit p (access x y None)
accessed_by (Some e) p env x y = do
  z ← e env
  visit p (access x y (Some z.1))

abbrev pub accessed : List SubscriptPart → Place → Names → Located → Steps Located
accessed [] p env x = pure x
accessed (s ∷ ss) p env x = do
  y ← s.first env
  z ← accessed_by s.second p env x.1 y.1
  accessed ss p env z

-- ---- `if`: a known condition tells which branch is placed, and with a variable one both are

abbrev pub chosen_by : Condition → Steps Located → Operand → Steps Located → Steps Located
chosen_by c.Known branch t other = if truth_of t then branch else other
chosen_by c.Variable branch t other = do
  x ← branch
  y ← other
  pure (y.0, choice t x.1 y.1)
chosen_by c.Search branch t other = if truth_of t then branch else other

abbrev pub chosen : List ArmPart → Part → Names → Steps Located
chosen [] last env = last env
chosen (a ∷ arms) last env = do
  t ← a.condition env
  chosen_by a.kind (a.branch env) t.1 (chosen arms last env)

-- ---- generators

-- what is made under names, of what was made before
abbrev pub Maker : Type 0
Maker = Names → Made → Steps Made

-- one step for each number, before what is made for it
abbrev pub turns : Place → Maker → List ℤ → Maker
turns p inner [] env m = pure m
turns p inner (z ∷ zs) env m = do
  tick p
  more ← inner (numbered z env) m
  turns p inner zs env more

-- so many names, each of which runs through all numbers, the last the fastest
abbrev pub through : Place → ℕ → List ℤ → Maker → Maker
through p zero zs inner env m = inner env m
through p (suc n) zs inner env m = turns p (through p n zs inner) zs env m

abbrev pub through_set : Place → ℕ → Option (List Span) → Maker → Maker
through_set p n None inner env m = pure (broken m)
through_set p n (Some rs) inner env m = through p n (numbers_in rs) inner env m

abbrev pub nested : List GeneratorPart → Maker → Maker
nested [] inner env m = inner env m
nested (q ∷ qs) inner env m = do
  s ← q.set env
  through_set q.place q.names (set_of s.1) (nested qs inner) env m

abbrev pub element : Part → Maker
element body env m = do
  x ← body env
  pure (gained m x.1)

-- the element, where what stands after `where` is true
abbrev pub tested : Option Part → Part → Maker
tested None body env m = element body env m
tested (Some e) body env m = do
  t ← e env
  if truth_of t.1 then element body env m else pure m

abbrev pub generated : GeneratorsPart → Part → Kind → Names → Steps Made
generated qs body kind env = nested qs.list (tested qs.condition body) env (record { cells = empty kind; whole = true })

-- ---- all forms

-- what stands inside for Code, Arm, Generator, Generators, Link, Row, Subscript
abbrev pub Layer : (Type 0 → Type 0 → Type 0 → Type 0 → Type 0 → Type 0 → Type 0 → Type 0) → Type 0
Layer F = F Part ArmPart GeneratorPart GeneratorsPart LinkPart (List Part) SubscriptPart

unfoldable pub place_step : Outside → Caller → Layer Code-F → Part
place_step out call (Code-F.Number p n) env = visit p (known_number (Some (pos n)))
place_step out call (Code-F.Truth p b) env = visit p (Some (o.Truth b))
place_step out call (Code-F.Text p w) env = visit p (Some (o.Text (Some w)))
place_step out call (Code-F.Name p name) env = visit p (Some (named out env name))
place_step out call (Code-F.Chain a ls) env = do
  x ← a env
  linked (grouping ls) ls env x
place_step out call (Code-F.Prefix p sign a) env = do
  x ← a env
  visit p (signed sign x.1)
place_step out call (Code-F.Parenthesis p a) env = do
  x ← a env
  visit p (Some x.1)
place_step out call (Code-F.Access p a ss) env = do
  x ← a env
  accessed ss p env x
place_step out call (Code-F.Call p name es) env = do
  xs ← gathered es env []
  call p name xs
place_step out call (Code-F.Gathered p t qs a) env = do
  m ← generated qs a (kind_of_type t) env
  settle p (Some (array_of m))
place_step out call (Code-F.RepeatEach p qs a) env = visit p (Some nothing)
place_step out call (Code-F.Array p t es) env = do
  cs ← filled es env (empty (kind_of_type t))
  visit p (Some (line_from_one cs))
place_step out call (Code-F.Rows p t rows) env = do
  cs ← filled_rows rows env (empty (kind_of_type t))
  visit p (Some (grid_from_one (length rows) (width_of rows) cs))
place_step out call (Code-F.Set p es) env = do
  cs ← filled es env (cells.Numbers [])
  visit p (Some (o.Set (ranges_of (numbers_of cs))))
place_step out call (Code-F.Comprehension p t qs a) env = do
  m ← generated qs a (kind_of_type t) env
  visit p (Some (array_of m))
place_step out call (Code-F.If p arms last) env = do
  x ← chosen arms last env
  visit p (Some x.1)
place_step out call (Code-F.Let p es a) env = do
  inner ← bound es env
  x ← a inner
  visit p (Some x.1)
place_step out call (Code-F.Convert t a) env = do
  x ← a env
  shallow x.0 (conversion_nesting t x.1)
  pure (x.0, convert t x.1)

abbrev pub arm_step : Layer Arm-F → ArmPart
arm_step a = record { kind = a.kind; condition = a.condition; branch = a.branch }

abbrev pub generator_step : Layer Generator-F → GeneratorPart
generator_step q = record { place = q.place; names = q.names; set = q.set }

abbrev pub generators_step : Layer Generators-F → GeneratorsPart
generators_step qs = record { list = qs.list; condition = qs.condition }

abbrev pub link_step : Layer Link-F → LinkPart
link_step l = record { operator = l.operator; place = l.place; operand = l.operand }

abbrev pub row_step : Layer Row-F → List Part
row_step row = row.elements

abbrev pub subscript_step : Layer Subscript-F → SubscriptPart
subscript_step s = record { first = s.first; second = s.second }

abbrev pub place : Outside → Caller → Code → Part
place out call = fold-Code _ _ _ _ _ _ _ (place_step out call) arm_step generator_step generators_step link_step row_step subscript_step

-- ---- calls

-- the body of a function is opened at a place, with its arguments as names
abbrev pub Opener : Type 0
Opener = Place → Code → Names → Steps Located

abbrev pub opened : Opener → Place → Option Code → Names → Steps Located
opened open_body p None xs = visit p (Some nothing)
opened open_body p (Some body) xs = open_body p body xs

-- the word that a draw takes
abbrev pub drawn : Outside → Bool → Steps ℕ
drawn out is_draw = λ n ws. made (out.word_of ws) n (words_after out is_draw ws)

abbrev pub built_in : Outside → Place → BuiltIn → List Operand → Steps Located
built_in out p b xs = do
  tick p
  word ← drawn out (draws b xs)
  settle p (call out.point word b xs)

abbrev pub caller : Outside → Opener → Caller
caller out open_body p (r.Local n) xs = visit p (Some nothing)
caller out open_body p (r.Model n) xs = opened open_body p (out.body (r.Model n)) xs
caller out open_body p (r.Library n) xs = opened open_body p (out.body (r.Library n)) xs
caller out open_body p (r.BuiltIn b) xs = built_in out p b (reverse xs)

-- where so many bodies may yet be opened
unfoldable pub opener : Outside → ℕ → Opener
opener out zero p body xs = fail (f.Big count.Nesting p)
opener out (suc n) p body xs = do
  x ← place out (caller out (opener out n)) body xs
  visit p (Some x.1)

-- what an expression comes to under names
abbrev pub placed : Outside → Names → Code → Steps Located
placed out env e = place out (caller out (opener out CALL_NESTING_LIMIT)) e env
