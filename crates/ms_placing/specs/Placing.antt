-- Placing, with what is done with an operand as an argument.
use Rattle.std.specs.Prelude.{ℕ, zero, suc, ◌-◌, ℤ, pos, Bool, true, false, ◌&&◌, List, [], ◌∷◌, length, reverse, slice_get, Option, Some, None, if◌then◌else◌}
use Rattle.ms_base.specs.declared.run.Count.TheVariants as count
use Rattle.ms_base.specs.declared.limits.TheConstants.{CALL_NESTING_LIMIT, EVALUATION_STEP_LIMIT}
use Rattle.ms_syntax.specs.declared.token.Place.{Place}
use Rattle.ms_syntax.specs.declared.tree.Operator.{Operator}
use Rattle.ms_syntax.specs.declared.tree.Operator.TheVariants as op
use Rattle.ms_num.specs.Span.{Span}
use Rattle.ms_built_ins.specs.declared.names.BuiltIn.{BuiltIn}
use Rattle.ms_code.specs.declared.code.Condition.{Condition}
use Rattle.ms_code.specs.declared.code.Condition.TheVariants as c
use Rattle.ms_code.specs.declared.code.Reference.{Reference}
use Rattle.ms_code.specs.declared.code.Reference.TheVariants as r
use Rattle.ms_code.specs.declared.code.Code.{Code, fold-Code}
use Rattle.ms_code.specs.declared.code.Code.TheOpen.{Code-F}
use Rattle.ms_code.specs.declared.code.Arm.{Arm, fold-Arm, Arm-F}
use Rattle.ms_code.specs.declared.code.Generator.{Generator, fold-Generator, Generator-F}
use Rattle.ms_code.specs.declared.code.Generators.{Generators, fold-Generators, Generators-F}
use Rattle.ms_code.specs.declared.code.Link.{Link, fold-Link, Link-F}
use Rattle.ms_code.specs.declared.code.Row.{Row, fold-Row, Row-F}
use Rattle.ms_code.specs.declared.code.Subscript.{Subscript, fold-Subscript, Subscript-F}
use Rattle.ms_tree_nodes.specs.Nodes.{all, some}
use Rattle.ms_values.specs.Numbers.{numbers_of as numbers_in}
use Rattle.ms_values.specs.declared.operand.Placed.{Placed}
use Rattle.ms_values.specs.declared.operand.Kind.{Kind}
use Rattle.ms_values.specs.declared.operand.Cells.{Cells}
use Rattle.ms_values.specs.declared.operand.Cells.TheVariants as cells
use Rattle.ms_values.specs.declared.operand.Indices.TheVariants as i
use Rattle.ms_values.specs.declared.operand.Operand.{Operand}
use Rattle.ms_values.specs.declared.operand.Operand.TheVariants as o
use Rattle.ms_rules.specs.Operands.{known_number, kind_of, set_of, truth_of}
use Rattle.ms_rules.specs.Cells.{empty, grown, line_from_one, numbers_of}
use Rattle.ms_rules.specs.Sets.{ranges_of}
use Rattle.ms_rules.specs.Operators.{Operands, both_true, choice, either_true, join, over_operands, signed, with_operand}
use Rattle.ms_rules.specs.Access.{access}
use Rattle.ms_rules.specs.Arrays.{index_range}
use Rattle.ms_rules.specs.Calls.{call, draws, nothing}
use Rattle.ms_rules.specs.Conversions.{conversion_nesting, convert, kind_of_type}
use Rattle.ms_placing.specs.Outside.{Outside}
use Rattle.ms_placing.specs.Steps.{ok, Step, Rest, Out, tick, fail, shallow, settle, visit}
use Rattle.ms_placing.specs.declared.fault.PlaceFault.TheVariants as f
use Rattle.ms_placing.specs.declared.grouping.Grouping.{Grouping}
use Rattle.ms_placing.specs.declared.grouping.Grouping.TheVariants as g

-- the operands of the names around, the latest first
abbrev pub Names : Type 0
Names = List Operand

-- an expression: under names, and with what is done with its operand
abbrev pub Part : Type 0
Part = Names → Rest → Step

-- a call: its place, what is called, and the arguments, the last first
abbrev pub Caller : Type 0
Caller = Place → Reference → List Operand → Rest → Step

-- ---- the parts of other types

pub record LinkPart : Type 0 where
  pub operator : Operator
  pub place : Place
  pub operand : Part

pub record SubscriptPart : Type 0 where
  pub first : Part
  pub second : Option Part

pub record ArmPart : Type 0 where
  pub kind : Condition
  pub condition : Part
  pub branch : Part

pub record GeneratorPart : Type 0 where
  pub place : Place
  pub names : ℕ
  pub set : Part

pub record GeneratorsPart : Type 0 where
  pub list : List GeneratorPart
  pub condition : Option Part

-- ---- names

abbrev pub local : Outside → ℕ → Option Operand → Operand
local out beyond (Some x) = x
local out beyond None = out.value (r.Local beyond)

-- a local that is not among the names stands outside
abbrev pub named : Outside → Names → Reference → Operand
named out env (r.Local k) = local out (k - length env) (slice_get env k)
named out env (r.Model k) = out.value (r.Model k)
named out env (r.Library k) = out.value (r.Library k)
named out env (r.BuiltIn b) = nothing

-- ---- lists of parts

abbrev pub gathered : List Part → Names → List Operand → (List Operand → Step) → Step
gathered [] env xs k = k xs
gathered (e ∷ es) env xs k = e env (λ q x. gathered es env (x ∷ xs) k)

-- the elements one after the other, behind those so far
abbrev pub filled : List Part → Names → Cells → (Cells → Step) → Step
filled [] env cs k = k cs
filled (e ∷ es) env cs k = e env (λ q x. filled es env (grown cs x) k)

abbrev pub filled_rows : List (List Part) → Names → Cells → (Cells → Step) → Step
filled_rows [] env cs k = k cs
filled_rows (es ∷ rows) env cs k = filled es env cs (λ cells. filled_rows rows env cells k)

abbrev pub width_of : List (List Part) → ℕ
width_of [] = 0
width_of (es ∷ rows) = length es

-- an array of two dimensions, with indices from 1
abbrev pub grid_from_one : ℕ → ℕ → Cells → Operand
grid_from_one rows width cs = o.Array (record { indices = i.Grid (index_range (pos 1, rows)) (index_range (pos 1, width)); cells = cs })

-- each value under the names so far, and then one of them
abbrev pub bound : List Part → Names → (Names → Step) → Step
bound [] env k = k env
bound (e ∷ es) env k = e env (λ q x. bound es (x ∷ env) k)

-- ---- chains

abbrev pub is_or : LinkPart → Bool
is_or l = is_or_operator l.operator
  where
    is_or_operator : Operator → Bool
    is_or_operator op.Equivalent = false
    is_or_operator op.Implies = false
    is_or_operator op.ImpliedBy = false
    is_or_operator op.Or = true
    is_or_operator op.Xor = false
    is_or_operator op.And = false
    is_or_operator op.Equal = false
    is_or_operator op.NotEqual = false
    is_or_operator op.Less = false
    is_or_operator op.AtMost = false
    is_or_operator op.Greater = false
    is_or_operator op.AtLeast = false
    is_or_operator op.In = false
    is_or_operator op.To = false
    is_or_operator op.Plus = false
    is_or_operator op.Minus = false
    is_or_operator op.Times = false
    is_or_operator op.Div = false
    is_or_operator op.Mod = false
    is_or_operator op.Concat = false

abbrev pub are_or : List LinkPart → Bool
are_or [] = true
are_or (l ∷ ls) = is_or l && are_or ls

-- how a chain groups, by its first operator and whether all behind it are `\/`
abbrev pub grouping_by : Operator → Bool → Grouping
grouping_by op.Or true = g.Disjunction
grouping_by op.And b = g.Conjunction
grouping_by op.Concat b = g.Right
grouping_by other b = g.Left

abbrev pub grouping : List LinkPart → Grouping
grouping [] = g.Left
grouping (l ∷ ls) = grouping_by l.operator (are_or ls)

-- from the operand so far, with the place of its node
abbrev pub paired : List LinkPart → Names → Place → Operand → Rest → Step
paired [] env q x k = k q x
paired (l ∷ ls) env q x k = l.operand env (λ u y. visit l.place (join l.operator x y) (λ p z. paired ls env p z k))

-- at each operator the node over the operands so far is visited
abbrev pub connected : (Bool → Bool → Bool) → (List Placed → Placed) → List LinkPart → Names → Place → Operands → Rest → Step
connected f node [] env q xs k = k q (over_operands node xs)
connected f node (l ∷ ls) env q xs k =
    l.operand env (λ u y. visit l.place (Some (over_operands node (with_operand f xs y))) (λ p z. connected f node ls env p (with_operand f xs y) k))

-- no operand yet, of which the truth value is this
abbrev pub no_operands : Bool → Operands
no_operands b = record { known = true; truth = b; parts = [] }

-- the operands to the left of the one that is placed, the last first, each with the operator behind it
abbrev pub unwound : List (Place × Operand) → Place → Operand → Rest → Step
unwound [] q y k = k q y
unwound (l ∷ ls) q y k = visit l.0 (join op.Concat l.1 y) (λ p z. unwound ls p z k)

abbrev pub concatenated : List LinkPart → Names → List (Place × Operand) → Place → Operand → Rest → Step
concatenated [] env before q x k = unwound before q x k
concatenated (l ∷ ls) env before q x k = l.operand env (λ u y. concatenated ls env ((l.place, x) ∷ before) u y k)

abbrev pub linked : Grouping → List LinkPart → Names → Place → Operand → Rest → Step
linked g.Left ls env q x k = paired ls env q x k
linked g.Right ls env q x k = concatenated ls env [] q x k
linked g.Conjunction ls env q x k = connected both_true all ls env q (with_operand both_true (no_operands true) x) k
linked g.Disjunction ls env q x k = connected either_true some ls env q (with_operand either_true (no_operands false) x) k

-- ---- accesses

abbrev pub accessed_by : Option Part → Place → Names → Operand → Operand → Rest → Step
accessed_by None p env x y k = visit p (access x y None) k
accessed_by (Some e) p env x y k = e env (λ q z. visit p (access x y (Some z)) k)

abbrev pub accessed : List SubscriptPart → Place → Names → Place → Operand → Rest → Step
accessed [] p env q x k = k q x
accessed (s ∷ ss) p env q x k = s.first env (λ w y. accessed_by s.second p env x y (λ u z. accessed ss p env u z k))

-- ---- `if`: a known condition tells which branch is placed, and with a variable one both are

abbrev pub chosen_by : Condition → Part → Names → Operand → (Rest → Step) → Rest → Step
chosen_by c.Known branch env t other k = if truth_of t then branch env k else other k
chosen_by c.Variable branch env t other k = branch env (λ q x. other (λ u y. k u (choice t x y)))
chosen_by c.Search branch env t other k = if truth_of t then branch env k else other k

abbrev pub chosen : List ArmPart → Part → Names → Rest → Step
chosen [] last env k = last env k
chosen (a ∷ arms) last env k = a.condition env (λ q t. chosen_by a.kind a.branch env t (chosen arms last env) k)

-- ---- generators

-- the elements so far, and whether each set had a value
pub record Made : Type 0 where
  pub cells : Cells
  pub whole : Bool

-- an array is undefined where a set is
abbrev pub array_of : Made → Operand
array_of m = if m.whole then line_from_one m.cells else o.NoArray (kind_of m.cells)

abbrev pub gained : Made → Operand → Made
gained m x = record { cells = grown m.cells x; whole = m.whole }

abbrev pub broken : Made → Made
broken m = record { cells = m.cells; whole = false }

-- what is made under names, of what was made before
abbrev pub Maker : Type 0
Maker = Names → Made → (Made → Step) → Step

abbrev pub numbered : ℤ → Names → Names
numbered z env = o.Number (Some z) ∷ env

-- one step for each number, before what is made for it
abbrev pub turns : Place → Maker → List ℤ → Maker
turns p inner [] env m k = k m
turns p inner (z ∷ zs) env m k = tick p (inner (numbered z env) m (λ more. turns p inner zs env more k))

-- so many names, each of which runs through all numbers, the last the fastest
abbrev pub through : Place → ℕ → List ℤ → Maker → Maker
through p zero zs inner env m k = inner env m k
through p (suc n) zs inner env m k = turns p (through p n zs inner) zs env m k

abbrev pub through_set : Place → ℕ → Option (List Span) → Maker → Maker
through_set p n None inner env m k = k (broken m)
through_set p n (Some rs) inner env m k = through p n (numbers_in rs) inner env m k

abbrev pub nested : List GeneratorPart → Maker → Maker
nested [] inner env m k = inner env m k
nested (q ∷ qs) inner env m k = q.set env (λ u s. through_set q.place q.names (set_of s) (nested qs inner) env m k)

-- the element, where what stands after `where` is true
abbrev pub tested : Option Part → Part → Maker
tested None body env m k = body env (λ q x. k (gained m x))
tested (Some e) body env m k = e env (λ q t. if truth_of t then body env (λ u x. k (gained m x)) else k m)

abbrev pub generated : GeneratorsPart → Part → Kind → Names → (Made → Step) → Step
generated qs body kind env k = nested qs.list (tested qs.condition body) env (record { cells = empty kind; whole = true }) k

-- ---- all forms

-- what stands inside for Code, Arm, Generator, Generators, Link, Row, Subscript
abbrev pub Layer : (Type 0 → Type 0 → Type 0 → Type 0 → Type 0 → Type 0 → Type 0 → Type 0) → Type 0
Layer F = F Part ArmPart GeneratorPart GeneratorsPart LinkPart (List Part) SubscriptPart

unfoldable pub run_step : Outside → Caller → Layer Code-F → Part
run_step out call (Code-F.Number p n) env k = visit p (known_number (Some (pos n))) k
run_step out call (Code-F.Truth p b) env k = visit p (Some (o.Truth b)) k
run_step out call (Code-F.Text p w) env k = visit p (Some (o.Text (Some w))) k
run_step out call (Code-F.Name p name) env k = visit p (Some (named out env name)) k
run_step out call (Code-F.Chain a ls) env k = a env (λ q x. linked (grouping ls) ls env q x k)
run_step out call (Code-F.Prefix p sign a) env k = a env (λ q x. visit p (signed sign x) k)
run_step out call (Code-F.Parenthesis p a) env k = a env (λ q x. visit p (Some x) k)
run_step out call (Code-F.Access p a ss) env k = a env (λ q x. accessed ss p env q x k)
run_step out call (Code-F.Call p name es) env k = gathered es env [] (λ xs. call p name xs k)
run_step out call (Code-F.Gathered p t qs a) env k = generated qs a (kind_of_type t) env (λ m. settle p (Some (array_of m)) k)
run_step out call (Code-F.RepeatEach p qs a) env k = visit p (Some nothing) k
run_step out call (Code-F.Array p t es) env k = filled es env (empty (kind_of_type t)) (λ cs. visit p (Some (line_from_one cs)) k)
run_step out call (Code-F.Rows p t rows) env k =
    filled_rows rows env (empty (kind_of_type t)) (λ cs. visit p (Some (grid_from_one (length rows) (width_of rows) cs)) k)
run_step out call (Code-F.Set p es) env k = filled es env (cells.Numbers []) (λ cs. visit p (Some (o.Set (ranges_of (numbers_of cs)))) k)
run_step out call (Code-F.Comprehension p t qs a) env k = generated qs a (kind_of_type t) env (λ m. visit p (Some (array_of m)) k)
run_step out call (Code-F.If p arms last) env k = chosen arms last env (λ q x. visit p (Some x) k)
run_step out call (Code-F.Let p es a) env k = bound es env (λ inner. a inner (λ q x. visit p (Some x) k))
run_step out call (Code-F.Convert t a) env k = a env (λ q x. shallow q (conversion_nesting t x) (k q (convert t x)))

abbrev pub arm_step : Layer Arm-F → ArmPart
arm_step a = record { kind = a.kind; condition = a.condition; branch = a.branch }

abbrev pub generator_step : Layer Generator-F → GeneratorPart
generator_step q = record { place = q.place; names = q.names; set = q.set }

abbrev pub generators_step : Layer Generators-F → GeneratorsPart
generators_step qs = record { list = qs.list; condition = qs.condition }

abbrev pub link_step : Layer Link-F → LinkPart
link_step l = record { operator = l.operator; place = l.place; operand = l.operand }

abbrev pub row_step : Layer Row-F → List Part
row_step row = row.elements

abbrev pub subscript_step : Layer Subscript-F → SubscriptPart
subscript_step s = record { first = s.first; second = s.second }

abbrev pub run : Outside → Caller → Code → Part
run out call = fold-Code _ _ _ _ _ _ _ (run_step out call) arm_step generator_step generators_step link_step row_step subscript_step

abbrev pub run_link : Outside → Caller → Link → LinkPart
run_link out call = fold-Link _ _ _ _ _ _ _ (run_step out call) arm_step generator_step generators_step link_step row_step subscript_step

abbrev pub run_subscript : Outside → Caller → Subscript → SubscriptPart
run_subscript out call = fold-Subscript _ _ _ _ _ _ _ (run_step out call) arm_step generator_step generators_step link_step row_step subscript_step

abbrev pub run_arm : Outside → Caller → Arm → ArmPart
run_arm out call = fold-Arm _ _ _ _ _ _ _ (run_step out call) arm_step generator_step generators_step link_step row_step subscript_step

abbrev pub run_row : Outside → Caller → Row → List Part
run_row out call = fold-Row _ _ _ _ _ _ _ (run_step out call) arm_step generator_step generators_step link_step row_step subscript_step

abbrev pub run_generator : Outside → Caller → Generator → GeneratorPart
run_generator out call = fold-Generator _ _ _ _ _ _ _ (run_step out call) arm_step generator_step generators_step link_step row_step subscript_step

abbrev pub run_generators : Outside → Caller → Generators → GeneratorsPart
run_generators out call = fold-Generators _ _ _ _ _ _ _ (run_step out call) arm_step generator_step generators_step link_step row_step subscript_step

-- ---- calls

-- the body of a function is opened at a place, with its arguments as names
abbrev pub Opener : Type 0
Opener = Place → Code → Names → Rest → Step

abbrev pub opened : Opener → Place → Option Code → Names → Rest → Step
opened open_body p None xs k = visit p (Some nothing) k
opened open_body p (Some body) xs k = open_body p body xs k

abbrev pub words_after : Outside → Bool → List ℕ → List ℕ
words_after out true ws = out.after ws
words_after out false ws = ws

-- a built-in name: its step, and then a draw, where it is one
abbrev pub built_in : Outside → Place → BuiltIn → List Operand → Rest → Step
built_in out p b xs k = tick p (λ n ws. settle p (call out.point (out.word_of ws) b xs) k n (words_after out (draws b xs) ws))

abbrev pub caller : Outside → Opener → Caller
caller out open_body p (r.Local n) xs k = visit p (Some nothing) k
caller out open_body p (r.Model n) xs k = opened open_body p (out.body (r.Model n)) xs k
caller out open_body p (r.Library n) xs k = opened open_body p (out.body (r.Library n)) xs k
caller out open_body p (r.BuiltIn b) xs k = built_in out p b (reverse xs) k

-- where so many bodies may yet be opened
unfoldable pub opener : Outside → ℕ → Opener
opener out zero p body xs k = fail (f.Big count.Nesting p)
opener out (suc n) p body xs k = run out (caller out (opener out n)) body xs (λ q x. visit p (Some x) k)

-- what an expression comes to under names, from the steps and the words that are left
abbrev pub Places : Outside → Names → Code → Step
Places out env e = run out (caller out (opener out CALL_NESTING_LIMIT)) e env ok

-- the same from all the steps of one placing, by the state of the random words
abbrev pub placed_from : Outside → Names → Code → List ℕ → Out
placed_from out env e = Places out env e EVALUATION_STEP_LIMIT
