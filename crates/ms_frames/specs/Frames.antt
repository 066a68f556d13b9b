-- What a stack of frames stands for.
use Rattle.std.specs.Prelude.{◌≡◌, ℕ, zero, suc, Bool, true, false, List, [], ◌∷◌, map, Option, Some, None, option_map, Result, Ok, Err, if◌then◌else◌}
use Rattle.std.specs.Borrow.{Bor}
use Rattle.ms_base.specs.declared.run.Count.TheVariants as count
use Rattle.ms_syntax.specs.declared.token.Place.{Place}
use Rattle.ms_syntax.specs.declared.tree.Operator.TheVariants as op
use Rattle.ms_num.specs.Span.{Span}
use Rattle.ms_code.specs.declared.code.Arm.{Arm}
use Rattle.ms_code.specs.declared.code.Code.{Code}
use Rattle.ms_code.specs.declared.code.Generator.{Generator}
use Rattle.ms_code.specs.declared.code.Link.{Link}
use Rattle.ms_code.specs.declared.code.Row.{Row}
use Rattle.ms_code.specs.declared.code.Subscript.{Subscript}
use Rattle.ms_values.specs.Numbers.{numbers_of as numbers_in}
use Rattle.ms_values.specs.declared.operand.Cells.{Cells}
use Rattle.ms_values.specs.declared.operand.Operand.{Operand}
use Rattle.ms_values.specs.declared.operand.Operand.TheVariants as v
use Rattle.ms_rules.specs.Operands.{set_of, truth_of}
use Rattle.ms_rules.specs.Cells.{grown, line_from_one, numbers_of}
use Rattle.ms_rules.specs.Sets.{ranges_of}
use Rattle.ms_rules.specs.Operators.{Operands, choice, join, over_operands, signed, with_operand}
use Rattle.ms_rules.specs.Access.{access}
use Rattle.ms_rules.specs.Conversions.{conversion_nesting, convert}
use Rattle.ms_operators.specs.declared.junction.Connective.{Connective}
use Rattle.ms_operators.specs.Connectives.{truth_by, node_by}
use Rattle.ms_placing.specs.declared.fault.PlaceFault.{PlaceFault}
use Rattle.ms_placing.specs.declared.fault.PlaceFault.TheVariants as f
use Rattle.ms_placing.specs.Outside.{Outside}
use Rattle.ms_placing.specs.Steps.{Out, ok, bad, Step, Rest, settle, shallow, visit}
use Rattle.ms_placing.specs.Placing as p
use Rattle.ms_placing.specs.Placing.{Made, Maker, Names, Part, ArmPart, GeneratorPart, LinkPart, SubscriptPart, accessed, accessed_by, array_of, bound, caller, chosen, chosen_by, concatenated, connected, filled, filled_rows, gained, gathered, broken, grid_from_one, grouping, linked, named, nested, opener, paired, run, run_arm, run_generator, run_link, run_row, run_subscript, tested, through, through_set, turns, unwound}
use Rattle.ms_frames.specs.declared.frame.Here.{Here}
use Rattle.ms_frames.specs.declared.frame.Before.{Before}
use Rattle.ms_frames.specs.declared.frame.End.{End}
use Rattle.ms_frames.specs.declared.frame.End.TheVariants as e
use Rattle.ms_frames.specs.declared.frame.Turn.{Turn}
use Rattle.ms_frames.specs.declared.frame.Plan.{Plan}
use Rattle.ms_frames.specs.declared.frame.Making.{Making}
use Rattle.ms_frames.specs.declared.frame.ChainFrame.{ChainFrame}
use Rattle.ms_frames.specs.declared.frame.ChainFrame.TheVariants as l
use Rattle.ms_frames.specs.declared.frame.AccessFrame.{AccessFrame}
use Rattle.ms_frames.specs.declared.frame.AccessFrame.TheVariants as a
use Rattle.ms_frames.specs.declared.frame.ChoiceFrame.{ChoiceFrame}
use Rattle.ms_frames.specs.declared.frame.ChoiceFrame.TheVariants as c
use Rattle.ms_frames.specs.declared.frame.MakingFrame.{MakingFrame}
use Rattle.ms_frames.specs.declared.frame.MakingFrame.TheVariants as m
use Rattle.ms_frames.specs.declared.frame.Frame.{Frame}
use Rattle.ms_frames.specs.declared.frame.Frame.TheVariants as w
use Rattle.ms_frames.specs.declared.frame.Task.{Task}
use Rattle.ms_frames.specs.declared.frame.Task.TheVariants as t

-- ---- parts where so many bodies may yet be opened

abbrev pub calls : Outside → ℕ → p.Caller
calls out d = caller out (opener out d)

abbrev pub part : Outside → ℕ → Code → Part
part out d e = run out (calls out d) e

abbrev pub parts : Outside → ℕ → List Code → List Part
parts out d es = map (part out d) es

abbrev pub links : Outside → ℕ → List Link → List LinkPart
links out d ls = map (run_link out (calls out d)) ls

abbrev pub subscripts : Outside → ℕ → List Subscript → List SubscriptPart
subscripts out d ss = map (run_subscript out (calls out d)) ss

abbrev pub arm_in : Outside → ℕ → Arm → ArmPart
arm_in out d arm = run_arm out (calls out d) arm

abbrev pub arms_in : Outside → ℕ → List Arm → List ArmPart
arms_in out d arms = map (arm_in out d) arms

abbrev pub rows_in : Outside → ℕ → List Row → List (List Part)
rows_in out d rows = map (run_row out (calls out d)) rows

abbrev pub generator_in : Outside → ℕ → Generator → GeneratorPart
generator_in out d g = run_generator out (calls out d) g

abbrev pub generators_in : Outside → ℕ → List Generator → List GeneratorPart
generators_in out d gs = map (generator_in out d) gs

abbrev pub run_in : Outside → Here → Code → Rest → Step
run_in out here e k = part out here.calls e here.names k

-- ---- names

abbrev pub tail : Names → Names
tail [] = []
tail (x ∷ xs) = xs

abbrev pub bind : Operand → Here → Here
bind x here = record here { names = x ∷ here.names }

-- without the latest name
abbrev pub leave : Here → Here
leave here = record here { names = tail here.names }

-- ---- elements

abbrev pub ended : Outside → End → Here → Cells → Rest → Step
ended out (e.Array q) here cs k = visit q (Some (line_from_one cs)) k
ended out (e.Set q) here cs k = visit q (Some (v.Set (ranges_of (numbers_of cs)))) k
ended out (e.Rows q count width rows) here cs k =
    filled_rows (rows_in out here.calls rows.now) here.names cs (λ more. visit q (Some (grid_from_one count width more)) k)

abbrev pub filled_in : Outside → End → Here → Cells → List Code → Rest → Step
filled_in out end here cs es k = filled (parts out here.calls es) here.names cs (λ more. ended out end here more k)

-- ---- generators

abbrev pub made_of : Making → Made
made_of m = record { cells = m.cells; whole = m.whole }

abbrev pub element_of : Outside → ℕ → Plan → Maker
element_of out d plan = tested (option_map (λ e. part out d e.now) plan.condition) (part out d plan.body.now)

abbrev pub nested_in : Outside → ℕ → Plan → List Generator → Maker
nested_in out d plan gs = nested (generators_in out d gs) (element_of out d plan)

-- what is inside of a name that runs
abbrev pub inside : Outside → ℕ → Plan → Turn → Maker
inside out d plan it = through it.place it.names (numbers_in it.set) (nested_in out d plan it.inner.now)

-- the numbers of a name that are still to come
abbrev pub turns_in : Outside → ℕ → Plan → Turn → Maker
turns_in out d plan it = turns it.place (inside out d plan it) it.numbers

-- what the array comes to, once it is whole
abbrev pub finished : Plan → Made → Rest → Step
finished plan made k = if plan.is_node then visit plan.place (Some (array_of made)) k else settle plan.place (Some (array_of made)) k

-- the names that run go on, the latest first; the latest of all names is the number of the first of them
abbrev pub resumed : Outside → Plan → List Turn → Here → (Here → Rest) → Made → Step
resumed out plan [] here k made = finished plan made (k here)
resumed out plan (it ∷ its) here k made = turns_in out here.calls plan it (tail here.names) made (resumed out plan its (leave here) k)

-- the further names of a generator, of which there are so many: the next of them
abbrev pub further : Place → ℕ → List Span → Bor (List Generator) → Option Turn
further q zero set gs = None
further q (suc n) set gs = Some (record { place = q; numbers = numbers_in set; set = set; names = n; inner = gs })

abbrev pub deeper : Outside → ℕ → Plan → Option Turn → List Generator → Maker
deeper out d plan None gs = nested_in out d plan gs
deeper out d plan (Some it) gs = turns_in out d plan it

-- ---- frames

abbrev pub befores : List Before → List (Place × Operand)
befores bs = map (λ b. (b.place, b.operand)) bs

-- what a frame does with the operand that it waits for, of a node with this place
unfoldable pub back_chain : Outside → ChainFrame → Here → Place → Operand → (Here → Rest) → Step
back_chain out (l.First ls) here o x k = linked (grouping (links out here.calls ls.now)) (links out here.calls ls.now) here.names o x (k here)
back_chain out (l.Pairs ls) here o x k = paired (links out here.calls ls.now) here.names o x (k here)
back_chain out (l.Right q op x ls) here o y k = visit q (join op x y) (λ r z. paired (links out here.calls ls.now) here.names r z (k here))
back_chain out (l.Operand f q xs ls) here o y k =
    visit q (Some (over_operands (node_by f) (with_operand (truth_by f) xs y)))
    (λ r z. connected (truth_by f) (node_by f) (links out here.calls ls.now) here.names r (with_operand (truth_by f) xs y) (k here))
back_chain out (l.Behind bs ls) here o y k = concatenated (links out here.calls ls.now) here.names (befores bs) o y (k here)
back_chain out (l.Whole bs) here o z k = unwound (befores bs) o z (k here)

unfoldable pub back_access : Outside → AccessFrame → Here → Place → Operand → (Here → Rest) → Step
back_access out (a.Array q ss) here o x k = accessed (subscripts out here.calls ss.now) q here.names o x (k here)
back_access out (a.First q x s ss) here o y k =
    accessed_by (run_subscript out (calls out here.calls) s.now).second q here.names x y
    (λ r z. accessed (subscripts out here.calls ss.now) q here.names r z (k here))
back_access out (a.Second q x y ss) here o z k = visit q (access x y (Some z)) (λ r u. accessed (subscripts out here.calls ss.now) q here.names r u (k here))

unfoldable pub back_choice : Outside → ChoiceFrame → Here → Place → Operand → (Here → Rest) → Step
back_choice out (c.Condition arm arms last) here o x k =
    chosen_by (arm_in out here.calls arm.now).kind (arm_in out here.calls arm.now).branch here.names x
    (chosen (arms_in out here.calls arms.now) (part out here.calls last.now) here.names) (k here)
back_choice out (c.Branch t arms last) here o x k =
    chosen (arms_in out here.calls arms.now) (part out here.calls last.now) here.names (λ r y. k here r (choice t x y))
back_choice out (c.Other t x) here o y k = k here o (choice t x y)

unfoldable pub back_making : Outside → MakingFrame → Here → Place → Operand → (Here → Rest) → Step
back_making out (m.Set m g gs) here o x k =
    through_set (generator_in out here.calls g.now).place (generator_in out here.calls g.now).names (set_of x)
    (nested_in out here.calls m.plan gs.now) here.names (made_of m) (resumed out m.plan m.turns here k)
back_making out (m.Test m) here o x k =
    if truth_of x then run_in out here m.plan.body.now (λ r y. resumed out m.plan m.turns here k (gained (made_of m) y))
    else resumed out m.plan m.turns here k (made_of m)
back_making out (m.Body m) here o y k = resumed out m.plan m.turns here k (gained (made_of m) y)

unfoldable pub back : Outside → Frame → Here → Place → Operand → (Here → Rest) → Step
back out (w.Convert t) here o x k = shallow o (conversion_nesting t x) (k here o (convert t x))
back out (w.Prefix q sign) here o x k = visit q (signed sign x) (k here)
back out (w.Node q) here o x k = visit q (Some x) (k here)
back out (w.Chain frame) here o x k = back_chain out frame here o x k
back out (w.Access frame) here o x k = back_access out frame here o x k
back out (w.Argument q name xs es) here o x k = gathered (parts out here.calls es.now) here.names (x ∷ xs) (λ ys. calls out here.calls q name ys (k here))
back out (w.Element end cs es) here o x k = filled_in out end here (grown cs x) es.now (k here)
back out (w.Choice frame) here o x k = back_choice out frame here o x k
back out (w.Bound es body) here o x k = bound (parts out here.calls es.now) (x ∷ here.names) (λ names. part out here.calls body.now names (k here))
back out w.Unbound here o y k = k (leave here) o y
back out (w.Return q old) here o y k = visit q (Some y) (k old)
back out (w.Made frame) here o x k = back_making out frame here o x k

-- what the frames do with an operand, the latest first
unfoldable pub resume : Outside → List Frame → Here → Rest
resume out [] here = ok
resume out (frame ∷ frames) here = λ q x. back out frame here q x (resume out frames)

-- what is still to be done
abbrev pub goes : Outside → List Frame → Here → Task → Step
goes out frames here (t.Enter e) = run_in out here e.now (resume out frames here)
goes out frames here (t.Look q name) = visit q (Some (named out here.names name)) (resume out frames here)
goes out frames here (t.Call q name xs) = calls out here.calls q name xs (resume out frames here)
goes out frames here (t.Fill end cs es) = filled_in out end here cs es.now (resume out frames here)
goes out frames here (t.Turn m it) = turns_in out here.calls m.plan it here.names (made_of m) (resumed out m.plan m.turns here (resume out frames))
goes out frames here (t.Made m) = resumed out m.plan m.turns here (resume out frames) (made_of m)
goes out frames here (t.Give q x) = resume out frames here q x
goes out frames here (t.Done q x) = ok q x

-- it comes to the same as what is still to be done now, or to this fault
abbrev pub Goes : Outside → Out → Result Task PlaceFault → List Frame → Here → ℕ → List ℕ → Type 0
Goes out r (Ok task) frames here n ws = r ≡ goes out frames here task n ws
Goes out r (Err (f.Wide q)) frames here n ws = r ≡ bad (f.Wide q) n ws
Goes out r (Err (f.Big count q)) frames here n ws = r ≡ bad (f.Big count q) n ws
Goes out r (Err f.Memory) frames here n ws = Unit {0}

-- a step is taken, or there is none
abbrev pub Ticks : Place → ℕ → Result Unit PlaceFault → ℕ → Type 0
Ticks q old (Ok u) new = old ≡ suc new
Ticks q old (Err fault) new = (fault ≡ f.Big count.Steps q) × ((old ≡ 0) × (new ≡ 0))

-- the node is visited, and its operand goes to whatever frames there are
abbrev pub Given : Place → Option Operand → ℕ → Result Task PlaceFault → ℕ → Type 0
Given q x old r new = (out : Outside) → (frames : List Frame) → (here : Here) → (ws : List ℕ) → Goes out (visit q x (resume out frames here) old ws) r frames here new ws

-- the same without a step
abbrev pub Settled : Place → Option Operand → Result Task PlaceFault → Type 0
Settled q x r = (out : Outside) → (frames : List Frame) → (here : Here) → (n : ℕ) → (ws : List ℕ) → Goes out (settle q x (resume out frames here) n ws) r frames here n ws

-- an answer: the operand with the place of its node, or the fault, with the steps and the words that are left, or want of memory
abbrev pub Answers : Out → Result (Place × Operand) PlaceFault → ℕ → List ℕ → Type 0
Answers r (Ok x) n ws = r ≡ ok x.0 x.1 n ws
Answers r (Err (f.Wide q)) n ws = r ≡ bad (f.Wide q) n ws
Answers r (Err (f.Big count q)) n ws = r ≡ bad (f.Big count q) n ws
Answers r (Err f.Memory) n ws = Unit {0}
