-- What is still to be done stays the same where a frame is pushed, and where a list comes to its end.
use Rattle.std.proofs.Common.{◌≡◌, ℕ, zero, suc, ◌+◌, ◌-◌, ◌<◌, ◌≤◌, Bool, true, false, ◌&&◌, List, [], ◌∷◌, ℤ, refl, ap, sym, ◌∙◌, Bor, map, length, drop, Option, Some, None, option_map, Result, Ok, Err, if◌then◌else◌, arith, nat_le}
use Rattle.ms_base.specs.declared.run.Count.TheVariants as count
use Rattle.ms_base.specs.declared.limits.TheConstants.{ELEMENT_LIMIT, TREE_NESTING_LIMIT}
use Rattle.ms_syntax.specs.declared.tree.Operator.{Operator}
use Rattle.ms_code.specs.declared.code.Condition.TheVariants as k
use Rattle.ms_rules.specs.Access.{access}
use Rattle.ms_syntax.specs.declared.token.Place.{Place}
use Rattle.ms_syntax.specs.declared.tree.Operator.TheVariants as op
use Rattle.ms_num.specs.Span.{Span}
use Rattle.ms_code.specs.declared.code.Reference.{Reference}
use Rattle.ms_code.specs.declared.code.Code.{Code}
use Rattle.ms_code.specs.declared.code.Arm.{Arm, out-Arm}
use Rattle.ms_code.specs.declared.code.Generator.{Generator, out-Generator}
use Rattle.ms_code.specs.declared.code.Link.{Link, out-Link}
use Rattle.ms_code.specs.declared.code.Row.{Row, out-Row}
use Rattle.ms_code.specs.declared.code.Subscript.{Subscript, out-Subscript}
use Rattle.ms_values.specs.Numbers.{numbers_of as numbers_in}
use Rattle.ms_values.specs.declared.operand.Cells.{Cells}
use Rattle.ms_values.specs.declared.operand.Placed.{Placed}
use Rattle.ms_values.specs.declared.operand.Operand.{Operand}
use Rattle.ms_values.specs.declared.operand.Operand.TheVariants as v
use Rattle.ms_rules.specs.Operands.{elements_of, nesting_of, set_of, truth_of}
use Rattle.ms_rules.specs.Operators.{Operands, join, over_operands, with_operand}
use Rattle.ms_operators.specs.declared.junction.Connective.{Connective}
use Rattle.ms_operators.specs.declared.junction.Connective.TheVariants as g
use Rattle.ms_operators.specs.Connectives.{truth_by, node_by}
use Rattle.ms_placing.specs.declared.grouping.Grouping.{Grouping}
use Rattle.ms_placing.specs.declared.fault.PlaceFault.{PlaceFault}
use Rattle.ms_placing.specs.declared.fault.PlaceFault.TheVariants as f
use Rattle.ms_placing.specs.Outside.{Outside}
use Rattle.ms_placing.specs.Steps.{Out, ok, bad, Step, Rest, settle, shallow, visit, limited}
use Rattle.ms_placing.specs.Placing as p
use Rattle.ms_placing.specs.Placing.{Made, Maker, Part, ArmPart, GeneratorPart, LinkPart, SubscriptPart, accessed, bound, chosen, concatenated, connected, filled, filled_rows, gathered, grid_from_one, nested, paired, run, run_row, through, turns}
use Rattle.ms_frames.specs.declared.frame.Here.{Here}
use Rattle.ms_frames.specs.declared.frame.Before.{Before}
use Rattle.ms_frames.specs.declared.frame.End.{End}
use Rattle.ms_frames.specs.declared.frame.End.TheVariants as e
use Rattle.ms_frames.specs.declared.frame.Turn.{Turn}
use Rattle.ms_frames.specs.declared.frame.Plan.{Plan}
use Rattle.ms_frames.specs.declared.frame.Making.{Making}
use Rattle.ms_frames.specs.declared.frame.ChainFrame.TheVariants as l
use Rattle.ms_frames.specs.declared.frame.AccessFrame.TheVariants as a
use Rattle.ms_frames.specs.declared.frame.ChoiceFrame.TheVariants as c
use Rattle.ms_frames.specs.declared.frame.MakingFrame.TheVariants as m
use Rattle.ms_frames.specs.declared.frame.Frame.{Frame}
use Rattle.ms_frames.specs.declared.frame.Frame.TheVariants as w
use Rattle.ms_frames.specs.declared.frame.Task.{Task}
use Rattle.ms_frames.specs.Frames.{Goes, calls, part, parts, links, subscripts, arms_in, arm_in, rows_in, generator_in, generators_in, run_in, bind, befores, ended, filled_in, made_of, element_of, nested_in, inside, turns_in, finished, resumed, further, deeper, back, back_chain, back_access, back_choice, back_making, resume}
use Rattle.ms_frames.proofs.Folds.{link_is, subscript_is, arm_is, row_is, generator_is}

-- the answer to what is the same is the same
pub shows : (out : Outside) (o o' : Out) (r : Result Task PlaceFault) (fs : List Frame) (here : Here) (n : ℕ) (ws : List ℕ) → o ≡ o' → Goes out o' r fs here n ws → Goes out o r fs here n ws
shows out o o' r fs here n ws h g = rw h g

-- ---- ends of lists

pub none_left : {X : Type 0} (xs : List X) → length xs ≡ 0 → xs ≡ []
none_left [] h = refl
none_left (x ∷ xs) h = absurd (cc)

-- ---- chains

pub paired_more : (out : Outside) (fs fs' : List Frame) (here : Here) (ls : List Link) (first : Link) (rest : Bor (List Link)) (q : Place) (x : Operand) (n : ℕ) (ws : List ℕ)
    → ls ≡ first ∷ rest.now → fs' ≡ w.Chain (l.Right (out-Link first).place (out-Link first).operator x rest) ∷ fs
    → paired (links out here.calls ls) here.names q x (resume out fs here) n ws ≡ run_in out here (out-Link first).operand (resume out fs' here) n ws
unfolding resume back back_chain
paired_more out fs fs' here ls first rest q x n ws h k =
    rw (h, k) (ap (λ (p : LinkPart). paired (p ∷ links out here.calls rest.now) here.names q x (resume out fs here) n ws) (link_is out (calls out here.calls) first))

pub connected_more : (out : Outside) (fs fs' : List Frame) (here : Here) (t : Connective) (xs : Operands) (ls : List Link) (first : Link) (rest : Bor (List Link)) (q : Place) (n : ℕ) (ws : List ℕ)
    → ls ≡ first ∷ rest.now → fs' ≡ w.Chain (l.Operand t (out-Link first).place xs rest) ∷ fs
    → connected (truth_by t) (node_by t) (links out here.calls ls) here.names q xs (resume out fs here) n ws ≡ run_in out here (out-Link first).operand (resume out fs' here) n ws
unfolding resume back back_chain
connected_more out fs fs' here t xs ls first rest q n ws h k =
    rw (h, k) (ap (λ (p : LinkPart). connected (truth_by t) (node_by t) (p ∷ links out here.calls rest.now) here.names q xs (resume out fs here) n ws) (link_is out (calls out here.calls) first))

pub concatenated_more : (out : Outside) (fs fs' : List Frame) (here : Here) (bs bs' : List Before) (ls : List Link) (first : Link) (rest : Bor (List Link)) (q : Place) (x : Operand) (n : ℕ) (ws : List ℕ)
    → ls ≡ first ∷ rest.now → bs' ≡ record { place = (out-Link first).place; operand = x } ∷ bs → fs' ≡ w.Chain (l.Behind bs' rest) ∷ fs
    → concatenated (links out here.calls ls) here.names (befores bs) q x (resume out fs here) n ws ≡ run_in out here (out-Link first).operand (resume out fs' here) n ws
unfolding resume back back_chain
concatenated_more out fs fs' here bs bs' ls first rest q x n ws h j k =
    rw (h, k, j) (ap (λ (p : LinkPart). concatenated (p ∷ links out here.calls rest.now) here.names (befores bs) q x (resume out fs here) n ws) (link_is out (calls out here.calls) first))

-- a node over the operands of a chain is no array and no set
no_elements : (node : List Placed → Placed) (xs : Operands) → elements_of (over_operands node xs) ≡ 0
no_elements node xs = by_known xs.known
  where
    by_known : (b : Bool) → elements_of (if b then v.Truth xs.truth else v.Condition (node xs.parts)) ≡ 0
    by_known true = refl
    by_known false = refl

-- the operator of a chain of `/\` or `\/` is visited: a step, and then its nesting
pub settled : (t : Connective) (xs : Operands) (q : Place) (k : Rest) (n : ℕ) (ws : List ℕ)
    → settle q (Some (over_operands (node_by t) xs)) k n ws ≡ shallow q (nesting_of (over_operands (node_by t) xs)) (k q (over_operands (node_by t) xs)) n ws
settled t xs q k n ws =
    ap (λ e. if nat_le e ELEMENT_LIMIT then shallow q (nesting_of (over_operands (node_by t) xs)) (k q (over_operands (node_by t) xs)) n ws else bad (f.Big count.Elements q) n ws) (no_elements (node_by t) xs)

-- ---- subscripts

pub accessed_more : (out : Outside) (fs fs' : List Frame) (here : Here) (ss : List Subscript) (first : Bor Subscript) (rest : Bor (List Subscript)) (at q : Place) (x : Operand) (n : ℕ) (ws : List ℕ)
    → ss ≡ first.now ∷ rest.now → fs' ≡ w.Access (a.First at x first rest) ∷ fs
    → accessed (subscripts out here.calls ss) at here.names q x (resume out fs here) n ws ≡ run_in out here (out-Subscript first.now).first (resume out fs' here) n ws
unfolding resume back back_access
accessed_more out fs fs' here ss first rest at q x n ws h k =
    rw (h, k) (ap (λ (s : SubscriptPart). s.first here.names (λ u y. p.accessed_by (p.run_subscript out (calls out here.calls) first.now).second at here.names x y (λ r z. accessed (subscripts out here.calls rest.now) at here.names r z (resume out fs here))) n ws) (subscript_is out (calls out here.calls) first.now))

-- ---- conditions

pub chosen_more : (out : Outside) (fs fs' : List Frame) (here : Here) (arms : List Arm) (first : Bor Arm) (rest : Bor (List Arm)) (last : Bor Code) (n : ℕ) (ws : List ℕ)
    → arms ≡ first.now ∷ rest.now → fs' ≡ w.Choice (c.Condition first rest last) ∷ fs
    → chosen (arms_in out here.calls arms) (part out here.calls last.now) here.names (resume out fs here) n ws ≡ run_in out here (out-Arm first.now).condition (resume out fs' here) n ws
unfolding resume back back_choice
chosen_more out fs fs' here arms first rest last n ws h k =
    rw (h, k) (ap (λ (s : ArmPart). s.condition here.names (λ u y. p.chosen_by (arm_in out here.calls first.now).kind (arm_in out here.calls first.now).branch here.names y (chosen (arms_in out here.calls rest.now) (part out here.calls last.now) here.names) (resume out fs here)) n ws) (arm_is out (calls out here.calls) first.now))

-- ---- generators

pub nested_more : (out : Outside) (fs fs' : List Frame) (here : Here) (it : Making) (gs : List Generator) (first : Bor Generator) (rest : Bor (List Generator)) (n : ℕ) (ws : List ℕ)
    → gs ≡ first.now ∷ rest.now → fs' ≡ w.Made (m.Set it first rest) ∷ fs
    → nested_in out here.calls it.plan gs here.names (made_of it) (resumed out it.plan it.turns here (resume out fs)) n ws ≡ run_in out here (out-Generator first.now).set (resume out fs' here) n ws
unfolding resume back back_making
nested_more out fs fs' here it gs first rest n ws h k =
    rw (h, k) (ap (λ (s : GeneratorPart). s.set here.names (λ u y. p.through_set (generator_in out here.calls first.now).place (generator_in out here.calls first.now).names (set_of y) (nested_in out here.calls it.plan rest.now) here.names (made_of it) (resumed out it.plan it.turns here (resume out fs))) n ws) (generator_is out (calls out here.calls) first.now))

pub through_is : (out : Outside) (d : ℕ) (plan : Plan) (q : Place) (names : ℕ) (set : List Span) (gs : Bor (List Generator))
    → through q names (numbers_in set) (nested_in out d plan gs.now) ≡ deeper out d plan (further q names set gs) gs.now
through_is out d plan q zero set gs = refl
through_is out d plan q (suc n) set gs = refl

-- ---- elements, arguments, locals

pub filled_more : (out : Outside) (fs fs' : List Frame) (here : Here) (end : End) (cs : Cells) (es : List Code) (first : Bor Code) (rest : Bor (List Code)) (n : ℕ) (ws : List ℕ)
    → es ≡ first.now ∷ rest.now → fs' ≡ w.Element end cs rest ∷ fs
    → filled_in out end here cs es (resume out fs here) n ws ≡ run_in out here first.now (resume out fs' here) n ws
unfolding resume back
filled_more out fs fs' here end cs es first rest n ws h k = rw (h, k) refl

pub none_filled : (out : Outside) (here : Here) (end : End) (cs : Cells) (es : List Code) (k : Rest) (n : ℕ) (ws : List ℕ) → length es ≡ 0
    → filled_in out end here cs es k n ws ≡ ended out end here cs k n ws
none_filled out here end cs es k n ws h = rw (none_left es h) refl

pub gathered_more : (out : Outside) (fs fs' : List Frame) (here : Here) (q : Place) (name : Reference) (xs : List Operand) (es : List Code) (first : Bor Code) (rest : Bor (List Code)) (n : ℕ) (ws : List ℕ)
    → es ≡ first.now ∷ rest.now → fs' ≡ w.Argument q name xs rest ∷ fs
    → gathered (parts out here.calls es) here.names xs (λ ys. calls out here.calls q name ys (resume out fs here)) n ws ≡ run_in out here first.now (resume out fs' here) n ws
unfolding resume back
gathered_more out fs fs' here q name xs es first rest n ws h k = rw (h, k) refl

pub bound_more : (out : Outside) (fs fs' : List Frame) (here : Here) (body : Bor Code) (es : List Code) (first : Bor Code) (rest : Bor (List Code)) (n : ℕ) (ws : List ℕ)
    → es ≡ first.now ∷ rest.now → fs' ≡ w.Bound rest body ∷ fs
    → bound (parts out here.calls es) here.names (λ names. part out here.calls body.now names (resume out fs here)) n ws ≡ run_in out here first.now (resume out fs' here) n ws
unfolding resume back
bound_more out fs fs' here body es first rest n ws h k = rw (h, k) refl

pub next_row : (out : Outside) (here : Here) (q : Place) (count width : ℕ) (rows : List Row) (first : Row) (rest : Bor (List Row)) (cs : Cells) (es : List Code) (k : Rest) (n : ℕ) (ws : List ℕ)
    → rows ≡ first ∷ rest.now → es ≡ (out-Row first).elements
    → filled_rows (rows_in out here.calls rows) here.names cs (λ more. visit q (Some (grid_from_one count width more)) k) n ws
    ≡ filled_in out (e.Rows q count width rest) here cs es k n ws
next_row out here q count width rows first rest cs es k n ws h i =
    rw (h, i) (ap (λ (r : List Part). filled_rows (r ∷ rows_in out here.calls rest.now) here.names cs (λ more. visit q (Some (grid_from_one count width more)) k) n ws) (row_is out (calls out here.calls) first))

-- ---- how a chain groups

pub still_or : (out : Outside) (d : ℕ) (ls : List Link) (x : Link) (rest : List Link) (b all : Bool) → ls ≡ x ∷ rest → b ≡ p.is_or (p.run_link out (calls out d) x)
    → p.are_or (links out d ls) ≡ all → (b && p.are_or (links out d rest)) ≡ all
still_or out d ls x rest b all h t i =
    ap (λ q. q && p.are_or (links out d rest)) t ∙ ap (λ q. p.are_or (links out d q)) (sym h) ∙ i

pub groups : (out : Outside) (d : ℕ) (ls : List Link) (first : Link) (rest : List Link) (b : Bool) → ls ≡ first ∷ rest → b ≡ p.are_or (links out d rest)
    → p.grouping_by (out-Link first).operator b ≡ p.grouping (links out d ls)
groups out d ls first rest b h t =
    rw (h, t) (ap (λ (l : LinkPart). p.grouping_by l.operator (p.are_or (links out d rest))) (sym (link_is out (calls out d) first)))

-- ---- names that run

pub no_turns : (out : Outside) (d : ℕ) (plan : Plan) (it : Turn) (names : List Operand) (made : Made) (k : Made → Step) (n : ℕ) (ws : List ℕ) → it.numbers ≡ []
    → turns_in out d plan it names made k n ws ≡ k made n ws
no_turns out d plan it names made k n ws h = rw h refl

pub no_step : (out : Outside) (d : ℕ) (plan : Plan) (it : Turn) (names : List Operand) (made : Made) (k : Made → Step) (ws : List ℕ) (z : ℤ) (zs : List ℤ) → it.numbers ≡ z ∷ zs
    → turns_in out d plan it names made k 0 ws ≡ bad (f.Big count.Steps it.place) 0 ws
no_step out d plan it names made k ws z zs h = rw h refl

pub turns_on : (out : Outside) (here : Here) (plan : Plan) (it it' : Turn) (its its' : List Turn) (k : Here → Rest) (z : ℤ) (zs : List ℤ) (made : Made) (old n : ℕ) (ws : List ℕ) (names' : List Operand) (next : Option Turn)
    → it.numbers ≡ z ∷ zs → old ≡ suc n → it' ≡ record it { numbers = zs } → its' ≡ it' ∷ its → names' ≡ v.Number (Some z) ∷ here.names → next ≡ further it.place it.names it.set it.inner
    → turns_in out here.calls plan it here.names made (resumed out plan its here k) old ws
    ≡ deeper out here.calls plan next it.inner.now names' made (resumed out plan its' (record { calls = here.calls; names = names' }) k) n ws
turns_on out here plan it it' its its' k z zs made old n ws names' next h l i j a b =
    rw (h, l, j, i, a, b) (ap (λ (f : Maker). f (v.Number (Some z) ∷ here.names) made (resumed out plan (record it { numbers = zs } ∷ its) (bind (v.Number (Some z)) here) k) n ws)
    (through_is out here.calls plan it.place it.names it.set it.inner))

pub turns_held : (out : Outside) (here : Here) (m m' : Making) (it it' : Turn) (k : Here → Rest) (z : ℤ) (zs : List ℤ) (old n : ℕ) (ws : List ℕ) (names' : List Operand) (next : Option Turn)
    → it.numbers ≡ z ∷ zs → old ≡ suc n → it' ≡ record it { numbers = zs } → m' ≡ record m { turns = it' ∷ m.turns } → names' ≡ v.Number (Some z) ∷ here.names → next ≡ further it.place it.names it.set it.inner
    → turns_in out here.calls m.plan it here.names (made_of m) (resumed out m.plan m.turns here k) old ws
    ≡ deeper out here.calls m'.plan next it.inner.now names' (made_of m') (resumed out m'.plan m'.turns (record { calls = here.calls; names = names' }) k) n ws
turns_held out here m m' it it' k z zs old n ws names' next h l i j a b =
    rw j (turns_on out here m.plan it it' m.turns (it' ∷ m.turns) k z zs (made_of m) old n ws names' next h l i refl a b)

pub turns_stop : (out : Outside) (fs fs' : List Frame) (here here' : Here) (plan : Plan) (it : Turn) (made : Made) (k : Made → Step) (z : ℤ) (zs : List ℤ) (old n : ℕ) (ws : List ℕ) (fault : PlaceFault)
    → it.numbers ≡ z ∷ zs → (fault ≡ f.Big count.Steps it.place) × ((old ≡ 0) × (n ≡ 0))
    → Goes out (turns_in out here.calls plan it here.names made k old ws) (Err fault) fs' here' n ws
turns_stop out fs fs' here here' plan it made k z zs old n ws fault i h = rw (h.0, h.1.0, h.1.1, i) refl

pub begins : (out : Outside) (d : ℕ) (plan : Plan) (g : Generator) (gs : Bor (List Generator)) (set : List Span) (names : List Operand) (made : Made) (k : Made → Step) (n : ℕ) (ws : List ℕ)
    → p.through_set (generator_in out d g).place (generator_in out d g).names (Some set) (nested_in out d plan gs.now) names made k n ws
    ≡ deeper out d plan (further (out-Generator g).place (out-Generator g).names set gs) gs.now names made k n ws
begins out d plan g gs set names made k n ws =
    ap (λ (q : GeneratorPart). through q.place q.names (numbers_in set) (nested_in out d plan gs.now) names made k n ws) (generator_is out (calls out d) g)
    ∙ ap (λ (f : Maker). f names made k n ws) (through_is out d plan (out-Generator g).place (out-Generator g).names set gs)

-- ---- an operator is visited

pub pair_pushed : (out : Outside) (fs fs' : List Frame) (here : Here) (q o : Place) (operator : Operator) (x y : Operand) (z : Option Operand) (ls : Bor (List Link)) (n : ℕ) (ws : List ℕ)
    → z ≡ join operator x y → fs' ≡ w.Chain (l.Pairs ls) ∷ fs
    → back_chain out (l.Right q operator x ls) here o y (resume out fs) n ws ≡ visit q z (resume out fs' here) n ws
unfolding resume back back_chain
pair_pushed out fs fs' here q o operator x y z ls n ws h k = rw (h, k) refl

pub last_pair : (out : Outside) (fs : List Frame) (here : Here) (q o : Place) (operator : Operator) (x y : Operand) (z : Option Operand) (ls : Bor (List Link)) (n : ℕ) (ws : List ℕ)
    → z ≡ join operator x y → length ls.now ≡ 0
    → back_chain out (l.Right q operator x ls) here o y (resume out fs) n ws ≡ visit q z (resume out fs here) n ws
unfolding back_chain
last_pair out fs here q o operator x y z ls n ws h k =
    rw h (ap (λ (rest : List Link). visit q (join operator x y) (λ r u. paired (links out here.calls rest) here.names r u (resume out fs here)) n ws) (none_left ls.now k))

pub unwound_more : (out : Outside) (fs fs' : List Frame) (here : Here) (bs : List Before) (last : Before) (rest : List Before) (q : Place) (y : Operand) (z : Option Operand) (n : ℕ) (ws : List ℕ)
    → bs ≡ last ∷ rest → z ≡ join op.Concat last.operand y → fs' ≡ w.Chain (l.Whole rest) ∷ fs
    → p.unwound (befores bs) q y (resume out fs here) n ws ≡ visit last.place z (resume out fs' here) n ws
unfolding resume back back_chain
unwound_more out fs fs' here bs last rest q y z n ws h i k = rw (h, i, k) refl

joined : (t : Connective) (xs : Operands) (q : Place) (k : Rest) (n : ℕ) (ws : List ℕ) (b : Bool) → nat_le (nesting_of (over_operands (node_by t) xs)) TREE_NESTING_LIMIT ≡ b
    → settle q (Some (over_operands (node_by t) xs)) k n ws ≡ (if b then k q (over_operands (node_by t) xs) n ws else bad (f.Big count.Nesting q) n ws)
joined t xs q k n ws b h =
    settled t xs q k n ws ∙ ap (λ c. if c then k q (over_operands (node_by t) xs) n ws else bad (f.Big count.Nesting q) n ws) h

joined_at : (out : Outside) (fs : List Frame) (here : Here) (t : Connective) (q : Place) (xs : Operands) (ls : Bor (List Link)) (old n : ℕ) (ws : List ℕ) (b : Bool)
    → old ≡ suc n → nat_le (nesting_of (over_operands (node_by t) xs)) TREE_NESTING_LIMIT ≡ b
    → visit q (Some (over_operands (node_by t) xs)) (λ r z. connected (truth_by t) (node_by t) (links out here.calls ls.now) here.names r xs (resume out fs here)) old ws
    ≡ (if b then connected (truth_by t) (node_by t) (links out here.calls ls.now) here.names q xs (resume out fs here) n ws else bad (f.Big count.Nesting q) n ws)
joined_at out fs here t q xs ls old n ws b i j =
    rw i (joined t xs q (λ r z. connected (truth_by t) (node_by t) (links out here.calls ls.now) here.names r xs (resume out fs here)) n ws b j)

joined_by : (out : Outside) (fs : List Frame) (here : Here) (t : Connective) (q o : Place) (xs xs' : Operands) (y : Operand) (ls : Bor (List Link)) (old n : ℕ) (ws : List ℕ) (b : Bool)
    → xs' ≡ with_operand (truth_by t) xs y → old ≡ suc n → nat_le (nesting_of (over_operands (node_by t) xs')) TREE_NESTING_LIMIT ≡ b
    → back_chain out (l.Operand t q xs ls) here o y (resume out fs) old ws
    ≡ (if b then connected (truth_by t) (node_by t) (links out here.calls ls.now) here.names q xs' (resume out fs here) n ws else bad (f.Big count.Nesting q) n ws)
unfolding back_chain
joined_by out fs here t q o xs xs' y ls old n ws b h i j =
    ap (λ (v : Operands). visit q (Some (over_operands (node_by t) v)) (λ r z. connected (truth_by t) (node_by t) (links out here.calls ls.now) here.names r v (resume out fs here)) old ws) (sym h)
    ∙ joined_at out fs here t q xs' ls old n ws b i j

pub junction_goes : (out : Outside) (fs : List Frame) (here : Here) (t : Connective) (q o : Place) (xs xs' : Operands) (y : Operand) (ls : Bor (List Link)) (old n : ℕ) (ws : List ℕ) (nesting : ℕ)
    → xs' ≡ with_operand (truth_by t) xs y → old ≡ suc n → ((g : Connective) → nesting ≡ nesting_of (over_operands (node_by g) xs')) → true ≡ nat_le nesting TREE_NESTING_LIMIT
    → back_chain out (l.Operand t q xs ls) here o y (resume out fs) old ws ≡ connected (truth_by t) (node_by t) (links out here.calls ls.now) here.names q xs' (resume out fs here) n ws
junction_goes out fs here t q o xs xs' y ls old n ws nesting h i j e =
    joined_by out fs here t q o xs xs' y ls old n ws true h i (ap (λ m. nat_le m TREE_NESTING_LIMIT) (sym (j t)) ∙ sym e)

pub junction_ends : (out : Outside) (fs : List Frame) (here : Here) (t : Connective) (q o : Place) (xs xs' : Operands) (y : Operand) (ls : Bor (List Link)) (old n : ℕ) (ws : List ℕ) (nesting : ℕ)
    → xs' ≡ with_operand (truth_by t) xs y → old ≡ suc n → ((g : Connective) → nesting ≡ nesting_of (over_operands (node_by g) xs')) → false ≡ nat_le nesting TREE_NESTING_LIMIT
    → back_chain out (l.Operand t q xs ls) here o y (resume out fs) old ws ≡ bad (f.Big count.Nesting q) n ws
junction_ends out fs here t q o xs xs' y ls old n ws nesting h i j e =
    joined_by out fs here t q o xs xs' y ls old n ws false h i (ap (λ m. nat_le m TREE_NESTING_LIMIT) (sym (j t)) ∙ sym e)

pub links_as : (out : Outside) (fs : List Frame) (here : Here) (ls : Bor (List Link)) (o : Place) (x : Operand) (n : ℕ) (ws : List ℕ) (g g' : Grouping)
    → g ≡ g' → g ≡ p.grouping (links out here.calls ls.now)
    → back_chain out (l.First ls) here o x (resume out fs) n ws ≡ p.linked g' (links out here.calls ls.now) here.names o x (resume out fs here) n ws
unfolding back_chain
links_as out fs here ls o x n ws g g' h k =
    ap (λ (q : Grouping). p.linked q (links out here.calls ls.now) here.names o x (resume out fs here) n ws) (sym k ∙ h)

pub indexed_pushed : (out : Outside) (fs fs' : List Frame) (here : Here) (at : Place) (x i : Operand) (j : Option Operand) (z : Option Operand) (ss : Bor (List Subscript)) (n : ℕ) (ws : List ℕ)
    → z ≡ access x i j → fs' ≡ w.Access (a.Array at ss) ∷ fs
    → visit at (access x i j) (λ q z. accessed (subscripts out here.calls ss.now) at here.names q z (resume out fs here)) n ws ≡ visit at z (resume out fs' here) n ws
unfolding resume back back_access
indexed_pushed out fs fs' here at x i j z ss n ws h k = rw (h, k) refl

pub last_indexed : (out : Outside) (fs : List Frame) (here : Here) (at : Place) (x i : Operand) (j : Option Operand) (z : Option Operand) (ss : List Subscript) (n : ℕ) (ws : List ℕ)
    → z ≡ access x i j → length ss ≡ 0
    → visit at (access x i j) (λ q z. accessed (subscripts out here.calls ss) at here.names q z (resume out fs here)) n ws ≡ visit at z (resume out fs here) n ws
last_indexed out fs here at x i j z ss n ws h k =
    rw h (ap (λ (rest : List Subscript). visit at (access x i j) (λ q u. accessed (subscripts out here.calls rest) at here.names q u (resume out fs here)) n ws) (none_left ss k))

pub one_index : (out : Outside) (fs : List Frame) (here : Here) (at o : Place) (x i : Operand) (s : Bor Subscript) (ss : Bor (List Subscript)) (n : ℕ) (ws : List ℕ)
    → (out-Subscript s.now).second ≡ None
    → back_access out (a.First at x s ss) here o i (resume out fs) n ws ≡ visit at (access x i None) (λ q z. accessed (subscripts out here.calls ss.now) at here.names q z (resume out fs here)) n ws
unfolding back_access
one_index out fs here at o x i s ss n ws h =
    ap (λ (t : SubscriptPart). p.accessed_by t.second at here.names x i (λ r z. accessed (subscripts out here.calls ss.now) at here.names r z (resume out fs here)) n ws) (subscript_is out (calls out here.calls) s.now)
    ∙ ap (λ (c : Option Code). p.accessed_by (option_map (part out here.calls) c) at here.names x i (λ r z. accessed (subscripts out here.calls ss.now) at here.names r z (resume out fs here)) n ws) h

pub two_indices : (out : Outside) (fs fs' : List Frame) (here : Here) (at o : Place) (x i : Operand) (s : Bor Subscript) (ss : Bor (List Subscript)) (e r : Code) (n : ℕ) (ws : List ℕ)
    → (out-Subscript s.now).second ≡ Some e → r ≡ e → fs' ≡ w.Access (a.Second at x i ss) ∷ fs
    → back_access out (a.First at x s ss) here o i (resume out fs) n ws ≡ run_in out here r (resume out fs' here) n ws
unfolding resume back back_access
two_indices out fs fs' here at o x i s ss e r n ws h j k =
    rw (j, k) (ap (λ (t : SubscriptPart). p.accessed_by t.second at here.names x i (λ r z. accessed (subscripts out here.calls ss.now) at here.names r z (resume out fs here)) n ws) (subscript_is out (calls out here.calls) s.now)
    ∙ ap (λ (c : Option Code). p.accessed_by (option_map (part out here.calls) c) at here.names x i (λ r z. accessed (subscripts out here.calls ss.now) at here.names r z (resume out fs here)) n ws) h)

-- ---- a condition is placed

pub by_arm : (out : Outside) (fs : List Frame) (here : Here) (arm : Bor Arm) (arms : Bor (List Arm)) (last : Bor Code) (o : Place) (x : Operand) (n : ℕ) (ws : List ℕ)
    → back_choice out (c.Condition arm arms last) here o x (resume out fs) n ws
    ≡ p.chosen_by (out-Arm arm.now).kind (part out here.calls (out-Arm arm.now).branch) here.names x (chosen (arms_in out here.calls arms.now) (part out here.calls last.now) here.names) (resume out fs here) n ws
unfolding back_choice
by_arm out fs here arm arms last o x n ws =
    ap (λ (s : ArmPart). p.chosen_by s.kind s.branch here.names x (chosen (arms_in out here.calls arms.now) (part out here.calls last.now) here.names) (resume out fs here) n ws) (arm_is out (calls out here.calls) arm.now)

pub by_known : (out : Outside) (fs : List Frame) (here : Here) (arm : Bor Arm) (arms : Bor (List Arm)) (last : Bor Code) (o : Place) (x : Operand) (b : Bool) (n : ℕ) (ws : List ℕ)
    → (out-Arm arm.now).kind ≡ k.Known → b ≡ truth_of x
    → back_choice out (c.Condition arm arms last) here o x (resume out fs) n ws
    ≡ (if b then run_in out here (out-Arm arm.now).branch (resume out fs here) else chosen (arms_in out here.calls arms.now) (part out here.calls last.now) here.names (resume out fs here)) n ws
by_known out fs here arm arms last o x b n ws h t =
    by_arm out fs here arm arms last o x n ws
    ∙ ap (λ q. p.chosen_by q (part out here.calls (out-Arm arm.now).branch) here.names x (chosen (arms_in out here.calls arms.now) (part out here.calls last.now) here.names) (resume out fs here) n ws) h
    ∙ ap (λ q. (if q then run_in out here (out-Arm arm.now).branch (resume out fs here) else chosen (arms_in out here.calls arms.now) (part out here.calls last.now) here.names (resume out fs here)) n ws) (sym t)

pub by_search : (out : Outside) (fs : List Frame) (here : Here) (arm : Bor Arm) (arms : Bor (List Arm)) (last : Bor Code) (o : Place) (x : Operand) (b : Bool) (n : ℕ) (ws : List ℕ)
    → (out-Arm arm.now).kind ≡ k.Search → b ≡ truth_of x
    → back_choice out (c.Condition arm arms last) here o x (resume out fs) n ws
    ≡ (if b then run_in out here (out-Arm arm.now).branch (resume out fs here) else chosen (arms_in out here.calls arms.now) (part out here.calls last.now) here.names (resume out fs here)) n ws
by_search out fs here arm arms last o x b n ws h t =
    by_arm out fs here arm arms last o x n ws
    ∙ ap (λ q. p.chosen_by q (part out here.calls (out-Arm arm.now).branch) here.names x (chosen (arms_in out here.calls arms.now) (part out here.calls last.now) here.names) (resume out fs here) n ws) h
    ∙ ap (λ q. (if q then run_in out here (out-Arm arm.now).branch (resume out fs here) else chosen (arms_in out here.calls arms.now) (part out here.calls last.now) here.names (resume out fs here)) n ws) (sym t)

pub by_variable : (out : Outside) (fs fs' : List Frame) (here : Here) (arm : Bor Arm) (arms : Bor (List Arm)) (last : Bor Code) (o : Place) (x : Operand) (n : ℕ) (ws : List ℕ)
    → (out-Arm arm.now).kind ≡ k.Variable → fs' ≡ w.Choice (c.Branch x arms last) ∷ fs
    → back_choice out (c.Condition arm arms last) here o x (resume out fs) n ws ≡ run_in out here (out-Arm arm.now).branch (resume out fs' here) n ws
unfolding resume back back_choice
by_variable out fs fs' here arm arms last o x n ws h j =
    rw j (by_arm out fs here arm arms last o x n ws
    ∙ ap (λ q. p.chosen_by q (part out here.calls (out-Arm arm.now).branch) here.names x (chosen (arms_in out here.calls arms.now) (part out here.calls last.now) here.names) (resume out fs here) n ws) h)

pub branch_pushed : (out : Outside) (fs fs' : List Frame) (here : Here) (t x : Operand) (arms : Bor (List Arm)) (last : Bor Code) (o : Place) (n : ℕ) (ws : List ℕ)
    → fs' ≡ w.Choice (c.Other t x) ∷ fs
    → back_choice out (c.Branch t arms last) here o x (resume out fs) n ws ≡ chosen (arms_in out here.calls arms.now) (part out here.calls last.now) here.names (resume out fs' here) n ws
unfolding resume back back_choice
branch_pushed out fs fs' here t x arms last o n ws h = rw h refl

-- ---- elements of generators

pub untested : (out : Outside) (fs fs' : List Frame) (here : Here) (it : Making) (n : ℕ) (ws : List ℕ)
    → it.plan.condition ≡ None → fs' ≡ w.Made (m.Body it) ∷ fs
    → element_of out here.calls it.plan here.names (made_of it) (resumed out it.plan it.turns here (resume out fs)) n ws ≡ run_in out here it.plan.body.now (resume out fs' here) n ws
unfolding resume back back_making
untested out fs fs' here it n ws h k =
    rw k (ap (λ (q : Option (Bor Code)). p.tested (option_map (λ (e : Bor Code). part out here.calls e.now) q) (part out here.calls it.plan.body.now) here.names (made_of it) (resumed out it.plan it.turns here (resume out fs)) n ws) h)

pub tests : (out : Outside) (fs fs' : List Frame) (here : Here) (it : Making) (r : Bor Code) (n : ℕ) (ws : List ℕ)
    → it.plan.condition ≡ Some r → fs' ≡ w.Made (m.Test it) ∷ fs
    → element_of out here.calls it.plan here.names (made_of it) (resumed out it.plan it.turns here (resume out fs)) n ws ≡ run_in out here r.now (resume out fs' here) n ws
unfolding resume back back_making
tests out fs fs' here it r n ws h k =
    rw k (ap (λ (q : Option (Bor Code)). p.tested (option_map (λ (e : Bor Code). part out here.calls e.now) q) (part out here.calls it.plan.body.now) here.names (made_of it) (resumed out it.plan it.turns here (resume out fs)) n ws) h)

pub none_nested : (out : Outside) (d : ℕ) (plan : Plan) (gs : List Generator) (names : List Operand) (made : Made) (k : Made → Step) (n : ℕ) (ws : List ℕ) → length gs ≡ 0
    → nested_in out d plan gs names made k n ws ≡ element_of out d plan names made k n ws
none_nested out d plan gs names made k n ws h = rw (none_left gs h) refl

pub bound_pushed : (out : Outside) (fs fs' : List Frame) (here : Here) (es : List Code) (body : Bor Code) (x : Operand) (names' : List Operand) (n : ℕ) (ws : List ℕ)
    → names' ≡ x ∷ here.names → fs' ≡ w.Unbound ∷ fs
    → bound (parts out here.calls es) (x ∷ here.names) (λ names. part out here.calls body.now names (resume out fs here)) n ws
    ≡ bound (parts out here.calls es) names' (λ names. part out here.calls body.now names (resume out fs' (record { calls = here.calls; names = names' }))) n ws
unfolding resume back
bound_pushed out fs fs' here es body x names' n ws h k = rw (h, k) refl

-- ---- rows

pub no_rows : (out : Outside) (here : Here) (rows : List Row) (cs : Cells) (k : Cells → Step) (n : ℕ) (ws : List ℕ) → length rows ≡ 0
    → filled_rows (rows_in out here.calls rows) here.names cs k n ws ≡ k cs n ws
no_rows out here rows cs k n ws h = rw (none_left rows h) refl

count_is : (out : Outside) (d : ℕ) (rows : List Row) → length (rows_in out d rows) ≡ length rows
count_is out d [] = refl
count_is out d (r ∷ rs) = ap suc (count_is out d rs)

pub rows_begin : (out : Outside) (here : Here) (q : Place) (rows : List Row) (count width : ℕ) (cs : Cells) (k : Rest) (n : ℕ) (ws : List ℕ)
    → count ≡ length rows → width ≡ p.width_of (rows_in out here.calls rows)
    → filled_rows (rows_in out here.calls rows) here.names cs (λ more. visit q (Some (grid_from_one (length (rows_in out here.calls rows)) (p.width_of (rows_in out here.calls rows)) more)) k) n ws
    ≡ filled_rows (rows_in out here.calls rows) here.names cs (λ more. visit q (Some (grid_from_one count width more)) k) n ws
rows_begin out here q rows count width cs k n ws h i =
    rw (h, i) (ap (λ c. filled_rows (rows_in out here.calls rows) here.names cs (λ more. visit q (Some (grid_from_one c (p.width_of (rows_in out here.calls rows)) more)) k) n ws) (count_is out here.calls rows))
