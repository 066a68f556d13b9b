-- Into each form: what is to be done is what its first part, with a frame, is to do.
use Rattle.std.proofs.Common.{◌≡◌, sym, ◌∙◌, ℕ, pos, Bool, true, false, List, [], ◌∷◌, refl, ap, Bor, length, Option, Some, None, option_map}
use Rattle.ms_syntax.specs.declared.token.Place.{Place}
use Rattle.ms_syntax.specs.declared.tree.Sign.{Sign}
use Rattle.ms_typing.specs.declared.types.ExprType.{ExprType}
use Rattle.ms_code.specs.declared.code.Reference.{Reference}
use Rattle.ms_code.specs.declared.code.Code.{Code}
use Rattle.ms_code.specs.declared.code.Code.TheVariants as e
use Rattle.ms_code.specs.declared.code.Arm.{Arm}
use Rattle.ms_code.specs.declared.code.Generators.{Generators, out-Generators}
use Rattle.ms_code.specs.declared.code.Link.{Link}
use Rattle.ms_code.specs.declared.code.Row.{Row}
use Rattle.ms_code.specs.declared.code.Subscript.{Subscript}
use Rattle.ms_values.specs.declared.operand.Cells.TheVariants as cells
use Rattle.ms_values.specs.declared.operand.Operand.TheVariants as v
use Rattle.ms_rules.specs.Operands.{known_number}
use Rattle.ms_rules.specs.Cells.{empty}
use Rattle.ms_rules.specs.Calls.{nothing}
use Rattle.ms_rules.specs.Conversions.{kind_of_type}
use Rattle.ms_placing.specs.Outside.{Outside}
use Rattle.ms_placing.specs.Steps.{Step, Rest, settle, visit}
use Rattle.ms_placing.specs.Placing as p
use Rattle.ms_placing.specs.Placing.{Part, GeneratorsPart, bound, chosen, filled_rows, gathered, grid_from_one, named, nested, run_step, tested, width_of}
use Rattle.ms_frames.specs.declared.frame.Here.{Here}
use Rattle.ms_frames.specs.declared.frame.End.TheVariants as n
use Rattle.ms_frames.specs.declared.frame.Plan.{Plan}
use Rattle.ms_frames.specs.declared.frame.ChainFrame.TheVariants as l
use Rattle.ms_frames.specs.declared.frame.AccessFrame.TheVariants as a
use Rattle.ms_frames.specs.declared.frame.Frame.{Frame}
use Rattle.ms_frames.specs.declared.frame.Frame.TheVariants as w
use Rattle.ms_frames.specs.Frames.{calls, part, parts, arms_in, rows_in, generators_in, run_in, filled_in, nested_in, finished, back, back_chain, back_access, resume}
use Rattle.ms_walk.proofs.Folds as fold

pub into_number : (out : Outside) (here : Here) (x : Code) (q : Place) (z : ℕ) (k : Rest) (left : ℕ) (ws : List ℕ) → x ≡ e.Number q z
    → run_in out here x k left ws ≡ visit q (known_number (Some (pos z))) k left ws
unfolding run_step
into_number out here x q z k left ws h = rw h (ap (λ (f : Part). f here.names k left ws) (fold.number out (calls out here.calls) q z))

pub into_truth : (out : Outside) (here : Here) (x : Code) (q : Place) (b : Bool) (k : Rest) (left : ℕ) (ws : List ℕ) → x ≡ e.Truth q b
    → run_in out here x k left ws ≡ visit q (Some (v.Truth b)) k left ws
unfolding run_step
into_truth out here x q b k left ws h = rw h (ap (λ (f : Part). f here.names k left ws) (fold.truth out (calls out here.calls) q b))

pub into_text : (out : Outside) (here : Here) (x : Code) (q : Place) (s : List ℕ) (k : Rest) (left : ℕ) (ws : List ℕ) → x ≡ e.Text q s
    → run_in out here x k left ws ≡ visit q (Some (v.Text (Some s))) k left ws
unfolding run_step
into_text out here x q s k left ws h = rw h (ap (λ (f : Part). f here.names k left ws) (fold.text out (calls out here.calls) q s))

pub into_name : (out : Outside) (here : Here) (x : Code) (q : Place) (r : Reference) (k : Rest) (left : ℕ) (ws : List ℕ) → x ≡ e.Name q r
    → run_in out here x k left ws ≡ visit q (Some (named out here.names r)) k left ws
unfolding run_step
into_name out here x q r k left ws h = rw h (ap (λ (f : Part). f here.names k left ws) (fold.name out (calls out here.calls) q r))

pub into_call : (out : Outside) (here : Here) (x : Code) (q : Place) (r : Reference) (es : List Code) (k : Rest) (left : ℕ) (ws : List ℕ) → x ≡ e.Call q r es
    → run_in out here x k left ws ≡ gathered (parts out here.calls es) here.names [] (λ xs. calls out here.calls q r xs k) left ws
unfolding run_step
into_call out here x q r es k left ws h = rw h (ap (λ (f : Part). f here.names k left ws) (fold.called out (calls out here.calls) q r es))

pub into_repeat : (out : Outside) (here : Here) (x : Code) (q : Place) (g : Generators) (b : Code) (k : Rest) (left : ℕ) (ws : List ℕ) → x ≡ e.RepeatEach q g b
    → run_in out here x k left ws ≡ visit q (Some nothing) k left ws
unfolding run_step
into_repeat out here x q g b k left ws h = rw h (ap (λ (f : Part). f here.names k left ws) (fold.repeat out (calls out here.calls) q g b))

pub into_array : (out : Outside) (here : Here) (x : Code) (q : Place) (t : ExprType) (es : List Code) (r : Bor (List Code)) (k : Rest) (left : ℕ) (ws : List ℕ) → x ≡ e.Array q t es → r.now ≡ es
    → run_in out here x k left ws ≡ filled_in out (n.Array q) here (empty (kind_of_type t)) r.now k left ws
unfolding run_step
into_array out here x q t es r k left ws h j = rw (h, ← j) (ap (λ (f : Part). f here.names k left ws) (fold.array out (calls out here.calls) q t r.now))

pub into_set : (out : Outside) (here : Here) (x : Code) (q : Place) (es : List Code) (r : Bor (List Code)) (k : Rest) (left : ℕ) (ws : List ℕ) → x ≡ e.Set q es → r.now ≡ es
    → run_in out here x k left ws ≡ filled_in out (n.Set q) here (cells.Numbers []) r.now k left ws
unfolding run_step
into_set out here x q es r k left ws h j = rw (h, ← j) (ap (λ (f : Part). f here.names k left ws) (fold.set out (calls out here.calls) q r.now))

pub into_rows : (out : Outside) (here : Here) (x : Code) (q : Place) (t : ExprType) (rs : List Row) (k : Rest) (left : ℕ) (ws : List ℕ) → x ≡ e.Rows q t rs
    → run_in out here x k left ws ≡ filled_rows (rows_in out here.calls rs) here.names (empty (kind_of_type t)) (λ cs. visit q (Some (grid_from_one (length (rows_in out here.calls rs)) (width_of (rows_in out here.calls rs)) cs)) k) left ws
unfolding run_step
into_rows out here x q t rs k left ws h = rw h (ap (λ (f : Part). f here.names k left ws) (fold.rows out (calls out here.calls) q t rs))

pub into_chain : (out : Outside) (fs fs' : List Frame) (here : Here) (x x' : Code) (b : Code) (ls : List Link) (r : Bor (List Link)) (left : ℕ) (ws : List ℕ)
    → x ≡ e.Chain b ls → x' ≡ b → r.now ≡ ls → fs' ≡ w.Chain (l.First r) ∷ fs
    → run_in out here x (resume out fs here) left ws ≡ run_in out here x' (resume out fs' here) left ws
unfolding run_step resume back back_chain
into_chain out fs fs' here x x' b ls r left ws h i j k =
    rw (h, i, k, ← j) (ap (λ (f : Part). f here.names (resume out fs here) left ws) (fold.chain out (calls out here.calls) b r.now))

pub into_prefix : (out : Outside) (fs fs' : List Frame) (here : Here) (x x' : Code) (q : Place) (s : Sign) (b : Code) (left : ℕ) (ws : List ℕ)
    → x ≡ e.Prefix q s b → x' ≡ b → fs' ≡ w.Prefix q s ∷ fs
    → run_in out here x (resume out fs here) left ws ≡ run_in out here x' (resume out fs' here) left ws
unfolding run_step resume back
into_prefix out fs fs' here x x' q s b left ws h i k =
    rw (h, i, k) (ap (λ (f : Part). f here.names (resume out fs here) left ws) (fold.prefix out (calls out here.calls) q s b))

pub into_parenthesis : (out : Outside) (fs fs' : List Frame) (here : Here) (x x' : Code) (q : Place) (b : Code) (left : ℕ) (ws : List ℕ)
    → x ≡ e.Parenthesis q b → x' ≡ b → fs' ≡ w.Node q ∷ fs
    → run_in out here x (resume out fs here) left ws ≡ run_in out here x' (resume out fs' here) left ws
unfolding run_step resume back
into_parenthesis out fs fs' here x x' q b left ws h i k =
    rw (h, i, k) (ap (λ (f : Part). f here.names (resume out fs here) left ws) (fold.parenthesis out (calls out here.calls) q b))

pub into_access : (out : Outside) (fs fs' : List Frame) (here : Here) (x x' : Code) (q : Place) (b : Code) (ss : List Subscript) (r : Bor (List Subscript)) (left : ℕ) (ws : List ℕ)
    → x ≡ e.Access q b ss → x' ≡ b → r.now ≡ ss → fs' ≡ w.Access (a.Array q r) ∷ fs
    → run_in out here x (resume out fs here) left ws ≡ run_in out here x' (resume out fs' here) left ws
unfolding run_step resume back back_access
into_access out fs fs' here x x' q b ss r left ws h i j k =
    rw (h, i, k, ← j) (ap (λ (f : Part). f here.names (resume out fs here) left ws) (fold.access out (calls out here.calls) q b r.now))

pub into_convert : (out : Outside) (fs fs' : List Frame) (here : Here) (x x' : Code) (t : ExprType) (b : Code) (left : ℕ) (ws : List ℕ)
    → x ≡ e.Convert t b → x' ≡ b → fs' ≡ w.Convert t ∷ fs
    → run_in out here x (resume out fs here) left ws ≡ run_in out here x' (resume out fs' here) left ws
unfolding run_step resume back
into_convert out fs fs' here x x' t b left ws h i k =
    rw (h, i, k) (ap (λ (f : Part). f here.names (resume out fs here) left ws) (fold.convert out (calls out here.calls) t b))

pub into_choice : (out : Outside) (fs fs' : List Frame) (here : Here) (x : Code) (q : Place) (arms : List Arm) (b : Code) (r : Bor Code) (left : ℕ) (ws : List ℕ)
    → x ≡ e.If q arms b → r.now ≡ b → fs' ≡ w.Node q ∷ fs
    → run_in out here x (resume out fs here) left ws ≡ chosen (arms_in out here.calls arms) (part out here.calls r.now) here.names (resume out fs' here) left ws
unfolding run_step resume back
into_choice out fs fs' here x q arms b r left ws h j k =
    rw (h, k, ← j) (ap (λ (f : Part). f here.names (resume out fs here) left ws) (fold.choice out (calls out here.calls) q arms r.now))

pub into_locals : (out : Outside) (fs fs' : List Frame) (here : Here) (x : Code) (q : Place) (es : List Code) (b : Code) (r : Bor Code) (left : ℕ) (ws : List ℕ)
    → x ≡ e.Let q es b → r.now ≡ b → fs' ≡ w.Node q ∷ fs
    → run_in out here x (resume out fs here) left ws ≡ bound (parts out here.calls es) here.names (λ names. part out here.calls r.now names (resume out fs' here)) left ws
unfolding run_step resume back
into_locals out fs fs' here x q es b r left ws h j k =
    rw (h, k, ← j) (ap (λ (f : Part). f here.names (resume out fs here) left ws) (fold.locals out (calls out here.calls) q es r.now))

conditions : (out : Outside) (d : ℕ) (o : Option (Bor Code)) → option_map (part out d) (option_map (λ (p : Bor Code). p.now) o) ≡ option_map (λ (p : Bor Code). part out d p.now) o
conditions out d None = refl
conditions out d (Some r) = refl

-- what generators make is what they make by their lists
generated_is : (out : Outside) (here : Here) (t : ExprType) (g : Generators) (r : Bor Code) (o : Option (Bor Code)) (k : p.Made → Step) (left : ℕ) (ws : List ℕ) → option_map (λ (p : Bor Code). p.now) o ≡ (out-Generators g).condition
    → p.generated (p.run_generators out (calls out here.calls) g) (part out here.calls r.now) (kind_of_type t) here.names k left ws
    ≡ nested (generators_in out here.calls (out-Generators g).list) (tested (option_map (λ (p : Bor Code). part out here.calls p.now) o) (part out here.calls r.now)) here.names (record { cells = empty (kind_of_type t); whole = true }) k left ws
generated_is out here t g r o k left ws i =
    ap (λ (s : GeneratorsPart). p.generated s (part out here.calls r.now) (kind_of_type t) here.names k left ws) (fold.generators_are out (calls out here.calls) g)
    ∙ ap (λ (c : Option Part). nested (generators_in out here.calls (out-Generators g).list) (tested c (part out here.calls r.now)) here.names (record { cells = empty (kind_of_type t); whole = true }) k left ws)
    (ap (option_map (part out here.calls)) (sym i) ∙ conditions out here.calls o)

pub into_comprehension : (out : Outside) (here : Here) (x : Code) (q : Place) (t : ExprType) (g : Generators) (b : Code) (plan : Plan) (k : Rest) (left : ℕ) (ws : List ℕ)
    → x ≡ e.Comprehension q t g b → plan.body.now ≡ b → option_map (λ (p : Bor Code). p.now) plan.condition ≡ (out-Generators g).condition → plan.place ≡ q → plan.is_node ≡ true
    → run_in out here x k left ws
    ≡ nested_in out here.calls plan (out-Generators g).list here.names (record { cells = empty (kind_of_type t); whole = true }) (λ made. finished plan made k) left ws
unfolding run_step
into_comprehension out here x q t g b plan k left ws h j i a c =
    rw (h, ← j, ← a, c) (ap (λ (f : Part). f here.names k left ws) (fold.comprehension out (calls out here.calls) plan.place t g plan.body.now)
    ∙ generated_is out here t g plan.body plan.condition (λ made. visit plan.place (Some (p.array_of made)) k) left ws i)

pub into_gathered : (out : Outside) (here : Here) (x : Code) (q : Place) (t : ExprType) (g : Generators) (b : Code) (plan : Plan) (k : Rest) (left : ℕ) (ws : List ℕ)
    → x ≡ e.Gathered q t g b → plan.body.now ≡ b → option_map (λ (p : Bor Code). p.now) plan.condition ≡ (out-Generators g).condition → plan.place ≡ q → plan.is_node ≡ false
    → run_in out here x k left ws
    ≡ nested_in out here.calls plan (out-Generators g).list here.names (record { cells = empty (kind_of_type t); whole = true }) (λ made. finished plan made k) left ws
unfolding run_step
into_gathered out here x q t g b plan k left ws h j i a c =
    rw (h, ← j, ← a, c) (ap (λ (f : Part). f here.names k left ws) (fold.gathered out (calls out here.calls) plan.place t g plan.body.now)
    ∙ generated_is out here t g plan.body plan.condition (λ made. settle plan.place (Some (p.array_of made)) k) left ws i)
