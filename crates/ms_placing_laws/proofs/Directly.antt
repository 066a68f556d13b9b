-- Placing with what is done behind it is placing in steps, and then what is done.
use Rattle.std.proofs.Common.{◌≡◌, ℕ, zero, suc, ℤ, Bool, true, false, List, [], ◌∷◌, Option, Some, None, map, option_map, reverse, refl, sym, ap, ◌∙◌, nat_le}
use Rattle.std.specs.Prelude.{◌&&◌, if◌then◌else◌, pos, length}
use Rattle.ms_base.specs.declared.run.Count.TheVariants as count
use Rattle.ms_base.specs.declared.limits.TheConstants.{CALL_NESTING_LIMIT, ELEMENT_LIMIT, TREE_NESTING_LIMIT}
use Rattle.ms_syntax.specs.declared.token.Place.{Place}
use Rattle.ms_syntax.specs.declared.tree.Operator.{Operator}
use Rattle.ms_syntax.specs.declared.tree.Operator.TheVariants as op
use Rattle.ms_num.specs.Span.{Span}
use Rattle.ms_built_ins.specs.declared.names.BuiltIn.{BuiltIn}
use Rattle.ms_code.specs.declared.code.Condition.{Condition}
use Rattle.ms_code.specs.declared.code.Condition.TheVariants as c
use Rattle.ms_code.specs.declared.code.Reference.{Reference}
use Rattle.ms_code.specs.declared.code.Reference.TheVariants as r
use Rattle.ms_code.specs.declared.code.Code.{Code, map-Code}
use Rattle.ms_code.specs.declared.code.Code.TheOpen.{Code-F}
use Rattle.ms_code.specs.declared.code.Generators.{Generators-F, map-Generators}
use Rattle.ms_code.specs.declared.code.Subscript.{Subscript-F, map-Subscript}
use Rattle.ms_tree_nodes.specs.Nodes.{all, some}
use Rattle.ms_values.specs.Numbers.{numbers_of as numbers_in}
use Rattle.ms_values.specs.declared.operand.Placed.{Placed}
use Rattle.ms_values.specs.declared.operand.Kind.{Kind}
use Rattle.ms_values.specs.declared.operand.Cells.{Cells}
use Rattle.ms_values.specs.declared.operand.Cells.TheVariants as cells
use Rattle.ms_values.specs.declared.operand.Operand.{Operand}
use Rattle.ms_values.specs.declared.operand.Operand.TheVariants as o
use Rattle.ms_rules.specs.Operands.{elements_of, known_number, nesting_of, set_of, truth_of}
use Rattle.ms_rules.specs.Cells.{empty, grown, line_from_one, numbers_of}
use Rattle.ms_rules.specs.Sets.{ranges_of}
use Rattle.ms_rules.specs.Operators.{Operands, both_true, choice, either_true, join, over_operands, signed, with_operand}
use Rattle.ms_rules.specs.Access.{access}
use Rattle.ms_rules.specs.Calls.{call, draws, nothing}
use Rattle.ms_rules.specs.Conversions.{conversion_nesting, convert, kind_of_type}
use Rattle.ms_placing.specs.Outside.{Outside}
use Rattle.ms_placing.specs.Steps as s
use Rattle.ms_placing.specs.Steps.{Out, Rest, Step, bad, ok}
use Rattle.ms_placing.specs.Placing as p
use Rattle.ms_placing.specs.Placing.{Made, Names, Places, arm_step, array_of, broken, gained, generator_step, generators_step, grid_from_one, grouping_by, link_step, named, no_operands, numbered, row_step, run, run_step, subscript_step, words_after}
use Rattle.ms_placing.specs.declared.fault.PlaceFault.{PlaceFault}
use Rattle.ms_placing.specs.declared.fault.PlaceFault.TheVariants as f
use Rattle.ms_placing.specs.declared.grouping.Grouping.{Grouping}
use Rattle.ms_placing.specs.declared.grouping.Grouping.TheVariants as g
use Rattle.ms_placing_laws.specs.Direct as d
use Rattle.ms_placing_laws.specs.Direct.{Answer, Located, Steps, and_then, fail, fault, made, pure, ◌>>=◌, ◌>>◌}
use Rattle.ms_placing_laws.specs.Laws.{FunctionsGoOn, GoesOn, PlacesDirectly, PlacesGoesOn, PlacingGoesOn, after, outcome}
use Rattle.ms_placing_laws.proofs.Fusion.{fused}

-- ---- steps, and what is done with what comes of them

abbrev resume : {A : Type 0} → Answer A → (A → Step) → Out
resume (made x n ws) k = k x n ws
resume (fault e n ws) k = bad e n ws

abbrev cont : {A : Type 0} → Steps A → (A → Step) → Step
cont m k = λ n ws. resume (m n ws) k

abbrev taken : Rest → Located → Step
taken k l = k l.0 l.1

along_all : {A : Type 0} {B : Type 0} {f g : A → B} → ((x : A) → f x ≡ g x) → f ≡ g
along_all h = λ i. λ x. h x i

module _ {A B : Type 0} where
  first_then : (a : Answer A) (f : A → Steps B) (k : B → Step) → resume (and_then a f) k ≡ resume a (λ x. cont (f x) k)
  first_then (made x n ws) f k = refl
  first_then (fault e n ws) f k = refl

  -- steps after steps
  along : (m : Steps A) (f : A → Steps B) (k : B → Step) (h : A → Step) → ((x : A) → cont (f x) k ≡ h x) → cont (m >>= f) k ≡ cont m h
  along m f k h e = (λ i. λ n ws. first_then (m n ws) f k i) ∙ (λ i. cont m (λ x. e x i))

-- ---- a node

module _ (p : Place) where
  ticking : {B : Type 0} (m : Steps B) (k : B → Step) → cont (d.tick p >> m) k ≡ s.tick p (cont m k)
  ticking m k = λ i. λ n ws. at n ws i
    where
      at : (n : ℕ) (ws : List ℕ) → cont (d.tick p >> m) k n ws ≡ s.tick p (cont m k) n ws
      at zero ws = refl
      at (suc n) ws = refl

  limiting : {B : Type 0} (b : Bool) (e : PlaceFault) (m : Steps B) (k : B → Step) → cont (d.limited b e >> m) k ≡ (λ n ws. if b then cont m k n ws else bad e n ws)
  limiting true e m k = refl
  limiting false e m k = refl

  shallowly : {B : Type 0} (nesting : ℕ) (m : Steps B) (k : B → Step) → cont (d.shallow p nesting >> m) k ≡ s.shallow p nesting (cont m k)
  shallowly nesting m k = limiting (nat_le nesting TREE_NESTING_LIMIT) (f.Big count.Nesting p) m k

  settling : (x : Option Operand) (h : Rest) → cont (d.settle p x) (taken h) ≡ s.settle p x h
  settling None h = refl
  settling (Some x) h =
      limiting (nat_le (elements_of x) ELEMENT_LIMIT) (f.Big count.Elements p) (d.shallow p (nesting_of x) >> pure (p, x)) (taken h)
      ∙ (λ i. λ n ws. if nat_le (elements_of x) ELEMENT_LIMIT then shallowly (nesting_of x) (pure (p, x)) (taken h) i n ws else bad (f.Big count.Elements p) n ws)

  visited : (x : Option Operand) (h : Rest) → cont (d.visit p x) (taken h) ≡ s.visit p x h
  visited x h = ticking (d.settle p x) (taken h) ∙ ap (s.tick p) (settling x h)

  -- a node, and then more steps
  visiting : {B : Type 0} (x : Option Operand) (f : Located → Steps B) (k : B → Step) (h : Rest) → ((q : Place) (y : Operand) → cont (f (q, y)) k ≡ h q y)
      → cont (d.visit p x >>= f) k ≡ s.visit p x h
  visiting x f k h e = along (d.visit p x) f k (taken h) (λ l. e l.0 l.1) ∙ visited x h

-- ---- the parts

abbrev part : d.Part → p.Part
part a env k = cont (a env) (taken k)

abbrev link : d.LinkPart → p.LinkPart
link l = record { operator = l.operator; place = l.place; operand = part l.operand }

abbrev subscript : d.SubscriptPart → p.SubscriptPart
subscript x = record { first = part x.first; second = option_map part x.second }

abbrev arm : d.ArmPart → p.ArmPart
arm a = record { kind = a.kind; condition = part a.condition; branch = part a.branch }

abbrev generator : d.GeneratorPart → p.GeneratorPart
generator q = record { place = q.place; names = q.names; set = part q.set }

abbrev generators : d.GeneratorsPart → p.GeneratorsPart
generators qs = record { list = map generator qs.list; condition = option_map part qs.condition }

abbrev row : List d.Part → List p.Part
row es = map part es

-- a part, and then more steps
parting : {B : Type 0} (a : d.Part) (env : Names) (f : Located → Steps B) (k : B → Step) (h : Rest) → ((q : Place) (x : Operand) → cont (f (q, x)) k ≡ h q x)
    → cont (a env >>= f) k ≡ part a env h
parting a env f k h e = along (a env) f k (taken h) (λ l. e l.0 l.1)

-- ---- lists of parts

gathering : (es : List d.Part) (env : Names) (xs : List Operand) (k : List Operand → Step) → cont (d.gathered es env xs) k ≡ p.gathered (map part es) env xs k
gathering [] env xs k = refl
gathering (e ∷ es) env xs k =
    parting e env (λ l. d.gathered es env (l.1 ∷ xs)) k (λ q x. p.gathered (map part es) env (x ∷ xs) k) (λ q x. gathering es env (x ∷ xs) k)

filling : (es : List d.Part) (env : Names) (cs : Cells) (k : Cells → Step) → cont (d.filled es env cs) k ≡ p.filled (map part es) env cs k
filling [] env cs k = refl
filling (e ∷ es) env cs k =
    parting e env (λ l. d.filled es env (grown cs l.1)) k (λ q x. p.filled (map part es) env (grown cs x) k) (λ q x. filling es env (grown cs x) k)

filling_rows : (rows : List (List d.Part)) (env : Names) (cs : Cells) (k : Cells → Step) → cont (d.filled_rows rows env cs) k ≡ p.filled_rows (map row rows) env cs k
filling_rows [] env cs k = refl
filling_rows (es ∷ rows) env cs k =
    along (d.filled es env cs) (λ more. d.filled_rows rows env more) k (λ more. p.filled_rows (map row rows) env more k) (λ more. filling_rows rows env more k)
    ∙ filling es env cs (λ more. p.filled_rows (map row rows) env more k)

lengths : {A B : Type 0} (f : A → B) (xs : List A) → length xs ≡ length (map f xs)
lengths f [] = refl
lengths f (x ∷ xs) = ap suc (lengths f xs)

widths : (rows : List (List d.Part)) → d.width_of rows ≡ p.width_of (map row rows)
widths [] = refl
widths (es ∷ rows) = lengths part es

binding : (es : List d.Part) (env : Names) (k : Names → Step) → cont (d.bound es env) k ≡ p.bound (map part es) env k
binding [] env k = refl
binding (e ∷ es) env k = parting e env (λ l. d.bound es (l.1 ∷ env)) k (λ q x. p.bound (map part es) (x ∷ env) k) (λ q x. binding es (x ∷ env) k)

-- ---- chains

same_or : (operator : Operator) (place : Place) (operand : p.Part) → d.is_or operator ≡ p.is_or (record { operator = operator; place = place; operand = operand })
same_or op.Or place operand = refl
same_or other place operand = refl

same_ors : (ls : List d.LinkPart) → d.are_or ls ≡ p.are_or (map link ls)
same_ors [] = refl
same_ors (l ∷ ls) = λ i. same_or l.operator l.place (part l.operand) i && same_ors ls i

same_grouping : (ls : List d.LinkPart) → d.grouping ls ≡ p.grouping (map link ls)
same_grouping [] = refl
same_grouping (l ∷ ls) = ap (grouping_by l.operator) (same_ors ls)

pairing : (ls : List d.LinkPart) (env : Names) (x : Located) (k : Rest) → cont (d.paired ls env x) (taken k) ≡ p.paired (map link ls) env x.0 x.1 k
pairing [] env x k = refl
pairing (l ∷ ls) env x k =
    parting l.operand env (λ y. d.visit l.place (join l.operator x.1 y.1) >>= λ z. d.paired ls env z) (taken k)
    (λ u y. s.visit l.place (join l.operator x.1 y) (λ q z. p.paired (map link ls) env q z k))
    (λ u y. visiting l.place (join l.operator x.1 y) (λ z. d.paired ls env z) (taken k) (λ q z. p.paired (map link ls) env q z k) (λ q z. pairing ls env (q, z) k))

connecting : (f : Bool → Bool → Bool) (node : List Placed → Placed) (ls : List d.LinkPart) (env : Names) (q : Place) (xs : Operands) (k : Rest)
    → cont (d.connected f node ls env q xs) (taken k) ≡ p.connected f node (map link ls) env q xs k
connecting f node [] env q xs k = refl
connecting f node (l ∷ ls) env q xs k =
    parting l.operand env (λ y. d.visit l.place (Some (over_operands node (with_operand f xs y.1))) >>= λ z. d.connected f node ls env z.0 (with_operand f xs y.1)) (taken k)
    (λ u y. s.visit l.place (Some (over_operands node (with_operand f xs y))) (λ w z. p.connected f node (map link ls) env w (with_operand f xs y) k))
    (λ u y. visiting l.place (Some (over_operands node (with_operand f xs y))) (λ z. d.connected f node ls env z.0 (with_operand f xs y)) (taken k)
    (λ w z. p.connected f node (map link ls) env w (with_operand f xs y) k) (λ w z. connecting f node ls env w (with_operand f xs y) k))

unwinding : (ls : List (Place × Operand)) (y : Located) (k : Rest) → cont (d.unwound ls y) (taken k) ≡ p.unwound ls y.0 y.1 k
unwinding [] y k = refl
unwinding (l ∷ ls) y k = visiting l.0 (join op.Concat l.1 y.1) (λ z. d.unwound ls z) (taken k) (λ q z. p.unwound ls q z k) (λ q z. unwinding ls (q, z) k)

concatenating : (ls : List d.LinkPart) (env : Names) (before : List (Place × Operand)) (x : Located) (k : Rest)
    → cont (d.concatenated ls env before x) (taken k) ≡ p.concatenated (map link ls) env before x.0 x.1 k
concatenating [] env before x k = unwinding before x k
concatenating (l ∷ ls) env before x k =
    parting l.operand env (λ y. d.concatenated ls env ((l.place, x.1) ∷ before) y) (taken k) (λ u y. p.concatenated (map link ls) env ((l.place, x.1) ∷ before) u y k)
    (λ u y. concatenating ls env ((l.place, x.1) ∷ before) (u, y) k)

linking : (way : Grouping) (ls : List d.LinkPart) (env : Names) (x : Located) (k : Rest) → cont (d.linked way ls env x) (taken k) ≡ p.linked way (map link ls) env x.0 x.1 k
linking g.Left ls env x k = pairing ls env x k
linking g.Right ls env x k = concatenating ls env [] x k
linking g.Conjunction ls env x k = connecting both_true all ls env x.0 (with_operand both_true (no_operands true) x.1) k
linking g.Disjunction ls env x k = connecting either_true some ls env x.0 (with_operand either_true (no_operands false) x.1) k

-- ---- accesses

accessing_by : (e : Option d.Part) (q : Place) (env : Names) (x y : Operand) (k : Rest) → cont (d.accessed_by e q env x y) (taken k) ≡ p.accessed_by (option_map part e) q env x y k
accessing_by None q env x y k = visited q (access x y None) k
accessing_by (Some e) q env x y k =
    parting e env (λ z. d.visit q (access x y (Some z.1))) (taken k) (λ u z. s.visit q (access x y (Some z)) k) (λ u z. visited q (access x y (Some z)) k)

accessing : (ss : List d.SubscriptPart) (q : Place) (env : Names) (x : Located) (k : Rest) → cont (d.accessed ss q env x) (taken k) ≡ p.accessed (map subscript ss) q env x.0 x.1 k
accessing [] q env x k = refl
accessing (a ∷ ss) q env x k =
    parting a.first env (λ y. d.accessed_by a.second q env x.1 y.1 >>= λ z. d.accessed ss q env z) (taken k)
    (λ w y. p.accessed_by (option_map part a.second) q env x.1 y (λ u z. p.accessed (map subscript ss) q env u z k))
    (λ w y. along (d.accessed_by a.second q env x.1 y) (λ z. d.accessed ss q env z) (taken k) (taken (λ u z. p.accessed (map subscript ss) q env u z k)) (λ z. accessing ss q env z k)
    ∙ accessing_by a.second q env x.1 y (λ u z. p.accessed (map subscript ss) q env u z k))

-- ---- `if`

either : (b : Bool) (m m' : Steps Located) (k : Rest) (h h' : Step) → cont m (taken k) ≡ h → cont m' (taken k) ≡ h' → cont (if b then m else m') (taken k) ≡ (if b then h else h')
either true m m' k h h' e e' = e
either false m m' k h h' e e' = e'

choosing_by : (kind : Condition) (branch : d.Part) (env : Names) (t : Operand) (other : Steps Located) (rest : Rest → Step) → ((k : Rest) → cont other (taken k) ≡ rest k) → (k : Rest)
    → cont (d.chosen_by kind (branch env) t other) (taken k) ≡ p.chosen_by kind (part branch) env t rest k
choosing_by c.Known branch env t other rest e k = either (truth_of t) (branch env) other k (part branch env k) (rest k) refl (e k)
choosing_by c.Variable branch env t other rest e k =
    parting branch env (λ x. other >>= λ y. pure (y.0, choice t x.1 y.1)) (taken k) (λ q x. rest (λ u y. k u (choice t x y)))
    (λ q x. along other (λ y. pure (y.0, choice t x y.1)) (taken k) (taken (λ u y. k u (choice t x y))) (λ y. refl) ∙ e (λ u y. k u (choice t x y)))
choosing_by c.Search branch env t other rest e k = either (truth_of t) (branch env) other k (part branch env k) (rest k) refl (e k)

choosing : (arms : List d.ArmPart) (last : d.Part) (env : Names) (k : Rest) → cont (d.chosen arms last env) (taken k) ≡ p.chosen (map arm arms) (part last) env k
choosing [] last env k = refl
choosing (a ∷ arms) last env k =
    parting a.condition env (λ t. d.chosen_by a.kind (a.branch env) t.1 (d.chosen arms last env)) (taken k)
    (λ q t. p.chosen_by a.kind (part a.branch) env t (p.chosen (map arm arms) (part last) env) k)
    (λ q t. choosing_by a.kind a.branch env t (d.chosen arms last env) (p.chosen (map arm arms) (part last) env) (λ h. choosing arms last env h) k)

-- ---- generators

-- both make the same
abbrev AreAlike : d.Maker → p.Maker → Type 0
AreAlike a b = (env : Names) (m : Made) (k : Made → Step) → cont (a env m) k ≡ b env m k

turning : (q : Place) (a : d.Maker) (b : p.Maker) → AreAlike a b → (zs : List ℤ) → AreAlike (d.turns q a zs) (p.turns q b zs)
turning q a b e [] env m k = refl
turning q a b e (z ∷ zs) env m k =
    ticking q (a (numbered z env) m >>= λ more. d.turns q a zs env more) k
    ∙ ap (s.tick q)
    (along (a (numbered z env) m) (λ more. d.turns q a zs env more) k (λ more. p.turns q b zs env more k) (λ more. turning q a b e zs env more k)
    ∙ e (numbered z env) m (λ more. p.turns q b zs env more k))

passing : (q : Place) (n : ℕ) (zs : List ℤ) (a : d.Maker) (b : p.Maker) → AreAlike a b → AreAlike (d.through q n zs a) (p.through q n zs b)
passing q zero zs a b e env m k = e env m k
passing q (suc n) zs a b e env m k = turning q (d.through q n zs a) (p.through q n zs b) (passing q n zs a b e) zs env m k

passing_set : (q : Place) (n : ℕ) (rs : Option (List Span)) (a : d.Maker) (b : p.Maker) → AreAlike a b → AreAlike (d.through_set q n rs a) (p.through_set q n rs b)
passing_set q n None a b e env m k = refl
passing_set q n (Some rs) a b e env m k = passing q n (numbers_in rs) a b e env m k

nesting : (qs : List d.GeneratorPart) (a : d.Maker) (b : p.Maker) → AreAlike a b → AreAlike (d.nested qs a) (p.nested (map generator qs) b)
nesting [] a b e env m k = e env m k
nesting (q ∷ qs) a b e env m k =
    parting q.set env (λ x. d.through_set q.place q.names (set_of x.1) (d.nested qs a) env m) k
    (λ u x. p.through_set q.place q.names (set_of x) (p.nested (map generator qs) b) env m k)
    (λ u x. passing_set q.place q.names (set_of x) (d.nested qs a) (p.nested (map generator qs) b) (nesting qs a b e) env m k)

adding : (body : d.Part) (env : Names) (m : Made) (k : Made → Step) → cont (d.element body env m) k ≡ part body env (λ q x. k (gained m x))
adding body env m k = parting body env (λ x. pure (gained m x.1)) k (λ q x. k (gained m x)) (λ q x. refl)

testing_by : (b : Bool) (body : d.Part) (env : Names) (m : Made) (k : Made → Step)
    → cont (if b then d.element body env m else pure m) k ≡ (if b then part body env (λ q x. k (gained m x)) else k m)
testing_by true body env m k = adding body env m k
testing_by false body env m k = refl

testing : (e : Option d.Part) (body : d.Part) → AreAlike (d.tested e body) (p.tested (option_map part e) (part body))
testing None body env m k = adding body env m k
testing (Some e) body env m k =
    parting e env (λ t. if truth_of t.1 then d.element body env m else pure m) k
    (λ q t. if truth_of t then part body env (λ u x. k (gained m x)) else k m) (λ q t. testing_by (truth_of t) body env m k)

generating : (qs : d.GeneratorsPart) (body : d.Part) (kind : Kind) (env : Names) (k : Made → Step)
    → cont (d.generated qs body kind env) k ≡ p.generated (generators qs) (part body) kind env k
generating qs body kind env k =
    nesting qs.list (d.tested qs.condition body) (p.tested (option_map part qs.condition) (part body)) (testing qs.condition body) env (record { cells = empty kind; whole = true }) k

-- ---- all forms

abbrev Layered : d.Layer Code-F → p.Layer Code-F
Layered = map-Code _ _ _ _ _ _ _ _ _ _ _ _ _ _ part arm generator generators link row subscript

-- the layers of generators and of a subscript
abbrev GeneratorsAlike : d.Layer Generators-F → Type 0
GeneratorsAlike y = generators (d.generators_step y) ≡ generators_step (map-Generators _ _ _ _ _ _ _ _ _ _ _ _ _ _ part arm generator generators link row subscript y)

generators_layer : (list : List d.GeneratorPart) (condition : Option d.Part) → GeneratorsAlike (record { list = list; condition = condition })
generators_layer list None = refl
generators_layer list (Some e) = refl

abbrev SubscriptAlike : d.Layer Subscript-F → Type 0
SubscriptAlike y = subscript (d.subscript_step y) ≡ subscript_step (map-Subscript _ _ _ _ _ _ _ _ _ _ _ _ _ _ part arm generator generators link row subscript y)

subscript_layer : (first : d.Part) (second : Option d.Part) → SubscriptAlike (record { first = first; second = second })
subscript_layer first None = refl
subscript_layer first (Some e) = refl

-- what is called
module _ (out : Outside) (call' : d.Caller) (call : p.Caller) (calls : (q : Place) (name : Reference) (xs : List Operand) (k : Rest) → cont (call' q name xs) (taken k) ≡ call q name xs k) where
  layer : (y : d.Layer Code-F) (env : Names) (k : Rest) → part (d.place_step out call' y) env k ≡ run_step out call (Layered y) env k
  unfolding run_step d.place_step
  layer (Code-F.Number q n) env k = visited q (known_number (Some (pos n))) k
  layer (Code-F.Truth q b) env k = visited q (Some (o.Truth b)) k
  layer (Code-F.Text q w) env k = visited q (Some (o.Text (Some w))) k
  layer (Code-F.Name q name) env k = visited q (Some (named out env name)) k
  layer (Code-F.Chain a ls) env k =
      parting a env (λ x. d.linked (d.grouping ls) ls env x) (taken k) (λ q x. p.linked (d.grouping ls) (map link ls) env q x k) (λ q x. linking (d.grouping ls) ls env (q, x) k)
      ∙ (λ i. part a env (λ q x. p.linked (same_grouping ls i) (map link ls) env q x k))
  layer (Code-F.Prefix q sign a) env k = parting a env (λ x. d.visit q (signed sign x.1)) (taken k) (λ u x. s.visit q (signed sign x) k) (λ u x. visited q (signed sign x) k)
  layer (Code-F.Parenthesis q a) env k = parting a env (λ x. d.visit q (Some x.1)) (taken k) (λ u x. s.visit q (Some x) k) (λ u x. visited q (Some x) k)
  layer (Code-F.Access q a ss) env k =
      parting a env (λ x. d.accessed ss q env x) (taken k) (λ u x. p.accessed (map subscript ss) q env u x k) (λ u x. accessing ss q env (u, x) k)
  layer (Code-F.Call q name es) env k =
      along (d.gathered es env []) (λ xs. call' q name xs) (taken k) (λ xs. call q name xs k) (λ xs. calls q name xs k) ∙ gathering es env [] (λ xs. call q name xs k)
  layer (Code-F.Gathered q t qs a) env k =
      along (d.generated qs a (kind_of_type t) env) (λ m. d.settle q (Some (array_of m))) (taken k) (λ m. s.settle q (Some (array_of m)) k) (λ m. settling q (Some (array_of m)) k)
      ∙ generating qs a (kind_of_type t) env (λ m. s.settle q (Some (array_of m)) k)
  layer (Code-F.RepeatEach q qs a) env k = visited q (Some nothing) k
  layer (Code-F.Array q t es) env k =
      along (d.filled es env (empty (kind_of_type t))) (λ cs. d.visit q (Some (line_from_one cs))) (taken k) (λ cs. s.visit q (Some (line_from_one cs)) k)
      (λ cs. visited q (Some (line_from_one cs)) k)
      ∙ filling es env (empty (kind_of_type t)) (λ cs. s.visit q (Some (line_from_one cs)) k)
  layer (Code-F.Rows q t rows) env k =
      along (d.filled_rows rows env (empty (kind_of_type t))) (λ cs. d.visit q (Some (grid_from_one (length rows) (d.width_of rows) cs))) (taken k)
      (λ cs. s.visit q (Some (grid_from_one (length rows) (d.width_of rows) cs)) k) (λ cs. visited q (Some (grid_from_one (length rows) (d.width_of rows) cs)) k)
      ∙ filling_rows rows env (empty (kind_of_type t)) (λ cs. s.visit q (Some (grid_from_one (length rows) (d.width_of rows) cs)) k)
      ∙ (λ i. p.filled_rows (map row rows) env (empty (kind_of_type t)) (λ cs. s.visit q (Some (grid_from_one (lengths row rows i) (widths rows i) cs)) k))
  layer (Code-F.Set q es) env k =
      along (d.filled es env (cells.Numbers [])) (λ cs. d.visit q (Some (o.Set (ranges_of (numbers_of cs))))) (taken k) (λ cs. s.visit q (Some (o.Set (ranges_of (numbers_of cs)))) k)
      (λ cs. visited q (Some (o.Set (ranges_of (numbers_of cs)))) k)
      ∙ filling es env (cells.Numbers []) (λ cs. s.visit q (Some (o.Set (ranges_of (numbers_of cs)))) k)
  layer (Code-F.Comprehension q t qs a) env k =
      along (d.generated qs a (kind_of_type t) env) (λ m. d.visit q (Some (array_of m))) (taken k) (λ m. s.visit q (Some (array_of m)) k) (λ m. visited q (Some (array_of m)) k)
      ∙ generating qs a (kind_of_type t) env (λ m. s.visit q (Some (array_of m)) k)
  layer (Code-F.If q arms last) env k =
      along (d.chosen arms last env) (λ x. d.visit q (Some x.1)) (taken k) (taken (λ u x. s.visit q (Some x) k)) (λ x. visited q (Some x.1) k)
      ∙ choosing arms last env (λ u x. s.visit q (Some x) k)
  layer (Code-F.Let q es a) env k =
      along (d.bound es env) (λ inner. a inner >>= λ x. d.visit q (Some x.1)) (taken k) (λ inner. part a inner (λ u x. s.visit q (Some x) k))
      (λ inner. parting a inner (λ x. d.visit q (Some x.1)) (taken k) (λ u x. s.visit q (Some x) k) (λ u x. visited q (Some x) k))
      ∙ binding es env (λ inner. part a inner (λ u x. s.visit q (Some x) k))
  layer (Code-F.Convert t a) env k =
      parting a env (λ x. d.shallow x.0 (conversion_nesting t x.1) >> pure (x.0, convert t x.1)) (taken k) (λ u x. s.shallow u (conversion_nesting t x) (k u (convert t x)))
      (λ u x. shallowly u (conversion_nesting t x) (pure (u, convert t x)) (taken k))

  -- an expression
  pub placing : (e : Code) (env : Names) (k : Rest) → cont (d.place out call' e env) (taken k) ≡ run out call e env k
  placing e env k = λ i. fused _ _ _ _ _ _ _ _ _ _ _ _ _ _
      (d.place_step out call') d.arm_step d.generator_step d.generators_step d.link_step d.row_step d.subscript_step
      (run_step out call) arm_step generator_step generators_step link_step row_step subscript_step
      part arm generator generators link row subscript
      (λ y. λ j. λ names rest. layer y names rest j) (λ y. refl) (λ y. refl) (λ y. generators_layer y.list y.condition) (λ y. refl) (λ y. refl) (λ y. subscript_layer y.first y.second) e i env k

-- ---- calls

module _ (out : Outside) where
  drawing : (q : Place) (b : BuiltIn) (xs : List Operand) (k : Rest) → cont (d.built_in out q b xs) (taken k) ≡ p.built_in out q b xs k
  drawing q b xs k =
      ticking q (d.drawn out (draws b xs) >>= λ word. d.settle q (call out.point word b xs)) (taken k)
      ∙ ap (s.tick q) (λ i. λ n ws. settling q (call out.point (out.word_of ws) b xs) k i n (words_after out (draws b xs) ws))

  module _ (open' : d.Opener) (open_body : p.Opener) (opens : (q : Place) (body : Code) (xs : Names) (k : Rest) → cont (open' q body xs) (taken k) ≡ open_body q body xs k) where
    opening : (q : Place) (body : Option Code) (xs : Names) (k : Rest) → cont (d.opened open' q body xs) (taken k) ≡ p.opened open_body q body xs k
    opening q None xs k = visited q (Some nothing) k
    opening q (Some body) xs k = opens q body xs k

    calling : (q : Place) (name : Reference) (xs : List Operand) (k : Rest) → cont (d.caller out open' q name xs) (taken k) ≡ p.caller out open_body q name xs k
    calling q (r.Local n) xs k = visited q (Some nothing) k
    calling q (r.Model n) xs k = opening q (out.body (r.Model n)) xs k
    calling q (r.Library n) xs k = opening q (out.body (r.Library n)) xs k
    calling q (r.BuiltIn b) xs k = drawing q b (reverse xs) k

  bodies : (depth : ℕ) (q : Place) (body : Code) (xs : Names) (k : Rest) → cont (d.opener out depth q body xs) (taken k) ≡ p.opener out depth q body xs k
  unfolding p.opener d.opener
  bodies zero q body xs k = refl
  bodies (suc depth) q body xs k =
      along (d.place out (d.caller out (d.opener out depth)) body xs) (λ x. d.visit q (Some x.1)) (taken k) (taken (λ u x. s.visit q (Some x) k)) (λ x. visited q (Some x.1) k)
      ∙ placing out (d.caller out (d.opener out depth)) (p.caller out (p.opener out depth)) (calling (d.opener out depth) (p.opener out depth) (bodies depth)) body xs (λ u x. s.visit q (Some x) k)

  functions : (depth : ℕ) (q : Place) (name : Reference) (xs : List Operand) (k : Rest) → cont (d.caller out (d.opener out depth) q name xs) (taken k) ≡ p.caller out (p.opener out depth) q name xs k
  functions depth = calling (d.opener out depth) (p.opener out depth) (bodies depth)

-- ---- the laws

outcome_of : (a : Answer Located) → resume a (taken ok) ≡ outcome a
outcome_of (made x n ws) = refl
outcome_of (fault e n ws) = refl

pub places_directly : PlacesDirectly
places_directly out env e n ws =
    sym (λ i. placing out (d.caller out (d.opener out CALL_NESTING_LIMIT)) (p.caller out (p.opener out CALL_NESTING_LIMIT)) (functions out CALL_NESTING_LIMIT) e env ok i n ws)
    ∙ outcome_of (d.placed out env e n ws)

-- an outcome, as an answer
abbrev answer : Out → Answer Located
answer (ok q x n ws) = made (q, x) n ws
answer (bad e n ws) = fault e n ws

after_outcome : (a : Out) (k : Rest) → resume (answer a) (taken k) ≡ after a k
after_outcome (ok q x n ws) k = refl
after_outcome (bad e n ws) k = refl

after_answer : (a : Answer Located) (k : Rest) → resume a (taken k) ≡ after (resume a (taken ok)) k
after_answer (made x n ws) k = refl
after_answer (fault e n ws) k = refl

-- what is done in steps goes on
goes_on : (m : Steps Located) (r : Rest → Step) → ((k : Rest) → cont m (taken k) ≡ r k) → GoesOn r
goes_on m r e k n ws = sym (λ i. e k i n ws) ∙ after_answer (m n ws) k ∙ (λ i. after (e ok i n ws) k)

pub placing_goes_on : PlacingGoesOn
placing_goes_on out call goes e env =
    goes_on (d.place out (λ q name xs n ws. answer (call q name xs ok n ws)) e env) (run out call e env)
    (placing out (λ q name xs n ws. answer (call q name xs ok n ws)) call
    (λ q name xs k. λ i. λ n ws. (after_outcome (call q name xs ok n ws) k ∙ sym (goes q name xs k n ws)) i) e env)

pub functions_go_on : FunctionsGoOn
functions_go_on out depth q name xs = goes_on (d.caller out (d.opener out depth) q name xs) (p.caller out (p.opener out depth) q name xs) (functions out depth q name xs)

pub places_goes_on : PlacesGoesOn
places_goes_on out env e k n ws = placing_goes_on out (p.caller out (p.opener out CALL_NESTING_LIMIT)) (functions_go_on out CALL_NESTING_LIMIT) e env k n ws
