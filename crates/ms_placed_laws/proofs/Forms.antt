-- Each form goes well where its parts do.
use Rattle.std.proofs.Common.{ℕ, zero, suc, ◌-◌, Bool, true, false, List, [], ◌∷◌, length, Option, Some, None}
use Rattle.std.specs.Prelude.{ℤ, IfSome, slice_get, if◌then◌else◌}
use Rattle.std.specs.List.{AllByRecursion}
use Rattle.ms_syntax.specs.declared.token.Place.{Place}
use Rattle.ms_syntax.specs.declared.tree.Operator.TheVariants as op
use Rattle.ms_num.specs.Span.{Span, IsWithin}
use Rattle.ms_code.specs.declared.code.Condition.{Condition}
use Rattle.ms_code.specs.declared.code.Condition.TheVariants as c
use Rattle.ms_code.specs.declared.code.Reference.{Reference}
use Rattle.ms_code.specs.declared.code.Reference.TheVariants as r
use Rattle.ms_tree_nodes.specs.Nodes as n
use Rattle.ms_values.specs.Numbers.{numbers_of as numbers_in}
use Rattle.ms_values.specs.declared.operand.Placed.{Placed}
use Rattle.ms_values.specs.declared.operand.Kind.{Kind}
use Rattle.ms_values.specs.declared.operand.Cells.{Cells}
use Rattle.ms_values.specs.declared.operand.Operand.{Operand}
use Rattle.ms_values.specs.declared.operand.Operand.TheVariants as o
use Rattle.ms_rules.specs.Operands.{kind_of, set_of, truth_of}
use Rattle.ms_rules.specs.Cells.{empty, grown, line_from_one}
use Rattle.ms_rules.specs.Operators.{Operands, both_true, choice, either_true, join, over_operands, with_operand}
use Rattle.ms_rules.specs.Access.{access}
use Rattle.ms_rules_laws.specs.Fit.{AreAllFit, AreFit, AreIntervalsIfAny, IsFit}
use Rattle.ms_rules_laws.specs.Laws.{AreFitOperands, KeepsConditions}
use Rattle.ms_rules_laws.proofs.Accesses as a
use Rattle.ms_rules_laws.proofs.Elements as e
use Rattle.ms_rules_laws.proofs.Known as m
use Rattle.ms_rules_laws.proofs.Nodes as t
use Rattle.ms_rules_laws.proofs.Operators as p
use Rattle.ms_placing.specs.Outside.{Outside}
use Rattle.ms_placing.specs.Placing as s
use Rattle.ms_placing.specs.Placing.{ArmPart, GeneratorPart, GeneratorsPart, LinkPart, Made, Maker, Names, Part, SubscriptPart}
use Rattle.ms_placing.specs.Steps.{Rest, Step, visit}
use Rattle.ms_placing.specs.declared.grouping.Grouping.{Grouping}
use Rattle.ms_placing.specs.declared.grouping.Grouping.TheVariants as g
use Rattle.ms_placed_laws.specs.Laws.{AreFitValues, GoesOnWell, IsWellPlaced, MayBeAsked, StepsWell}
use Rattle.ms_placed_laws.proofs.Steps as q
use Rattle.ms_placed_laws.proofs.Steps.{IsShallow, TakesAny}

module _ (sets : List Span) where
  abbrev pub Well : Part → Type 0
  Well = IsWellPlaced sets

  abbrev pub AreWell : List Part → Type 0
  AreWell es = AllByRecursion Well es

  abbrev pub IsWellIfAny : Option Part → Type 0
  IsWellIfAny None = Unit {0}
  IsWellIfAny (Some x) = Well x

  abbrev pub IsWellLink : LinkPart → Type 0
  IsWellLink x = Well x.operand

  abbrev pub IsWellArm : ArmPart → Type 0
  IsWellArm x = Well x.condition × Well x.branch

  abbrev pub IsWellSubscript : SubscriptPart → Type 0
  IsWellSubscript x = Well x.first × IsWellIfAny x.second

  abbrev pub IsWellGenerator : GeneratorPart → Type 0
  IsWellGenerator x = Well x.set

  abbrev pub AreWellGenerators : GeneratorsPart → Type 0
  AreWellGenerators x = AllByRecursion IsWellGenerator x.list × IsWellIfAny x.condition

  -- ---- names

  module _ (out : Outside) (fits : AreFitValues sets out) where
    local : (beyond : ℕ) (x : Option Operand) → IfSome x (IsFit sets) → IsFit sets (s.local out beyond x)
    local beyond (Some x) h = h
    local beyond None h = fits (r.Local beyond)

    found : (xs : Names) (k : ℕ) → AreAllFit sets xs → IfSome (slice_get xs k) (IsFit sets)
    found [] k h = tt
    found (x ∷ xs) zero h = h.0
    found (x ∷ xs) (suc k) h = found xs k h.1

    pub named : (env : Names) (name : Reference) → AreAllFit sets env → IsFit sets (s.named out env name)
    named env (r.Local k) h = local (k - length env) (slice_get env k) (found env k h)
    named env (r.Model k) h = fits (r.Model k)
    named env (r.Library k) h = fits (r.Library k)
    named env (r.BuiltIn b) h = tt

  module _ (env : Names) (around : AreAllFit sets env) where
    -- ---- lists of parts

    pub gathered : (es : List Part) → AreWell es → (xs : List Operand) → AreAllFit sets xs → (k : List Operand → Step) → ((ys : List Operand) → AreAllFit sets ys → StepsWell sets (k ys)) → StepsWell sets (s.gathered es env xs k)
    gathered [] w xs h k goes = goes xs h
    gathered (e ∷ es) w xs h k goes = w.0 env around (λ u x. s.gathered es env (x ∷ xs) k) (λ u x i. gathered es w.1 (x ∷ xs) (i.fit, h) k goes)

    pub filled : (es : List Part) → AreWell es → (cs : Cells) → AreFit sets cs → (k : Cells → Step) → ((ds : Cells) → AreFit sets ds → StepsWell sets (k ds)) → StepsWell sets (s.filled es env cs k)
    filled [] w cs h k goes = goes cs h
    filled (x ∷ es) w cs h k goes = w.0 env around (λ u y. s.filled es env (grown cs y) k) (λ u y i. filled es w.1 (grown cs y) (e.one_more sets cs y h i.fit) k goes)

    pub filled_rows : (rows : List (List Part)) → AllByRecursion AreWell rows → (cs : Cells) → AreFit sets cs → (k : Cells → Step) → ((ds : Cells) → AreFit sets ds → StepsWell sets (k ds)) → StepsWell sets (s.filled_rows rows env cs k)
    filled_rows [] w cs h k goes = goes cs h
    filled_rows (es ∷ rows) w cs h k goes = filled es w.0 cs h (λ ds. s.filled_rows rows env ds k) (λ ds i. filled_rows rows w.1 ds i k goes)

    -- ---- chains

    pub paired : (ls : List LinkPart) → AllByRecursion IsWellLink ls → (u : Place) (x : Operand) → MayBeAsked sets x → (k : Rest) → GoesOnWell sets k → StepsWell sets (s.paired ls env u x k)
    paired [] w u x h k goes = goes u x h
    paired (l ∷ ls) w u x h k goes =
        w.0 env around (λ v y. visit l.place (join l.operator x y) (λ v z. s.paired ls env v z k))
        (λ v y i. q.visited sets l.place (join l.operator x y) (λ v z. s.paired ls env v z k) (p.join sets l.operator x y h.fit i.fit) (λ v z j. paired ls w.1 v z j k goes))

    -- the operand that no operator follows is one that was visited
    abbrev Ends : List LinkPart → Operand → Type 0
    Ends [] x = IsShallow x
    Ends (l ∷ ls) x = Unit {0}

    ends : (ls : List LinkPart) (x : Operand) → IsShallow x → Ends ls x
    ends [] x h = h
    ends (l ∷ ls) x h = tt

    connected : (f : Bool → Bool → Bool) (node : List Placed → Placed) → KeepsConditions sets node → (ls : List LinkPart) → AllByRecursion IsWellLink ls → (u : Place) (xs : Operands) → AreFitOperands sets xs
        → Ends ls (over_operands node xs) → (k : Rest) → GoesOnWell sets k → StepsWell sets (s.connected f node ls env u xs k)
    connected f node keeps [] w u xs h i k goes = goes u (over_operands node xs) (record { fit = p.over_operands sets node keeps xs h; nesting = i })
    connected f node keeps (l ∷ ls) w u xs h i k goes =
        w.0 env around (λ v y. visit l.place (Some (over_operands node (with_operand f xs y))) (λ v z. s.connected f node ls env v (with_operand f xs y) k))
        (λ v y j. q.visited_one sets l.place (over_operands node (with_operand f xs y)) (λ v z. s.connected f node ls env v (with_operand f xs y) k)
        (λ d. connected f node keeps ls w.1 l.place (with_operand f xs y) (p.with_operand sets f xs y h j.fit) (ends ls (over_operands node (with_operand f xs y)) d) k goes))

    abbrev AreBefore : List (Place × Operand) → Type 0
    AreBefore before = AllByRecursion (λ (l : Place × Operand). IsFit sets l.1) before

    unwound : (before : List (Place × Operand)) → AreBefore before → (u : Place) (y : Operand) → MayBeAsked sets y → (k : Rest) → GoesOnWell sets k → StepsWell sets (s.unwound before u y k)
    unwound [] h u y i k goes = goes u y i
    unwound (l ∷ ls) h u y i k goes =
        q.visited sets l.0 (join op.Concat l.1 y) (λ v z. s.unwound ls v z k) (p.join sets op.Concat l.1 y h.0 i.fit) (λ v z j. unwound ls h.1 v z j k goes)

    concatenated : (ls : List LinkPart) → AllByRecursion IsWellLink ls → (before : List (Place × Operand)) → AreBefore before → (u : Place) (x : Operand) → MayBeAsked sets x → (k : Rest) → GoesOnWell sets k
        → StepsWell sets (s.concatenated ls env before u x k)
    concatenated [] w before h u x i k goes = unwound before h u x i k goes
    concatenated (l ∷ ls) w before h u x i k goes =
        w.0 env around (λ v y. s.concatenated ls env ((l.place, x) ∷ before) v y k) (λ v y j. concatenated ls w.1 ((l.place, x) ∷ before) (i.fit, h) v y j k goes)

    linked_by : (which : Grouping) (l : LinkPart) (ls : List LinkPart) → AllByRecursion IsWellLink (l ∷ ls) → (u : Place) (x : Operand) → MayBeAsked sets x → (k : Rest) → GoesOnWell sets k
        → StepsWell sets (s.linked which (l ∷ ls) env u x k)
    linked_by g.Left l ls w u x h k goes = paired (l ∷ ls) w u x h k goes
    linked_by g.Right l ls w u x h k goes = concatenated (l ∷ ls) w [] tt u x h k goes
    linked_by g.Conjunction l ls w u x h k goes =
        connected both_true n.all (t.all sets) (l ∷ ls) w u (with_operand both_true (s.no_operands true) x) (p.with_operand sets both_true (s.no_operands true) x tt h.fit) tt k goes
    linked_by g.Disjunction l ls w u x h k goes =
        connected either_true n.some (t.some sets) (l ∷ ls) w u (with_operand either_true (s.no_operands false) x) (p.with_operand sets either_true (s.no_operands false) x tt h.fit) tt k goes

    pub linked : (ls : List LinkPart) → AllByRecursion IsWellLink ls → (u : Place) (x : Operand) → MayBeAsked sets x → (k : Rest) → GoesOnWell sets k → StepsWell sets (s.linked (s.grouping ls) ls env u x k)
    linked [] w u x h k goes = paired [] w u x h k goes
    linked (l ∷ ls) w u x h k goes = linked_by (s.grouping (l ∷ ls)) l ls w u x h k goes

    -- ---- accesses

    accessed_by : (second : Option Part) → IsWellIfAny second → (u : Place) (x y : Operand) → IsFit sets x → IsFit sets y → (k : Rest) → GoesOnWell sets k → StepsWell sets (s.accessed_by second u env x y k)
    accessed_by None w u x y h i k goes = q.visited sets u (access x y None) k (a.access sets x y None h i tt) goes
    accessed_by (Some e) w u x y h i k goes =
        w env around (λ v z. visit u (access x y (Some z)) k) (λ v z j. q.visited sets u (access x y (Some z)) k (a.access sets x y (Some z) h i j.fit) goes)

    pub accessed : (ss : List SubscriptPart) → AllByRecursion IsWellSubscript ss → (u v : Place) (x : Operand) → MayBeAsked sets x → (k : Rest) → GoesOnWell sets k → StepsWell sets (s.accessed ss u env v x k)
    accessed [] w u v x h k goes = goes v x h
    accessed (d ∷ ds) w u v x h k goes =
        w.0.0 env around (λ v y. s.accessed_by d.second u env x y (λ v z. s.accessed ds u env v z k))
        (λ v y i. accessed_by d.second w.0.1 u x y h.fit i.fit (λ v z. s.accessed ds u env v z k) (λ v z j. accessed ds w.1 u v z j k goes))

    -- ---- `if`

    either : (b : Bool) (x y : Step) → StepsWell sets x → StepsWell sets y → StepsWell sets (if b then x else y)
    either true x y h i = h
    either false x y h i = i

    chosen_by : (kind : Condition) (branch : Part) → Well branch → (x : Operand) → IsFit sets x → (other : Rest → Step) → ((k : Rest) → TakesAny sets k → StepsWell sets (other k))
        → (k : Rest) → TakesAny sets k → StepsWell sets (s.chosen_by kind branch env x other k)
    chosen_by c.Known branch w x h other others k takes = either (truth_of x) (branch env k) (other k) (w env around k (q.takes sets k takes)) (others k takes)
    chosen_by c.Variable branch w x h other others k takes =
        w env around (λ u y. other (λ v z. k v (choice x y z))) (λ u y i. others (λ v z. k v (choice x y z)) (λ v z j. takes v (choice x y z) (p.choice sets x y z h i.fit j)))
    chosen_by c.Search branch w x h other others k takes = either (truth_of x) (branch env k) (other k) (w env around k (q.takes sets k takes)) (others k takes)

    pub chosen : (arms : List ArmPart) → AllByRecursion IsWellArm arms → (last : Part) → Well last → (k : Rest) → TakesAny sets k → StepsWell sets (s.chosen arms last env k)
    chosen [] w last v k takes = v env around k (q.takes sets k takes)
    chosen (x ∷ arms) w last v k takes =
        w.0.0 env around (λ u y. s.chosen_by x.kind x.branch env y (s.chosen arms last env) k)
        (λ u y h. chosen_by x.kind x.branch w.0.1 y h.fit (s.chosen arms last env) (λ rest any. chosen arms w.1 last v rest any) k takes)

  -- each value under the names so far
  pub bound : (es : List Part) → AreWell es → (env : Names) → AreAllFit sets env → (k : Names → Step) → ((inner : Names) → AreAllFit sets inner → StepsWell sets (k inner)) → StepsWell sets (s.bound es env k)
  bound [] w env h k goes = goes env h
  bound (e ∷ es) w env h k goes = w.0 env h (λ u x. s.bound es (x ∷ env) k) (λ u x i. bound es w.1 (x ∷ env) (i.fit, h) k goes)

  -- ---- generators

  abbrev GoesOnMade : (Made → Step) → Type 0
  GoesOnMade k = (x : Made) → AreFit sets x.cells → StepsWell sets (k x)

  abbrev IsWellMade : Maker → Type 0
  IsWellMade make = (env : Names) → AreAllFit sets env → (x : Made) → AreFit sets x.cells → (k : Made → Step) → GoesOnMade k → StepsWell sets (make env x k)

  turns : (u : Place) (make : Maker) → IsWellMade make → (zs : List ℤ) → AllByRecursion IsWithin zs → IsWellMade (s.turns u make zs)
  turns u make w [] h env i x j k goes = goes x j
  turns u make w (z ∷ zs) h env i x j k goes =
      q.ticked sets u (make (s.numbered z env) x (λ more. s.turns u make zs env more k))
      (w (s.numbered z env) (h.0, i) x j (λ more. s.turns u make zs env more k) (λ more l. turns u make w zs h.1 env i more l k goes))

  through : (u : Place) (d : ℕ) (zs : List ℤ) → AllByRecursion IsWithin zs → (make : Maker) → IsWellMade make → IsWellMade (s.through u d zs make)
  through u zero zs h make w env i x j k goes = w env i x j k goes
  through u (suc d) zs h make w env i x j k goes = turns u (s.through u d zs make) (through u d zs h make w) zs h env i x j k goes

  through_set : (u : Place) (d : ℕ) (rs : Option (List Span)) → AreIntervalsIfAny rs → (make : Maker) → IsWellMade make → IsWellMade (s.through_set u d rs make)
  through_set u d None h make w env i x j k goes = goes (s.broken x) j
  through_set u d (Some rs) h make w env i x j k goes = through u d (numbers_in rs) (m.numbers_of_set rs h) make w env i x j k goes

  nested : (qs : List GeneratorPart) → AllByRecursion IsWellGenerator qs → (make : Maker) → IsWellMade make → IsWellMade (s.nested qs make)
  nested [] v make w env i x j k goes = w env i x j k goes
  nested (d ∷ ds) v make w env i x j k goes =
      v.0 env i (λ u y. s.through_set d.place d.names (set_of y) (s.nested ds make) env x k)
      (λ u y h. through_set d.place d.names (set_of y) (m.set_read sets y h.fit) (s.nested ds make) (nested ds v.1 make w) env i x j k goes)

  adds : (body : Part) → Well body → (env : Names) → AreAllFit sets env → (x : Made) → AreFit sets x.cells → (k : Made → Step) → GoesOnMade k → StepsWell sets (body env (λ u y. k (s.gained x y)))
  adds body w env i x j k goes = w env i (λ u y. k (s.gained x y)) (λ u y h. goes (s.gained x y) (e.one_more sets x.cells y j h.fit))

  either_step : (b : Bool) (x y : Step) → StepsWell sets x → StepsWell sets y → StepsWell sets (if b then x else y)
  either_step true x y h i = h
  either_step false x y h i = i

  tested : (condition : Option Part) → IsWellIfAny condition → (body : Part) → Well body → IsWellMade (s.tested condition body)
  tested None v body w env i x j k goes = adds body w env i x j k goes
  tested (Some d) v body w env i x j k goes =
      v env i (λ u y. if truth_of y then body env (λ v z. k (s.gained x z)) else k x)
      (λ u y h. either_step (truth_of y) (body env (λ v z. k (s.gained x z))) (k x) (adds body w env i x j k goes) (goes x j))

  pub generated : (qs : GeneratorsPart) → AreWellGenerators qs → (body : Part) → Well body → (kind : Kind) (env : Names) → AreAllFit sets env → (k : Made → Step) → GoesOnMade k → StepsWell sets (s.generated qs body kind env k)
  generated qs v body w kind env i k goes = nested qs.list v.0 (s.tested qs.condition body) (tested qs.condition v.1 body w) env i (record { cells = empty kind; whole = true }) (e.none_fit sets kind) k goes

  array_by : (b : Bool) (cs : Cells) → AreFit sets cs → IsFit sets (if b then line_from_one cs else o.NoArray (kind_of cs))
  array_by true cs h = e.line_from_one sets cs h
  array_by false cs h = tt

  pub array_of : (x : Made) → AreFit sets x.cells → IsFit sets (s.array_of x)
  array_of x h = array_by x.whole x.cells h
