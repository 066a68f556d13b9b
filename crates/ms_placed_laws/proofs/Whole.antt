-- All forms, and all depths of calls.
use Rattle.std.proofs.Common.{ℕ, zero, suc, List, [], ◌∷◌, Option, Some, None, length, map, reverse, option_map, sym, subst}
use Rattle.std.proofs.lemmas.Grind.{reverse_onto}
use Rattle.std.specs.Prelude.{pos}
use Rattle.std.specs.List.{AllByRecursion}
use Rattle.ms_base.specs.declared.limits.TheConstants.{CALL_NESTING_LIMIT}
use Rattle.ms_syntax.specs.declared.token.Place.{Place}
use Rattle.ms_num.specs.Span.{Span}
use Rattle.ms_built_ins.specs.declared.names.BuiltIn.{BuiltIn}
use Rattle.ms_code.specs.declared.code.Reference.TheVariants as r
use Rattle.ms_code.specs.declared.code.Code.{Code, fold-roll-Code, map-Code, roll-Code}
use Rattle.ms_code.specs.declared.code.Code.TheOpen.{Code-F}
use Rattle.ms_code.specs.declared.code.Arm.{Arm, fold-roll-Arm, roll-Arm, Arm-F}
use Rattle.ms_code.specs.declared.code.Generator.{Generator, fold-roll-Generator, roll-Generator, Generator-F}
use Rattle.ms_code.specs.declared.code.Generators.{Generators, fold-roll-Generators, roll-Generators, Generators-F}
use Rattle.ms_code.specs.declared.code.Link.{Link, fold-roll-Link, roll-Link, Link-F}
use Rattle.ms_code.specs.declared.code.Row.{Row, fold-roll-Row, roll-Row, Row-F}
use Rattle.ms_code.specs.declared.code.Subscript.{Subscript, fold-roll-Subscript, roll-Subscript, Subscript-F}
use Rattle.ms_values.specs.declared.operand.Cells.TheVariants as cells
use Rattle.ms_values.specs.declared.operand.Operand.{Operand}
use Rattle.ms_values.specs.declared.operand.Operand.TheVariants as o
use Rattle.ms_rules.specs.Operands.{known_number}
use Rattle.ms_rules.specs.Cells.{empty, line_from_one, numbers_of}
use Rattle.ms_rules.specs.Sets.{ranges_of}
use Rattle.ms_rules.specs.Operators.{signed}
use Rattle.ms_rules.specs.Calls.{call as call_built_in, draws, nothing}
use Rattle.ms_rules.specs.Conversions.{conversion_nesting, convert, kind_of_type}
use Rattle.ms_rules_laws.specs.Fit.{AreAllFit, IsFit}
use Rattle.ms_rules_laws.proofs.Elements as e
use Rattle.ms_rules_laws.proofs.Functions as f
use Rattle.ms_rules_laws.proofs.Known as m
use Rattle.ms_rules_laws.proofs.Operators as p
use Rattle.ms_rules_laws.proofs.Parts as l
use Rattle.ms_rules_laws.proofs.Limits as limits
use Rattle.ms_placing.specs.Outside.{Outside}
use Rattle.ms_placing.specs.Placing as s
use Rattle.ms_placing.specs.Placing.{Caller, Layer, Names, Opener, Part, Places, arm_step, caller, generator_step, generators_step, link_step, opener, row_step, run, run_arm, run_generator, run_generators, run_link, run_row, run_step, run_subscript, subscript_step}
use Rattle.ms_placing.specs.Steps as u
use Rattle.ms_placing.specs.Steps.{Out, Rest, Step, ok}
use Rattle.ms_placing_laws.proofs.Fusion.{Parts, Such, bare0, bare1, bare2, bare3, bare4, bare5, bare6, induct}
use Rattle.ms_placed_laws.specs.Laws.{AreFitValues, CallingGoesWell, EndsWell, GoesOnWell, IsWellCalled, IsWellPlaced, PlacedConditionsNest, PlacedIntegersNest, PlacedMayBeAsked, PlacingGoesWell, StepsWell}
use Rattle.ms_placed_laws.proofs.Forms as w
use Rattle.ms_placed_laws.proofs.Steps as q

-- what holds of what each part is folded to
all_such : {X Y : Type 0} (Q : Y → Type 0) (run : X → Y) (xs : List (Such X (λ x. Q (run x)))) → AllByRecursion Q (map run (map (λ x. x.0) xs))
all_such Q run [] = tt
all_such Q run (x ∷ xs) = (x.1, all_such Q run xs)

module _ (sets : List Span) (out : Outside) (fits : AreFitValues sets out) (call : Caller) (calls : IsWellCalled sets call) where
  abbrev P0 : Code → Type 0
  P0 x = IsWellPlaced sets (run out call x)

  abbrev P1 : Arm → Type 0
  P1 x = w.IsWellArm sets (run_arm out call x)

  abbrev P2 : Generator → Type 0
  P2 x = w.IsWellGenerator sets (run_generator out call x)

  abbrev P3 : Generators → Type 0
  P3 x = w.AreWellGenerators sets (run_generators out call x)

  abbrev P4 : Link → Type 0
  P4 x = w.IsWellLink sets (run_link out call x)

  abbrev P5 : Row → Type 0
  P5 x = w.AreWell sets (run_row out call x)

  abbrev P6 : Subscript → Type 0
  P6 x = w.IsWellSubscript sets (run_subscript out call x)

  abbrev Node : (Type 0 → Type 0 → Type 0 → Type 0 → Type 0 → Type 0 → Type 0 → Type 0) → Type 0
  Node F = Parts P0 P1 P2 P3 P4 P5 P6 F

  abbrev folded : Node Code-F → Layer Code-F
  folded y = map-Code _ _ _ _ _ _ _ _ _ _ _ _ _ _ (run out call) (run_arm out call) (run_generator out call) (run_generators out call) (run_link out call) (run_row out call) (run_subscript out call) (bare0 P0 P1 P2 P3 P4 P5 P6 y)

  rows_such : (rows : List (Such Row P5)) → AllByRecursion (w.AreWell sets) (map (run_row out call) (map (λ x. x.0) rows))
  rows_such rows = all_such (w.AreWell sets) (run_row out call) rows

  layer : (y : Node Code-F) → IsWellPlaced sets (run_step out call (folded y))
  unfolding run_step
  layer (Code-F.Number v d) env h k goes = q.visited sets v (known_number (Some (pos d))) k (m.known sets (Some (pos d))) goes
  layer (Code-F.Truth v b) env h k goes = q.visited sets v (Some (o.Truth b)) k tt goes
  layer (Code-F.Text v t) env h k goes = q.visited sets v (Some (o.Text (Some t))) k tt goes
  layer (Code-F.Name v name) env h k goes = q.visited sets v (Some (s.named out env name)) k (w.named sets out fits env name h) goes
  layer (Code-F.Chain a ls) env h k goes =
      let links = map (run_link out call) (map (λ x. x.0) ls) in
      a.1 env h (λ v x. s.linked (s.grouping links) links env v x k) (λ v x i. w.linked sets env h links (all_such (w.IsWellLink sets) (run_link out call) ls) v x i k goes)
  layer (Code-F.Prefix v sign a) env h k goes = a.1 env h (λ t x. u.visit v (signed sign x) k) (λ t x i. q.visited sets v (signed sign x) k (p.signed sets sign x i.fit) goes)
  layer (Code-F.Parenthesis v a) env h k goes = a.1 env h (λ t x. u.visit v (Some x) k) (λ t x i. q.visited sets v (Some x) k i.fit goes)
  layer (Code-F.Access v a ss) env h k goes =
      let subscripts = map (run_subscript out call) (map (λ x. x.0) ss) in
      a.1 env h (λ t x. s.accessed subscripts v env t x k) (λ t x i. w.accessed sets env h subscripts (all_such (w.IsWellSubscript sets) (run_subscript out call) ss) v t x i k goes)
  layer (Code-F.Call v name es) env h k goes =
      w.gathered sets env h (map (run out call) (map (λ x. x.0) es)) (all_such (w.Well sets) (run out call) es) [] tt (λ xs. call v name xs k) (λ xs i. calls v name xs i k goes)
  layer (Code-F.Gathered v t qs a) env h k goes =
      w.generated sets (run_generators out call qs.0) qs.1 (run out call a.0) a.1 (kind_of_type t) env h (λ x. u.settle v (Some (s.array_of x)) k)
      (λ x i. q.settled sets v (Some (s.array_of x)) k (w.array_of sets x i) goes)
  layer (Code-F.RepeatEach v qs a) env h k goes = q.visited sets v (Some nothing) k tt goes
  layer (Code-F.Array v t es) env h k goes =
      w.filled sets env h (map (run out call) (map (λ x. x.0) es)) (all_such (w.Well sets) (run out call) es) (empty (kind_of_type t)) (e.none_fit sets (kind_of_type t))
      (λ cs. u.visit v (Some (line_from_one cs)) k) (λ cs i. q.visited sets v (Some (line_from_one cs)) k (e.line_from_one sets cs i) goes)
  layer (Code-F.Rows v t rows) env h k goes =
      let lines = map (run_row out call) (map (λ x. x.0) rows) in
      w.filled_rows sets env h lines (rows_such rows) (empty (kind_of_type t)) (e.none_fit sets (kind_of_type t))
      (λ cs. u.visit v (Some (s.grid_from_one (length lines) (s.width_of lines) cs)) k)
      (λ cs i. q.visited sets v (Some (s.grid_from_one (length lines) (s.width_of lines) cs)) k ((m.one_within, m.one_within), i) goes)
  layer (Code-F.Set v es) env h k goes =
      w.filled sets env h (map (run out call) (map (λ x. x.0) es)) (all_such (w.Well sets) (run out call) es) (cells.Numbers []) tt
      (λ cs. u.visit v (Some (o.Set (ranges_of (numbers_of cs)))) k)
      (λ cs i. q.visited sets v (Some (o.Set (ranges_of (numbers_of cs)))) k (m.ranges_of (numbers_of cs) (e.numbers_read sets cs i)) goes)
  layer (Code-F.Comprehension v t qs a) env h k goes =
      w.generated sets (run_generators out call qs.0) qs.1 (run out call a.0) a.1 (kind_of_type t) env h (λ x. u.visit v (Some (s.array_of x)) k)
      (λ x i. q.visited sets v (Some (s.array_of x)) k (w.array_of sets x i) goes)
  layer (Code-F.If v arms last) env h k goes =
      w.chosen sets env h (map (run_arm out call) (map (λ x. x.0) arms)) (all_such (w.IsWellArm sets) (run_arm out call) arms) (run out call last.0) last.1 (λ t x. u.visit v (Some x) k)
      (λ t x i. q.visited sets v (Some x) k i goes)
  layer (Code-F.Let v es a) env h k goes =
      w.bound sets (map (run out call) (map (λ x. x.0) es)) (all_such (w.Well sets) (run out call) es) env h (λ inner. run out call a.0 inner (λ t x. u.visit v (Some x) k))
      (λ inner i. a.1 inner i (λ t x. u.visit v (Some x) k) (λ t x j. q.visited sets v (Some x) k j.fit goes))
  layer (Code-F.Convert t a) env h k goes =
      a.1 env h (λ v x. u.shallow v (conversion_nesting t x) (k v (convert t x)))
      (λ v x i. q.shallowly sets v (conversion_nesting t x) (k v (convert t x))
      (λ d. goes v (convert t x) (record { fit = e.convert sets t x i.fit; nesting = q.conversion_nests t x i.nesting d })))

  node0 : (y : Node Code-F) → P0 (roll-Code (bare0 P0 P1 P2 P3 P4 P5 P6 y))
  node0 y =
      subst (IsWellPlaced sets) (sym (fold-roll-Code _ _ _ _ _ _ _ (run_step out call) arm_step generator_step generators_step link_step row_step subscript_step (bare0 P0 P1 P2 P3 P4 P5 P6 y))) (layer y)

  node1 : (y : Node Arm-F) → P1 (roll-Arm (bare1 P0 P1 P2 P3 P4 P5 P6 y))
  node1 y =
      subst (w.IsWellArm sets) (sym (fold-roll-Arm _ _ _ _ _ _ _ (run_step out call) arm_step generator_step generators_step link_step row_step subscript_step (bare1 P0 P1 P2 P3 P4 P5 P6 y)))
      (y.condition.1, y.branch.1)

  node2 : (y : Node Generator-F) → P2 (roll-Generator (bare2 P0 P1 P2 P3 P4 P5 P6 y))
  node2 y =
      subst (w.IsWellGenerator sets) (sym (fold-roll-Generator _ _ _ _ _ _ _ (run_step out call) arm_step generator_step generators_step link_step row_step subscript_step (bare2 P0 P1 P2 P3 P4 P5 P6 y))) y.set.1

  if_any : (x : Option (Such Code P0)) → w.IsWellIfAny sets (option_map (run out call) (option_map (λ v. v.0) x))
  if_any None = tt
  if_any (Some x) = x.1

  generators3 : (list : List (Such Generator P2)) (condition : Option (Such Code P0)) → P3 (roll-Generators (bare3 P0 P1 P2 P3 P4 P5 P6 (record { list = list; condition = condition })))
  generators3 list None =
      subst (w.AreWellGenerators sets) (sym (fold-roll-Generators _ _ _ _ _ _ _ (run_step out call) arm_step generator_step generators_step link_step row_step subscript_step (bare3 P0 P1 P2 P3 P4 P5 P6 (record { list = list; condition = None }))))
      (all_such (w.IsWellGenerator sets) (run_generator out call) list, tt)
  generators3 list (Some x) =
      subst (w.AreWellGenerators sets) (sym (fold-roll-Generators _ _ _ _ _ _ _ (run_step out call) arm_step generator_step generators_step link_step row_step subscript_step (bare3 P0 P1 P2 P3 P4 P5 P6 (record { list = list; condition = Some x }))))
      (all_such (w.IsWellGenerator sets) (run_generator out call) list, x.1)

  node3 : (y : Node Generators-F) → P3 (roll-Generators (bare3 P0 P1 P2 P3 P4 P5 P6 y))
  node3 y = generators3 y.list y.condition

  node4 : (y : Node Link-F) → P4 (roll-Link (bare4 P0 P1 P2 P3 P4 P5 P6 y))
  node4 y = subst (w.IsWellLink sets) (sym (fold-roll-Link _ _ _ _ _ _ _ (run_step out call) arm_step generator_step generators_step link_step row_step subscript_step (bare4 P0 P1 P2 P3 P4 P5 P6 y))) y.operand.1

  node5 : (y : Node Row-F) → P5 (roll-Row (bare5 P0 P1 P2 P3 P4 P5 P6 y))
  node5 y =
      subst (w.AreWell sets) (sym (fold-roll-Row _ _ _ _ _ _ _ (run_step out call) arm_step generator_step generators_step link_step row_step subscript_step (bare5 P0 P1 P2 P3 P4 P5 P6 y)))
      (all_such (w.Well sets) (run out call) y.elements)

  subscript6 : (first : Such Code P0) (second : Option (Such Code P0)) → P6 (roll-Subscript (bare6 P0 P1 P2 P3 P4 P5 P6 (record { first = first; second = second })))
  subscript6 first None =
      subst (w.IsWellSubscript sets) (sym (fold-roll-Subscript _ _ _ _ _ _ _ (run_step out call) arm_step generator_step generators_step link_step row_step subscript_step (bare6 P0 P1 P2 P3 P4 P5 P6 (record { first = first; second = None }))))
      (first.1, tt)
  subscript6 first (Some x) =
      subst (w.IsWellSubscript sets) (sym (fold-roll-Subscript _ _ _ _ _ _ _ (run_step out call) arm_step generator_step generators_step link_step row_step subscript_step (bare6 P0 P1 P2 P3 P4 P5 P6 (record { first = first; second = Some x }))))
      (first.1, x.1)

  node6 : (y : Node Subscript-F) → P6 (roll-Subscript (bare6 P0 P1 P2 P3 P4 P5 P6 y))
  node6 y = subscript6 y.first y.second

  placed_well : (x : Code) → P0 x
  placed_well = induct P0 P1 P2 P3 P4 P5 P6 node0 node1 node2 node3 node4 node5 node6

pub placing_goes_well : PlacingGoesWell
placing_goes_well sets out fits call calls x = placed_well sets out fits call calls x

-- ---- calls

reversed : (sets : List Span) (xs : List Operand) → AreAllFit sets xs → AreAllFit sets (reverse xs)
reversed sets [] h = tt
reversed sets (x ∷ xs) h = subst (AreAllFit sets) (sym (reverse_onto xs x [])) (l.one_more (IsFit sets) (reverse xs) x (reversed sets xs h.1) h.0)

module _ (sets : List Span) (out : Outside) (fits : AreFitValues sets out) where
  abbrev IsWellOpened : Opener → Type 0
  IsWellOpened open_body = (v : Place) (body : Code) (xs : Names) → AreAllFit sets xs → (k : Rest) → GoesOnWell sets k → StepsWell sets (open_body v body xs k)

  built_in : (v : Place) (b : BuiltIn) (xs : List Operand) → AreAllFit sets xs → (k : Rest) → GoesOnWell sets k → StepsWell sets (s.built_in out v b xs k)
  built_in v b xs h k goes =
      q.ticked sets v (λ n ws. u.settle v (call_built_in out.point (out.word_of ws) b xs) k n (s.words_after out (draws b xs) ws))
      (λ n ws. q.settled sets v (call_built_in out.point (out.word_of ws) b xs) k (f.call sets out.point (out.word_of ws) b xs h) goes n (s.words_after out (draws b xs) ws))

  module _ (open_body : Opener) (opens : IsWellOpened open_body) where
    opened : (v : Place) (body : Option Code) (xs : Names) → AreAllFit sets xs → (k : Rest) → GoesOnWell sets k → StepsWell sets (s.opened open_body v body xs k)
    opened v None xs h k goes = q.visited sets v (Some nothing) k tt goes
    opened v (Some body) xs h k goes = opens v body xs h k goes

    called : IsWellCalled sets (caller out open_body)
    called v (r.Local n) xs h k goes = q.visited sets v (Some nothing) k tt goes
    called v (r.Model n) xs h k goes = opened v (out.body (r.Model n)) xs h k goes
    called v (r.Library n) xs h k goes = opened v (out.body (r.Library n)) xs h k goes
    called v (r.BuiltIn b) xs h k goes = built_in v b (reverse xs) (reversed sets xs h) k goes

  bodies : (d : ℕ) → IsWellOpened (opener out d)
  unfolding opener
  bodies zero v body xs h k goes = λ n ws. tt
  bodies (suc d) v body xs h k goes =
      placed_well sets out fits (caller out (opener out d)) (called (opener out d) (bodies d)) body xs h (λ t x. u.visit v (Some x) k) (λ t x i. q.visited sets v (Some x) k i.fit goes)

pub calling_goes_well : CallingGoesWell
calling_goes_well sets out fits d = called sets out fits (opener out d) (bodies sets out fits d)

-- ---- the whole

ends : (sets : List Span) → GoesOnWell sets ok
ends sets v x h n ws = h

pub placed_may_be_asked : PlacedMayBeAsked
placed_may_be_asked sets out fits env around x n ws v y k vs is =
    subst (EndsWell sets) is (placing_goes_well sets out fits (caller out (opener out CALL_NESTING_LIMIT)) (calling_goes_well sets out fits CALL_NESTING_LIMIT) x env around ok (ends sets) n ws)

pub integers_nest : PlacedIntegersNest
integers_nest sets x h = (h.fit, limits.nests sets x h.fit.kept h.nesting)

pub conditions_nest : PlacedConditionsNest
conditions_nest sets x h = (h.fit, limits.nests sets x h.fit.kept h.nesting)
