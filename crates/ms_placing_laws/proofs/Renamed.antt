-- Placing a tree under names is placing what it becomes under other names.
use Rattle.std.proofs.Common.{◌≡◌, ℕ, zero, suc, ℤ, Bool, true, false, List, [], ◌∷◌, ◌++◌, Option, Some, None, map, refl, sym, ap, ◌∙◌, subst}
use Rattle.std.specs.Prelude.{◌&&◌, if◌then◌else◌, length}
use Rattle.ms_syntax.specs.declared.token.Place.{Place}
use Rattle.ms_num.specs.Span.{Span}
use Rattle.ms_code.specs.declared.code.Condition.{Condition}
use Rattle.ms_code.specs.declared.code.Condition.TheVariants as c
use Rattle.ms_code.specs.declared.code.Code.{Code, fold-Code, fold-roll-Code, map-Code, roll-Code}
use Rattle.ms_code.specs.declared.code.Arm.{Arm, fold-Arm, fold-roll-Arm, roll-Arm, Arm-F}
use Rattle.ms_code.specs.declared.code.Generator.{Generator, fold-Generator, fold-roll-Generator, roll-Generator, Generator-F}
use Rattle.ms_code.specs.declared.code.Generators.{Generators, fold-Generators, fold-roll-Generators, roll-Generators, Generators-F}
use Rattle.ms_code.specs.declared.code.Link.{Link, fold-Link, fold-roll-Link, roll-Link, Link-F}
use Rattle.ms_code.specs.declared.code.Row.{Row, fold-Row, fold-roll-Row, roll-Row, Row-F}
use Rattle.ms_code.specs.declared.code.Subscript.{Subscript, fold-Subscript, fold-roll-Subscript, roll-Subscript, Subscript-F}
use Rattle.ms_code.specs.declared.code.Code.TheOpen.{Code-F}
use Rattle.ms_tree_nodes.specs.Nodes.{all, some}
use Rattle.ms_values.specs.Numbers.{numbers_of as numbers_in}
use Rattle.ms_values.specs.declared.operand.Placed.{Placed}
use Rattle.ms_values.specs.declared.operand.Kind.{Kind}
use Rattle.ms_values.specs.declared.operand.Cells.{Cells}
use Rattle.ms_values.specs.declared.operand.Cells.TheVariants as cells
use Rattle.ms_values.specs.declared.operand.Operand.{Operand}
use Rattle.ms_values.specs.declared.operand.Operand.TheVariants as o
use Rattle.ms_rules.specs.Operands.{set_of, truth_of}
use Rattle.ms_rules.specs.Cells.{empty, grown, line_from_one, numbers_of}
use Rattle.ms_rules.specs.Sets.{ranges_of}
use Rattle.ms_rules.specs.Operators.{Operands, both_true, choice, either_true, join, over_operands, signed, with_operand}
use Rattle.ms_rules.specs.Access.{access}
use Rattle.ms_rules.specs.Conversions.{conversion_nesting, convert, kind_of_type}
use Rattle.ms_placing.specs.Outside.{Outside}
use Rattle.ms_placing.specs.Steps as s
use Rattle.ms_placing.specs.Steps.{Rest, Step}
use Rattle.ms_placing.specs.Placing as p
use Rattle.ms_placing.specs.Placing.{Caller, Made, Names, array_of, gained, grid_from_one, grouping_by, named, no_operands, numbered, run_step, arm_step, generator_step, generators_step, link_step, row_step, subscript_step}
use Rattle.ms_placing.specs.declared.grouping.Grouping.{Grouping}
use Rattle.ms_placing.specs.declared.grouping.Grouping.TheVariants as g
use Rattle.ms_placing_laws.specs.Renaming as n
use Rattle.ms_placing_laws.specs.Renaming.{Renaming, all_under, behind_all, deeper, generators_under, locals_under}
use Rattle.ms_placing_laws.specs.Laws.{Becomes, NamesBecome}
use Rattle.ms_placing_laws.proofs.Fusion.{Such, Parts, bare0, bare1, bare2, bare3, bare4, bare5, bare6, induct}

subst2 : {A B : Type 0} (P : A → B → Type 0) {a a' : A} {b b' : B} → a ≡ a' → b ≡ b' → P a b → P a' b'
subst2 {A = A} {B = B} P p q h = subst (λ (z : A × B). P z.0 z.1) (λ i. (p i, q i)) h

module _ (f : Renaming) (out out' : Outside) (call : Caller) (env env' : Names) (becomes : Becomes f out out' env env') where
  -- ---- the parts, as they are and as they become
  abbrev r0 : Code → p.Part
  r0 = fold-Code _ _ _ _ _ _ _ (run_step out call) arm_step generator_step generators_step link_step row_step subscript_step

  abbrev s0 : Code → p.Part
  s0 = fold-Code _ _ _ _ _ _ _ (run_step out' call) arm_step generator_step generators_step link_step row_step subscript_step

  abbrev n0 : Code → n.Under Code
  n0 = fold-Code _ _ _ _ _ _ _ (n.renamed_step f) n.arm_step n.generator_step n.generators_step n.link_step n.row_step n.subscript_step

  abbrev r1 : Arm → p.ArmPart
  r1 = fold-Arm _ _ _ _ _ _ _ (run_step out call) arm_step generator_step generators_step link_step row_step subscript_step

  abbrev s1 : Arm → p.ArmPart
  s1 = fold-Arm _ _ _ _ _ _ _ (run_step out' call) arm_step generator_step generators_step link_step row_step subscript_step

  abbrev n1 : Arm → n.Under Arm
  n1 = fold-Arm _ _ _ _ _ _ _ (n.renamed_step f) n.arm_step n.generator_step n.generators_step n.link_step n.row_step n.subscript_step

  abbrev r2 : Generator → p.GeneratorPart
  r2 = fold-Generator _ _ _ _ _ _ _ (run_step out call) arm_step generator_step generators_step link_step row_step subscript_step

  abbrev s2 : Generator → p.GeneratorPart
  s2 = fold-Generator _ _ _ _ _ _ _ (run_step out' call) arm_step generator_step generators_step link_step row_step subscript_step

  abbrev n2 : Generator → n.GeneratorUnder
  n2 = fold-Generator _ _ _ _ _ _ _ (n.renamed_step f) n.arm_step n.generator_step n.generators_step n.link_step n.row_step n.subscript_step

  abbrev r3 : Generators → p.GeneratorsPart
  r3 = fold-Generators _ _ _ _ _ _ _ (run_step out call) arm_step generator_step generators_step link_step row_step subscript_step

  abbrev s3 : Generators → p.GeneratorsPart
  s3 = fold-Generators _ _ _ _ _ _ _ (run_step out' call) arm_step generator_step generators_step link_step row_step subscript_step

  abbrev n3 : Generators → n.GeneratorsUnder
  n3 = fold-Generators _ _ _ _ _ _ _ (n.renamed_step f) n.arm_step n.generator_step n.generators_step n.link_step n.row_step n.subscript_step

  abbrev r4 : Link → p.LinkPart
  r4 = fold-Link _ _ _ _ _ _ _ (run_step out call) arm_step generator_step generators_step link_step row_step subscript_step

  abbrev s4 : Link → p.LinkPart
  s4 = fold-Link _ _ _ _ _ _ _ (run_step out' call) arm_step generator_step generators_step link_step row_step subscript_step

  abbrev n4 : Link → n.Under Link
  n4 = fold-Link _ _ _ _ _ _ _ (n.renamed_step f) n.arm_step n.generator_step n.generators_step n.link_step n.row_step n.subscript_step

  abbrev r5 : Row → List p.Part
  r5 = fold-Row _ _ _ _ _ _ _ (run_step out call) arm_step generator_step generators_step link_step row_step subscript_step

  abbrev s5 : Row → List p.Part
  s5 = fold-Row _ _ _ _ _ _ _ (run_step out' call) arm_step generator_step generators_step link_step row_step subscript_step

  abbrev n5 : Row → n.Under Row
  n5 = fold-Row _ _ _ _ _ _ _ (n.renamed_step f) n.arm_step n.generator_step n.generators_step n.link_step n.row_step n.subscript_step

  abbrev r6 : Subscript → p.SubscriptPart
  r6 = fold-Subscript _ _ _ _ _ _ _ (run_step out call) arm_step generator_step generators_step link_step row_step subscript_step

  abbrev s6 : Subscript → p.SubscriptPart
  s6 = fold-Subscript _ _ _ _ _ _ _ (run_step out' call) arm_step generator_step generators_step link_step row_step subscript_step

  abbrev n6 : Subscript → n.Under Subscript
  n6 = fold-Subscript _ _ _ _ _ _ _ (n.renamed_step f) n.arm_step n.generator_step n.generators_step n.link_step n.row_step n.subscript_step

  -- ---- what holds of them

  abbrev Alike : p.Part → (ℕ → p.Part) → Type 0
  Alike a b = (before : Names) (k : Rest) → a (before ++ env) k ≡ b (length before) (before ++ env') k

  abbrev MakersAlike : p.Maker → (ℕ → p.Maker) → Type 0
  MakersAlike a b = (before : Names) (m : Made) (k : Made → Step) → a (before ++ env) m k ≡ b (length before) (before ++ env') m k

  record ArmAlike (a : p.ArmPart) (b : ℕ → p.ArmPart) : Type 0 where
    kind : (depth : ℕ) → a.kind ≡ (b depth).kind
    condition : Alike a.condition (λ depth. (b depth).condition)
    branch : Alike a.branch (λ depth. (b depth).branch)

  record GeneratorAlike (a : p.GeneratorPart) (u : n.GeneratorUnder) : Type 0 where
    place : (depth : ℕ) → a.place ≡ (s2 (u.under depth)).place
    names : a.names ≡ u.names
    same : (depth : ℕ) → u.names ≡ (s2 (u.under depth)).names
    set : Alike a.set (λ depth. (s2 (u.under depth)).set)

  record GeneratorsAlike (a : p.GeneratorsPart) (u : n.GeneratorsUnder) : Type 0 where
    made : (body : p.Part) (body' : ℕ → p.Part) → Alike body body' → (kind : Kind) (before : Names) (k : Made → Step)
        → p.generated a body kind (before ++ env) k ≡ p.generated (s3 (u.under (length before))) (body' (u.behind (length before))) kind (before ++ env') k

  record LinkAlike (a : p.LinkPart) (b : ℕ → p.LinkPart) : Type 0 where
    operator : (depth : ℕ) → a.operator ≡ (b depth).operator
    place : (depth : ℕ) → a.place ≡ (b depth).place
    operand : Alike a.operand (λ depth. (b depth).operand)

  record RowAlike (a : List p.Part) (b : ℕ → List p.Part) : Type 0 where
    filled : (before : Names) (cs : Cells) (k : Cells → Step) → p.filled a (before ++ env) cs k ≡ p.filled (b (length before)) (before ++ env') cs k
    width : (depth : ℕ) → length a ≡ length (b depth)

  record SubscriptAlike (a : p.SubscriptPart) (b : ℕ → p.SubscriptPart) : Type 0 where
    first : Alike a.first (λ depth. (b depth).first)
    second : (q : Place) (x y : Operand) (before : Names) (k : Rest) → p.accessed_by a.second q (before ++ env) x y k ≡ p.accessed_by (b (length before)).second q (before ++ env') x y k

  abbrev Q0 : Code → Type 0
  Q0 e = Alike (r0 e) (λ depth. s0 (n0 e depth))

  abbrev Q1 : Arm → Type 0
  Q1 a = ArmAlike (r1 a) (λ depth. s1 (n1 a depth))

  abbrev Q2 : Generator → Type 0
  Q2 q = GeneratorAlike (r2 q) (n2 q)

  abbrev Q3 : Generators → Type 0
  Q3 qs = GeneratorsAlike (r3 qs) (n3 qs)

  abbrev Q4 : Link → Type 0
  Q4 l = LinkAlike (r4 l) (λ depth. s4 (n4 l depth))

  abbrev Q5 : Row → Type 0
  Q5 row = RowAlike (r5 row) (λ depth. s5 (n5 row depth))

  abbrev Q6 : Subscript → Type 0
  Q6 x = SubscriptAlike (r6 x) (λ depth. s6 (n6 x depth))

  -- ---- lists of parts, as they are and as they become

  abbrev rs0 : List (Such Code Q0) → List p.Part
  rs0 xs = map r0 (map (λ e. e.0) xs)

  abbrev ss0 : ℕ → List (Such Code Q0) → List p.Part
  ss0 depth xs = map s0 (all_under depth (map n0 (map (λ e. e.0) xs)))

  abbrev rs1 : List (Such Arm Q1) → List p.ArmPart
  rs1 xs = map r1 (map (λ e. e.0) xs)

  abbrev ss1 : ℕ → List (Such Arm Q1) → List p.ArmPart
  ss1 depth xs = map s1 (all_under depth (map n1 (map (λ e. e.0) xs)))

  abbrev rs2 : List (Such Generator Q2) → List p.GeneratorPart
  rs2 xs = map r2 (map (λ e. e.0) xs)

  abbrev rs4 : List (Such Link Q4) → List p.LinkPart
  rs4 xs = map r4 (map (λ e. e.0) xs)

  abbrev ss4 : ℕ → List (Such Link Q4) → List p.LinkPart
  ss4 depth xs = map s4 (all_under depth (map n4 (map (λ e. e.0) xs)))

  abbrev rs5 : List (Such Row Q5) → List (List p.Part)
  rs5 xs = map r5 (map (λ e. e.0) xs)

  abbrev ss5 : ℕ → List (Such Row Q5) → List (List p.Part)
  ss5 depth xs = map s5 (all_under depth (map n5 (map (λ e. e.0) xs)))

  abbrev rs6 : List (Such Subscript Q6) → List p.SubscriptPart
  rs6 xs = map r6 (map (λ e. e.0) xs)

  abbrev ss6 : ℕ → List (Such Subscript Q6) → List p.SubscriptPart
  ss6 depth xs = map s6 (all_under depth (map n6 (map (λ e. e.0) xs)))

  gathered_alike : (es : List (Such Code Q0)) (before : Names) (xs : List Operand) (k : List Operand → Step)
      → p.gathered (rs0 es) (before ++ env) xs k ≡ p.gathered (ss0 (length before) es) (before ++ env') xs k
  gathered_alike [] before xs k = refl
  gathered_alike (e ∷ es) before xs k =
      e.1 before (λ q x. p.gathered (rs0 es) (before ++ env) (x ∷ xs) k) ∙ (λ i. s0 (n0 e.0 (length before)) (before ++ env') (λ q x. gathered_alike es before (x ∷ xs) k i))

  filled_alike : (es : List (Such Code Q0)) (before : Names) (cs : Cells) (k : Cells → Step)
      → p.filled (rs0 es) (before ++ env) cs k ≡ p.filled (ss0 (length before) es) (before ++ env') cs k
  filled_alike [] before cs k = refl
  filled_alike (e ∷ es) before cs k =
      e.1 before (λ q x. p.filled (rs0 es) (before ++ env) (grown cs x) k) ∙ (λ i. s0 (n0 e.0 (length before)) (before ++ env') (λ q x. filled_alike es before (grown cs x) k i))

  widths_alike : (es : List (Such Code Q0)) (depth : ℕ) → length (rs0 es) ≡ length (ss0 depth es)
  widths_alike [] depth = refl
  widths_alike (e ∷ es) depth = ap suc (widths_alike es depth)

  rows_alike : (rows : List (Such Row Q5)) (before : Names) (cs : Cells) (k : Cells → Step)
      → p.filled_rows (rs5 rows) (before ++ env) cs k ≡ p.filled_rows (ss5 (length before) rows) (before ++ env') cs k
  rows_alike [] before cs k = refl
  rows_alike (row ∷ rows) before cs k =
      row.1.filled before cs (λ more. p.filled_rows (rs5 rows) (before ++ env) more k) ∙ (λ i. p.filled (s5 (n5 row.0 (length before))) (before ++ env') cs (λ more. rows_alike rows before more k i))

  heights_alike : (rows : List (Such Row Q5)) (depth : ℕ) → length (rs5 rows) ≡ length (ss5 depth rows)
  heights_alike [] depth = refl
  heights_alike (row ∷ rows) depth = ap suc (heights_alike rows depth)

  width_alike : (rows : List (Such Row Q5)) (depth : ℕ) → p.width_of (rs5 rows) ≡ p.width_of (ss5 depth rows)
  width_alike [] depth = refl
  width_alike (row ∷ rows) depth = row.1.width depth

  bound_alike : (es : List (Such Code Q0)) (before : Names) (k : Names → Step) (k' : ℕ → Names → Step) → ((more : Names) → k (more ++ env) ≡ k' (length more) (more ++ env'))
      → p.bound (rs0 es) (before ++ env) k
      ≡ p.bound (map s0 (locals_under (length before) (map n0 (map (λ e. e.0) es)))) (before ++ env') (k' (deeper (length (map n0 (map (λ e. e.0) es))) (length before)))
  bound_alike [] before k k' e = e before
  bound_alike (a ∷ es) before k k' e =
      a.1 before (λ q x. p.bound (rs0 es) (x ∷ (before ++ env)) k) ∙ (λ i. s0 (n0 a.0 (length before)) (before ++ env') (λ q x. bound_alike es (x ∷ before) k k' e i))

  -- ---- chains

  ors_alike : (ls : List (Such Link Q4)) (depth : ℕ) → p.are_or (rs4 ls) ≡ p.are_or (ss4 depth ls)
  ors_alike [] depth = refl
  ors_alike (l ∷ ls) depth = λ i.
      p.is_or (record { operator = l.1.operator depth i; place = (s4 (n4 l.0 depth)).place; operand = (s4 (n4 l.0 depth)).operand }) && ors_alike ls depth i

  grouping_alike : (ls : List (Such Link Q4)) (depth : ℕ) → p.grouping (rs4 ls) ≡ p.grouping (ss4 depth ls)
  grouping_alike [] depth = refl
  grouping_alike (l ∷ ls) depth = λ i. grouping_by (l.1.operator depth i) (ors_alike ls depth i)

  paired_alike : (ls : List (Such Link Q4)) (before : Names) (q : Place) (x : Operand) (k : Rest)
      → p.paired (rs4 ls) (before ++ env) q x k ≡ p.paired (ss4 (length before) ls) (before ++ env') q x k
  paired_alike [] before q x k = refl
  paired_alike (l ∷ ls) before q x k =
      l.1.operand before (λ u y. s.visit (r4 l.0).place (join (r4 l.0).operator x y) (λ w z. p.paired (rs4 ls) (before ++ env) w z k))
      ∙ (λ i. (s4 (n4 l.0 (length before))).operand (before ++ env')
      (λ u y. s.visit (l.1.place (length before) i) (join (l.1.operator (length before) i) x y) (λ w z. paired_alike ls before w z k i)))

  connected_alike : (op : Bool → Bool → Bool) (node : List Placed → Placed) (ls : List (Such Link Q4)) (before : Names) (q : Place) (xs : Operands) (k : Rest)
      → p.connected op node (rs4 ls) (before ++ env) q xs k ≡ p.connected op node (ss4 (length before) ls) (before ++ env') q xs k
  connected_alike op node [] before q xs k = refl
  connected_alike op node (l ∷ ls) before q xs k =
      l.1.operand before (λ u y. s.visit (r4 l.0).place (Some (over_operands node (with_operand op xs y))) (λ w z. p.connected op node (rs4 ls) (before ++ env) w (with_operand op xs y) k))
      ∙ (λ i. (s4 (n4 l.0 (length before))).operand (before ++ env')
      (λ u y. s.visit (l.1.place (length before) i) (Some (over_operands node (with_operand op xs y))) (λ w z. connected_alike op node ls before w (with_operand op xs y) k i)))

  concatenated_alike : (ls : List (Such Link Q4)) (before : Names) (left : List (Place × Operand)) (q : Place) (x : Operand) (k : Rest)
      → p.concatenated (rs4 ls) (before ++ env) left q x k ≡ p.concatenated (ss4 (length before) ls) (before ++ env') left q x k
  concatenated_alike [] before left q x k = refl
  concatenated_alike (l ∷ ls) before left q x k =
      l.1.operand before (λ u y. p.concatenated (rs4 ls) (before ++ env) (((r4 l.0).place, x) ∷ left) u y k)
      ∙ (λ i. (s4 (n4 l.0 (length before))).operand (before ++ env') (λ u y. p.concatenated (rs4 ls) (before ++ env) ((l.1.place (length before) i, x) ∷ left) u y k))
      ∙ (λ i. (s4 (n4 l.0 (length before))).operand (before ++ env') (λ u y. concatenated_alike ls before (((s4 (n4 l.0 (length before))).place, x) ∷ left) u y k i))

  linked_alike : (way : Grouping) (ls : List (Such Link Q4)) (before : Names) (q : Place) (x : Operand) (k : Rest)
      → p.linked way (rs4 ls) (before ++ env) q x k ≡ p.linked way (ss4 (length before) ls) (before ++ env') q x k
  linked_alike g.Left ls before q x k = paired_alike ls before q x k
  linked_alike g.Right ls before q x k = concatenated_alike ls before [] q x k
  linked_alike g.Conjunction ls before q x k = connected_alike both_true all ls before q (with_operand both_true (no_operands true) x) k
  linked_alike g.Disjunction ls before q x k = connected_alike either_true some ls before q (with_operand either_true (no_operands false) x) k

  chain_alike : (ls : List (Such Link Q4)) (before : Names) (q : Place) (x : Operand) (k : Rest)
      → p.linked (p.grouping (rs4 ls)) (rs4 ls) (before ++ env) q x k ≡ p.linked (p.grouping (ss4 (length before) ls)) (ss4 (length before) ls) (before ++ env') q x k
  chain_alike ls before q x k =
      (λ i. p.linked (grouping_alike ls (length before) i) (rs4 ls) (before ++ env) q x k) ∙ linked_alike (p.grouping (ss4 (length before) ls)) ls before q x k

  -- ---- accesses

  accessed_alike : (xs : List (Such Subscript Q6)) (w : Place) (before : Names) (q : Place) (x : Operand) (k : Rest)
      → p.accessed (rs6 xs) w (before ++ env) q x k ≡ p.accessed (ss6 (length before) xs) w (before ++ env') q x k
  accessed_alike [] w before q x k = refl
  accessed_alike (a ∷ xs) w before q x k =
      a.1.first before (λ v y. p.accessed_by (r6 a.0).second w (before ++ env) x y (λ u z. p.accessed (rs6 xs) w (before ++ env) u z k))
      ∙ (λ i. (s6 (n6 a.0 (length before))).first (before ++ env') (λ v y. a.1.second w x y before (λ u z. p.accessed (rs6 xs) w (before ++ env) u z k) i))
      ∙ (λ i. (s6 (n6 a.0 (length before))).first (before ++ env')
      (λ v y. p.accessed_by (s6 (n6 a.0 (length before))).second w (before ++ env') x y (λ u z. accessed_alike xs w before u z k i)))

  -- ---- `if`

  either : (b : Bool) (m m' h h' : Step) → m ≡ h → m' ≡ h' → (if b then m else m') ≡ (if b then h else h')
  either true m m' h h' e e' = e
  either false m m' h h' e e' = e'

  choosing : (kind : Condition) (a b : p.Part) (before : Names) (t : Operand) (other other' : Rest → Step) → ((k : Rest) → a (before ++ env) k ≡ b (before ++ env') k) → ((k : Rest) → other k ≡ other' k) → (k : Rest)
      → p.chosen_by kind a (before ++ env) t other k ≡ p.chosen_by kind b (before ++ env') t other' k
  choosing c.Known a b before t other other' e e' k = either (truth_of t) (a (before ++ env) k) (other k) (b (before ++ env') k) (other' k) (e k) (e' k)
  choosing c.Variable a b before t other other' e e' k =
      e (λ q x. other (λ u y. k u (choice t x y))) ∙ (λ i. b (before ++ env') (λ q x. e' (λ u y. k u (choice t x y)) i))
  choosing c.Search a b before t other other' e e' k = either (truth_of t) (a (before ++ env) k) (other k) (b (before ++ env') k) (other' k) (e k) (e' k)

  chosen_alike : (arms : List (Such Arm Q1)) (last : Such Code Q0) (before : Names) (k : Rest)
      → p.chosen (rs1 arms) (r0 last.0) (before ++ env) k ≡ p.chosen (ss1 (length before) arms) (s0 (n0 last.0 (length before))) (before ++ env') k
  chosen_alike [] last before k = last.1 before k
  chosen_alike (a ∷ arms) last before k =
      a.1.condition before (λ q t. p.chosen_by (r1 a.0).kind (r1 a.0).branch (before ++ env) t (p.chosen (rs1 arms) (r0 last.0) (before ++ env)) k)
      ∙ (λ i. (s1 (n1 a.0 (length before))).condition (before ++ env')
      (λ q t. p.chosen_by (a.1.kind (length before) i) (r1 a.0).branch (before ++ env) t (p.chosen (rs1 arms) (r0 last.0) (before ++ env)) k))
      ∙ (λ i. (s1 (n1 a.0 (length before))).condition (before ++ env')
      (λ q t. choosing (s1 (n1 a.0 (length before))).kind (r1 a.0).branch (s1 (n1 a.0 (length before))).branch before t (p.chosen (rs1 arms) (r0 last.0) (before ++ env))
      (p.chosen (ss1 (length before) arms) (s0 (n0 last.0 (length before))) (before ++ env')) (a.1.branch before) (chosen_alike arms last before) k i))

  -- ---- generators

  turns_alike : (q : Place) (a : p.Maker) (b : ℕ → p.Maker) → MakersAlike a b → (zs : List ℤ) → MakersAlike (p.turns q a zs) (λ depth. p.turns q (b (suc depth)) zs)
  turns_alike q a b e [] before m k = refl
  turns_alike q a b e (z ∷ zs) before m k =
      ap (s.tick q)
      (e (numbered z before) m (λ more. p.turns q a zs (before ++ env) more k)
      ∙ (λ i. b (suc (length before)) (numbered z (before ++ env')) m (λ more. turns_alike q a b e zs before more k i)))

  through_alike : (q : Place) (n : ℕ) (zs : List ℤ) (a : p.Maker) (b : ℕ → p.Maker) → MakersAlike a b → MakersAlike (p.through q n zs a) (λ depth. p.through q n zs (b (deeper n depth)))
  through_alike q zero zs a b e before m k = e before m k
  through_alike q (suc n) zs a b e before m k = turns_alike q (p.through q n zs a) (λ depth. p.through q n zs (b (deeper n depth))) (through_alike q n zs a b e) zs before m k

  set_alike : (q : Place) (n : ℕ) (rs : Option (List Span)) (a : p.Maker) (b : ℕ → p.Maker) → MakersAlike a b → MakersAlike (p.through_set q n rs a) (λ depth. p.through_set q n rs (b (deeper n depth)))
  set_alike q n None a b e before m k = refl
  set_alike q n (Some rs) a b e before m k = through_alike q n (numbers_in rs) a b e before m k

  abbrev ns : List (Such Generator Q2) → List n.GeneratorUnder
  ns qs = map n2 (map (λ e. e.0) qs)

  nested_alike : (qs : List (Such Generator Q2)) (a : p.Maker) (b : ℕ → p.Maker) → MakersAlike a b
      → MakersAlike (p.nested (rs2 qs) a) (λ depth. p.nested (map s2 (generators_under depth (ns qs))) (b (behind_all (ns qs) depth)))
  nested_alike [] a b e before m k = e before m k
  nested_alike (q ∷ qs) a b e before m k =
      q.1.set before (λ u x. p.through_set (r2 q.0).place (r2 q.0).names (set_of x) (p.nested (rs2 qs) a) (before ++ env) m k)
      ∙ (λ i. (s2 ((n2 q.0).under (length before))).set (before ++ env')
      (λ u x. p.through_set (q.1.place (length before) i) (q.1.names i) (set_of x) (p.nested (rs2 qs) a) (before ++ env) m k))
      ∙ (λ i. (s2 ((n2 q.0).under (length before))).set (before ++ env')
      (λ u x. set_alike (s2 ((n2 q.0).under (length before))).place (n2 q.0).names (set_of x) (p.nested (rs2 qs) a)
      (λ depth. p.nested (map s2 (generators_under depth (ns qs))) (b (behind_all (ns qs) depth))) (nested_alike qs a b e) before m k i))
      ∙ (λ i. (s2 ((n2 q.0).under (length before))).set (before ++ env')
      (λ u x. p.through_set (s2 ((n2 q.0).under (length before))).place (q.1.same (length before) i) (set_of x)
      (p.nested (map s2 (generators_under (deeper (n2 q.0).names (length before)) (ns qs))) (b (behind_all (ns qs) (deeper (n2 q.0).names (length before))))) (before ++ env') m k))

  added_alike : (body : p.Part) (body' : ℕ → p.Part) → Alike body body' → MakersAlike (p.tested None body) (λ depth. p.tested None (body' depth))
  added_alike body body' e before m k = e before (λ q x. k (gained m x))

  tested_alike : (t : Such Code Q0) (body : p.Part) (body' : ℕ → p.Part) → Alike body body' → MakersAlike (p.tested (Some (r0 t.0)) body) (λ depth. p.tested (Some (s0 (n0 t.0 depth))) (body' depth))
  tested_alike t body body' e before m k =
      t.1 before (λ q x. if truth_of x then body (before ++ env) (λ u y. k (gained m y)) else k m)
      ∙ (λ i. s0 (n0 t.0 (length before)) (before ++ env') (λ q x. if truth_of x then e before (λ u y. k (gained m y)) i else k m))

  -- ---- all forms

  abbrev as_is : Parts Q0 Q1 Q2 Q3 Q4 Q5 Q6 Code-F → p.Layer Code-F
  as_is y = map-Code _ _ _ _ _ _ _ _ _ _ _ _ _ _ r0 r1 r2 r3 r4 r5 r6 (bare0 Q0 Q1 Q2 Q3 Q4 Q5 Q6 y)

  abbrev as_it_becomes : Parts Q0 Q1 Q2 Q3 Q4 Q5 Q6 Code-F → ℕ → p.Layer Code-F
  as_it_becomes y depth = map-Code _ _ _ _ _ _ _ _ _ _ _ _ _ _ s0 s1 s2 s3 s4 s5 s6 (n.renamed_layer f (map-Code _ _ _ _ _ _ _ _ _ _ _ _ _ _ n0 n1 n2 n3 n4 n5 n6 (bare0 Q0 Q1 Q2 Q3 Q4 Q5 Q6 y)) depth)

  layer : (y : Parts Q0 Q1 Q2 Q3 Q4 Q5 Q6 Code-F) (before : Names) (k : Rest) → run_step out call (as_is y) (before ++ env) k ≡ run_step out' call (as_it_becomes y (length before)) (before ++ env') k
  unfolding run_step
  layer (Code-F.Number q n) before k = refl
  layer (Code-F.Truth q b) before k = refl
  layer (Code-F.Text q w) before k = refl
  layer (Code-F.Name q name) before k = λ i. s.visit q (Some (becomes before name i)) k
  layer (Code-F.Chain a ls) before k =
      a.1 before (λ q x. p.linked (p.grouping (rs4 ls)) (rs4 ls) (before ++ env) q x k) ∙ (λ i. s0 (n0 a.0 (length before)) (before ++ env') (λ q x. chain_alike ls before q x k i))
  layer (Code-F.Prefix q sign a) before k = a.1 before (λ u x. s.visit q (signed sign x) k)
  layer (Code-F.Parenthesis q a) before k = a.1 before (λ u x. s.visit q (Some x) k)
  layer (Code-F.Access q a xs) before k =
      a.1 before (λ u x. p.accessed (rs6 xs) q (before ++ env) u x k) ∙ (λ i. s0 (n0 a.0 (length before)) (before ++ env') (λ u x. accessed_alike xs q before u x k i))
  layer (Code-F.Call q name es) before k = gathered_alike es before [] (λ xs. call q name xs k)
  layer (Code-F.Gathered q t qs a) before k = qs.1.made (r0 a.0) (λ depth. s0 (n0 a.0 depth)) a.1 (kind_of_type t) before (λ m. s.settle q (Some (array_of m)) k)
  layer (Code-F.RepeatEach q qs a) before k = refl
  layer (Code-F.Array q t es) before k = filled_alike es before (empty (kind_of_type t)) (λ cs. s.visit q (Some (line_from_one cs)) k)
  layer (Code-F.Rows q t rows) before k =
      rows_alike rows before (empty (kind_of_type t)) (λ cs. s.visit q (Some (grid_from_one (length (rs5 rows)) (p.width_of (rs5 rows)) cs)) k)
      ∙ (λ i. p.filled_rows (ss5 (length before) rows) (before ++ env') (empty (kind_of_type t))
      (λ cs. s.visit q (Some (grid_from_one (heights_alike rows (length before) i) (width_alike rows (length before) i) cs)) k))
  layer (Code-F.Set q es) before k = filled_alike es before (cells.Numbers []) (λ cs. s.visit q (Some (o.Set (ranges_of (numbers_of cs)))) k)
  layer (Code-F.Comprehension q t qs a) before k = qs.1.made (r0 a.0) (λ depth. s0 (n0 a.0 depth)) a.1 (kind_of_type t) before (λ m. s.visit q (Some (array_of m)) k)
  layer (Code-F.If q arms last) before k = chosen_alike arms last before (λ u x. s.visit q (Some x) k)
  layer (Code-F.Let q es a) before k =
      bound_alike es before (λ inner. r0 a.0 inner (λ u x. s.visit q (Some x) k)) (λ depth inner. s0 (n0 a.0 depth) inner (λ u x. s.visit q (Some x) k)) (λ more. a.1 more (λ u x. s.visit q (Some x) k))
  layer (Code-F.Convert t a) before k = a.1 before (λ q x. s.shallow q (conversion_nesting t x) (k q (convert t x)))

  node0 : (y : Parts Q0 Q1 Q2 Q3 Q4 Q5 Q6 Code-F) → Q0 (roll-Code (bare0 Q0 Q1 Q2 Q3 Q4 Q5 Q6 y))
  node0 y before k =
      (λ i. fold-roll-Code _ _ _ _ _ _ _ (run_step out call) arm_step generator_step generators_step link_step row_step subscript_step (bare0 Q0 Q1 Q2 Q3 Q4 Q5 Q6 y) i (before ++ env) k)
      ∙ layer y before k
      ∙ sym (λ i. fold-roll-Code _ _ _ _ _ _ _ (run_step out' call) arm_step generator_step generators_step link_step row_step subscript_step (n.renamed_layer f (map-Code _ _ _ _ _ _ _ _ _ _ _ _ _ _ n0 n1 n2 n3 n4 n5 n6 (bare0 Q0 Q1 Q2 Q3 Q4 Q5 Q6 y)) (length before)) i (before ++ env') k)
      ∙ sym (λ i. s0 (fold-roll-Code _ _ _ _ _ _ _ (n.renamed_step f) n.arm_step n.generator_step n.generators_step n.link_step n.row_step n.subscript_step (bare0 Q0 Q1 Q2 Q3 Q4 Q5 Q6 y) i (length before)) (before ++ env') k)

  node1 : (y : Parts Q0 Q1 Q2 Q3 Q4 Q5 Q6 Arm-F) → Q1 (roll-Arm (bare1 Q0 Q1 Q2 Q3 Q4 Q5 Q6 y))
  node1 y = subst2 ArmAlike
      (sym (fold-roll-Arm _ _ _ _ _ _ _ (run_step out call) arm_step generator_step generators_step link_step row_step subscript_step (bare1 Q0 Q1 Q2 Q3 Q4 Q5 Q6 y)))
      (sym (λ i. λ depth. fold-roll-Arm _ _ _ _ _ _ _ (run_step out' call) arm_step generator_step generators_step link_step row_step subscript_step (record { kind = y.kind; condition = n0 y.condition.0 depth; branch = n0 y.branch.0 depth }) i) ∙ sym (λ i. λ depth. s1 (fold-roll-Arm _ _ _ _ _ _ _ (n.renamed_step f) n.arm_step n.generator_step n.generators_step n.link_step n.row_step n.subscript_step (bare1 Q0 Q1 Q2 Q3 Q4 Q5 Q6 y) i depth)))
      (record { kind = λ depth. refl; condition = y.condition.1; branch = y.branch.1 })

  node4 : (y : Parts Q0 Q1 Q2 Q3 Q4 Q5 Q6 Link-F) → Q4 (roll-Link (bare4 Q0 Q1 Q2 Q3 Q4 Q5 Q6 y))
  node4 y = subst2 LinkAlike
      (sym (fold-roll-Link _ _ _ _ _ _ _ (run_step out call) arm_step generator_step generators_step link_step row_step subscript_step (bare4 Q0 Q1 Q2 Q3 Q4 Q5 Q6 y)))
      (sym (λ i. λ depth. fold-roll-Link _ _ _ _ _ _ _ (run_step out' call) arm_step generator_step generators_step link_step row_step subscript_step (record { operator = y.operator; place = y.place; operand = n0 y.operand.0 depth }) i) ∙ sym (λ i. λ depth. s4 (fold-roll-Link _ _ _ _ _ _ _ (n.renamed_step f) n.arm_step n.generator_step n.generators_step n.link_step n.row_step n.subscript_step (bare4 Q0 Q1 Q2 Q3 Q4 Q5 Q6 y) i depth)))
      (record { operator = λ depth. refl; place = λ depth. refl; operand = y.operand.1 })

  node5 : (y : Parts Q0 Q1 Q2 Q3 Q4 Q5 Q6 Row-F) → Q5 (roll-Row (bare5 Q0 Q1 Q2 Q3 Q4 Q5 Q6 y))
  node5 y = subst2 RowAlike
      (sym (fold-roll-Row _ _ _ _ _ _ _ (run_step out call) arm_step generator_step generators_step link_step row_step subscript_step (bare5 Q0 Q1 Q2 Q3 Q4 Q5 Q6 y)))
      (sym (λ i. λ depth. fold-roll-Row _ _ _ _ _ _ _ (run_step out' call) arm_step generator_step generators_step link_step row_step subscript_step (record { elements = all_under depth (map n0 (map (λ e. e.0) y.elements)) }) i) ∙ sym (λ i. λ depth. s5 (fold-roll-Row _ _ _ _ _ _ _ (n.renamed_step f) n.arm_step n.generator_step n.generators_step n.link_step n.row_step n.subscript_step (bare5 Q0 Q1 Q2 Q3 Q4 Q5 Q6 y) i depth)))
      (record { filled = filled_alike y.elements; width = widths_alike y.elements })

  pair6 : (first : Such Code Q0) (second : Option (Such Code Q0)) → Q6 (roll-Subscript (bare6 Q0 Q1 Q2 Q3 Q4 Q5 Q6 (record { first = first; second = second })))
  pair6 first None = subst2 SubscriptAlike
      (sym (fold-roll-Subscript _ _ _ _ _ _ _ (run_step out call) arm_step generator_step generators_step link_step row_step subscript_step (record { first = first.0; second = None })))
      (sym (λ i. λ depth. fold-roll-Subscript _ _ _ _ _ _ _ (run_step out' call) arm_step generator_step generators_step link_step row_step subscript_step (record { first = n0 first.0 depth; second = None }) i)
      ∙ sym (λ i. λ depth. s6 (fold-roll-Subscript _ _ _ _ _ _ _ (n.renamed_step f) n.arm_step n.generator_step n.generators_step n.link_step n.row_step n.subscript_step (record { first = first.0; second = None }) i depth)))
      (record { first = first.1; second = λ q x y before k. refl })
  pair6 first (Some e) = subst2 SubscriptAlike
      (sym (fold-roll-Subscript _ _ _ _ _ _ _ (run_step out call) arm_step generator_step generators_step link_step row_step subscript_step (record { first = first.0; second = Some e.0 })))
      (sym (λ i. λ depth. fold-roll-Subscript _ _ _ _ _ _ _ (run_step out' call) arm_step generator_step generators_step link_step row_step subscript_step (record { first = n0 first.0 depth; second = Some (n0 e.0 depth) }) i)
      ∙ sym (λ i. λ depth. s6 (fold-roll-Subscript _ _ _ _ _ _ _ (n.renamed_step f) n.arm_step n.generator_step n.generators_step n.link_step n.row_step n.subscript_step (record { first = first.0; second = Some e.0 }) i depth)))
      (record { first = first.1; second = λ q x y before k. e.1 before (λ u z. s.visit q (access x y (Some z)) k) })

  node6 : (y : Parts Q0 Q1 Q2 Q3 Q4 Q5 Q6 Subscript-F) → Q6 (roll-Subscript (bare6 Q0 Q1 Q2 Q3 Q4 Q5 Q6 y))
  node6 y = pair6 y.first y.second

  node2 : (y : Parts Q0 Q1 Q2 Q3 Q4 Q5 Q6 Generator-F) → Q2 (roll-Generator (bare2 Q0 Q1 Q2 Q3 Q4 Q5 Q6 y))
  node2 y = subst2 GeneratorAlike
      (sym (fold-roll-Generator _ _ _ _ _ _ _ (run_step out call) arm_step generator_step generators_step link_step row_step subscript_step (bare2 Q0 Q1 Q2 Q3 Q4 Q5 Q6 y)))
      (sym (fold-roll-Generator _ _ _ _ _ _ _ (n.renamed_step f) n.arm_step n.generator_step n.generators_step n.link_step n.row_step n.subscript_step (bare2 Q0 Q1 Q2 Q3 Q4 Q5 Q6 y)))
      (record {
        place = λ depth. sym (λ i. (fold-roll-Generator _ _ _ _ _ _ _ (run_step out' call) arm_step generator_step generators_step link_step row_step subscript_step (record { place = y.place; names = y.names; set = n0 y.set.0 depth }) i).place);
        names = refl;
        same = λ depth. sym (λ i. (fold-roll-Generator _ _ _ _ _ _ _ (run_step out' call) arm_step generator_step generators_step link_step row_step subscript_step (record { place = y.place; names = y.names; set = n0 y.set.0 depth }) i).names);
        set = λ before k. y.set.1 before k ∙ sym (λ i. (fold-roll-Generator _ _ _ _ _ _ _ (run_step out' call) arm_step generator_step generators_step link_step row_step subscript_step (record { place = y.place; names = y.names; set = n0 y.set.0 (length before) }) i).set (before ++ env') k);
      })

  pair3 : (list : List (Such Generator Q2)) (condition : Option (Such Code Q0)) → Q3 (roll-Generators (bare3 Q0 Q1 Q2 Q3 Q4 Q5 Q6 (record { list = list; condition = condition })))
  pair3 list None = subst2 GeneratorsAlike
      (sym (fold-roll-Generators _ _ _ _ _ _ _ (run_step out call) arm_step generator_step generators_step link_step row_step subscript_step (record { list = map (λ e. e.0) list; condition = None })))
      (sym (fold-roll-Generators _ _ _ _ _ _ _ (n.renamed_step f) n.arm_step n.generator_step n.generators_step n.link_step n.row_step n.subscript_step (record { list = map (λ e. e.0) list; condition = None })))
      (record {
        made = λ body body' e kind before k.
            nested_alike list (p.tested (None) body) (λ depth. p.tested None (body' depth)) (added_alike body body' e) before (record { cells = empty kind; whole = true }) k
            ∙ sym (λ i. p.generated (fold-roll-Generators _ _ _ _ _ _ _ (run_step out' call) arm_step generator_step generators_step link_step row_step subscript_step (record { list = generators_under (length before) (ns list); condition = None }) i) (body' (behind_all (ns list) (length before))) kind (before ++ env') k);
      })
  pair3 list (Some t) = subst2 GeneratorsAlike
      (sym (fold-roll-Generators _ _ _ _ _ _ _ (run_step out call) arm_step generator_step generators_step link_step row_step subscript_step (record { list = map (λ e. e.0) list; condition = Some t.0 })))
      (sym (fold-roll-Generators _ _ _ _ _ _ _ (n.renamed_step f) n.arm_step n.generator_step n.generators_step n.link_step n.row_step n.subscript_step (record { list = map (λ e. e.0) list; condition = Some t.0 })))
      (record {
        made = λ body body' e kind before k.
            nested_alike list (p.tested (Some (r0 t.0)) body) (λ depth. p.tested (Some (s0 (n0 t.0 depth))) (body' depth)) (tested_alike t body body' e) before (record { cells = empty kind; whole = true }) k
            ∙ sym (λ i. p.generated (fold-roll-Generators _ _ _ _ _ _ _ (run_step out' call) arm_step generator_step generators_step link_step row_step subscript_step (record { list = generators_under (length before) (ns list); condition = Some (n0 t.0 (behind_all (ns list) (length before))) }) i) (body' (behind_all (ns list) (length before))) kind (before ++ env') k);
      })

  node3 : (y : Parts Q0 Q1 Q2 Q3 Q4 Q5 Q6 Generators-F) → Q3 (roll-Generators (bare3 Q0 Q1 Q2 Q3 Q4 Q5 Q6 y))
  node3 y = pair3 y.list y.condition

  pub placed_alike : (e : Code) → Q0 e
  placed_alike = induct Q0 Q1 Q2 Q3 Q4 Q5 Q6 node0 node1 node2 node3 node4 node5 node6

pub names_become : NamesBecome
names_become f out out' env env' becomes call e before k = placed_alike f out out' call env env' becomes e before k
